-- Each fact of a job has at most one proof, as its ghost fields ask; nothing here has to be believed.
use Rattle.std.specs.Prelude.{◌≡◌, ℕ, true}
use denote.Struct.Props.{props}
use Rattle.pixels.specs.declared.Map.{Map}
use Rattle.mixes.specs.declared.logical.Blend.{Blend}
use Rattle.places.specs.declared.Setup.{Setup}
use Rattle.position.specs.declared.Blends.{Blends}
use Rattle.runs.specs.declared.plans.Taken.{Taken}
use Rattle.runs.specs.declared.plans.Taken.TheVariants.{Own, Source, Pattern}
use Rattle.runs.specs.declared.plans.RowPlan.{RowPlan}
use Rattle.runs.specs.declared.plans.StrokePlan.{StrokePlan}
use Rattle.runs.specs.declared.plans.Plan.{Plan}
use Rattle.runs.specs.declared.plans.Plan.TheVariants.{Rows, Strokes, Singly}
use Rattle.runs.specs.Inner.{goes_back, has_strokes, RowsBy, left_edge, right_edge, top_edge, bottom_edge, RowPlanned, StrokePlanned, Planned, BlendOf, Blended}

Map-once : (m n : Map) → IsProp (m ≡ n)
Map-once m n p q =
    let base : IsProp (m.base ≡ n.base) = hlevel props in
    let width : IsProp (m.width ≡ n.width) = hlevel props in
    let height : IsProp (m.height ≡ n.height) = hlevel props in
    let format : IsProp (m.format ≡ n.format) = hlevel props in
    λ i j. record {
      base = base (λ k. (p k).base) (λ k. (q k).base) i j;
      width = width (λ k. (p k).width) (λ k. (q k).width) i j;
      height = height (λ k. (p k).height) (λ k. (q k).height) i j;
      format = format (λ k. (p k).format) (λ k. (q k).format) i j;
    }

RowsBy-once : (s : Setup) (t : Taken) → IsProp (RowsBy s t)
RowsBy-once s Own = hlevel props
RowsBy-once s Source = hlevel props
RowsBy-once s Pattern = hlevel props

RowPlanned-once : (s : Setup) (p : RowPlan) → IsProp (RowPlanned s p)
RowPlanned-once s p x y =
    let back : IsProp (p.back ≡ goes_back s.travel.course.x) = hlevel props in
    let left : IsProp (p.left ≡ left_edge s.brush) = hlevel props in
    let right : IsProp (p.right ≡ right_edge s.brush) = hlevel props in
    λ i. record {
      rows = RowsBy-once s p.takes x.rows y.rows i;
      map = Map-once _ _ x.map y.map i;
      back = back x.back y.back i;
      left = left x.left y.left i;
      right = right x.right y.right i;
    }

StrokePlanned-once : (s : Setup) (p : StrokePlan) → IsProp (StrokePlanned s p)
StrokePlanned-once s p x y =
    let strokes : IsProp (has_strokes s ≡ true) = hlevel props in
    let left : IsProp (p.left ≡ left_edge s.brush) = hlevel props in
    let right : IsProp (p.right ≡ right_edge s.brush) = hlevel props in
    let top : IsProp (p.top ≡ top_edge s.brush) = hlevel props in
    let bottom : IsProp (p.bottom ≡ bottom_edge s.brush) = hlevel props in
    λ i. record {
      strokes = strokes x.strokes y.strokes i;
      left = left x.left y.left i;
      right = right x.right y.right i;
      top = top x.top y.top i;
      bottom = bottom x.bottom y.bottom i;
    }

pub Planned-once : (s : Setup) (p : Plan) → IsProp (Planned s p)
Planned-once s (Rows p) = RowPlanned-once s p
Planned-once s (Strokes p) = StrokePlanned-once s p
Planned-once s Singly = hlevel props

BlendOf-once : (s : Setup) (b w : Blend ℕ) → IsProp (BlendOf s b w)
BlendOf-once s b w = hlevel props

pub Blended-once : (s : Setup) (b : Blends) (p : Plan) → IsProp (Blended s b p)
Blended-once s b (Rows p) = hlevel props
Blended-once s b (Strokes p) = hlevel props
Blended-once s b Singly = hlevel props
