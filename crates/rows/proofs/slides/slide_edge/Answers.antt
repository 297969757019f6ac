-- `rows::slides::slide_edge` mends the one byte, in the field that its pixels are, with the byte that is gathered for them.
use Rattle.std.proofs.Common.{◌≡◌, ℕ, ◌*◌, ◌<◌, Bool, not, get_or, set, sym, refl, ap, ◌∙◌, arith}
use Rattle.numbers.specs.Fields.{field, with_field}
use Rattle.pixels.specs.Maps.{bits_of}
use Rattle.rows.specs.Inner.{wholly, swept_from, from_top, joined, source_end}
use Rattle.rows.proofs.LaneLaws.{along_none}
use Rattle.rows.proofs.ByteLaws.{Bytes, edge_low}
use Rattle.rows.proofs.GatherLaws.{gathered, swept_gathered}
use Rattle.rows.proofs.slides.slide_edge.Goals as goal
use Rattle.rows.proofs.slides.slide_edge.Goals.{After-bits_of, After-is_from_top-top, After-join-s, After-source_end-high, After-source_end-low}

pub returns-then-count-eq0 : goal.returns-then-count-eq0
unfolding swept_from
returns-then-count-eq0 c = λ op alike. rw c.if-count-eq0.true

-- where the two bytes lie
low : (c : After-source_end-low) → let l = c.args.lane in
    c.source_end-low.result ≡ source_end l (from_top l.back l.format) c.args.count
low c =
    let a = c.args in
    c.source_end-low.ensures ∙ ap (λ (t : Bool). source_end a.lane t a.count) c.is_from_top-top.ensures

high : (c : After-source_end-high) → let l = c.args.lane in
    c.source_end-high.result ≡ source_end l (not (from_top l.back l.format)) c.args.count
high c =
    let a = c.args in
    c.source_end-high.ensures ∙ ap (λ (t : Bool). source_end a.lane (not t) a.count) c.is_from_top-top.ensures

some : (c : After-is_from_top-top) → 0 < c.args.count
some c = omega (arith, c.if-count-eq0.false)

-- the byte that is gathered
source : (c : After-join-s) → let a = c.args in c.join-s.result ≡ gathered a.lane a.down a.count a.memory.now
source c =
    let m = c.args.memory.now in
    c.join-s.ensures ∙ (λ i. joined c.args.down (get_or m (low (goal.at.After-join-s c).After-source_end-low i) 0) (get_or m (high (goal.at.After-join-s c).After-source_end-high i) 0))

bytes : (c : After-join-s) → Bytes c.args.memory.now
bytes c i = (c.type_inv.memory i).fits

-- the pixels' bits
width : (c : After-bits_of) → let a = c.args in a.count * c.bits_of.result ≡ a.count * bits_of a.lane.format
width c = ap (λ (n : ℕ). c.args.count * n) c.bits_of.ensures

pub mend-requires : goal.mend-requires
mend-requires c =
    let a = c.args in
    let l = a.lane in
    let h = c.requires in
    let more = some (goal.at.mend-requires c).After-is_from_top-top in
    let first = rw (along_none l.back l.to) at (h.0.destination 0 more) in (
      rw c.place_at.ensures first,
      rw (c.edge_from.ensures, width c) (edge_low (from_top l.back l.format) l.format a.passed a.count h.3),
    )

pub returns : goal.returns
returns c = λ op alike.
    let a = c.args in
    let l = a.lane in
    let m = a.memory.now in
    let h = c.requires in
    let s = source (goal.at.returns c).After-join-s in
    let A = c.place_at.ensures in
    let L = c.edge_from.ensures in
    let W = width (goal.at.returns c).After-bits_of in
    c.mend.ensures
    ∙ (λ i. set m (A i) (with_field (L i) (W i) (field (L i) (W i) (wholly a.whole (s i) (get_or m (A i) 0))) (get_or m (A i) 0)))
    ∙ sym
    (swept_gathered l _ a.count a.passed a.down h.0 h.1 h.2 h.3 m (bytes (goal.at.returns c).After-join-s)
    op (wholly a.whole) alike refl (some (goal.at.returns c).After-is_from_top-top))
