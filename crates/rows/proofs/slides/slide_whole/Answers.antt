-- `rows::slides::slide_whole` joins the bytes from the lowest on, which is the lane's own order too, since none of them is read.
use Rattle.std.proofs.Common.{◌≡◌, ℕ, ◌+◌, ◌-◌, ◌*◌, ◌/◌, ◌^◌, ◌<◌, ◌≤◌, Bool, false, not, length, sym, refl, ap, ◌∙◌, subst, mul-le-mul_right, one-mul, zero-mul, arith}
use Rattle.numbers.specs.Choose.{choose}
use Rattle.pixels.specs.Maps.{bits_of}
use Rattle.rows.specs.declared.Lane.{Lane}
use Rattle.rows.specs.Inner.{wholly, Reach, swept_from, from_top, slid, source_end}
use Rattle.rows.proofs.ByteLaws.{Bytes, per_some}
use Rattle.rows.proofs.CarryLaws.{Masks, wholly_lt}
use Rattle.rows.proofs.LiesLaws.{reach_fewer, reach_back, reach_lowest}
use Rattle.rows.proofs.SlideLaws.{source_reach, destination_reach, slid_lowest, swept_slid}
use Rattle.rows.proofs.slides.slide_whole.Goals as goal
use Rattle.rows.proofs.slides.slide_whole.Goals.{After-is_from_top-top, After-pixels_in-per, After-place_at-to, After-source_end-high, After-source_end-low, Start}

pub returns-then-bytes-eq0 : goal.returns-then-bytes-eq0
unfolding swept_from
returns-then-bytes-eq0 c = λ op alike. rw (c.if-bytes-eq0.true, zero-mul (8 / bits_of c.args.lane.format))

-- the masks are bytes
masks : (c : Start) → Masks c.args.whole
masks c = record { always = omega arith; source = omega arith; destination = omega arith; both = omega arith }

-- a byte's pixels
per : (c : After-pixels_in-per) → c.pixels_in-per.result ≡ 8 / bits_of c.args.lane.format
per c = c.pixels_in-per.ensures ∙ one-mul _

some : (c : After-is_from_top-top) → 0 < c.args.bytes
some c = omega (arith, c.if-bytes-eq0.false)

-- they are no more than all
within : (c : After-pixels_in-per) → let a = c.args in
    (0 < 8 / bits_of a.lane.format) × (8 / bits_of a.lane.format ≤ a.bytes * (8 / bits_of a.lane.format))
within c =
    let a = c.args in
    let f = a.lane.format in
    let one : 1 ≤ a.bytes = some (goal.at.After-pixels_in-per c).After-is_from_top-top in
    (per_some f, omega (arith, mul-le-mul_right (8 / bits_of f) one, one-mul (8 / bits_of f)))

pub source_end-low-requires : goal.source_end-low-requires
source_end-low-requires c =
    let l = c.args.lane in
    let h = within c in
    rw (per c) (h.0, reach_fewer l.back l.from _ _ (2 ^ 32) h.1 c.requires.0.from)

pub source_end-high-requires : goal.source_end-high-requires
source_end-high-requires c =
    let l = c.args.lane in
    let h = within (goal.at.source_end-high-requires c).After-pixels_in-per in
    rw (per (goal.at.source_end-high-requires c).After-pixels_in-per) (h.0, reach_fewer l.back l.from _ _ (2 ^ 32) h.1 c.requires.0.from)

-- where the bytes lie
low : (c : After-source_end-low) → let l = c.args.lane in
    c.source_end-low.result ≡ source_end l (from_top l.back l.format) (8 / bits_of l.format)
low c =
    let l = c.args.lane in
    c.source_end-low.ensures ∙ (λ i. source_end l (c.is_from_top-top.ensures i) (per (goal.at.After-source_end-low c).After-pixels_in-per i))

high : (c : After-source_end-high) → let l = c.args.lane in
    c.source_end-high.result ≡ source_end l (not (from_top l.back l.format)) (8 / bits_of l.format)
high c =
    let l = c.args.lane in
    c.source_end-high.ensures ∙ (λ i. source_end l (not (c.is_from_top-top.ensures i)) (per (goal.at.After-source_end-high c).After-pixels_in-per i))

-- and that they lie in the memory
module _ (c : After-place_at-to) where
  abbrev l : Lane
  l = c.args.lane

  abbrev n : ℕ
  n = c.args.bytes

  abbrev In : ℕ → Type 0
  In p = Reach l.back p n (length c.args.memory.now)

  source_in : (last : Bool) → In (source_end l last (8 / bits_of l.format))
  source_in last = source_reach l _ (n * (8 / bits_of l.format)) n c.requires.0 (some (goal.at.After-place_at-to c).After-is_from_top-top) (omega arith) last

  bytes : Bytes c.args.memory.now
  bytes i = (c.type_inv.memory i).fits

  least-in : (p : ℕ) → In p → choose l.back (p + 1 - n) p + n ≤ length c.args.memory.now
  least-in p h = reach_lowest l.back p n _ h

  low-in : In c.source_end-low.result
  low-in = subst In (sym (low (goal.at.After-place_at-to c).After-source_end-low)) (source_in (from_top l.back l.format))

  high-in : In c.source_end-high.result
  high-in = subst In (sym (high (goal.at.After-place_at-to c).After-source_end-high)) (source_in (not (from_top l.back l.format)))

  to_in : In c.place_at-to.result
  to_in =
      subst In (sym c.place_at-to.ensures)
      (destination_reach l _ (n * (8 / bits_of l.format)) n c.requires.0 (some (goal.at.After-place_at-to c).After-is_from_top-top) (omega arith))

pub lowest-requires : goal.lowest-requires
lowest-requires c = λ back.
    let h = reach_back _ _ _ _ (low-in (goal.at.lowest-requires c).After-place_at-to) back in
    (h.0, omega (arith, h.1, c.well_formed.0.0))

pub lowest-requires-2 : goal.lowest-requires-2
lowest-requires-2 c = λ back.
    let h = reach_back _ _ _ _ (high-in (goal.at.lowest-requires-2 c).After-place_at-to) back in
    (h.0, omega (arith, h.1, c.well_formed.0.0))

pub lowest-requires-3 : goal.lowest-requires-3
lowest-requires-3 c = λ back.
    let h = reach_back _ _ _ _ (to_in (goal.at.lowest-requires-3 c).After-place_at-to) back in
    (h.0, omega (arith, h.1, c.well_formed.0.0))

pub slide_forth-requires : goal.slide_forth-requires
slide_forth-requires c =
    let q = (goal.at.slide_forth-requires c).After-place_at-to in
    let turned = c.requires.1 in (
      (turned.some, turned.few),
      rw c.lowest.ensures (least-in q q.source_end-low.result (low-in q)),
      rw c.lowest-2.ensures (least-in q q.source_end-high.result (high-in q)),
      rw c.lowest-3.ensures (least-in q q.place_at-to.result (to_in q)),
    )

pub returns : goal.returns
returns c = λ op alike.
    let a = c.args in
    let l = a.lane in
    let m = a.memory.now in
    let h = c.requires in
    let least : ℕ → ℕ = λ n. choose l.back (n + 1 - a.bytes) n in
    let L = c.lowest.ensures
    ∙ ap least (low (goal.at.returns c).After-source_end-low) in
    let H = c.lowest-2.ensures ∙ ap least (high (goal.at.returns c).After-source_end-high) in
    let T = c.lowest-3.ensures ∙ ap least c.place_at-to.ensures in
    let more = some (goal.at.returns c).After-is_from_top-top in
    let all = a.bytes * (8 / bits_of l.format) in
    c.slide_forth.ensures
    ∙ (λ i. slid (wholly a.whole) a.down false (L i) (H i) (T i) a.bytes m)
    ∙ slid_lowest l _ all a.bytes h.0 more (omega arith) (wholly a.whole) a.down m (from_top l.back l.format)
    ∙ sym
    (swept_slid op (wholly a.whole) (wholly_lt a.whole (masks (goal.at.returns c).Start))
    l alike _ all a.down h.0 h.1 h.2 m (bytes (goal.at.returns c).After-place_at-to) refl a.bytes (omega arith))
