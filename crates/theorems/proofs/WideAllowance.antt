-- An allowance wider than 32 bits does what the largest of 32 bits does: no drawing has so many positions, so both do all that are left.
use mathlib.Core.Path.{◌≡◌, refl, sym, ap, ◌∙◌}
use mathlib.Core.Bool.{Bool, true, false, false≢true}
use mathlib.Core.List.{List}
use mathlib.Core.Logic.{⊎_elim}
use Prim.Native.Nat.{ℕ, zero, suc, ◌+◌, ◌-◌, ◌*◌, ◌^◌, ◌≤◌, ◌<◌, zero-le}
use native.Mathlib.Nat.{mod-lt, mul-le-mul, min-eq_right}
use native.Mathlib.Omega.{arith}
use borrow.Author.Tests.{ne_eqb}
use Rattle.numbers.proofs.Order.{lt_or_le}
use Rattle.numbers.proofs.Choices.{choose_either}
use Rattle.parts.specs.Refusals.{is_accepted}
use Rattle.parts.specs.declared.shapes.Figure.{Figure}
use Rattle.parts.specs.declared.drawing.Drawing.{Drawing}
use Rattle.parts.specs.declared.drawing.Drawing.TheVariants.{Nothing, Line, Codes, Block}
use Rattle.rules.specs.Codes.{is_count, codes_from, code_at, stops}
use Rattle.rules.specs.Going.{counters_hold}
use Rattle.rules.specs.Totals.{left_of}
use Rattle.rules.proofs.CounterLaws.{codes_held}
use Rattle.coprocessor.specs.declared.Coprocessor.{Coprocessor}
use Rattle.coprocessor.specs.Runs.{run_refusal, run_answer, run_memory}
use Rattle.coprocessor.proofs.SafeLaws.{run_allowed}
use Rattle.laws.proofs.RunValid.{valid_counters}
use Rattle.laws.proofs.ValidFields.{PointBounds, point_bounds, dimensions_reduced}
use Rattle.theorems.specs.Totals.{left_in}
use Rattle.theorems.proofs.RunCalls.{run_done, same_answer, same_memory}

-- ---- no drawing has so many positions

codes_few : (steps count i k : ℕ) → codes_from steps count i k ≤ 16 * k
unfolding codes_from
codes_few steps count i zero = zero-le
codes_few steps count i (suc k) =
    let few = mod-lt (code_at steps count i) {m = 16} (omega arith) in let rest = codes_few steps count (suc i) k in
    choose_either (λ (n : ℕ). n ≤ 16 * suc k) (stops (code_at steps count i)) (omega arith) (omega arith)

count_few : (count : ℕ) → is_count count ≡ true → count ≤ 4
count_few count h =
    ⊎_elim
    (λ more. absurd (false≢true (rw (ne_eqb count 1 (λ e. omega arith), ne_eqb count 2 (λ e. omega arith), ne_eqb count 4 (λ e. omega arith)) at h)))
    (λ few. few)
    (lt_or_le 4 count)

left_few : (f : Figure) (drawing : Drawing) → counters_hold f drawing ≡ true → PointBounds f.dimensions → left_of f drawing < 2 ^ 32
unfolding left_of
left_few f (Nothing stopped) h d = omega arith
left_few f (Line rose done) h d = omega (arith, d.x)
left_few f (Codes count code done) h d =
    omega (arith, codes_few f.steps count code (count - code), count_few count (codes_held f count code done h).counted)
left_few f (Block inside column row) h d =
    let rows : f.dimensions.y + 1 - row ≤ 4096 = omega (arith, d.y) in
    let columns : f.dimensions.x + 1 ≤ 4096 = omega (arith, d.x) in
    omega (arith, mul-le-mul rows columns)

-- ---- so an allowance so large is as large as any

module _ (c : Coprocessor) (memory : List ℕ) (n : ℕ) (wide : 2 ^ 32 - 1 ≤ n) where
  by_accepted : (t : Bool) → is_accepted (run_refusal c memory) ≡ t
      → (run_answer c memory n ≡ run_answer c memory (2 ^ 32 - 1)) × (run_memory c memory n ≡ run_memory c memory (2 ^ 32 - 1))
  unfolding run_answer run_memory
  by_accepted true accepted =
      let valid = (run_allowed c memory accepted).1 in
      let few = left_few c.registers.figure c.drawing (valid_counters c valid) (point_bounds _ (dimensions_reduced c valid)) in
      let all : (k : ℕ) → 2 ^ 32 - 1 ≤ k → (run_answer c memory k).done ≡ left_in c = λ k h. run_done c memory accepted k ∙ min-eq_right (omega arith) in
      let done = all n wide ∙ sym (all (2 ^ 32 - 1) (omega arith)) in (
        same_answer c memory accepted n ∙ ap (run_answer c memory) done ∙ sym (same_answer c memory accepted (2 ^ 32 - 1)),
        same_memory c memory accepted n ∙ ap (run_memory c memory) done ∙ sym (same_memory c memory accepted (2 ^ 32 - 1)),
      )
  by_accepted false refused = (simp refused, simp refused)

  pub wide_allowance : (run_answer c memory n ≡ run_answer c memory (2 ^ 32 - 1)) × (run_memory c memory n ≡ run_memory c memory (2 ^ 32 - 1))
  wide_allowance = by_accepted (is_accepted (run_refusal c memory)) refl
