-- Up to the first 00 every code counts, so the sum over the codes splits at any code before it.
use mathlib.Core.Path.{◌≡◌, refl}
use mathlib.Core.Bool.{true, false, not, ◌&&◌}
use Prim.Native.Nat.{ℕ, zero, suc, ◌+◌}
use native.Mathlib.Nat.{suc-add, add-suc, zero-add}
use native.Mathlib.Numerals.{add-one}
use native.Mathlib.Omega.{arith}
use borrow.Author.Rules.{rules}
use borrow.Author.Tests.{not-true}
use Rattle.std.specs.List.{list_all, range_with_len}
use Rattle.numbers.proofs.Choices.{and_left, and_right}
use Rattle.rules.specs.Codes.{stops, steps_of, code_at, none_stopped, codes_from}

module _ (steps count : ℕ) where
  -- ---- none is 00

  -- the first i and the k after them
  pub all_going : (i k : ℕ)
      → (none_stopped steps count i && list_all (λ j. not (stops (code_at steps count j))) (range_with_len i k)) ≡ none_stopped steps count (i + k)
  unfolding none_stopped
  all_going i zero = search rules
  all_going i (suc k) = grind (arith, all_going (suc i) k)

  pub none_stopped_before : (i : ℕ) → none_stopped steps count (suc i) ≡ true → none_stopped steps count i ≡ true
  unfolding none_stopped
  none_stopped_before i h = search and_left

  pub code_going : (i : ℕ) → none_stopped steps count (suc i) ≡ true → stops (code_at steps count i) ≡ false
  unfolding none_stopped
  code_going i h = not-true _ (search and_right)

  -- ---- their positions

  pub codes_none : (i : ℕ) → codes_from steps count i 0 ≡ 0
  unfolding codes_from
  codes_none i = refl

  pub codes_next : (i k : ℕ) → stops (code_at steps count i) ≡ false
      → codes_from steps count i (suc k) ≡ steps_of (code_at steps count i) + 1 + codes_from steps count (suc i) k
  unfolding codes_from
  codes_next i k e = rw e

  pub codes_split : (i k : ℕ) → none_stopped steps count i ≡ true
      → codes_from steps count 0 (i + k) ≡ codes_from steps count 0 i + codes_from steps count i k
  codes_split zero k h = rw (zero-add k, codes_none 0) (omega arith)
  codes_split (suc i) k h =
      let before = none_stopped_before i h in
      let going = code_going i h in
      let all = rw (codes_next, add-suc, ← suc-add) at (codes_split i (suc k) before) in
      let first = rw (codes_next, add-one, codes_none) at (codes_split i 1 before) in
      omega arith
