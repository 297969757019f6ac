-- The laws of a destination pointer on its circle: its remainder turns as in a map of 8,192 columns, and a place is told by its remainder.
use mathlib.Core.Path.{◌≡◌, refl, sym, ap, ◌∙◌}
use Prim.Native.Nat.{ℕ, zero, suc, ◌+◌, ◌≤◌, ◌<◌}
use native.Mathlib.Omega.{arith}
use lib.Dec.{eqb, lit<}
use lib.IntN.{ℤ, pos, ◌+ℤ◌, ◌-ℤ◌}
use Rattle.numbers.specs.Circles.{forth, back, residue}
use Rattle.numbers.proofs.Choices.{choose_either}
use Rattle.numbers.proofs.CircleLaws.{residue_lt, residue_forth, residue_back, residue_circle, circle_cong, circle_circle}
use Rattle.moves.specs.declared.Turn.{Turn}
use Rattle.moves.specs.declared.Turn.TheVariants.{Stay, Forth, Back}
use Rattle.moves.specs.Turns.{opposite, turned_by, circled_by}
use Rattle.moves.specs.Decoded.{sign_of}
pub use Rattle.moves.specs.Inner.{OnCircle}
use Rattle.moves.proofs.TurnLaws.{repeated, turned_none, turned_add, turned_return}

pub circled_on : (t : Turn) (k : ℕ) (z : ℤ) → OnCircle z → OnCircle (circled_by t k z)
unfolding circled_by
circled_on Stay k z on = on
circled_on Forth k z on = circle_circle 2048 8192 (lit< tt) (z +ℤ pos k)
circled_on Back k z on = circle_circle 2048 8192 (lit< tt) (z -ℤ pos k)

pub residue_circled : (t : Turn) (k : ℕ) (z : ℤ) → residue 8192 (circled_by t k z) ≡ turned_by t k 8191 (residue 8192 z)
unfolding turned_by circled_by
residue_circled Stay k z = refl
residue_circled Forth k z = residue_circle 2048 8192 (lit< tt) (z +ℤ pos k) ∙ residue_forth 8192 (lit< tt) z k
residue_circled Back k z = residue_circle 2048 8192 (lit< tt) (z -ℤ pos k) ∙ residue_back 8192 (lit< tt) z k

pub same_place_lem : (a b : ℤ) → OnCircle a → OnCircle b → residue 8192 a ≡ residue 8192 b → a ≡ b
same_place_lem a b on-a on-b e = sym on-a ∙ circle_cong 2048 8192 (lit< tt) a b e ∙ on-b

residue_in : (z : ℤ) → residue 8192 z ≤ 8191
residue_in z = omega (arith, residue_lt 8192 (lit< tt) z)

-- ---- a pointer's turns, as in a map

module _ (t : Turn) (z : ℤ) (on : OnCircle z) where
  pub circled_none : circled_by t 0 z ≡ z
  circled_none =
      same_place_lem (circled_by t 0 z) z (circled_on t 0 z on) on
      (residue_circled t 0 z ∙ turned_none 8191 t (residue 8192 z) (residue_in z))

  pub circled_add : (j k : ℕ) → circled_by t (j + k) z ≡ circled_by t j (circled_by t k z)
  circled_add j k =
      same_place_lem (circled_by t (j + k) z) (circled_by t j (circled_by t k z))
      (circled_on t (j + k) z on) (circled_on t j (circled_by t k z) (circled_on t k z on))
      (residue_circled t (j + k) z
      ∙ turned_add 8191 t j k (residue 8192 z)
      ∙ ap (turned_by t j 8191) (sym (residue_circled t k z))
      ∙ sym (residue_circled t j (circled_by t k z)))

  -- there and back
  pub circled_return : (k : ℕ) → circled_by (opposite t) k (circled_by t k z) ≡ z
  circled_return k =
      same_place_lem (circled_by (opposite t) k (circled_by t k z)) z
      (circled_on (opposite t) k (circled_by t k z) (circled_on t k z on)) on
      (residue_circled (opposite t) k (circled_by t k z)
      ∙ ap (turned_by (opposite t) k 8191) (residue_circled t k z)
      ∙ turned_return 8191 t k (residue 8192 z) (residue_in z))

  -- one step more
  pub circled_more : (k : ℕ) → circled_by t 1 (circled_by t k z) ≡ circled_by t (suc k) z
  circled_more k = sym (circled_add 1 k) ∙ ap (λ (n : ℕ). circled_by t n z) (omega arith)

  -- k single steps are one turn of k
  pub circled_singles : (k : ℕ) → repeated (circled_by t 1) k z ≡ circled_by t k z
  unfolding repeated
  circled_singles zero = sym circled_none
  circled_singles (suc k) = ap (circled_by t 1) (circled_singles k) ∙ circled_more k

  -- after k single steps, k the other way at once lead to where one was
  pub circled_row_return : (k : ℕ) → circled_by (opposite t) k (repeated (circled_by t 1) k z) ≡ z
  circled_row_return k = ap (circled_by (opposite t) k) (circled_singles k) ∙ circled_return k

  -- fewer than 8,192 steps one way are told apart by where they lead
  pub circled_apart : (bit j k : ℕ) → t ≡ sign_of bit → j < 8192 → k < 8192 → circled_by t j z ≡ circled_by t k z → j ≡ k
  unfolding sign_of turned_by forth back
  circled_apart bit j k e few few' same =
      let near = residue_in z in
      let led : turned_by (sign_of bit) j 8191 (residue 8192 z) ≡ turned_by (sign_of bit) k 8191 (residue 8192 z) =
      rw e at (sym (residue_circled t j z) ∙ ap (residue 8192) same ∙ residue_circled t k z) in
      choose_either (λ (turn : Turn). turned_by turn j 8191 (residue 8192 z) ≡ turned_by turn k 8191 (residue 8192 z) → j ≡ k) (eqb bit 1)
      (λ back. omega arith) (λ on. omega arith) led
