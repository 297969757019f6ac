-- The laws of a pointer that turns in its map: it stays inside, steps add up, and the opposite steps lead back, because each is a remainder by the map's size.
use mathlib.Core.Path.{◌≡◌, refl, sym, ap, ◌∙◌}
use Prim.Native.Nat.{ℕ, zero, suc, ◌+◌, ◌-◌, ◌%◌, ◌≤◌, ◌<◌}
use native.Mathlib.Nat.{mod-lt, mod-eq_of_lt, mod-add-mod, add-mod_right, add-zero}
use native.Mathlib.Omega.{arith}
use Rattle.numbers.specs.Circles.{forth, back}
use Rattle.numbers.proofs.CircleLaws.{turn_back, turn_forth, shift_cancel}
use Rattle.moves.specs.declared.Turn.{Turn}
use Rattle.moves.specs.declared.Turn.TheVariants.{Stay, Forth, Back}
use Rattle.moves.specs.Turns.{opposite, turned_by}

-- ---- steps inside the map, and sums of steps

pub back_inside : (s k x : ℕ) → k ≤ x → x < s → back s k x ≡ x - k
unfolding back
back_inside s k x h inside =
    let few : k < s = omega arith in
    let form : x + (s - k) ≡ x - k + s = omega arith in
    rw (mod-eq_of_lt few, form, add-mod_right) (mod-eq_of_lt (omega arith))

pub forth_add : (s j k x : ℕ) → forth s (j + k) x ≡ forth s j (forth s k x)
unfolding forth
forth_add s j k x =
    let form : x + (j + k) ≡ x + k + j = omega arith in
    rw (mod-add-mod, form)

pub forth_lt : (s k x : ℕ) → 0 < s → forth s k x < s
unfolding forth
forth_lt s k x some = mod-lt (x + k) some

pub back_lt : (s k x : ℕ) → 0 < s → back s k x < s
unfolding back
back_lt s k x some = mod-lt (x + (s - k % s)) some

-- both sides come to the same place by as many steps forth
pub back_add : (s j k x : ℕ) → 0 < s → back s (j + k) x ≡ back s j (back s k x)
unfolding forth
back_add s j k x some =
    shift_cancel s some (j + k) (back s (j + k) x) (back s j (back s k x)) (back_lt s (j + k) x some) (back_lt s j (back s k x) some)
    (turn_forth s (j + k) x some ∙ sym there)
  where
    there : forth s (j + k) (back s j (back s k x)) ≡ x % s
    there =
        ap (λ (n : ℕ). forth s n (back s j (back s k x))) (omega arith)
        ∙ forth_add s k j (back s j (back s k x))
        ∙ ap (forth s k) (turn_forth s j (back s k x) some ∙ mod-eq_of_lt (back_lt s k x some))
        ∙ turn_forth s k x some

-- ---- a pointer's turns

-- k single steps, one after another
unfoldable pub repeated : {A : Type 0} → (A → A) → ℕ → A → A
repeated f zero x = x
repeated f (suc k) x = f (repeated f k x)

module _ (last : ℕ) where
  pub turned_in : (t : Turn) (k x : ℕ) → x ≤ last → turned_by t k last x ≤ last
  unfolding turned_by
  turned_in Stay k x h = h
  turned_in Forth k x h = omega (arith, forth_lt (last + 1) k x (omega arith))
  turned_in Back k x h = omega (arith, back_lt (last + 1) k x (omega arith))

  pub turned_none : (t : Turn) (x : ℕ) → x ≤ last → turned_by t 0 last x ≡ x
  unfolding turned_by forth
  turned_none Stay x h = refl
  turned_none Forth x h = rw add-zero (mod-eq_of_lt (omega arith))
  turned_none Back x h = back_inside (last + 1) 0 x (omega arith) (omega arith) ∙ omega arith

  pub turned_add : (t : Turn) (j k x : ℕ) → turned_by t (j + k) last x ≡ turned_by t j last (turned_by t k last x)
  unfolding turned_by
  turned_add Stay j k x = refl
  turned_add Forth j k x = forth_add (last + 1) j k x
  turned_add Back j k x = back_add (last + 1) j k x (omega arith)

  -- there and back
  pub turned_return : (t : Turn) (k x : ℕ) → x ≤ last → turned_by (opposite t) k last (turned_by t k last x) ≡ x
  unfolding turned_by
  turned_return Stay k x h = refl
  turned_return Forth k x h = turn_back (last + 1) k x (omega arith) ∙ mod-eq_of_lt (omega arith)
  turned_return Back k x h = turn_forth (last + 1) k x (omega arith) ∙ mod-eq_of_lt (omega arith)

  -- one step more
  pub turned_more : (t : Turn) (k x : ℕ) → turned_by t 1 last (turned_by t k last x) ≡ turned_by t (suc k) last x
  turned_more t k x = sym (turned_add t 1 k x) ∙ ap (λ (n : ℕ). turned_by t n last x) (omega arith)

  -- k single steps are one turn of k
  pub turned_singles : (t : Turn) (k x : ℕ) → x ≤ last → repeated (turned_by t 1 last) k x ≡ turned_by t k last x
  unfolding repeated
  turned_singles t zero x h = sym (turned_none t x h)
  turned_singles t (suc k) x h = ap (turned_by t 1 last) (turned_singles t k x h) ∙ turned_more t k x

  -- after k single steps, k the other way at once lead to where one was
  pub row_return : (t : Turn) (k x : ℕ) → x ≤ last → turned_by (opposite t) k last (repeated (turned_by t 1 last) k x) ≡ x
  row_return t k x h = ap (turned_by (opposite t) k last) (turned_singles t k x h) ∙ turned_return t k x h
