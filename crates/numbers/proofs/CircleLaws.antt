-- The laws of numbers that come round: remainders of whole numbers add as natural ones do, because a multiple of the size may first raise a negative number.
use mathlib.Core.Path.{◌≡◌, refl, sym, ap, ◌∙◌}
use mathlib.Core.Bool.{Bool, true, false, cond}
use Prim.Native.Nat.{ℕ, zero, suc, ◌+◌, ◌-◌, ◌*◌, ◌/◌, ◌%◌, ◌≤◌, ◌<◌}
use native.Mathlib.Nat.{mod-lt, mod-eq_of_lt, mod-mod, mod_self, mod-one, mod-eq-sub-mod, zero-mod, suc-mod, add-mod, add-mod_right, add-mod-mod, mod-add-mod}
use native.Mathlib.Nat.{add-mul-mod_self_right, mul-add-mod_self_right, div-add-mod', div-lt_iff_lt-mul, mul-le-mul_left, mul-pos}
use native.Mathlib.Nat.{add_comm, add_assoc, add-zero, sub-zero}
use native.Mathlib.Omega.{arith}
use lib.Arith.{digits_mod, mod-mul}
use lib.Dec.{ltb}
use lib.IntN.{ℤ, pos, negsuc, neg_ℤ, sub_ℕ, ◌+ℤ◌, ◌-ℤ◌, +ℤ-neg_ℤ_cancel}
use mathlib.Core.Logic.{◌⊎◌, ⊎_elim, inl, inr}
use native.Mathlib.Decide.{dec_lt}
use borrow.Author.Tests.{ltb-true, ltb-false}
use Rattle.numbers.specs.Circles.{forth, back, residue, circle}

-- ---- a difference of natural numbers, by its sign

pub sub_cases : (P : ℤ → Type 0) (a b : ℕ) → (a < b → P (negsuc (b - suc a))) → (b ≤ a → P (pos (a - b))) → P (sub_ℕ a b)
sub_cases P a b less more = go (ltb a b) refl
  where
    go : (t : Bool) → ltb a b ≡ t → P (cond t (negsuc (b - suc a)) (pos (a - b)))
    go true e = less (ltb-true a b e)
    go false e = more (ltb-false a b e)

-- ---- remainders of natural numbers

pub mod_mod_mul : (n q s : ℕ) → 0 < q → 0 < s → n % (q * s) % s ≡ n % s
mod_mod_mul n q s someq some = rw (mod-mul n someq some, mul-add-mod_self_right, mod-mod)

pub forth_inside : (s k x : ℕ) → x + k < s → forth s k x ≡ x + k
unfolding forth
forth_inside s k x h = mod-eq_of_lt h

pub forth_last : (s k x : ℕ) → x + k ≡ s → forth s k x ≡ 0
unfolding forth
forth_last s k x e = rw (e, mod_self)

pub back_one : (s x : ℕ) → 0 < s → 0 < x → back s 1 x ≡ (x - 1) % s
unfolding back
back_one s x some h = go (dec_lt 1 s)
  where
    go : Dec (1 < s) → (x + (s - 1 % s)) % s ≡ (x - 1) % s
    go (yes two) =
        let form : x + (s - 1) ≡ x - 1 + s = omega arith in
        rw (mod-eq_of_lt two, form, add-mod_right)
    go (no few) =
        let one : s ≡ 1 = omega arith in
        rw (one, mod-one, mod-one)

pub back_first : (s : ℕ) → 0 < s → back s 1 0 ≡ s - 1
unfolding back
back_first s some = go (dec_lt 1 s)
  where
    go : Dec (1 < s) → (0 + (s - 1 % s)) % s ≡ s - 1
    go (yes two) =
        let form : 0 + (s - 1) ≡ s - 1 = omega arith in
        rw (mod-eq_of_lt two, form) (mod-eq_of_lt (omega arith))
    go (no few) =
        let one : s ≡ 1 = omega arith in
        rw one

-- k steps forth, then k back, and the other way round
pub turn_back : (s k x : ℕ) → 0 < s → back s k (forth s k x) ≡ x % s
unfolding forth back
turn_back s k x some =
    let whole : k / s * s + k % s ≡ k = div-add-mod' k s in
    let low : k % s < s = mod-lt k some in
    let form : x + k + (s - k % s) ≡ x + (k / s + 1) * s = omega arith in
    rw (mod-add-mod, form, add-mul-mod_self_right)

pub turn_forth : (s k x : ℕ) → 0 < s → forth s k (back s k x) ≡ x % s
unfolding forth back
turn_forth s k x some =
    let whole : k / s * s + k % s ≡ k = div-add-mod' k s in
    let low : k % s < s = mod-lt k some in
    let form : x + (s - k % s) + k ≡ x + (k / s + 1) * s = omega arith in
    rw (mod-add-mod, form, add-mul-mod_self_right)

-- ---- remainders of whole numbers

module _ (s : ℕ) (some : 0 < s) where
  pub comp_mod : (q n : ℕ) → n < q * s → (q * s - suc n) % s ≡ (s - 1) - n % s
  comp_mod q n h =
      let whole : n / s * s + n % s ≡ n = div-add-mod' n s in
      let below : n % s < s = mod-lt n some in
      let fewer : n / s < q = (div-lt_iff_lt-mul some).1 h in
      let d : ℕ = q - suc (n / s) in
      let split : q ≡ d + suc (n / s) = omega arith in
      let product : q * s ≡ d * s + n / s * s + s = ap (λ (k : ℕ). k * s) split ∙ omega arith in
      let form : q * s - suc n ≡ d * s + (s - suc (n % s)) = omega arith in
      form_mod d form below
    where
      form_mod : (d : ℕ) → q * s - suc n ≡ d * s + (s - suc (n % s)) → n % s < s → (q * s - suc n) % s ≡ (s - 1) - n % s
      form_mod d form below = rw form (digits_mod d {m = s} {r = s - suc (n % s)} (omega arith) ∙ omega arith)

  pub residue_lt : (z : ℤ) → residue s z < s
  unfolding residue
  residue_lt (pos n) = mod-lt n some
  residue_lt (negsuc n) = omega arith

  -- a negative number, raised by enough of the size
  pub residue_raised : (n q : ℕ) → n < q * s → residue s (negsuc n) ≡ (q * s - suc n) % s
  unfolding residue
  residue_raised n q h = sym (comp_mod q n h)

  room : (n : ℕ) → n < suc n * s
  room n = omega (arith, mul-le-mul_left (suc n) some)

  -- the remainder of a difference gives back what was taken from
  pub residue_sub : (a b : ℕ) → (residue s (sub_ℕ a b) + b) % s ≡ a % s
  unfolding residue
  residue_sub a b = sub_cases (λ (z : ℤ). (residue s z + b) % s ≡ a % s) a b less more
    where
      less : a < b → (residue s (negsuc (b - suc a)) + b) % s ≡ a % s
      less h =
          let n : ℕ = b - suc a in
          let form : suc n * s - suc n + b ≡ a + suc n * s = omega (arith, room n) in
          rw (residue_raised n (suc n) (room n), mod-add-mod, form, add-mul-mod_self_right)

      more : b ≤ a → (residue s (pos (a - b)) + b) % s ≡ a % s
      more h =
          let form : a - b + b ≡ a = omega arith in
          rw (mod-add-mod, form)

  -- a number and its negative come to nothing
  pub residue_neg : (n : ℕ) → (residue s (negsuc n) + suc n) % s ≡ 0
  residue_neg n =
      let form : suc n * s - suc n + suc n ≡ 0 + suc n * s = omega (arith, room n) in
      rw (residue_raised n (suc n) (room n), mod-add-mod, form, add-mul-mod_self_right, zero-mod)

  -- a sum of two remainders folds at most once
  fold : (a b : ℕ) → a < s → b < s → ((a + b) % s ≡ a + b) ⊎ ((a + b) % s + s ≡ a + b)
  fold a b ha hb = go (dec_lt (a + b) s)
    where
      go : Dec (a + b < s) → ((a + b) % s ≡ a + b) ⊎ ((a + b) % s + s ≡ a + b)
      go (yes h) = inl (mod-eq_of_lt h)
      go (no h) =
          let over : s ≤ a + b = omega arith in
          let rest : (a + b) % s ≡ a + b - s = mod-eq-sub-mod over ∙ mod-eq_of_lt (omega arith) in
          inr (omega arith)

  -- a number below the size is told by its remainder after a shift
  pub shift_cancel : (k a b : ℕ) → a < s → b < s → (a + k) % s ≡ (b + k) % s → a ≡ b
  shift_cancel k a b ha hb e = go (fold a (k % s) ha low) (fold b (k % s) hb low)
    where
      low : k % s < s
      low = mod-lt k some

      same : (a + k % s) % s ≡ (b + k % s) % s
      same = rw (add-mod-mod, add-mod-mod) e

      go : ((a + k % s) % s ≡ a + k % s) ⊎ ((a + k % s) % s + s ≡ a + k % s)
          → ((b + k % s) % s ≡ b + k % s) ⊎ ((b + k % s) % s + s ≡ b + k % s) → a ≡ b
      go u v =
          let e = same in
          ⊎_elim (λ p. ⊎_elim (λ q. omega arith) (λ q. omega arith) v) (λ p. ⊎_elim (λ q. omega arith) (λ q. omega arith) v) u

  mixed_sum : (a b : ℕ) → residue s (sub_ℕ a (suc b)) ≡ (residue s (pos a) + residue s (negsuc b)) % s
  unfolding residue
  mixed_sum a b =
      shift_cancel (suc b) (residue s (sub_ℕ a (suc b))) ((a % s + residue s (negsuc b)) % s) (residue_lt (sub_ℕ a (suc b))) (mod-lt _ some)
      (residue_sub a (suc b) ∙ sym right)
    where
      right : ((a % s + residue s (negsuc b)) % s + suc b) % s ≡ a % s
      right = rw (mod-add-mod, add_assoc, ← add-mod-mod, residue_neg, add-zero, mod-mod)

  -- the remainder of a sum, by the signs
  pub residue_add : (a b : ℤ) → residue s (a +ℤ b) ≡ (residue s a + residue s b) % s
  unfolding residue
  residue_add (pos a) (pos b) = add-mod a b s
  residue_add (pos a) (negsuc b) = mixed_sum a b
  residue_add (negsuc a) (pos b) = mixed_sum b a ∙ ap (λ (n : ℕ). n % s) (add_comm (b % s) (residue s (negsuc a)))
  residue_add (negsuc a) (negsuc b) =
      let wide : suc (a + b) < (suc a + suc b) * s = omega (arith, room a, room b) in
      let form : suc a * s - suc a + (suc b * s - suc b) ≡ (suc a + suc b) * s - suc (suc (a + b)) = omega (arith, room a, room b) in
      rw (residue_raised (suc (a + b)) (suc a + suc b) wide, residue_raised a (suc a) (room a), residue_raised b (suc b) (room b), ← add-mod, form)

  -- the remainder of a difference by a natural number
  pub residue_back : (z : ℤ) (k : ℕ) → residue s (z -ℤ pos k) ≡ back s k (residue s z)
  unfolding residue back
  residue_back z k = residue_add z (neg_ℤ (pos k)) ∙ lowered k
    where
      lowered : (n : ℕ) → (residue s z + residue s (neg_ℤ (pos n))) % s ≡ (residue s z + (s - n % s)) % s
      lowered zero = rw (zero-mod, sub-zero, add-zero, add-mod_right)
      lowered (suc n) = rw suc-mod (go (dec_lt (suc (n % s)) s))
        where
          go : Dec (suc (n % s) < s) → (residue s z + (s - 1 - n % s)) % s ≡ (residue s z + (s - suc (n % s) % s)) % s
          go (yes h) =
              let form : s - 1 - n % s ≡ s - suc (n % s) = omega arith in
              rw (mod-eq_of_lt h, form)
          go (no h) =
              let low : n % s < s = mod-lt n some in
              let full : suc (n % s) ≡ s = omega arith in
              let none : s - 1 - n % s ≡ 0 = omega arith in
              rw (none, full, mod_self, sub-zero, add-zero, add-mod_right)

  pub residue_forth : (z : ℤ) (k : ℕ) → residue s (z +ℤ pos k) ≡ forth s k (residue s z)
  unfolding residue forth
  residue_forth z k = residue_add z (pos k) ∙ add-mod-mod (residue s z) k s

  -- a remainder by a multiple of the size keeps the remainder by the size
  pub residue_mod : (q : ℕ) → 0 < q → (z : ℤ) → residue (q * s) z % s ≡ residue s z
  unfolding residue
  residue_mod q someq (pos n) = mod_mod_mul n q s someq some
  residue_mod q someq (negsuc n) =
      let all : 0 < q * s = mul-pos someq some in
      let low : n % (q * s) < q * s = mod-lt n all in
      let form : q * s - 1 - n % (q * s) ≡ q * s - suc (n % (q * s)) = omega arith in
      rw (form, comp_mod q (n % (q * s)) low, mod_mod_mul n q s someq some)

-- ---- the circle of a signed register

module _ (low size : ℕ) (some : 0 < size) where
  -- two numbers with one remainder stand at one place of the circle
  pub circle_cong : (a b : ℤ) → residue size a ≡ residue size b → circle low size a ≡ circle low size b
  unfolding circle
  circle_cong a b e = rw e

  pub residue_circle : (z : ℤ) → residue size (circle low size z) ≡ residue size z
  unfolding circle forth
  residue_circle z =
      shift_cancel size some low (residue size (circle low size z)) (residue size z) (residue_lt size some (circle low size z)) (residue_lt size some z)
      (residue_sub size some ((residue size z + low) % size) low ∙ mod-mod (residue size z + low) size)

  pub circle_circle : (z : ℤ) → circle low size (circle low size z) ≡ circle low size z
  circle_circle z = circle_cong (circle low size z) z (residue_circle z)

  -- what a register reads back is written back to the same place
  pub circle_residue : (q : ℕ) → 0 < q → (z : ℤ) → circle low size (pos (residue (q * size) z)) ≡ circle low size z
  unfolding residue
  circle_residue q someq z = circle_cong (pos (residue (q * size) z)) z (residue_mod size some q someq z)

  -- k steps forth and k steps back lead to where one was
  pub back_forth : (z : ℤ) (k : ℕ) → circle low size (circle low size (z +ℤ pos k) -ℤ pos k) ≡ circle low size z
  back_forth z k =
      circle_cong (circle low size (z +ℤ pos k) -ℤ pos k) z
      (residue_add size some (circle low size (z +ℤ pos k)) (neg_ℤ (pos k))
      ∙ ap (λ (n : ℕ). (n + residue size (neg_ℤ (pos k))) % size) (residue_circle (z +ℤ pos k))
      ∙ sym (residue_add size some (z +ℤ pos k) (neg_ℤ (pos k)))
      ∙ ap (residue size) (+ℤ-neg_ℤ_cancel z (pos k)))

  -- sums and steps may be made on what the registers read back, by any multiple of the size
  module _ (q : ℕ) (someq : 0 < q) where
    pub circle_sum : (a b : ℤ) → circle low size (pos (residue (q * size) a % size + residue (q * size) b % size)) ≡ circle low size (a +ℤ b)
    unfolding residue
    circle_sum a b =
        circle_cong (pos (residue (q * size) a % size + residue (q * size) b % size)) (a +ℤ b)
        (rw (residue_mod size some q someq a, residue_mod size some q someq b) (sym (residue_add size some a b)))

    pub circle_forth : (z : ℤ) (k : ℕ) → circle low size (pos (residue (q * size) z + k)) ≡ circle low size (z +ℤ pos k)
    unfolding residue forth
    circle_forth z k =
        circle_cong (pos (residue (q * size) z + k)) (z +ℤ pos k)
        (rw (← mod-add-mod, residue_mod size some q someq z) (sym (residue_forth size some z k)))

    pub circle_back : (z : ℤ) (k : ℕ) → circle low size (pos (residue (q * size) z + (size - k % size))) ≡ circle low size (z -ℤ pos k)
    unfolding residue back
    circle_back z k =
        circle_cong (pos (residue (q * size) z + (size - k % size))) (z -ℤ pos k)
        (rw (← mod-add-mod, residue_mod size some q someq z) (sym (residue_back size some z k)))
