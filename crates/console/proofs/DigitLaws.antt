-- A number digit by digit: at each place it is what the digits so far make, with those that follow, also where it was brought into 32 bits on the way.
use mathlib.Core.Path.{◌≡◌, refl, sym, ap, ◌∙◌}
use mathlib.Core.List.{List, [], ◌∷◌}
use mathlib.Core.Logic.{⊎_elim}
use Prim.Native.Nat.{ℕ, ◌+◌, ◌-◌, ◌*◌, ◌/◌, ◌%◌, ◌^◌, ◌≤◌, ◌<◌, min}
use native.Mathlib.Nat.{add-mul, mul_assoc, le-mul_of_pos_right, le_of_lt, min-eq_left, min-eq_right}
use native.Mathlib.Nat.{mod-lt, mod-eq_of_lt, mod-add-div, add-mul-mod_self_left}
use native.Mathlib.Numerals.{add-one}
use native.Mathlib.Omega.{arith}
use lib.ListN.{length, get_or, drop, drop_of_length-le}
use lib.Seq.{drop-cons}
use borrow.Author.Tests.{lt-ltb, le-ltb}
use borrow.Author.Tests.{tests}
use Rattle.numbers.proofs.Order.{lt_or_le}
use Rattle.std.proofs.Common.{Some, None}
use Rattle.std.specs.Char.{digit_value}
use Rattle.console.specs.declared.Wide.{Wide}
use Rattle.console.specs.declared.Wide.TheVariants.{Low, Largest}
use Rattle.console.specs.Digits.{digit_of, digits, value, fitted, number_from, word_number}

-- ---- a number in 32 bits

pub fitted_lt : (wide : Wide) (n : ℕ) → fitted wide n < 2 ^ 32
unfolding fitted
fitted_lt Low n = mod-lt n (omega arith)
fitted_lt Largest n = omega arith

fitted_small : (wide : Wide) (n : ℕ) → n < 2 ^ 32 → fitted wide n ≡ n
unfolding fitted
fitted_small Low n small = mod-eq_of_lt small
fitted_small Largest n small = omega arith

low_digit : (m base n d : ℕ) → (n % m * base + d) % m ≡ (n * base + d) % m
low_digit m base n d =
    let q = n / m * base in
    let two = add-mul (n % m) (m * (n / m)) base ∙ ap (λ (k : ℕ). n % m * base + k) (mul_assoc m (n / m) base) in
    let whole : n * base + d ≡ n % m * base + d + m * q = omega (arith, ap (λ (k : ℕ). k * base) (sym (mod-add-div n m)) ∙ two) in
    sym (rw whole (add-mul-mod_self_left (n % m * base + d) m q))

largest_digit : (m base n d : ℕ) → 1 ≤ base → min (min n m * base + d) m ≡ min (n * base + d) m
largest_digit m base n d some =
    let a = le-mul_of_pos_right m some in let b = le-mul_of_pos_right n some in
    ⊎_elim
    (λ less. rw (min-eq_left {n = n} {m = m} (le_of_lt less)))
    (λ more. rw (min-eq_right {n = m} {m = n} more) (min-eq_right {n = m} (omega arith) ∙ sym (min-eq_right {n = m} (omega arith))))
    (lt_or_le n m)

-- a number that was fitted before its next digit comes is as one that was not
fitted_digit : (wide : Wide) (base : ℕ) → 1 ≤ base → (n d : ℕ) → fitted wide (fitted wide n * base + d) ≡ fitted wide (n * base + d)
unfolding fitted
fitted_digit Low base some n d = low_digit (2 ^ 32) base n d
fitted_digit Largest base some n d = largest_digit (2 ^ 32 - 1) base n d some

-- and whatever digits follow
fitted_on : (wide : Wide) (base : ℕ) → 1 ≤ base → (n : ℕ) (s : List ℕ) → fitted wide (value base (fitted wide n) s) ≡ fitted wide (value base n s)
unfolding value
fitted_on wide base some n [] = fitted_small wide _ (fitted_lt wide n)
fitted_on wide base some n (b ∷ bs) =
    sym (fitted_on wide base some (fitted wide n * base + digit_of b) bs)
    ∙ ap (λ (m : ℕ). fitted wide (value base m bs)) (fitted_digit wide base some n (digit_of b))
    ∙ fitted_on wide base some (n * base + digit_of b) bs

-- ---- digit by digit

-- with no digit to follow it is the number so far
pub number_end : (wide : Wide) (base n : ℕ) (s : List ℕ) (i : ℕ) → length s ≤ i → n < 2 ^ 32 → number_from wide base n (drop i s) ≡ Some n
unfolding number_from digits value
number_end wide base n s i past small = rw (drop_of_length-le s past, fitted_small wide n small)

-- a byte that is no digit makes it none
pub number_stray : (wide : Wide) (base n : ℕ) (s : List ℕ) (i : ℕ) → i < length s → base ≤ digit_of (get_or s i 0) → number_from wide base n (drop i s) ≡ None
unfolding number_from digits
number_stray wide base n s i inside stray = rw (drop-cons s i 0 inside, le-ltb (digit_of (get_or s i 0)) base stray)

-- a digit goes into it
pub number_on : (wide : Wide) (base n : ℕ) (s : List ℕ) (i : ℕ) → 1 ≤ base → i < length s → digit_of (get_or s i 0) < base
    → number_from wide base n (drop i s) ≡ number_from wide base (fitted wide (n * base + digit_of (get_or s i 0))) (drop (i + 1) s)
unfolding number_from digits value
number_on wide base n s i some inside fine =
    rw (drop-cons s i 0 inside, lt-ltb (digit_of (get_or s i 0)) base fine, add-one, fitted_on wide base some)

-- a word is a number from its first digit on
pub number_begins : (wide : Wide) (base : ℕ) (s : List ℕ) → 0 < length s → number_from wide base 0 s ≡ word_number wide base s
unfolding word_number
number_begins wide base [] some = absurd (omega arith)
number_begins wide base (b ∷ bs) some = refl

-- a character's value as a digit is the byte's, where it is below the base
pub digit_none : (byte base : ℕ) → base ≤ 16 → base ≤ digit_value byte → base ≤ digit_of byte
unfolding digit_of
digit_none byte base few none = grind (arith, tests)

pub digit_some : (byte base : ℕ) → base ≤ 16 → digit_value byte < base → digit_of byte ≡ digit_value byte
unfolding digit_of
digit_some byte base few some = grind (arith, tests)
