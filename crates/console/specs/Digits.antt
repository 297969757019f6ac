-- A word as a number.
use Rattle.std.specs.Prelude.{Bool, true, ◌&&◌, List, [], ◌∷◌, ℕ, Option, Some, None, ◌+◌, ◌-◌, ◌*◌, ◌%◌, ◌^◌, min, leb, ltb}
use Rattle.numbers.specs.Choose.{choose}
use Rattle.console.specs.declared.Wide.{Wide}
use Rattle.console.specs.declared.Wide.TheVariants.{Low, Largest}

-- docs/DECISIONS.md, 44: a digit's value, 0 to 9, then A to F or a to f; 16 for what is no digit
unfoldable pub digit_of : ℕ → ℕ
digit_of byte =
    choose (leb 48 byte && leb byte 57) (byte - 48)
    (choose (leb 65 byte && leb byte 70) (byte - 55)
    (choose (leb 97 byte && leb byte 102) (byte - 87)
    16))

-- 01, the bench program: whether every byte is a digit of this base
unfoldable pub digits : ℕ → List ℕ → Bool
digits base [] = true
digits base (byte ∷ bytes) = ltb (digit_of byte) base && digits base bytes

-- 01, the bench program: the number that these digits make after the number n, the most significant first
unfoldable pub value : ℕ → ℕ → List ℕ → ℕ
value base n [] = n
value base n (byte ∷ bytes) = value base (n * base + digit_of byte) bytes

-- 01, Registers: of a written value that is wider than 32 bits the higher bits are dropped; docs/DECISIONS.md, 44: for any other number the largest stands
unfoldable pub fitted : Wide → ℕ → ℕ
fitted Low n = n % 2 ^ 32
fitted Largest n = min n (2 ^ 32 - 1)

-- 01, the bench program: the number that these digits make after the number n, in 32 bits; leading zeros do no harm
unfoldable pub number_from : Wide → (base n : ℕ) → List ℕ → Option ℕ
number_from wide base n bytes = choose (digits base bytes) (Some (fitted wide (value base n bytes))) None

-- 01, the bench program: the number that a word is; no word is none
unfoldable pub word_number : Wide → (base : ℕ) → List ℕ → Option ℕ
word_number wide base [] = None
word_number wide base (byte ∷ bytes) = number_from wide base 0 (byte ∷ bytes)
