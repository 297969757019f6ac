-- How the code asks it: what functions inside promise and ask of each other; nothing here has to be believed.
use Rattle.std.specs.Prelude.{◌≡◌, Bool, ℕ, ◌+◌, ◌-◌, ◌*◌, ◌%◌, ◌^◌, ◌≤◌, ◌<◌, ltb}
use Rattle.std.specs.Int.Bits.{bit_and, bit_xor}
use Rattle.mixes.specs.declared.Depth.{Depth}
use Rattle.mixes.specs.declared.logical.Blend.{Blend}
use Rattle.mixes.specs.Mixes.{gathered, scattered}

-- the depth of a pixel of at most 8 bits: its ones are those bits, and its plane mask is cut to them
pub record Cut (depth : Depth) : Type 0 where
  pub bits : depth.bits ≤ 8
  pub ones : depth.ones ≡ 2 ^ depth.bits - 1
  pub planes : depth.planes < 2 ^ depth.bits

-- a function of two values gives what an operation does
abbrev pub Gives : {T : Type 0} → (post : T → T → T → Type 0) → (op : T → T → T) → Type 0
Gives {T} post op = (a b r : T) → post a b r → r ≡ op a b

-- what a blend makes of a source and a destination, by an operation that keeps bits and one that turns them
abbrev pub made_by : {T : Type 0} → (and xor : T → T → T) → Blend T → T → T → T
made_by and xor b s d = xor d (xor (xor b.always (and b.source s)) (and (xor b.destination (and b.both s)) d))

-- the bits of D that a blend turns, and the pixel that it makes
abbrev pub turned_by : Blend ℕ → ℕ → ℕ → ℕ
turned_by b s d = bit_xor (bit_xor b.always (bit_and b.source s)) (bit_and (bit_xor b.destination (bit_and b.both s)) d)

unfoldable pub blended : ℕ → Blend ℕ → ℕ → ℕ → ℕ
blended n b s d = bit_xor (d % 2 ^ n) (turned_by b s (d % 2 ^ n))

-- the number that the enabled bits of a pixel are, and a number laid into the enabled bits
abbrev pub number_in : Depth → ℕ → ℕ
number_in depth x = gathered depth.bits depth.planes x

abbrev pub laid_in : Depth → ℕ → ℕ
laid_in depth y = scattered depth.bits depth.planes y

-- t stands for a number in the bits that a mask enables: they are the number's, and it carries where the number is above all of them,
-- but not twice
pub record Stands (n m t number : ℕ) (carries : Bool) : Type 0 where
  pub kept : bit_and t m ≡ scattered n m number
  pub carried : carries ≡ ltb (gathered n m m) number
  pub once : number ≤ 2 * gathered n m m + 1
