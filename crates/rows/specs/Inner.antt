-- How rows are drawn as bytes: what functions inside promise each other, proved from the rules; nothing here has to be believed.
use Rattle.std.specs.Prelude.{◌≡◌, ℕ, zero, suc, ◌+◌, ◌-◌, ◌*◌, ◌/◌, ◌%◌, ◌^◌, ◌<◌, ◌≤◌, Bool, true, false, not, ◌&&◌, List, set, ◌==◌, ◌≢◌, bit_and, bit_or, bit_xor, nat_lt, slice_index, slice_set}
use Rattle.numbers.specs.Choose.{choose}
use Rattle.numbers.specs.Fields.{field, with_field}
use Rattle.mixes.specs.declared.logical.Blend.{Blend}
use Rattle.mixes.specs.Inner.{turned_by}
use Rattle.pixels.specs.Maps.{bits_of, is_motorola}
use Rattle.pixels.specs.Inner.{place_at, shift_at}
use Rattle.rows.specs.declared.Lane.{Lane}
use Rattle.rows.specs.declared.Trail.{Trail}
use Rattle.rows.specs.declared.Traced.{Traced}
use Rattle.rows.specs.declared.bytes.Stretch.{Stretch}
use Rattle.rows.specs.declared.patterns.Inks.{Inks}

-- ---- bytes and the pixels in them

-- a mask of one pixel, repeated over a byte
unfoldable pub repeated_in : (format mask : ℕ) → ℕ
repeated_in format mask = mask % 2 ^ bits_of format * (255 / (2 ^ bits_of format - 1))

-- the byte that a blend of bytes makes of two
abbrev pub wholly : Blend ℕ → ℕ → ℕ → ℕ
wholly w s d = bit_xor d (turned_by w s d)

-- what an operation of bytes does to each pixel in them is an operation of pixels
abbrev pub Alike : (format : ℕ) → (op whole : ℕ → ℕ → ℕ) → Type 0
Alike format op whole =
    (i s d : ℕ) → i * bits_of format < 8
    → field (i * bits_of format) (bits_of format) (whole s d)
    ≡ op (field (i * bits_of format) (bits_of format) s) (field (i * bits_of format) (bits_of format) d) % 2 ^ bits_of format

-- ---- one after another

-- the i-th from n on, back or forth
abbrev pub along : Bool → (n i : ℕ) → ℕ
along true n i = n - i
along false n i = n + i

-- n places from here on, back or forth, lie before an end
abbrev pub Reach : Bool → (from n end : ℕ) → Type 0
Reach true from n end = (n ≤ from + 1) × (from < end)
Reach false from n end = from + n ≤ end

-- n bytes from `at` on, the i-th changed by f i
unfoldable pub changed : (f : ℕ → ℕ → ℕ) → (at n : ℕ) → List ℕ → List ℕ
changed f at zero memory = memory
changed f at (suc n) memory = slice_set (changed f at n memory) (at + n) (f n (slice_index (changed f at n memory) (at + n)))

-- n bytes from `to` on, each made of one from `from` on and itself, as memory is then
unfoldable pub carried : (op : ℕ → ℕ → ℕ) → Bool → (from to n : ℕ) → List ℕ → List ℕ
carried op back from to zero memory = memory
carried op back from to (suc n) memory =
    set (carried op back from to n memory) (along back to n)
    (op (slice_index (carried op back from to n memory) (along back from n)) (slice_index (carried op back from to n memory) (along back to n)))

-- a stretch of bytes and those that they are made of lie in a memory
abbrev pub Held : Stretch → (size : ℕ) → Type 0
Held on size = Reach on.back on.from on.count size × Reach on.back on.to on.count size

-- all of them, each made of one and itself
abbrev pub made : (op : ℕ → ℕ → ℕ) → Stretch → List ℕ → List ℕ
made op on = carried op on.back on.from on.to on.count

-- pixel number n, and memory with another one there
abbrev pub pixel_no : (format base n : ℕ) → List ℕ → ℕ
pixel_no format base n memory = field (shift_at format n) (bits_of format) (slice_index memory (place_at format base n))

abbrev pub with_pixel_no : (format base n v : ℕ) → List ℕ → List ℕ
with_pixel_no format base n v memory =
    slice_set memory (place_at format base n) (with_field (shift_at format n) (bits_of format) v (slice_index memory (place_at format base n)))

-- n pixels of a lane, each made of the one that it comes from, of a format f, and itself, as memory is then
unfoldable pub swept_from : (f : ℕ) → (op : ℕ → ℕ → ℕ) → Lane → ℕ → List ℕ → List ℕ
swept_from f op l zero memory = memory
swept_from f op l (suc n) memory =
    with_pixel_no l.format l.destination (along l.back l.to n)
    (op (pixel_no f l.source (along l.back l.from n) (swept_from f op l n memory))
    (pixel_no l.format l.destination (along l.back l.to n) (swept_from f op l n memory)))
    (swept_from f op l n memory)

-- the same, all of the lane's format
abbrev pub swept : (op : ℕ → ℕ → ℕ) → Lane → ℕ → List ℕ → List ℕ
swept op l = swept_from l.format op l

-- the lane from its n-th pixel on
abbrev pub onward : Lane → ℕ → Lane
onward l n =
    record {
      format = l.format;
      back = l.back;
      source = l.source;
      destination = l.destination;
      from = along l.back l.from n;
      to = along l.back l.to n;
    }

-- the first n pixels of a lane lie in a memory, in one phase, and have numbers of 32 bits
pub record Lies (l : Lane) (n size : ℕ) : Type 0 where
  pub from : Reach l.back l.from n (2 ^ 32)
  pub to : Reach l.back l.to n (2 ^ 32)
  pub phase : l.from * bits_of l.format % 8 ≡ l.to * bits_of l.format % 8
  pub source : (i : ℕ) → i < n → place_at l.format l.source (along l.back l.from i) < size
  pub destination : (i : ℕ) → i < n → place_at l.format l.destination (along l.back l.to i) < size

-- the first n pixels of a lane, and those of a format f that they come from, lie in a memory and have numbers of 32 bits, and no byte that is
-- read is written
pub record ApartFrom (f : ℕ) (l : Lane) (n size : ℕ) : Type 0 where
  pub from : Reach l.back l.from n (2 ^ 32)
  pub to : Reach l.back l.to n (2 ^ 32)
  pub source : (i : ℕ) → i < n → place_at f l.source (along l.back l.from i) < size
  pub destination : (i : ℕ) → i < n → place_at l.format l.destination (along l.back l.to i) < size
  pub apart : (i j : ℕ) → i < n → j < n
      → place_at f l.source (along l.back l.from i) ≢ place_at l.format l.destination (along l.back l.to j)

-- the same, all of the lane's format
abbrev pub Apart : Lane → (n size : ℕ) → Type 0
Apart l = ApartFrom l.format l

-- how many pixels of its byte a lane has passed at pixel number n
abbrev pub gone_at : Bool → (format n : ℕ) → ℕ
gone_at back format n = choose back (8 / bits_of format - 1 - n % (8 / bits_of format)) (n % (8 / bits_of format))

-- pixel number n is the first of its byte, in the direction that a lane goes
abbrev pub First : Bool → (format n : ℕ) → Type 0
First back format n = n * bits_of format % 8 ≡ choose back (8 - bits_of format) 0

-- of its byte g pixels are passed at pixel number n, in the direction that a lane goes
abbrev pub Passed : Bool → (format n g : ℕ) → Type 0
Passed back format n g = n * bits_of format % 8 ≡ choose back (8 - bits_of format - g * bits_of format) (g * bits_of format)

-- whether a lane goes through a byte from the top
abbrev pub from_top : Bool → (format : ℕ) → Bool
from_top back format = choose back (not (is_motorola format)) (is_motorola format)

-- where k pixels of a byte begin, of which g are passed, from the top or not
abbrev pub edge_from : Bool → (bits g k : ℕ) → ℕ
edge_from t bits g k = choose t (8 - (g + k) * bits) (g * bits)

-- ---- between phases

-- the byte of the bits of one from `down` on, and above them the lowest of another
unfoldable pub joined : (down low high : ℕ) → ℕ
joined down low high = bit_or (low / 2 ^ down) (high * 2 ^ (8 - down) % 2 ^ 8)

-- n bytes from `to` on, each made of two that are joined and itself, as memory is then
unfoldable pub slid : (op : ℕ → ℕ → ℕ) → (down : ℕ) → Bool → (low high to n : ℕ) → List ℕ → List ℕ
slid op down back low high to zero memory = memory
slid op down back low high to (suc n) memory =
    set (slid op down back low high to n memory) (along back to n)
    (op
    (joined down (slice_index (slid op down back low high to n memory) (along back low n)) (slice_index (slid op down back low high to n memory) (along back high n)))
    (slice_index (slid op down back low high to n memory) (along back to n)))

-- the pixels that a lane takes lie `down` bits further up in their bytes than those that it makes, round the end of the byte
pub record Turned (l : Lane) (down : ℕ) : Type 0 where
  pub some : 0 < down
  pub few : down < 8
  pub turned : (shift_at l.format l.to + down) % 8 ≡ shift_at l.format l.from

-- the byte of the first or the last of n pixels that a lane takes
abbrev pub source_end : Lane → (last : Bool) → (n : ℕ) → ℕ
source_end l last n = place_at l.format l.source (along l.back l.from (choose last (n - 1) 0))

-- ---- single pixels, each a step from the one before

-- a trail's terms are below 16,384
abbrev pub Termed : Trail → Type 0
Termed t = (t.e < 16384) × (t.k1 < 16384) × (t.k2 < 16384)

-- the error term after i steps, 8,192 higher than it stands for
unfoldable pub error_at : Trail → ℕ → ℕ
error_at t zero = t.e
error_at t (suc i) = (error_at t i + choose (nat_lt (error_at t i) 8192) t.k1 t.k2) % 16384

-- the number of the pixel there
unfoldable pub number_at : Trail → ℕ → ℕ
number_at t zero = t.at
number_at t (suc i) = (number_at t i + choose (nat_lt (error_at t i) 8192) t.straight t.turned) % 2 ^ 32

-- how many of the steps turn
unfoldable pub turns_at : Trail → ℕ → ℕ
turns_at t zero = 0
turns_at t (suc i) = turns_at t i + choose (nat_lt (error_at t i) 8192) 0 1

-- i pixels of a trail, each made of itself
unfoldable pub traced : (op : ℕ → ℕ) → Trail → ℕ → List ℕ → List ℕ
traced op t zero memory = memory
traced op t (suc i) memory =
    with_pixel_no t.format t.base (number_at t i) (op (pixel_no t.format t.base (number_at t i) (traced op t i memory))) (traced op t i memory)

-- pixel number n made of itself, by a blend that takes nothing from a source
abbrev pub Dotted : (format base n : ℕ) → Blend ℕ → (before after : List ℕ) → Type 0
Dotted format base n w before after =
    (op : ℕ → ℕ → ℕ) → Alike format op (wholly w) → after ≡ with_pixel_no format base n (op 0 (pixel_no format base n before)) before

-- a step by a stride and a term
abbrev pub stepped : Traced → (stride term : ℕ) → Traced
stepped g stride term = record { at = (g.at + stride) % 2 ^ 32; e = (g.e + term) % 16384; done = g.done + 1 }

-- of so many pixels there is a next one, and the step to it does not turn
abbrev pub straight_on : Traced → (count : ℕ) → Bool
straight_on g count = nat_lt g.done count && nat_lt g.e 8192

-- a trail is gone so far
abbrev pub Reached : Trail → Traced → Type 0
Reached t g = (g.at ≡ number_at t g.done) × (g.e ≡ error_at t g.done)

-- a trail is gone so far, of so many pixels, and those up to the next turn lie in a memory
pub record Stands (t : Trail) (count : ℕ) (g : Traced) (size : ℕ) : Type 0 where
  pub termed : Termed t
  pub few : g.done ≤ count
  pub reached : Reached t g
  pub lies : (i : ℕ) → i < count → turns_at t i ≤ turns_at t g.done → place_at t.format t.base (number_at t i) < size

-- a trail goes on from one place to another: it turns so many times, and makes the pixels between
pub record Goes (t : Trail) (w : Blend ℕ) (from to : Traced) (turns : ℕ) (before after : List ℕ) : Type 0 where
  pub onward : from.done ≤ to.done
  pub reached : Reached t to
  pub turned : turns_at t to.done ≡ turns_at t from.done + turns
  pub made : (op : ℕ → ℕ → ℕ) (m : List ℕ) → Alike t.format op (wholly w)
      → before ≡ traced (op 0) t from.done m → after ≡ traced (op 0) t to.done m

-- the same, without a turn up to the next one, or to the last of so many pixels
abbrev pub Straight : Trail → Blend ℕ → (count : ℕ) → (from to : Traced) → (before after : List ℕ) → Type 0
Straight t w count from to before after = (to.done ≤ count) × (to.done < count → 8192 ≤ to.e) × Goes t w from to 0 before after

-- ---- pixels of 8 bits, inked by a pattern of 1 bit

-- the first n pixels of a lane are bytes, and lie in a memory apart from those of a pattern in this order
pub record Meets (l : Lane) (order n size : ℕ) : Type 0 where
  pub bytes : bits_of l.format ≡ 8
  pub ones : bits_of order ≡ 1
  pub lies : ApartFrom order l n size

-- an operation is the rear's blend where the pattern is 0, and the front's where it is 1
abbrev pub Inked : (op : ℕ → ℕ → ℕ) → (front rear : Blend ℕ) → Type 0
Inked op front rear = (d : ℕ) → d < 256 → (op 0 d % 256 ≡ wholly rear 0 d % 256) × (op 1 d % 256 ≡ wholly front 0 d % 256)

-- what two blends make of pixels, by a pattern in this order
abbrev pub inks_of : (order : ℕ) → (front rear : Blend ℕ) → Inks
inks_of order front rear =
    record {
      front_always = front.always;
      front_keeps = bit_xor front.destination 255;
      rear_always = rear.always;
      rear_keeps = bit_xor rear.destination 255;
      motorola = is_motorola order;
    }

-- what turns over a pixel's number within a byte of the pattern
abbrev pub mirror_of : Inks → ℕ
mirror_of k = choose k.motorola 7 0

-- the byte that a pixel of a pattern makes of one
abbrev pub inked_by : Inks → (s d : ℕ) → ℕ
inked_by k s d =
    choose (s == 1) (bit_xor k.front_always (bit_and k.front_keeps d)) (bit_xor k.rear_always (bit_and k.rear_keeps d))

-- pixel number n of a pattern, whose numbers within a byte are turned over by a mask
abbrev pub pattern_at : (mirror source n : ℕ) → List ℕ → ℕ
pattern_at mirror source n memory = field (bit_xor (n % 8) mirror) 1 (slice_index memory (source + n / 8))

-- so many bytes from `at` on, inked by a pattern from its pixel number n on, as it was
abbrev pub row_inked : Inks → (source n at count : ℕ) → List ℕ → List ℕ
row_inked k source n at count memory = changed (λ i d. inked_by k (pattern_at (mirror_of k) source (n + i) memory) d) at count memory

-- so many bytes from `at` on and a pattern from its pixel number n on lie in a memory, apart
pub record Beside (source n at count size : ℕ) : Type 0 where
  pub numbers : n + count ≤ 2 ^ 32
  pub pattern : (i : ℕ) → i < count → source + (n + i) / 8 < size
  pub row : at + count ≤ size
  pub apart : (i j : ℕ) → i < count → j < count → source + (n + i) / 8 ≢ at + j
