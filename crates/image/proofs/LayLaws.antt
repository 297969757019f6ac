-- Fields are laid one after another: to lay some and then others is to lay them all.
use mathlib.Core.Path.{◌≡◌, refl, sym}
use mathlib.Core.List.{List, [], ◌∷◌, ◌++◌, append-nil, append_assoc}
use Prim.Native.Nat.{ℕ, suc, ◌+◌}
use native.Mathlib.Nat.{zero-add, add-zero}
use native.Mathlib.Omega.{arith}
use lib.ListN.{length, length-append}
use lib.Seq.{sets, sets-eq, drop-length}
use Rattle.numbers.specs.Bytes.{le}
use Rattle.pixels.specs.declared.Map.{Map}
use Rattle.parts.specs.declared.shapes.Registers.{Registers}
use Rattle.parts.specs.declared.drawing.Drawing.{Drawing}
use Rattle.parts.specs.Registers.{others}
use Rattle.image.specs.Counters.{counters_of}
use Rattle.image.specs.Layout.{image_length}
use Rattle.image.specs.Bank.{other_values}
use Rattle.image.specs.Fields.{Field, laid, counter_fields, head_fields, map_fields, maps_fields, register_fields, fields_of}
use Rattle.image.specs.Inner.{term_bytes, mix_bytes, colour_bytes, point_bytes, spot_bytes, low_bytes, high_bytes}

-- ---- a run of stores

pub sets_append : (b : List ℕ) (i : ℕ) (xs ys : List ℕ) → sets b i (xs ++ ys) ≡ sets (sets b i xs) (i + length xs) ys
sets_append b i [] ys = rw add-zero
sets_append b i (x ∷ xs) ys =
    let next : i + suc (length xs) ≡ suc i + length xs = omega arith in
    rw next (sets_append _ (suc i) xs ys)

-- a run as long as the list replaces it
sets_whole : (b xs : List ℕ) → length xs ≡ length b → sets b 0 xs ≡ xs
sets_whole b xs e =
    rw (sets-eq xs b 0 (omega arith), zero-add, e, drop-length, append-nil xs)

-- ---- fields

laid_append : (fs gs : List Field) → laid (fs ++ gs) ≡ laid fs ++ laid gs
unfolding laid
laid_append [] gs = refl
laid_append (f ∷ fs) gs = rw (laid_append fs gs, append_assoc)

-- fields of three kinds, as long as the buffer
lay_three : (b : List ℕ) (fs gs hs : List Field) → length (laid fs) + length (laid gs) + length (laid hs) ≡ length b
    → sets (sets (sets b 0 (laid fs)) (length (laid fs)) (laid gs)) (length (laid fs) + length (laid gs)) (laid hs) ≡ laid (fs ++ gs ++ hs)
lay_three b fs gs hs e =
    let x = laid fs in
    let y = laid gs in
    let z = laid hs in
    let long : length (x ++ y ++ z) ≡ length b = simp length-append (omega arith) in
    let two : sets b 0 (x ++ y) ≡ sets (sets b 0 x) (length x) y = rw zero-add at (sets_append b 0 x y) in
    let all : sets b 0 (x ++ y ++ z) ≡ sets (sets b 0 (x ++ y)) (length x + length y) z =
    rw (zero-add, length-append) at (sets_append b 0 (x ++ y) z) in
    rw (laid_append (fs ++ gs) hs, laid_append fs gs, ← two, ← all) (sets_whole b (x ++ y ++ z) long)

-- the whole image
pub lay_fields : (b : List ℕ) (size : ℕ) (maps : List Map) (r : Registers) (d : Drawing) → length b ≡ image_length
    → sets (sets (sets (sets b 0 (laid (head_fields (counters_of d) size r.index))) 16 (laid (maps_fields maps))) 52 (low_bytes r)) 95 (high_bytes r)
    ≡ laid (fields_of size maps r d)
unfolding le laid counter_fields head_fields map_fields maps_fields register_fields others other_values fields_of
    term_bytes mix_bytes colour_bytes point_bytes spot_bytes low_bytes high_bytes
lay_fields b size maps r d e =
    lay_three b (head_fields (counters_of d) size r.index) (maps_fields maps) (register_fields others (other_values r)) (sym e)
