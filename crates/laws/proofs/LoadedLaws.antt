-- Bytes that load are the image of the record that they load to: each field of it is read from where it is laid.
use mathlib.Core.Path.{◌≡◌, refl, sym, ap, ◌∙◌}
use mathlib.Core.Bool.{true}
use mathlib.Core.Logic.{◌↔◌}
use mathlib.Core.List.{List, [], ◌∷◌, ◌++◌, map}
use Prim.Native.Nat.{ℕ, zero, suc, ◌+◌, ◌%◌, ◌^◌, ◌≤◌, ◌<◌}
use native.Mathlib.Omega.{arith}
use lib.Dec.{lit<}
use lib.ListN.{length, get_or, take, drop, take-append-drop, drop_of_length-le}
use lib.Seq.{drop-drop}
use mir.Syntax.{w16, w32}
use mir.Val.{to_z}
use borrow.Author.Tests.{eq-eqb, eqb-true}
use Rattle.numbers.specs.Bytes.{le}
use Rattle.numbers.specs.Circles.{residue}
use Rattle.numbers.proofs.BytePartLaws.{number_lt, le_part}
use Rattle.numbers.proofs.SignedBytes.{residue_signed}
use Rattle.numbers.proofs.Choices.{and_left, and_right}
use Rattle.pixels.specs.declared.Map.{Map}
use Rattle.parts.specs.Registers.{Register, others}
use Rattle.rules.specs.Maps.{fresh_map, map_at}
use Rattle.image.specs.Counters.{counters_of}
use Rattle.image.specs.Layout.{at, image_length}
use Rattle.image.specs.Bank.{other_values}
use Rattle.image.specs.Fields.{Field, laid, counter_fields, head_fields, map_fields, maps_fields, register_fields, fields_of}
use Rattle.image.specs.Read.{counters_from, map_from, maps_from, value_from, terms_from, ink_from, colours_from, point_from, figure_from, spot_from, pointers_from, registers_from}
use Rattle.coprocessor.specs.declared.Coprocessor.{Coprocessor}
use Rattle.coprocessor.specs.Valid.{valid_of}
use Rattle.coprocessor.specs.Images.{image_of, loaded, loads, saves, saved}
use Rattle.coprocessor.specs.Inner.{loads_by}
use Rattle.coprocessor.proofs.ImageRules.{loads_by_lem}
use Rattle.laws.specs.Held.{Held}
use Rattle.laws.proofs.DrawingLaws.{same_counters_lem}
use Rattle.laws.proofs.ImageLaws.{loads_image, loaded_image}

pub loaded_valid : (b : List ℕ) → loads b ≡ true → valid_of (loaded b) ≡ true
unfolding loads_by
loaded_valid b e = let by : loads_by b ≡ true = loads_by_lem b ∙ e in search (by, and_right)

pub loads_length : (b : List ℕ) → loads b ≡ true → length b ≡ image_length
unfolding loads
loads_length b e = eqb-true (length b) image_length (search (e, and_left))

-- a valid record is saved
pub saved_valid : (c : Coprocessor) (b : List ℕ) → length b ≡ image_length → valid_of c ≡ true → saved c b ≡ image_of c
unfolding saves saved
saved_valid c b long v = rw (eq-eqb (length b) image_length long, v)

-- the fields of these widths, read one after another from this offset on
unfoldable reads : List ℕ → ℕ → List ℕ → List Field
reads b k [] = []
reads b k (n ∷ ns) = record { bytes = n; value = at k n b } ∷ reads b (k + n) ns

-- 01, State image: how many bytes each field has, from mark to map index, in a map, and in the registers
unfoldable widths : List ℕ
widths =
    (3 ∷ 2 ∷ 4 ∷ 1 ∷ 2 ∷ 2 ∷ 1 ∷ 1 ∷ [])
    ++ (4 ∷ 2 ∷ 2 ∷ 1 ∷ 4 ∷ 2 ∷ 2 ∷ 1 ∷ 4 ∷ 2 ∷ 2 ∷ 1 ∷ 4 ∷ 2 ∷ 2 ∷ 1 ∷ [])
    ++ map (λ (r : Register). r.bytes) others

unfoldable total : List ℕ → ℕ
total [] = 0
total (n ∷ ns) = n + total ns

module _ (b : List ℕ) (small : (i : ℕ) → get_or b i 0 < 256) where
  pub at_lt : (k n : ℕ) → at k n b < 256 ^ n
  unfolding at
  at_lt k n = number_lt k n b small

  -- ---- what is laid is what was read

  le_at : (k n : ℕ) → k + n ≤ length b → le n (at k n b) ≡ take n (drop k b)
  unfolding at
  le_at k n h = le_part k n b small h

  laid_reads : (ns : List ℕ) (k : ℕ) → k + total ns ≡ length b → laid (reads b k ns) ≡ drop k b
  unfolding laid reads total
  laid_reads [] k e = sym (drop_of_length-le b {i = k} (omega arith))
  laid_reads (n ∷ ns) k e =
      rw (le_at k n (omega arith), laid_reads ns (k + n) (omega arith), ← drop-drop n k b) (take-append-drop n (drop k b))

  signed_at : (k : ℕ) → residue (2 ^ 32) (to_z w32 (at k 4 b)) ≡ at k 4 b
  signed_at k = residue_signed w32 (at k 4 b) (record { fits = at_lt k 4 })

  half_at : (k : ℕ) → residue (2 ^ 16) (to_z w16 (at k 2 b)) ≡ at k 2 b
  half_at k = residue_signed w16 (at k 2 b) (record { fits = at_lt k 2 })

  -- ---- the record's image

  module _ (e : loads_by b ≡ true) where
    long : length b ≡ image_length
    unfolding loads_by
    long = eqb-true (length b) image_length (search (and_left, and_right))

    mark : 0x534758 ≡ at 0 3 b
    unfolding loads_by
    mark = sym (eqb-true (at 0 3 b) 0x534758 (search (and_left, and_right)))

    version : 1 ≡ at 3 2 b
    unfolding loads_by
    version = sym (eqb-true (at 3 2 b) 1 (search (and_left, and_right)))

    counters : counters_of (loaded b).drawing ≡ counters_from b
    unfolding loads_by
    counters = sym (same_counters_lem (counters_from b) (counters_of (loaded b).drawing) (search (and_left, and_right)))

    values_read : other_values (registers_from b) ≡ map (λ (r : Register). value_from r b) others
    unfolding other_values registers_from terms_from colours_from ink_from figure_from point_from pointers_from spot_from others map
    values_read = λ i.
        signed_at 52 i ∷ signed_at 56 i ∷ signed_at 60 i ∷ at 64 4 b
        ∷ at 68 1 b ∷ at 69 1 b ∷ at 70 1 b
        ∷ at 71 4 b ∷ at 75 4 b ∷ at 79 4 b ∷ at 83 4 b ∷ at 87 4 b
        ∷ at 91 2 b ∷ at 93 2 b ∷ at 95 2 b ∷ at 97 2 b ∷ at 99 2 b ∷ at 101 2 b ∷ at 103 2 b ∷ at 105 2 b
        ∷ half_at 107 i ∷ half_at 109 i
        ∷ at 111 4 b
        ∷ []

    fields_read : fields_of (loaded b).size (loaded b).maps (loaded b).registers (loaded b).drawing ≡ reads b 0 widths
    unfolding fields_of head_fields counter_fields maps_fields map_fields register_fields others map map_at loaded maps_from map_from registers_from counters_from
        widths reads
    fields_read = λ i.
        record { bytes = 3; value = mark i }
        ∷ record { bytes = 2; value = version i }
        ∷ record { bytes = 4; value = at 5 4 b }
        ∷ counter_fields (counters i)
        ++ record { bytes = 1; value = at 15 1 b }
        ∷ maps_fields (maps_from b)
        ++ register_fields others (values_read i)

    image_read : image_of (loaded b) ≡ b
    unfolding image_of total widths map others
    image_read = ap laid fields_read ∙ laid_reads widths 0 (sym long)

pub image_loaded : (b : List ℕ) → loads b ≡ true → ((i : ℕ) → get_or b i 0 < 256) → image_of (loaded b) ≡ b
image_loaded b e small = image_read b small (loads_by_lem b ∙ e)

-- load, then save
pub save_load : (b into : List ℕ) → loads b ≡ true → ((i : ℕ) → get_or b i 0 < 256) → length into ≡ image_length → saved (loaded b) into ≡ b
save_load b into e small long = saved_valid (loaded b) into long (loaded_valid b e) ∙ image_loaded b e small

-- ---- what its types hold it to

each_map : (P : Map → Type 0) (m a b c : Map) → P m → P a → P b → P c → P fresh_map → (i : ℕ) → P (map_at (m ∷ a ∷ b ∷ c ∷ []) i)
unfolding map_at
each_map P m a b c pm pa pb pc none i = go (i % 4)
  where
    go : (k : ℕ) → P (get_or (m ∷ a ∷ b ∷ c ∷ []) k fresh_map)
    go zero = pm
    go (suc zero) = pa
    go (suc (suc zero)) = pb
    go (suc (suc (suc zero))) = pc
    go (suc (suc (suc (suc k)))) = none

pub held_loaded : (b : List ℕ) → ((i : ℕ) → get_or b i 0 < 256) → Held (loaded b)
unfolding loaded maps_from map_from registers_from colours_from ink_from figure_from
held_loaded b small =
    let lt : (k n : ℕ) → at k n b < 256 ^ n = at_lt b small in
    record {
      four = refl;
      bases =
          each_map (λ (m : Map). m.base < 2 ^ 32) (map_from 0 b) (map_from 1 b) (map_from 2 b) (map_from 3 b)
          (lt 16 4) (lt 25 4) (lt 34 4) (lt 43 4) (lit< tt);
      colours =
          record {
            foreground_mix = lt 68 1;
            background_mix = lt 69 1;
            compare_value = lt 71 4;
            planes = lt 75 4;
            carries = lt 79 4;
            foreground_colour = lt 83 4;
            background_colour = lt 87 4;
          };
      figure = record { steps = lt 64 4; operations = lt 111 4 };
    }

-- ---- a record and its own image

-- 01, refusal 10: a record is valid exactly when its own image loads to it
pub own_image : (c : Coprocessor) → Held c → (valid_of c ≡ true) ↔ ((loads (image_of c) ≡ true) × (loaded (image_of c) ≡ c))
own_image c held =
    (λ v. (loads_image c held v, loaded_image c held v), λ own. rw own.1 at (loaded_valid (image_of c) own.0))
