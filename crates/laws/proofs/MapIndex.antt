-- A write of the map index selects another map and does nothing else, since an accepted write that touches it covers that byte alone; and no write
-- changes a map that the index does not select.
use mathlib.Core.Path.{◌≡◌, refl, sym, ap, ◌∙◌}
use mathlib.Core.Bool.{Bool, true, not, ◌&&◌, ◌||◌}
use Prim.Native.Nat.{ℕ, zero, suc, ◌+◌, ◌%◌, ◌≤◌, ◌<◌}
use native.Mathlib.Omega.{arith}
use lib.Dec.{ltb, eqb}
use lib.ListN.{get_or}
use lib.Seq.{set-get_or}
use borrow.Author.Tests.{ltb-true, eqb-true}
use Rattle.numbers.specs.Bytes.{low, covers, latched}
use Rattle.numbers.specs.declared.bytes.Write.{Write}
use Rattle.numbers.proofs.ByteLaws.{latched_whole}
use Rattle.numbers.proofs.Choices.{and_left, and_right}
use Rattle.parts.specs.Refusals.{is_accepted}
use Rattle.parts.specs.Registers.{selected, others, registers, among, placed, listed}
use Rattle.parts.specs.Takes.{touched, taken, taken_onto}
use Rattle.parts.specs.Latches.{map_latched, terms_latched, ink_latched, compare_latched, point_latched, spot_latched}
use Rattle.parts.specs.Latches.{colours_latched, figure_latched, pointers_latched, registers_latched}
use Rattle.parts.proofs.Every.{every, every_at}
use Rattle.rules.specs.Maps.{fresh_map, map_at}
use Rattle.image.specs.Bank.{map_values, other_values, values_of}
use Rattle.coprocessor.specs.declared.Coprocessor.{Coprocessor}
use Rattle.coprocessor.specs.Valid.{valid_of}
use Rattle.coprocessor.specs.Writes.{stored, starts_by, started, settled_by, write_refusal, write_answer}
use Rattle.coprocessor.proofs.PlaceLaws.{placed_known}
use Rattle.laws.specs.Held.{Held}
use Rattle.laws.specs.ReadBack.{register_at, shown, indexed, selecting, Selected}
use Rattle.laws.proofs.AcceptedWrites.{accepted_allowed, by_write}
use Rattle.laws.proofs.MapsLaws.{map_other}
use Rattle.laws.proofs.ValidWrites.{write_valid}
use Rattle.laws.proofs.HeldWrites.{held_written}
use Rattle.laws.proofs.StoredValues.{stored_of, value_stored}

-- ---- a write of the index

-- whether a write at this place, if it is placed and listed and touches the index, covers that byte alone
unfoldable alone : ℕ → ℕ → Bool
alone offset length =
    not (placed offset length && listed length offset && (ltb offset 0x13 && ltb 0x12 (offset + length))) || (eqb offset 0x12 && eqb length 1)

all_alone : every 0x13 (λ offset. every 5 (alone offset)) ≡ true
unfolding selected others registers among listed placed every alone
all_alone = refl

-- a write of this value to the index
abbrev index_write : ℕ → Write
index_write value = record { offset = 0x12; length = 1; value = value }

index_alone : (w : Write) (c : Coprocessor) → is_accepted (write_refusal w c) ≡ true → touched 1 0x12 w ≡ true → w ≡ index_write w.value
unfolding touched alone
index_alone w c accepted touches =
    let allowed = accepted_allowed w c accepted in
    let low : w.offset < 0x13 = ltb-true w.offset 0x13 (search (touches, and_left)) in
    let short : w.length < 5 = omega (arith, placed_known w.offset w.length allowed.place) in
    let lengths = every_at 0x13 (λ offset. every 5 (alone offset)) all_alone w.offset low in
    let test : alone w.offset w.length ≡ true = every_at 5 _ lengths w.length short in
    let place : (eqb w.offset 0x12 && eqb w.length 1) ≡ true = rw (allowed.place, allowed.registers, touches) at test in
    let offset : w.offset ≡ 0x12 = eqb-true _ _ (search (place, and_left)) in
    let length : w.length ≡ 1 = eqb-true _ _ (search (place, and_right)) in
    λ i. record { offset = offset i; length = length i; value = w.value }

stored_index : (value : ℕ) (c : Coprocessor) → stored (index_write value) c ≡ selecting (low 2 value) c
unfolding touched taken taken_onto map_latched terms_latched ink_latched compare_latched point_latched spot_latched colours_latched figure_latched pointers_latched
    registers_latched map_at stored indexed selecting
stored_index value c =
    let old = c.registers.index in
    let byte = latched_whole 1 0x12 (index_write value) old refl refl in
    let index : latched 1 0x12 (index_write value) old % 4 ≡ value % 4 = rw byte (omega arith) in
    let maps = set-get_or c.maps (old % 4) fresh_map in
    λ i. record { size = c.size; maps = maps i; registers = indexed (index i) c.registers; drawing = c.drawing }

-- it starts nothing
settled_index : (value : ℕ) (c : Coprocessor) → settled_by (index_write value) c ≡ c
unfolding covers starts_by settled_by
settled_index value c = refl

pub index_settled : (w : Write) (c : Coprocessor) → is_accepted (write_refusal w c) ≡ true → touched 1 0x12 w ≡ true
    → (write_answer w c).coprocessor ≡ selecting (low 2 w.value) c
unfolding write_answer
index_settled w c accepted touches =
    let same = index_alone w c accepted touches in
    let settled = settled_index w.value (stored (index_write w.value) c) in
    rw accepted (ap (λ (v : Write). settled_by v (stored v c)) same ∙ settled ∙ stored_index w.value c)

-- the registers after the map's do not tell which map is selected
stored_selecting : (chosen : ℕ) (c : Coprocessor) (i : ℕ) → 5 ≤ i → get_or (stored_of (selecting chosen c)) i 0 ≡ get_or (stored_of c) i 0
unfolding values_of map_values other_values indexed selecting
stored_selecting chosen c zero h = absurd (omega arith)
stored_selecting chosen c (suc zero) h = absurd (omega arith)
stored_selecting chosen c (suc (suc zero)) h = absurd (omega arith)
stored_selecting chosen c (suc (suc (suc zero))) h = absurd (omega arith)
stored_selecting chosen c (suc (suc (suc (suc zero)))) h = absurd (omega arith)
stored_selecting chosen c (suc (suc (suc (suc (suc i))))) h = refl

pub index_written : (w : Write) (c : Coprocessor) → Held c → is_accepted (write_refusal w c) ≡ true → touched 1 0x12 w ≡ true
    → Selected (low 2 w.value) c (write_answer w c).coprocessor
unfolding selected others registers register_at values_of map_values indexed selecting
index_written w c held accepted touches =
    record {
      index = reads 0;
      base = reads 1;
      width = reads 2;
      height = reads 3;
      format = reads 4;
      others = λ i h. reads i ∙ stored_selecting _ c i h ∙ sym (value_stored c held valid i);
    }
  where
    valid : valid_of c ≡ true
    valid = (accepted_allowed w c accepted).valid

    reads : (i : ℕ) → shown (write_answer w c).coprocessor (register_at i) ≡ get_or (stored_of (selecting (low 2 w.value) c)) i 0
    reads i =
        value_stored (write_answer w c).coprocessor (held_written w c held) (write_valid w c valid) i
        ∙ ap (λ (d : Coprocessor). get_or (stored_of d) i 0) (index_settled w c accepted touches)

-- ---- the other maps

pub maps_stay : (w : Write) (c : Coprocessor) (j : ℕ) → j < 4 → (j ≡ c.registers.index % 4 → ⊥)
    → map_at (write_answer w c).coprocessor.maps j ≡ map_at c.maps j
unfolding started
maps_stay w c j h other =
    let apart = map_other w c j (λ e. other (omega arith)) in
    by_write w c (λ (d : Coprocessor). map_at d.maps j ≡ map_at c.maps j) (λ refused. refl) (λ accepted none. apart)
    (λ accepted starts. apart)
