-- Reading after a write: a register that the write touches shows what it took, reduced, and every other shows what it did; register by register the
-- record stores a choice, and reading back goes through it.
use mathlib.Core.Path.{◌≡◌, refl, sym, ap, ◌∙◌}
use mathlib.Core.Bool.{true, false}
use mathlib.Core.List.{List, [], ◌∷◌, zip_with}
use Prim.Native.Nat.{ℕ, zero, suc, ◌^◌, ◌<◌}
use native.Mathlib.Nat.{le_of_suc-le-suc}
use native.Mathlib.Omega.{arith}
use lib.IntN.{ℤ}
use lib.ListN.{length, get_or}
use Rattle.numbers.specs.Choose.{choose}
use Rattle.numbers.specs.Bytes.{latched}
use Rattle.numbers.specs.Circles.{residue}
use Rattle.numbers.specs.declared.bytes.Write.{Write}
use Rattle.numbers.proofs.Choices.{choose_part}
use Rattle.parts.specs.Refusals.{is_accepted}
use Rattle.parts.specs.Registers.{Register, whole, selected, others, registers, error_term, first_constant, second_constant, destination_x, destination_y}
use Rattle.parts.specs.Takes.{touched, onto_by, taken, taken_onto}
use Rattle.parts.specs.Latches.{map_latched, terms_latched, ink_latched, compare_latched, point_latched, spot_latched}
use Rattle.parts.specs.Latches.{colours_latched, figure_latched, pointers_latched, registers_latched}
use Rattle.parts.proofs.TakeLaws.{low_untouched}
use Rattle.rules.specs.Maps.{map_at}
use Rattle.image.specs.Bank.{map_values, other_values, values_of}
use Rattle.coprocessor.specs.declared.Coprocessor.{Coprocessor}
use Rattle.coprocessor.specs.Writes.{stored, starts_by, settled_by, write_refusal, write_answer}
use Rattle.laws.specs.Held.{Held}
use Rattle.laws.specs.ReadBack.{register_at, shown, shown_after}
use Rattle.laws.proofs.AcceptedWrites.{accepted_allowed}
use Rattle.laws.proofs.MapsLaws.{map_selected}
use Rattle.laws.proofs.ValidWrites.{write_valid}
use Rattle.laws.proofs.HeldWrites.{held_written}
use Rattle.laws.proofs.StoredValues.{stored_of, value_stored}

-- what stands at a place that both lists have
get_or_zip : {A B C : Type 0} (f : A → B → C) (l : List A) (m : List B) (i : ℕ) (a : A) (b : B) (c : C) → i < length l → i < length m
    → get_or (zip_with f l m) i c ≡ f (get_or l i a) (get_or m i b)
unfolding zip_with
get_or_zip f [] m i a b c h k = absurd (omega arith)
get_or_zip f (x ∷ l) [] i a b c h k = absurd (omega arith)
get_or_zip f (x ∷ l) (y ∷ m) zero a b c h k = refl
get_or_zip f (x ∷ l) (y ∷ m) (suc i) a b c h k = get_or_zip f l m i a b c (le_of_suc-le-suc h) (le_of_suc-le-suc k)

-- a signed register that the write touches reads back where it stands on its circle
signed_shown : (r : Register) (w : Write) (z : ℤ)
    → residue (256 ^ r.bytes) (taken_onto r w z)
    ≡ choose (touched r.bytes r.at w)
    (residue (256 ^ r.bytes) (onto_by r.reduction (latched r.bytes r.at w (residue (256 ^ r.bytes) z))))
    (residue (256 ^ r.bytes) z)
unfolding taken_onto
signed_shown r w z = sym (choose_part (residue (256 ^ r.bytes)) (touched r.bytes r.at w) _ z)

module _ (w : Write) (c : Coprocessor) (held : Held c) (unmoved : touched 1 0x12 w ≡ false) where
  -- the map that the index selects takes its bytes
  taken_map_lem : map_at (stored w c).maps (stored w c).registers.index ≡ map_latched w (map_at c.maps c.registers.index)
  unfolding stored registers_latched
  taken_map_lem = ap (map_at (stored w c).maps) (low_untouched 1 0x12 w unmoved 2 c.registers.index) ∙ map_selected w c held.four

  stored_latched : stored_of (stored w c) ≡ zip_with (shown_after w) registers (stored_of c)
  unfolding zip_with selected others registers taken map_latched terms_latched ink_latched compare_latched point_latched spot_latched
      colours_latched figure_latched pointers_latched registers_latched stored map_values other_values values_of shown_after
  stored_latched =
      let next = (stored w c).registers in
      let r = c.registers in
      λ i.
      next.index
      ∷ (taken_map_lem i).base
      ∷ (taken_map_lem i).width
      ∷ (taken_map_lem i).height
      ∷ (taken_map_lem i).format
      ∷ signed_shown error_term w r.terms.e i
      ∷ signed_shown first_constant w r.terms.k1 i
      ∷ signed_shown second_constant w r.terms.k2 i
      ∷ next.figure.steps
      ∷ next.colours.foreground.mix
      ∷ next.colours.background.mix
      ∷ next.colours.compare.condition
      ∷ next.colours.compare.value
      ∷ next.colours.planes
      ∷ next.colours.carries
      ∷ next.colours.foreground.colour
      ∷ next.colours.background.colour
      ∷ next.figure.dimensions.x
      ∷ next.figure.dimensions.y
      ∷ next.figure.origin.x
      ∷ next.figure.origin.y
      ∷ next.pointers.source.x
      ∷ next.pointers.source.y
      ∷ next.pointers.pattern.x
      ∷ next.pointers.pattern.y
      ∷ signed_shown destination_x w r.pointers.destination.x i
      ∷ signed_shown destination_y w r.pointers.destination.y i
      ∷ next.figure.operations
      ∷ []

-- 01, Registers: a register reads back what was written, reduced; the selected map's registers, where the write leaves the index alone
pub read_after_write : (w : Write) (c : Coprocessor) → Held c → is_accepted (write_refusal w c) ≡ true → starts_by w (stored w c) ≡ false
    → touched 1 0x12 w ≡ false → (i : ℕ) → i < 28
    → shown (write_answer w c).coprocessor (register_at i) ≡ shown_after w (register_at i) (shown c (register_at i))
unfolding selected others registers register_at map_values other_values values_of settled_by write_answer
read_after_write w c held accepted none unmoved i h =
    let valid = (accepted_allowed w c accepted).valid in
    let after : (write_answer w c).coprocessor ≡ stored w c = rw (accepted, none) in
    value_stored (write_answer w c).coprocessor (held_written w c held) (write_valid w c valid) i
    ∙ ap (λ (d : Coprocessor). get_or (stored_of d) i 0) after
    ∙ ap (λ (l : List ℕ). get_or l i 0) (stored_latched w c held unmoved)
    ∙ get_or_zip (shown_after w) registers (stored_of c) i (whole 0 0) 0 0 h h
    ∙ ap (shown_after w (register_at i)) (sym (value_stored c held valid i))
