-- Every write leaves a valid record valid: each group takes what is reduced, no drawing is in hand after an accepted write that starts none, and one
-- that is started goes on by the rules of a start.
use mathlib.Core.Path.{◌≡◌}
use mathlib.Core.Bool.{true, false, not, ◌&&◌, or-true}
use Prim.Native.Nat.{ℕ}
use Rattle.numbers.specs.declared.bytes.Write.{Write}
use Rattle.numbers.proofs.Choices.{and_left, and_right}
use Rattle.pixels.specs.declared.Map.{Map}
use Rattle.parts.specs.Refusals.{is_accepted}
use Rattle.parts.specs.Drawings.{unfinished}
use Rattle.parts.specs.Registers.{map_index, placed}
use Rattle.parts.specs.Moved.{with_moved}
use Rattle.parts.specs.Reduced.{fits, map_reduced, terms_reduced, colours_reduced, figure_reduced, registers_reduced}
use Rattle.parts.proofs.ReducedLaws.{both_kept}
use Rattle.parts.proofs.LatchLaws.{map_latched_reduced, registers_latched_reduced}
use Rattle.rules.specs.Operations.{draws}
use Rattle.rules.specs.Maps.{map_at}
use Rattle.rules.specs.Codes.{is_count}
use Rattle.rules.specs.Rules.{start_refusal}
use Rattle.rules.proofs.CounterLaws.{counters_started}
use Rattle.rules.proofs.PointerLaws.{pointers_started_reduced, pointers_started_lem}
use Rattle.coprocessor.specs.declared.Coprocessor.{Coprocessor}
use Rattle.coprocessor.specs.Fresh.{size_holds}
use Rattle.coprocessor.specs.Valid.{start_refusal_of, maps_reduced, reduced_of, goes_on, valid_of}
use Rattle.coprocessor.specs.Writes.{stored, started, write_answer}
use Rattle.laws.proofs.MapsLaws.{each_reduced, map_either}
use Rattle.laws.proofs.AcceptedWrites.{accepted_allowed, by_write, start_draws, start_rules}

-- ---- the record with the write stored

maps_stored_reduced : (w : Write) (c : Coprocessor) → maps_reduced c.maps ≡ true → maps_reduced (stored w c).maps ≡ true
unfolding maps_reduced
maps_stored_reduced w c e = rw (each 0, each 1, each 2, each 3)
  where
    each : (field : ℕ) → map_reduced (map_at (stored w c).maps field) ≡ true
    each field =
        map_either w c (λ (m : Map). map_reduced m ≡ true) field
        (map_latched_reduced w (map_at c.maps c.registers.index) (each_reduced c.maps e c.registers.index)) (each_reduced c.maps e field)

stored_reduced : (w : Write) (c : Coprocessor) → reduced_of c ≡ true → reduced_of (stored w c) ≡ true
unfolding stored reduced_of
stored_reduced w c = both_kept (maps_stored_reduced w c) (registers_latched_reduced w c.registers)

-- with no drawing in hand there is nothing to go on
idle_goes_on : (c : Coprocessor) → unfinished c.drawing ≡ false → goes_on c ≡ true
unfolding goes_on
idle_goes_on c idle = rw idle

-- ---- the record with a drawing started

started_reduced : (length : ℕ) (c : Coprocessor) → reduced_of c ≡ true → reduced_of (started length c) ≡ true
unfolding started with_moved registers_reduced reduced_of
started_reduced length c =
    let r = c.registers in
    let registers : registers_reduced r ≡ true → registers_reduced (started length c).registers ≡ true =
    both_kept {a = fits map_index r.index && terms_reduced r.terms && colours_reduced r.colours && figure_reduced r.figure} (λ h. h)
    (pointers_started_reduced r.figure.operations c.maps r.pointers) in
    both_kept {a = maps_reduced c.maps} (λ h. h) registers

started_goes_on : (length : ℕ) (c : Coprocessor) → draws c.registers.figure.operations ≡ true → is_count length ≡ true
    → is_accepted (start_refusal_of c) ≡ true → goes_on (started length c) ≡ true
unfolding started with_moved start_refusal start_refusal_of goes_on
started_goes_on length c drawing counted rules =
    let counters = counters_started c.registers.figure length drawing counted in
    let pointers = pointers_started_lem c.registers.figure.operations c.maps c.registers.pointers in
    rw (counters, rules, pointers) (or-true (not (unfinished (started length c).drawing)))

-- ---- any write

valid_by : (c : Coprocessor) → size_holds c.size ≡ true → reduced_of c ≡ true → goes_on c ≡ true → valid_of c ≡ true
unfolding valid_of
valid_by c size reduced going = rw (size, reduced, going)

pub write_valid : (w : Write) (c : Coprocessor) → valid_of c ≡ true → valid_of (write_answer w c).coprocessor ≡ true
unfolding placed valid_of stored started with_moved
write_valid w c valid =
    by_write w c (λ (d : Coprocessor). valid_of d ≡ true) (λ refused. valid)
    (λ accepted none. valid_by (stored w c) size reduced (idle_goes_on (stored w c) (accepted_allowed w c accepted).idle))
    (λ accepted starts.
    let allowed = accepted_allowed w c accepted in
    let drawing = start_draws w (stored w c) starts in
    let rules = start_rules w (stored w c) allowed.rules starts in
    valid_by (started w.length (stored w c)) size (started_reduced w.length (stored w c) reduced)
    (started_goes_on w.length (stored w c) drawing (search (allowed.place, and_left)) rules))
  where
    size : size_holds c.size ≡ true
    size = search (valid, and_left, and_right)

    reduced : reduced_of (stored w c) ≡ true
    reduced = stored_reduced w c (search (valid, and_left, and_right))
