-- A start is accepted exactly where its four rules hold: a rule that fails answers before Ok is reached.
use Rattle.std.proofs.Common.{Ok}
use mathlib.Core.Path.{◌≡◌, refl}
use mathlib.Core.Bool.{true, not}
use mathlib.Core.List.{List}
use Prim.Native.Nat.{ℕ}
use borrow.Author.Tests.{not-false}
use Rattle.pixels.specs.declared.Map.{Map}
use Rattle.parts.specs.declared.shapes.Registers.{Registers}
use Rattle.parts.specs.Refusals.{is_accepted}
use Rattle.parts.proofs.RefusalLaws.{passed}
use Rattle.rules.specs.Rules.{fields_hold, mixes_hold, formats_hold, ends_hold, start_refusal}

module _ (size : ℕ) (maps : List Map) (r : Registers) where
  -- the four rules of a start
  pub record Holds : Type 0 where
    pub fields : fields_hold r.figure.operations ≡ true
    pub mixes : mixes_hold r.colours ≡ true
    pub formats : formats_hold r.figure.operations maps ≡ true
    pub ends : ends_hold r.figure.operations maps size ≡ true

  pub start_accepted : Holds → start_refusal size maps r ≡ Ok tt
  unfolding start_refusal
  start_accepted h = rw (h.fields, h.mixes, h.formats, h.ends)

  pub accepted_holds : is_accepted (start_refusal size maps r) ≡ true → Holds
  unfolding start_refusal
  accepted_holds e =
      let fields = passed (not (fields_hold r.figure.operations)) _ _ (λ t. refl) e in
      let mixes = passed (not (mixes_hold r.colours)) _ _ (λ t. refl) fields.1 in
      let formats = passed (not (formats_hold r.figure.operations maps)) _ _ (λ t. refl) mixes.1 in
      let ends = passed (not (ends_hold r.figure.operations maps size)) _ _ (λ t. refl) formats.1 in
      record {
        fields = not-false _ fields.0;
        mixes = not-false _ mixes.0;
        formats = not-false _ formats.0;
        ends = not-false _ ends.0;
      }
