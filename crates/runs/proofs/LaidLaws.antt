-- What a lane that is laid has, by what it takes.
use Rattle.std.proofs.Common.{◌≡◌, ℕ, true, false, sym}
use mathlib.Core.Bool.{false≢true}
use Rattle.rows.specs.declared.Lane.{Lane}
use Rattle.mixes.specs.declared.logical.Blend.{Blend}
use Rattle.rows.specs.Inner.{wholly, Alike, Inked, ApartFrom, Meets}
use Rattle.runs.specs.declared.plans.Taken.{Taken}
use Rattle.runs.specs.declared.plans.Taken.TheVariants.{Own, Source, Pattern}
use Rattle.runs.specs.Inner.{is_pattern, Separate, Makes, Formed, Laid}

-- a lane that lies apart
pub lies : (t : Taken) (order : ℕ) (l : Lane) (n size : ℕ) → Laid t order l n size → Separate order l n → ApartFrom order l n size
lies t order l n size h apart =
    record { from = h.from; to = h.to; source = h.source; destination = h.destination; apart = apart }

pub meets : (t : Taken) (order : ℕ) (l : Lane) (n size : ℕ) → is_pattern t ≡ true → Laid t order l n size → Separate order l n → Meets l order n size
meets Own order l n size is h apart = absurd (false≢true is)
meets Source order l n size is h apart = absurd (false≢true is)
meets Pattern order l n size is h apart = record { bytes = h.formed.0; ones = h.formed.1; lies = lies Pattern order l n size h apart }

pub inked : (t : Taken) (format : ℕ) (op : ℕ → ℕ → ℕ) (front rear : Blend ℕ) → is_pattern t ≡ true → Makes t format op front rear → Inked op front rear
inked Own format op front rear is h = absurd (false≢true is)
inked Source format op front rear is h = absurd (false≢true is)
inked Pattern format op front rear is h = h

-- what takes no pattern is of one format, and made by the blend
pub same : (t : Taken) (order format : ℕ) → is_pattern t ≡ false → Formed t order format → order ≡ format
same Own order format plain h = h
same Source order format plain h = h
same Pattern order format plain h = absurd (false≢true (sym plain))

pub alike : (t : Taken) (format : ℕ) (op : ℕ → ℕ → ℕ) (front rear : Blend ℕ) → is_pattern t ≡ false → Makes t format op front rear → Alike format op (wholly front)
alike Own format op front rear plain h = h
alike Source format op front rear plain h = h
alike Pattern format op front rear plain h = absurd (false≢true (sym plain))
