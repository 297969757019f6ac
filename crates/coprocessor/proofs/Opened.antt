-- What a load answers, by whether the image loads: the record that it is, or refusal 10.
use Rattle.std.proofs.Common.{Ok, Err}
use mathlib.Core.Path.{◌≡◌, refl, sym, ap, ◌∙◌}
use mathlib.Core.Bool.{Bool, true, false}
use mathlib.Core.List.{List}
use Prim.Native.Nat.{ℕ}
use lib.Dec.{eqb}
use lib.ListN.{length}
use Rattle.numbers.specs.Choose.{choose}
use Rattle.numbers.proofs.Choices.{and_left}
use Rattle.parts.specs.declared.refusals.Refusal.TheVariants.{Image}
use Rattle.parts.specs.Refusals.{is_accepted, refusal_number}
use Rattle.coprocessor.specs.declared.Coprocessor.{Coprocessor}
use Rattle.coprocessor.specs.declared.Written.{Written}
use Rattle.image.specs.Layout.{image_length}
use Rattle.coprocessor.specs.Images.{loads, loaded, load_answer}
use Rattle.coprocessor.specs.Inner.{opened_of}

pub opened_accepts : (c : Coprocessor) (b : List ℕ) → is_accepted (load_answer c b).outcome ≡ loads b
unfolding load_answer
opened_accepts c b = by (loads b)
  where
    by : (t : Bool) → is_accepted (choose {A = Written} t (record { outcome = Ok tt; coprocessor = loaded b })
        (record { outcome = Err Image; coprocessor = c })).outcome ≡ t
    by true = refl
    by false = refl

pub opened_record : (c : Coprocessor) (b : List ℕ) → loads b ≡ true → (load_answer c b).coprocessor ≡ loaded b
unfolding load_answer
opened_record c b e = simp e

pub opened_refused : (c : Coprocessor) (b : List ℕ) → loads b ≡ false → (load_answer c b).outcome ≡ Err Image
unfolding load_answer
opened_refused c b e = simp e

-- ---- an image that is opened

pub open_accepts : (b : List ℕ) → is_accepted (opened_of b).outcome ≡ loads b
unfolding opened_of
open_accepts b = by (loads b)
  where
    by : (t : Bool) → is_accepted (choose t (Ok tt) (Err Image)) ≡ t
    by true = refl
    by false = refl

pub open_record : (b : List ℕ) → loads b ≡ true → (opened_of b).coprocessor ≡ loaded b
unfolding opened_of loads
open_record b e = let long : eqb (length b) image_length ≡ true = search (e, and_left) in rw long

pub open_refused : (b : List ℕ) → loads b ≡ false → (opened_of b).outcome ≡ Err Image
unfolding opened_of
open_refused b e = simp e

pub open_number : (b : List ℕ) → refusal_number (opened_of b).outcome ≡ choose (loads b) 0 10
unfolding opened_of
open_number b = by (loads b)
  where
    by : (t : Bool) → refusal_number (choose t (Ok tt) (Err Image)) ≡ choose t 0 10
    by true = refl
    by false = refl

-- a load answers what it opens, where that is accepted
pub load_opened : (c : Coprocessor) (b : List ℕ) → loads b ≡ true → load_answer c b ≡ opened_of b
unfolding load_answer opened_of
load_opened c b e = rw e (λ i. record { outcome = Ok tt; coprocessor = sym (open_record b e) i })

-- ---- what a call knows once it has opened an image

-- an accepted opening is that of an image that loads
pub told : (image : List ℕ) (opened : Written) → opened ≡ opened_of image → is_accepted opened.outcome ≡ loads image
told image opened e = ap (λ (w : Written). is_accepted w.outcome) e ∙ open_accepts image

-- the record that the image is
pub begun : (image : List ℕ) (opened : Written) → opened ≡ opened_of image → loads image ≡ true → opened.coprocessor ≡ loaded image
begun image opened e good = ap (λ (w : Written). w.coprocessor) e ∙ open_record image good
