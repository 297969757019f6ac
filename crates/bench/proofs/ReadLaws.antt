-- Read by read what is handed on is what the bytes print that came, however they came in pieces: what is printed does not hang on what waits.
use mathlib.Core.Path.{◌≡◌, refl, sym, ap, ◌∙◌}
use mathlib.Core.List.{List, [], ◌++◌}
use Prim.Native.Nat.{ℕ}
use Rattle.bench.specs.Printed.{printed}
use Rattle.bench.specs.Inner.{Session, first_session, bytes_taken, with_text, input_ended}
use Rattle.bench.specs.Played.{Progress, begun, first_progress, turned, Reads, none, again, heard, told}
use Rattle.bench.proofs.SessionLaws.{bytes_append, bytes_apart, end_apart}
use Rattle.bench.proofs.PrintedLaws.{input_printed}

-- after these reads no text waits, and the session is otherwise the one after the bytes that came, whose text was handed on
record Heard (p q : Progress) (came said : List ℕ) : Type 0 where
  left : q.session ≡ with_text [] (bytes_taken came p.session)
  text : said ≡ (bytes_taken came p.session).text

module _ (p : Progress) (empty : p.session.text ≡ []) where
  heard_none : Heard p p [] []
  unfolding bytes_taken with_text
  heard_none = record { left = ap (λ (t : List ℕ). with_text t p.session) empty; text = sym empty }

  heard_again : (q : Progress) (came said : List ℕ) → Heard p q came said → (piece : List ℕ) (next : Progress)
      → next.session ≡ with_text [] (bytes_taken piece q.session)
      → Heard p next (came ++ piece) (said ++ (bytes_taken piece q.session).text)
  unfolding with_text
  heard_again q came said h piece next on =
      let whole = bytes_taken came p.session in let parts = bytes_append came piece p.session ∙ bytes_apart piece whole whole.text in
      record {
        left = on ∙ ap (λ (s : Session). with_text [] (bytes_taken piece s)) h.left ∙ sym (ap (with_text []) parts);
        text = rw (h.text, h.left) (sym (ap (λ (s : Session). s.text) parts));
      }

  heard_all : {q : Progress} (reads : Reads p q) → Heard p q (heard reads) (told reads)
  unfolding heard told turned
  heard_all none = heard_none
  heard_all (again {q} reads on piece) = heard_again q (heard reads) (told reads) (heard_all reads) piece (turned piece q) refl

ended_printed : (q : Progress) (came said : List ℕ) → Heard first_progress q came said → said ++ (input_ended q.session).text ≡ printed came
ended_printed q came said h = rw (h.text, h.left) (end_apart (bytes_taken came first_progress.session)) ∙ input_printed came

-- all that was handed on, with the last line and the memory after the reads, is what is to be printed for what came
pub reads_printed : {q : Progress} (reads : Reads first_progress q) → told reads ++ (input_ended q.session).text ≡ printed (heard reads)
unfolding first_session begun first_progress
reads_printed {q} reads = ended_printed q (heard reads) (told reads) (heard_all first_progress refl reads)
