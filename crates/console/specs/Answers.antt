-- What comes of a command, by what the coprocessor's calls promise.
use Rattle.std.specs.Prelude.{List, ℕ, Result, Ok, Err}
use Rattle.parts.specs.declared.refusals.Refusal.{Refusal}
use Rattle.parts.specs.Refusals.{number_of}
use Rattle.coprocessor.specs.declared.Coprocessor.{Coprocessor}
use Rattle.coprocessor.specs.Writes.{write_answer}
use Rattle.coprocessor.specs.Runs.{run_answer, run_memory}
use Rattle.console.specs.declared.Command.{Command}
use Rattle.console.specs.declared.Command.TheVariants.{Write, Run, Blank, Neither}
use Rattle.console.specs.declared.Answer.{Answer}
use Rattle.console.specs.declared.Answer.TheVariants.{Done, Refused, Nothing, Neither as Unread}
use Rattle.console.specs.declared.answers.Told.{Told}

-- 01, the bench program: the positions done, or the refusal
unfoldable pub outcome_of : Result Unit Refusal → ℕ → Answer
outcome_of (Ok _) positions = Done positions
outcome_of (Err refusal) positions = Refused (number_of refusal)

-- 01, the bench program: 0 positions for writes
unfoldable pub write_told : (offset length value : ℕ) → Coprocessor → Told
write_told offset length value c =
    record {
      answer = outcome_of (write_answer (record { offset = offset; length = length; value = value }) c).outcome 0;
      coprocessor = (write_answer (record { offset = offset; length = length; value = value }) c).coprocessor;
    }

-- 01, the bench program: the positions that a run did
unfoldable pub run_told : ℕ → Coprocessor → List ℕ → Told
run_told allowance c memory =
    record {
      answer = outcome_of (run_answer c memory allowance).outcome (run_answer c memory allowance).done;
      coprocessor = (run_answer c memory allowance).coprocessor;
    }

-- docs/DECISIONS.md, 44: a blank line prints nothing, and a line that is neither says so; both change nothing
unfoldable pub told_of : Command → Coprocessor → List ℕ → Told
told_of (Write offset length value) c memory = write_told offset length value c
told_of (Run allowance) c memory = run_told allowance c memory
told_of Blank c memory = record { answer = Nothing; coprocessor = c }
told_of Neither c memory = record { answer = Unread; coprocessor = c }

-- 01, the bench program: the memory after the command; only a run changes it
unfoldable pub memory_after : Command → Coprocessor → List ℕ → List ℕ
memory_after (Write offset length value) c memory = memory
memory_after (Run allowance) c memory = run_memory c memory allowance
memory_after Blank c memory = memory
memory_after Neither c memory = memory
