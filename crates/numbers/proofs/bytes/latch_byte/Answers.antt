-- `latch_byte` takes the write's byte exactly where the write covers the offset: the two tests are the two halves of `covers`.
use borrow.Author.Tests.{lt-leb, le-leb, lt-ltb, le-ltb}
use Rattle.numbers.specs.Bytes.{covers}
use Rattle.numbers.proofs.bytes.latch_byte.Goals as goal
use Rattle.numbers.proofs.bytes.latch_byte.Goals.{else-w-at-via-then-w-at+else-at-w, else-w-at-via-else-w-at}

pub returns-then-at-w : goal.returns-then-at-w
unfolding covers
returns-then-at-w c = simp (le-leb _ _ c.if-w-at.true, lt-ltb _ _ c.if-at-w.true) c.byte.ensures

pub returns-else-w-at : goal.returns-else-w-at
unfolding covers
returns-else-w-at c =
    elim c.else-w-at.branch [
      | else-w-at-via-then-w-at+else-at-w w ↦ simp (le-leb _ _ w.if-w-at.true, le-ltb _ _ w.if-at-w.false)
      | else-w-at-via-else-w-at w ↦ simp (lt-leb _ _ w.if-w-at.false)
    ]
