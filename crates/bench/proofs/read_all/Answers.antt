-- `read_all` reads while there may be more, and while reads are left.
use Rattle.std.proofs.Common.{rules, ◌≡◌, ℕ, ◌-◌, ◌<◌, true, refl, ◌∙◌, ◌+◌, arith, lt-ltb, le-ltb}
use Rattle.bench.specs.Inner.{session_of}
use Rattle.bench.specs.Played.{reads_on, progress_of, begun, Reads, none, again}
use Rattle.bench.proofs.read_all.Goals as goal
use Rattle.bench.proofs.read_all.Goals.{After-turn}

-- where a read is left
some_left : (left : ℕ) → 0 < left → reads_on true left ≡ true
unfolding reads_on
some_left left some = lt-ltb 0 left some

-- a turn is one read more
one_more : (g : _) (c : After-turn g) → let left = 18446744073709551615 - c.loop.counter in
    Reads (begun (session_of c.args.bench.now)) (progress_of c.turn.new.bench c.turn.result (left - 1))
unfolding progress_of
one_more g c =
    let left = 18446744073709551615 - c.loop.counter in let t = c.turn.ensures.turned left in
    rw t.same (again c.loop.invariant.0 (some_left left (omega (arith, c.loop-test.true))) _)

pub loop-init : goal.loop-init
unfolding begun progress_of
loop-init g c = (none, c.requires, refl)

pub loop-preserved : goal.loop-preserved
loop-preserved g c =
    let less : 18446744073709551615 - (c.loop.counter + 1) ≡ 18446744073709551615 - c.loop.counter - 1 = omega arith in
    let more : c.turn.result ≡ true = search rules in
    let reads = one_more g (goal.at.loop-preserved g c).After-turn in
    (rw less (rw more at reads), c.turn.ensures.none, c.turn.auto.piece ∙ c.loop.invariant.2)

pub returns-then-not-turn : goal.returns-then-not-turn
unfolding progress_of reads_on
returns-then-not-turn g c = record {
  read = record {
    last = progress_of c.turn.new.bench c.turn.result (18446744073709551615 - c.loop.counter - 1);
    reads = one_more g (goal.at.returns-then-not-turn g c).After-turn;
    ended = rw c.if-not-turn.true;
    same = refl;
  };
  none = c.turn.ensures.none;
}

pub returns : goal.returns
unfolding progress_of reads_on
returns g c = record {
  read = record {
    last = progress_of c.loop.bench true (18446744073709551615 - c.loop.counter);
    reads = c.loop.invariant.0;
    ended = le-ltb 0 _ (omega (arith, c.loop-test.false));
    same = refl;
  };
  none = c.loop.invariant.1;
}
