-- The laws of runs: positions come one after another, and an idle run stays as it is.
use Rattle.std.proofs.Common.{◌≡◌, ℕ, zero, suc, ◌+◌, ◌-◌, ◌≤◌, Bool, true, false, ◌&&◌, ltb, sym, refl, ap, add-zero, add-suc, add-one, arith, ltb-false}
use Rattle.parts.specs.Drawings.{unfinished}
use Rattle.places.specs.declared.Setup.{Setup}
use Rattle.runs.specs.Runs.{Run, positioned, stepped, after}

-- ---- one position

pub stepped_idle : (s : Setup) (t : Run) → unfinished t.pen.drawing ≡ false → stepped s t ≡ t
unfolding stepped
stepped_idle s t idle = simp idle

pub stepped_on : (s : Setup) (t : Run) → unfinished t.pen.drawing ≡ true → stepped s t ≡ positioned s t
unfolding stepped
stepped_on s t going = simp going

-- ---- many positions

pub after_add : (s : Setup) (a b : ℕ) (t : Run) → after s (a + b) t ≡ after s b (after s a t)
unfolding after
after_add s a zero t = rw add-zero
after_add s a (suc b) t = rw (add-suc, after_add s a b t)

pub after_idle : (s : Setup) (n : ℕ) (t : Run) → unfinished t.pen.drawing ≡ false → after s n t ≡ t
unfolding after
after_idle s zero t idle = refl
after_idle s (suc n) t idle = rw (after_idle s n t idle) (stepped_idle s t idle)

-- a run that is idle is the run of all of them, and so is one that has used up its allowance
pub after_rest : (s : Setup) (k n : ℕ) (t u : Run) → after s k t ≡ u → k ≤ n → unfinished u.pen.drawing ≡ false → after s n t ≡ u
after_rest s k n t u e h idle =
    let whole : n ≡ k + (n - k) = omega arith in
    rw (whole, after_add s k (n - k) t, e) (after_idle s (n - k) u idle)

pub after_stop : (s : Setup) (k n : ℕ) (t u : Run) → after s k t ≡ u → k ≤ n → (ltb k n && unfinished u.pen.drawing) ≡ false → after s n t ≡ u
after_stop s k n t u e h = by (ltb k n) refl
  where
    by : (less : Bool) → ltb k n ≡ less → (less && unfinished u.pen.drawing) ≡ false → after s n t ≡ u
    by true f idle = after_rest s k n t u e h idle
    by false f idle = let all : n ≡ k = omega (arith, ltb-false k n f) in rw all e

pub after_on : (s : Setup) (k : ℕ) (t u : Run) → after s k t ≡ u → unfinished u.pen.drawing ≡ true → after s (k + 1) t ≡ positioned s u
unfolding after
after_on s k t u e going = rw (add-one, e) (stepped_on s u going)

-- what is equal of two runs
pub parts : (t u : Run) → t ≡ u → (u.pen ≡ t.pen) × (u.done ≡ t.done) × (u.memory ≡ t.memory)
parts t u e = (ap (λ (r : Run). r.pen) (sym e), ap (λ (r : Run). r.done) (sym e), ap (λ (r : Run). r.memory) (sym e))
