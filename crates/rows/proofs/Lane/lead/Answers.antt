-- `rows::Lane::lead` is what is left of the byte, if anything of it is gone: as many pixels further a byte begins.
use Rattle.std.proofs.Common.{◌≡◌, ℕ, ◌+◌, ◌-◌, ◌/◌, ◌%◌, ◌^◌, ◌<◌, ◌≤◌, Bool, true, false, sym, refl, ◌∙◌, zero-le, arith}
use mathlib.Core.Bool.{false≢true}
use Rattle.pixels.specs.Maps.{bits_of}
use Rattle.rows.specs.Inner.{along, Reach, gone_at}
use Rattle.rows.proofs.LaneLaws.{along_none, none_gone, gone_on, gone_lt, per_bits}
use Rattle.rows.proofs.Lane.lead.Goals as goal
use Rattle.rows.proofs.Lane.lead.Goals.{After-gone-passed}

-- going back there is room for what is left
room : (back : Bool) (n count r : ℕ) → Reach back n count (2 ^ 32) → r < count → back ≡ true → r ≤ n
room true n count r reach less e = omega (arith, reach.0)
room false n count r reach less e = absurd (false≢true e)

-- fewer are gone than a byte has
gone-few : (c : After-gone-passed) → c.gone-passed.result ≤ 8 / bits_of c.args.self.format
gone-few c = let l = c.args.self in omega (arith, c.gone-passed.ensures, gone_lt l.back l.format l.to)

pub returns-then-passed-eq0 : goal.returns-then-passed-eq0
returns-then-passed-eq0 c =
    let l = c.args.self in
    let none = sym c.gone-passed.ensures ∙ c.if-passed-eq0.true in (
      zero-le,
      λ more. rw (along_none l.back l.to) (none_gone l.back l.format l.to none),
      per_bits l.format (gone_at l.back l.format l.to + 0) (omega (arith, gone_lt l.back l.format l.to)),
    )

pub overflow_sub-whole : goal.overflow_sub-whole
unfolding bits_of
overflow_sub-whole c = gone-few (goal.at.overflow_sub-whole c).After-gone-passed

pub overflow_sub-result : goal.overflow_sub-result
unfolding bits_of
overflow_sub-result c = gone-few (goal.at.overflow_sub-result c).After-gone-passed

pub returns-then-whole-passed : goal.returns-then-whole-passed
unfolding bits_of
returns-then-whole-passed c =
    let l = c.args.self in
    let left = 8 / 2 ^ (l.format % 4) - c.gone-passed.result in
    let all : gone_at l.back l.format l.to + left ≡ 8 / bits_of l.format = omega (arith, c.gone-passed.ensures, gone-few (goal.at.returns-then-whole-passed c).After-gone-passed) in
    let less : left ≤ c.args.count = omega arith in (
      less,
      λ more. none_gone l.back l.format (along l.back l.to left) (gone_on l.back l.format l.to left all (room l.back l.to c.args.count left c.requires more)),
      per_bits l.format (gone_at l.back l.format l.to + left) (omega arith),
    )

pub returns-else-whole-passed : goal.returns-else-whole-passed
unfolding bits_of
returns-else-whole-passed c =
    let l = c.args.self in
    let h = gone-few (goal.at.returns-else-whole-passed c).After-gone-passed in
    let end : 8 / 2 ^ (l.format % 4) ≡ 8 / bits_of l.format = refl in (
      omega arith,
      λ more. absurd (omega arith),
      per_bits l.format (gone_at l.back l.format l.to + c.args.count) (omega (arith, c.gone-passed.ensures)),
    )
