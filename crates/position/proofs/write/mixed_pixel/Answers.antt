-- `mixed_pixel` is the definition, of what was read for each part of it; a logical mix is its ink's blend.
use Rattle.std.proofs.Common.{◌≡◌, ℕ, Bool, List, ap, ◌∙◌}
use Rattle.numbers.specs.Choose.{choose}
use Rattle.mixes.specs.declared.logical.Blend.{Blend}
use Rattle.mixes.specs.Mixes.{mixed}
use Rattle.mixes.specs.Inner.{blended}
use Rattle.parts.specs.declared.shapes.Ink.{Ink}
use Rattle.moves.specs.declared.Pen.{Pen}
use Rattle.places.specs.declared.Setup.{Setup}
use Rattle.position.specs.declared.Target.{Target}
use Rattle.position.specs.Drawn.{is_foreground, ink_of, picked, mixed_pixel}
use Rattle.position.specs.Inner.{pattern_read, Aimed}
use Rattle.position.proofs.Safety.{picked_read}
use Rattle.position.proofs.write.mixed_pixel.Goals as goal
use Rattle.position.proofs.write.mixed_pixel.Goals.{After-is_foreground-foreground}

-- the mix of an ink, of what was read
abbrev mix_of : Setup → Target → Bool → Ink → ℕ
mix_of s target takes ink = mixed s.brush.depth.bits ink.mix s.brush.depth.planes (choose takes target.source ink.colour) target.pixel

-- that of the ink that the pattern picks is the definition
found : (c : After-is_foreground-foreground) (memory : List ℕ) (pen : Pen) → let a = c.args in
    let foreground = c.is_foreground-foreground.result in
    let brush = a.setup.brush in
    a.pattern ≡ pattern_read a.setup memory pen → Aimed a.setup memory pen a.target
    → mix_of a.setup a.target (choose foreground brush.flow.foreground brush.flow.background)
    (choose foreground brush.colours.foreground brush.colours.background)
    ≡ mixed_pixel a.setup memory pen
unfolding ink_of picked mixed_pixel
found c memory pen read aimed =
    let s = c.args.setup in
    let foreground = is_foreground s memory pen in
    rw (c.is_foreground-foreground.ensures memory pen read aimed.source, aimed.source, aimed.pixel, picked_read s memory pen foreground (ink_of s memory pen).colour)

pub returns-then-ink-lt16 : goal.returns-then-ink-lt16
returns-then-ink-lt16 c = λ memory pen read aimed.
    let target = c.args.target in
    c.blend_pixels.ensures
    ∙ ap (λ (b : Blend ℕ). blended c.args.setup.brush.depth.bits b target.source target.pixel) c.pick.ensures
    ∙ c.requires.1 c.is_foreground-foreground.result (rw c.pick-ink.ensures at c.if-ink-lt16.true) _ _
    ∙ found (goal.at.returns-then-ink-lt16 c).After-is_foreground-foreground memory pen read aimed

pub returns : goal.returns
returns c = λ memory pen read aimed.
    rw (c.mix.ensures, c.pick-2.ensures, c.pick-takes.ensures, c.pick-ink.ensures) (found (goal.at.returns c).After-is_foreground-foreground memory pen read aimed)
