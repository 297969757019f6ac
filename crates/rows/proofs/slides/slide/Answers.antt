-- `rows::slides::slide` goes down by what the pixels are apart in their bytes.
use Rattle.std.proofs.Common.{◌≡◌}
use Rattle.pixels.specs.Inner.{shift_at}
use Rattle.rows.proofs.ApartLaws.{turned_of}
use Rattle.rows.proofs.slides.slide.Goals as goal
use Rattle.rows.proofs.slides.slide.Goals.{After-shift_at-there}

-- the two shifts
here : (c : After-shift_at-there) → let l = c.args.lane in c.shift_at-here.result ≡ shift_at l.format l.to
here c = c.shift_at-here.ensures

there : (c : After-shift_at-there) → let l = c.args.lane in c.shift_at-there.result ≡ shift_at l.format l.from
there c = c.shift_at-there.ensures

pub slide_down-requires : goal.slide_down-requires
slide_down-requires c =
    let l = c.args.lane in
    let h = c.requires in
    let t = turned_of l.format l.from l.to h.1 in
    rw (here (goal.at.slide_down-requires c).After-shift_at-there, there (goal.at.slide_down-requires c).After-shift_at-there) (h.0, record { some = t.0; few = t.1; turned = t.2 })
