use Rattle.std.proofs.Common.{ℕ, ◌/◌, refl, sym, ap}
use Rattle.mp_clip.proofs.Shapes.{no_media, no_movie, is_shape}
use Rattle.mp_clip.proofs.shape.shape_of.Goals as goal

pub returns-in-None : goal.returns-in-None
returns-in-None c = λ cuts counted.
    let none = rw (c.from.ensures, c.from-2.ensures) at c.in-None.ensures in
    no_media c.wholeness_is_division.ensures c.args.scales c.args.tally cuts counted c.requires.media c.requires.movie c.requires.begin c.requires.end (sym none)

pub returns-in-None-grown_scale : goal.returns-in-None-grown_scale
returns-in-None-grown_scale c = λ cuts counted.
    let none = rw (c.from-3.ensures, c.from-4.ensures) at c.in-None-grown_scale.ensures in
    no_movie c.wholeness_is_division.ensures c.args.scales c.args.tally cuts counted c.requires.media c.requires.movie c.requires.begin c.requires.end (sym none)

pub returns : goal.returns
returns c = λ cuts counted.
    let media = rw (c.from.ensures, c.from-2.ensures) at c.in-Some.ensures in
    let movie = rw (c.from-3.ensures, c.from-4.ensures) at c.in-Some-grown_scale.ensures in
    is_shape c.wholeness_is_division.ensures c.args.scales c.args.tally cuts counted c.requires.media c.requires.movie c.requires.begin c.requires.end _ (sym media) (sym movie)
    (ap (λ (x : ℕ). c.args.tally.total / x) c.from-5.ensures) (rw (c.or_zero.ensures, c.from-starts.ensures) refl) (ap (λ (x : ℕ). c.args.tally.greatest / x) c.from-starts.ensures)
