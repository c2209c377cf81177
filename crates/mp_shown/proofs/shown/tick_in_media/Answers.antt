use Rattle.std.proofs.Common.{refl}
use Rattle.std.specs.Prelude.{unsigned_abs}
use Rattle.std.proofs.lemmas.Bool.{lt-ltb, le-ltb}
use Rattle.mp_movie.specs.Durations.{extent}
use Rattle.mp_shown.proofs.Places.{tick_of_media}
use Rattle.mp_shown.proofs.shown.tick_in_media.Goals as goal

pub returns-then-moment-from : goal.returns-then-moment-from
returns-then-moment-from c =
    let lt = rw (c.ticks-moment.ensures.product, c.from-d.ensures, c.from.ensures, c.extent.ensures) at c.if-moment-from.true in
    rw (c.ticks-moment.ensures.product, c.from-d.ensures, tick_of_media c.args.movie_scale c.args.scale c.args.at.d (unsigned_abs c.args.at.n) (extent c.args.samples.now) c.requires.movie c.requires.scale c.requires.range.some, lt-ltb _ _ lt) refl

pub returns : goal.returns
returns c =
    let le = rw (c.ticks-moment.ensures.product, c.from-d.ensures, c.from.ensures, c.extent.ensures) at c.if-moment-from.false in
    rw (tick_of_media c.args.movie_scale c.args.scale c.args.at.d (unsigned_abs c.args.at.n) (extent c.args.samples.now) c.requires.movie c.requires.scale c.requires.range.some, le-ltb _ _ le) refl
