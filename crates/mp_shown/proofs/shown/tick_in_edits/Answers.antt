use Rattle.std.proofs.Common.{sym, refl}
use Rattle.std.specs.Prelude.{unsigned_abs}
use Rattle.mp_shown.proofs.Places.{tick_of_place}
use Rattle.mp_shown.proofs.shown.tick_in_edits.Goals as goal

pub returns-in-Some : goal.returns-in-Some
returns-in-Some c =
    let place = rw c.ticks-moment.ensures.product at c.in-Some.ensures.place in
    rw (tick_of_place c.args.movie_scale c.args.scale c.args.at.d (unsigned_abs c.args.at.n) c.args.edits.now c.requires.movie c.requires.scale c.requires.range.some, sym place, c.tick_of.ensures) (rw (c.from.ensures, c.from-2.ensures) refl)

pub returns-in-None : goal.returns-in-None
returns-in-None c =
    let place = rw c.ticks-moment.ensures.product at c.in-None.ensures.place in
    rw (tick_of_place c.args.movie_scale c.args.scale c.args.at.d (unsigned_abs c.args.at.n) c.args.edits.now c.requires.movie c.requires.scale c.requires.range.some, sym place) refl
