use Rattle.std.proofs.Common.{◌∙◌, sym}
use Rattle.mp_interleave.proofs.Places.{first-is, none-left}
use Rattle.mp_interleave.proofs.next.next_track.Goals as goal

pub returns-in-Some-clause-some : goal.returns-in-Some-clause-some
returns-in-Some-clause-some c =
    first-is c.args.tracks.now c.args.window c.args.done c.args.next.now (c.in-Some.track, c.in-Some.field-0-1) c.requires.place (sym c.in-Some.is ∙ c.least_track.ensures)

pub returns-in-None-clause-none : goal.returns-in-None-clause-none
returns-in-None-clause-none c = λ _. none-left c.args.tracks.now c.args.window c.args.done c.args.next.now c.requires.place (sym c.in-None.is ∙ c.least_track.ensures)
