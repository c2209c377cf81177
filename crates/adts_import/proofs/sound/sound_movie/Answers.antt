use Rattle.std.proofs.Common.{ap, ◌∙◌}
use Rattle.mp_movie.specs.Placed.{movie_of_track, plain_scale}
use Rattle.adts_import.proofs.Fitting.{given, not_refused, parts_fit, within_limits}
use Rattle.adts_import.proofs.sound.sound_movie.Goals as goal

pub from_track-requires : goal.from_track-requires
from_track-requires c =
    let track = c.in_ok-track.ensures in
    rw track.track (parts_fit c.args.stream c.args.pieces.items c.args.file c.args.size c.plain_heads_fit.ensures.sound track.entry c.requires.fits c.requires.payloads)

pub unreachable-requires : goal.unreachable-requires
unreachable-requires c =
    let fits = within_limits c.args.stream c.args.pieces.items c.args.file c.args.size c.requires.payloads in
    not_refused _ _ _ _ c.in-Err-Bad-default.field-0-0-is (rw c.in_ok-track.ensures.track fits) c.in-Err-Bad-default.ensures.movie

pub returns-in-Ok : goal.returns-in-Ok
returns-in-Ok c = given _ _ _ c.in-Ok.ensures.movie ∙ ap (movie_of_track plain_scale) c.in_ok-track.ensures.track
