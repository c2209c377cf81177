use Rattle.mp_ports.specs.Gives.{refusal}
use Rattle.nhnt_import.proofs.Fitting.{few_pieces, parts_fit, pictures_fit, refusal_is, refused_settled, read_settled}
use Rattle.nhnt_import.proofs.movie.pair_movie.Goals as goal

pub pair_track-requires-clause-few : goal.pair_track-requires-clause-few
pair_track-requires-clause-few c = few_pieces c.args.file c.args.size c.args.columns c.requires.units.0 c.requires.units.1

pub from_track-requires : goal.from_track-requires
from_track-requires c =
    let track = c.in_ok-track.ensures in
    let heads = c.plain_heads_fit.ensures in
    rw track.track
    (parts_fit c.args.head c.args.info.items c.args.file c.args.size c.args.columns c.requires.units.0 heads.sound (pictures_fit heads.track) track.entry c.requires.fits c.requires.units.1)

pub returns-in-Ok-clause-movie : goal.returns-in-Ok-clause-movie
returns-in-Ok-clause-movie c = λ units are.
    read_settled c.args.head c.args.info.items c.args.file c.args.size c.args.columns units _ c.in-Ok.movie c.in_ok-track.ensures.track are c.in-Ok.ensures.movie

pub returns-clause-movie : goal.returns-clause-movie
returns-clause-movie c = λ units are.
    refused_settled c.args.head c.args.info.items c.args.file c.args.size c.args.columns units _ (refusal c.in-Err.fail) c.in_ok-track.ensures.track are c.in-Err.ensures.movie

pub returns-clause-refusal : goal.returns-clause-refusal
returns-clause-refusal c =
    let units = c.requires.units.0 in
    refusal_is c.in-Err.fail units _
    (refused_settled c.args.head c.args.info.items c.args.file c.args.size c.args.columns units _ (refusal c.in-Err.fail) c.in_ok-track.ensures.track c.requires.units.1 c.in-Err.ensures.movie)
