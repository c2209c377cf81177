use Rattle.track_ops.proofs.JoinedLimits.{few_together, limit_told}
use Rattle.track_ops.proofs.adding.limit_at.Goals as goal

pub joined_limit-requires-clause-samples : goal.joined_limit-requires-clause-samples
joined_limit-requires-clause-samples c =
    (few_together c.args.movie.now c.args.other.now c.args.choice c.args.own c.args.added c.tracks-own_tracks.ensures.fits c.tracks-other_tracks.ensures.fits c.requires.own c.requires.added).0

pub joined_limit-requires-clause-tracks : goal.joined_limit-requires-clause-tracks
joined_limit-requires-clause-tracks c =
    (few_together c.args.movie.now c.args.other.now c.args.choice c.args.own c.args.added c.tracks-own_tracks.ensures.fits c.tracks-other_tracks.ensures.fits c.requires.own c.requires.added).1

pub returns : goal.returns
returns c =
    limit_told c.args.movie.now c.args.other.now c.args.choice c.args.own c.args.added c.args.scale c.scale.result c.scale-2.result c.lasts_long-own_long.result c.lasts_long-added_long.result c.joined_limit.result
    c.tracks-own_tracks.ensures.whole c.tracks-other_tracks.ensures.whole c.tracks-own_tracks.ensures.fits c.tracks-other_tracks.ensures.fits c.requires.own c.requires.added c.requires.multiple c.requires.whole
    c.scale.ensures c.scale-2.ensures c.lasts_long-own_long.ensures c.lasts_long-added_long.ensures c.joined_limit.ensures
