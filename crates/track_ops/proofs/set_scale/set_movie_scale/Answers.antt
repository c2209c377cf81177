use Rattle.std.proofs.Common.{◌∙◌}
use Rattle.track_ops.proofs.MovieScaleIsSet.{movie_done, movie_fits, movie_refused, movie_short, parts_in_scale}
use Rattle.track_ops.proofs.set_scale.set_movie_scale.Goals as goal

pub returns-in-Some : goal.returns-in-Some
returns-in-Some c =
    movie_refused c.columns_are_kept.ensures c.args.scale c.args.movie.now c.in-Some.code c.at.result c.tracks-tracks.ensures.whole c.tracks-tracks.ensures.fits c.in-Some.ensures c.at.ensures

pub set_parts_scale-requires-clause-some : goal.set_parts_scale-requires-clause-some
set_parts_scale-requires-clause-some c = c.take-parts.ensures.whole.bare.header.some_scale

pub set_parts_scale-requires-clause-short : goal.set_parts_scale-requires-clause-short
set_parts_scale-requires-clause-short c =
    movie_short c.args.scale c.args.movie.now c.take-parts.result c.tracks-tracks.ensures.whole c.tracks-tracks.ensures.fits c.in_default.ensures c.take-parts.ensures.parts

pub from_parts-requires-clause-whole : goal.from_parts-requires-clause-whole
from_parts-requires-clause-whole c = rw c.set_parts_scale.ensures.parts (parts_in_scale c.args.scale c.take-parts.result c.requires c.set_parts_scale.ensures.below c.take-parts.ensures.whole)

pub from_parts-requires-clause-fits : goal.from_parts-requires-clause-fits
from_parts-requires-clause-fits c =
    rw c.set_parts_scale.ensures.parts (movie_fits c.args.scale c.args.movie.now c.take-parts.result c.tracks-tracks.ensures.whole c.tracks-tracks.ensures.fits c.in_default.ensures c.take-parts.ensures.parts)

pub returns : goal.returns
returns c =
    movie_done c.columns_are_kept.ensures c.args.scale c.args.movie.now c.take-parts.result c.from_parts.result c.tracks-tracks.ensures.whole c.tracks-tracks.ensures.fits c.in_default.ensures c.take-parts.ensures.parts
    (c.from_parts.ensures ∙ c.set_parts_scale.ensures.parts)
