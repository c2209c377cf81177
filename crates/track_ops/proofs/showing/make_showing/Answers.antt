use Rattle.std.proofs.Common.{◌≡◌, ℕ, ◌<◌, rules, subst, sym}
use Rattle.track_ops.proofs.ShowingFound.{IsFound, found_limit, found_no_media, found_no_scale, found_showing, found_shown, there_at}
use Rattle.track_ops.proofs.TrackIsSet.{track_some}
use Rattle.track_ops.specs.Wide.{as_segments}
use Rattle.track_ops.proofs.showing.make_showing.Goals as goal

pub limit_of-requires : goal.limit_of-requires
limit_of-requires c =
    let there = there_at c.args.at c.index-tracks-at.result c.args.movie.now c.tracks.result.now c.tracks.ensures.whole c.tracks.ensures.fits c.tracks.ensures.tracks c.requires.inside c.index-tracks-at.is in
    track_some c.index-tracks-at.result.number c.args.at c.index-tracks-at.result c.args.movie.now there

pub returns-in_default-clause-shown : goal.returns-in_default-clause-shown
returns-in_default-clause-shown c = λ d.
    let there = there_at c.args.at c.index-tracks-at.result c.args.movie.now c.tracks.result.now c.tracks.ensures.whole c.tracks.ensures.fits c.tracks.ensures.tracks c.requires.inside c.index-tracks-at.is in
    let same : c.track.inside.scale ≡ c.index-tracks-at.result.scale = search rules in
    let found : IsFound c.args.at c.index-tracks-at.result c.args.movie.now (as_segments c.args.segments.now) c.scale-movie_scale.result c.track.inside.scale c.divisor_of_starts-starts.result c.divisor_of_lengths-lengths.result = record {
      there = there;
      movie_is = c.scale-movie_scale.ensures;
      track_is = same;
      firsts = c.divisor_of_starts-starts.ensures.common;
      longs = c.divisor_of_lengths-lengths.ensures.common;
    } in
    found_no_media c.wholeness_is_division.ensures c.divisors_give_scales.ensures c.args.at c.index-tracks-at.result c.args.movie.now (as_segments c.args.segments.now) c.scale-movie_scale.result c.track.inside.scale c.divisor_of_starts-starts.result c.divisor_of_lengths-lengths.result found c.at.result d c.in_default.ensures c.at.ensures

pub returns-in_default-scale_for-clause-shown : goal.returns-in_default-scale_for-clause-shown
returns-in_default-scale_for-clause-shown c = λ d.
    let there = there_at c.args.at c.index-tracks-at.result c.args.movie.now c.tracks.result.now c.tracks.ensures.whole c.tracks.ensures.fits c.tracks.ensures.tracks c.requires.inside c.index-tracks-at.is in
    let same : c.track.inside.scale ≡ c.index-tracks-at.result.scale = search rules in
    let found : IsFound c.args.at c.index-tracks-at.result c.args.movie.now (as_segments c.args.segments.now) c.scale-movie_scale.result c.track.inside.scale c.divisor_of_starts-starts.result c.divisor_of_lengths-lengths.result = record {
      there = there;
      movie_is = c.scale-movie_scale.ensures;
      track_is = same;
      firsts = c.divisor_of_starts-starts.ensures.common;
      longs = c.divisor_of_lengths-lengths.ensures.common;
    } in
    found_no_scale c.wholeness_is_division.ensures c.divisors_give_scales.ensures c.args.at c.index-tracks-at.result c.args.movie.now (as_segments c.args.segments.now) c.scale-movie_scale.result c.track.inside.scale c.divisor_of_starts-starts.result c.divisor_of_lengths-lengths.result found c.in-Some.media c.at-in_default-scale_for.result d c.in-Some.ensures c.in_default-scale_for.ensures c.at-in_default-scale_for.ensures

pub returns-in-None-clause-shown : goal.returns-in-None-clause-shown
returns-in-None-clause-shown c = λ d.
    let there = there_at c.args.at c.index-tracks-at.result c.args.movie.now c.tracks.result.now c.tracks.ensures.whole c.tracks.ensures.fits c.tracks.ensures.tracks c.requires.inside c.index-tracks-at.is in
    let same : c.track.inside.scale ≡ c.index-tracks-at.result.scale = search rules in
    let found : IsFound c.args.at c.index-tracks-at.result c.args.movie.now (as_segments c.args.segments.now) c.scale-movie_scale.result c.track.inside.scale c.divisor_of_starts-starts.result c.divisor_of_lengths-lengths.result = record {
      there = there;
      movie_is = c.scale-movie_scale.ensures;
      track_is = same;
      firsts = c.divisor_of_starts-starts.ensures.common;
      longs = c.divisor_of_lengths-lengths.ensures.common;
    } in
    found_shown c.wholeness_is_division.ensures c.divisors_give_scales.ensures c.args.at c.index-tracks-at.result c.args.movie.now (as_segments c.args.segments.now) c.scale-movie_scale.result c.track.inside.scale c.divisor_of_starts-starts.result c.divisor_of_lengths-lengths.result found c.in-Some.media c.in-Some-scale_for.scale c.in-Ok.edits.items c.in-Some.ensures c.in-Some-scale_for.ensures c.in-Ok.ensures d c.in-None.ensures

pub returns-in-None-clause-showing : goal.returns-in-None-clause-showing
returns-in-None-clause-showing c = λ d.
    let there = there_at c.args.at c.index-tracks-at.result c.args.movie.now c.tracks.result.now c.tracks.ensures.whole c.tracks.ensures.fits c.tracks.ensures.tracks c.requires.inside c.index-tracks-at.is in
    let same : c.track.inside.scale ≡ c.index-tracks-at.result.scale = search rules in
    let found : IsFound c.args.at c.index-tracks-at.result c.args.movie.now (as_segments c.args.segments.now) c.scale-movie_scale.result c.track.inside.scale c.divisor_of_starts-starts.result c.divisor_of_lengths-lengths.result = record {
      there = there;
      movie_is = c.scale-movie_scale.ensures;
      track_is = same;
      firsts = c.divisor_of_starts-starts.ensures.common;
      longs = c.divisor_of_lengths-lengths.ensures.common;
    } in
    found_showing c.wholeness_is_division.ensures c.divisors_give_scales.ensures c.args.at c.index-tracks-at.result c.args.movie.now (as_segments c.args.segments.now) c.scale-movie_scale.result c.track.inside.scale c.divisor_of_starts-starts.result c.divisor_of_lengths-lengths.result found c.in-Some.media c.in-Some-scale_for.scale c.in-Ok.edits.items c.in-Some.ensures c.in-Some-scale_for.ensures c.in-Ok.ensures d c.in-None.ensures

pub returns-in-Some-limit_of-clause-shown : goal.returns-in-Some-limit_of-clause-shown
returns-in-Some-limit_of-clause-shown c = λ d.
    let there = there_at c.args.at c.index-tracks-at.result c.args.movie.now c.tracks.result.now c.tracks.ensures.whole c.tracks.ensures.fits c.tracks.ensures.tracks c.requires.inside c.index-tracks-at.is in
    let same : c.track.inside.scale ≡ c.index-tracks-at.result.scale = search rules in
    let found : IsFound c.args.at c.index-tracks-at.result c.args.movie.now (as_segments c.args.segments.now) c.scale-movie_scale.result c.track.inside.scale c.divisor_of_starts-starts.result c.divisor_of_lengths-lengths.result = record {
      there = there;
      movie_is = c.scale-movie_scale.ensures;
      track_is = same;
      firsts = c.divisor_of_starts-starts.ensures.common;
      longs = c.divisor_of_lengths-lengths.ensures.common;
    } in
    found_limit c.wholeness_is_division.ensures c.divisors_give_scales.ensures c.args.at c.index-tracks-at.result c.args.movie.now (as_segments c.args.segments.now) c.scale-movie_scale.result c.track.inside.scale c.divisor_of_starts-starts.result c.divisor_of_lengths-lengths.result found c.in-Some.media c.in-Some-scale_for.scale c.in-Ok.edits.items c.in-Some.ensures c.in-Some-scale_for.ensures c.in-Ok.ensures c.in-Some-limit_of.code c.at-in-Some-limit_of.result d c.in-Some-limit_of.ensures c.at-in-Some-limit_of.ensures

pub divisor_of_lengths-lengths-requires : goal.divisor_of_lengths-lengths-requires
divisor_of_lengths-lengths-requires c =
    let there = there_at c.args.at c.index-tracks-at.result c.args.movie.now c.tracks.result.now c.tracks.ensures.whole c.tracks.ensures.fits c.tracks.ensures.tracks c.requires.inside c.index-tracks-at.is in
    let same : c.track.inside.scale ≡ c.index-tracks-at.result.scale = search rules in
    subst (λ (n : ℕ). 0 < n) (sym same) (track_some c.index-tracks-at.result.number c.args.at c.index-tracks-at.result c.args.movie.now there)
