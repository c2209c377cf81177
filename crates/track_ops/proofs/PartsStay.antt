-- Parts stay well formed where numbers, scales, fields of heads and edits change within their ranges.
use Rattle.std.proofs.Common.{◌≡◌, ◌≢◌, ℕ, ◌^◌, ◌<◌, ◌≤◌, List, [], ◌∷◌, map, Option, Some, refl, sym, ap, subst, arith}
use Rattle.std.specs.List.{AllByRecursion}
use Rattle.mp_timeline.specs.declared.segment.Segment.{Segment}
use Rattle.mp_timeline.specs.Movie.{TrackHeadRecord, TrackRecord, MovieRecord}
use Rattle.mp_movie.specs.Durations.{greatest, track_duration}
use Rattle.mp_movie.specs.Placed.{PlacedTrack, PlacedMovie}
use Rattle.mp_movie.specs.WholeParts.{AreColumns, AreParts, bare_movie, bare_track}
use Rattle.mp_movie.specs.WellFormed.{AreDistinct, IsWellFormed, IsWellFormedTrack}

pub track_stays : (old new : ℕ) (track : TrackRecord) (number flags language scale : ℕ) (edits : Option (List Segment)) → IsWellFormedTrack old track
    → 1 ≤ number → number < 2 ^ 32 → flags < 2 ^ 24 → language < 2 ^ 16 → 0 < scale → scale < 2 ^ 32 → edits ≢ Some []
    → IsWellFormedTrack new (record track { number = number; head = record track.head { flags = flags; language = language }; scale = scale; edits = edits })
track_stays old new track number flags language scale edits h some below fit letters positive short listed = record {
  number = some;
  header = record {
    flags = fit;
    created = h.header.created;
    modified = h.header.modified;
    number = below;
    duration = omega arith;
    layer = h.header.layer;
    group = h.header.group;
    volume = h.header.volume;
    matrix = h.header.matrix;
    width = h.header.width;
    height = h.header.height;
  };
  media = record {
    created = h.media.created;
    modified = h.media.modified;
    some_scale = positive;
    timescale = short;
    duration = omega arith;
    language = letters;
  };
  handler = h.handler;
  udta = h.udta;
  entries = h.entries;
  times = h.times;
  kinds = h.kinds;
  edits = listed;
}

-- the longest of durations that 64 bits hold
longest_fits : (scale : ℕ) (tracks : List TrackRecord) → greatest (map (track_duration scale) tracks) < 2 ^ 64
longest_fits scale [] = omega arith
longest_fits scale (track ∷ tracks) = let rest = longest_fits scale tracks in omega (arith, rest)

pub movie_stays : (movie : MovieRecord) (scale : ℕ) (tracks : List TrackRecord) → IsWellFormed movie → 0 < scale → scale < 2 ^ 32 → AllByRecursion (IsWellFormedTrack scale) tracks
    → AreDistinct (map (λ (t : TrackRecord). t.number) tracks) → IsWellFormed (record movie { scale = scale; tracks = tracks })
movie_stays movie scale tracks h positive short each distinct = record {
  header = record {
    created = h.header.created;
    modified = h.header.modified;
    some_scale = positive;
    timescale = short;
    duration = longest_fits scale tracks;
    rate = h.header.rate;
    volume = h.header.volume;
    matrix = h.header.matrix;
    next_track = omega arith;
  };
  udta = h.udta;
  tracks = each;
  distinct = distinct;
}

bare_numbers : (tracks : List PlacedTrack) → map (λ (t : TrackRecord). t.number) (map bare_track tracks) ≡ map (λ (t : PlacedTrack). t.number) tracks
bare_numbers [] = refl
bare_numbers (track ∷ tracks) = ap (λ (numbers : List ℕ). track.number ∷ numbers) (bare_numbers tracks)

-- the numbers of tracks whose parts are well formed
pub numbers_distinct : (movie : PlacedMovie) → AreParts movie → AreDistinct (map (λ (t : PlacedTrack). t.number) movie.tracks)
numbers_distinct movie h = subst AreDistinct (bare_numbers movie.tracks) h.bare.distinct

-- parts of other tracks and another scale
pub parts_stay : (movie : PlacedMovie) (scale : ℕ) (tracks : List PlacedTrack) → AreParts movie → 0 < scale → scale < 2 ^ 32 → AllByRecursion (IsWellFormedTrack scale) (map bare_track tracks)
    → AreDistinct (map (λ (t : PlacedTrack). t.number) tracks) → AllByRecursion AreColumns tracks → AreParts (record movie { scale = scale; tracks = tracks })
parts_stay movie scale tracks h positive short each distinct columns = record {
  bare = movie_stays (bare_movie movie) scale (map bare_track tracks) h.bare positive short each (subst AreDistinct (sym (bare_numbers tracks)) distinct);
  columns = columns;
}

-- columns know nothing of numbers, heads, scales and edits
pub columns_stay : (track : PlacedTrack) (number scale : ℕ) (head : TrackHeadRecord) (edits : Option (List Segment)) → AreColumns track
    → AreColumns (record track { number = number; head = head; scale = scale; edits = edits })
columns_stay track number scale head edits h = record {
  deltas = h.deltas;
  offsets_len = h.offsets_len;
  syncs_len = h.syncs_len;
  syncs = h.syncs;
  kinds_len = h.kinds_len;
  kinds = h.kinds;
  counts_len = h.counts_len;
  counts = h.counts;
  counted = h.counted;
  sizes_len = h.sizes_len;
  sizes = h.sizes;
}
