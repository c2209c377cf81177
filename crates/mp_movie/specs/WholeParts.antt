-- When the parts of a movie are well formed. What is asked of heads, numbers, scales, entries and edits is asked of the movie
-- without samples.
use Rattle.std.specs.Prelude.{◌≡◌, ℕ, ℤ, pos, ◌<◌, ◌≤ℤ◌, List, [], All, length, map, slice_index_or, sum, sum_by}
use Rattle.std.specs.List.{AllByRecursion}
use Rattle.mp_pieces.specs.Piece.{piece_len}
use Rattle.mp_times.specs.Written.{IsMark}
use Rattle.mp_timeline.specs.Movie.{TrackRecord, MovieRecord}
use Rattle.mp_movie.specs.Placed.{PlacedTrack, PlacedMovie, naturals}
use Rattle.mp_movie.specs.StandsFor.{pieces_of, with_samples}
use Rattle.mp_movie.specs.WellFormed.{IsWellFormed, IsWellFormedTrack}

-- an item isn't negative
abbrev pub IsNatural : ℤ → Type 0
IsNatural item = pos 0 ≤ℤ item

-- it is the number of one of so many entries
pub record IsEntryNumber (entries : ℕ) (kind : ℤ) : Type 0 where
  pub some : pos 1 ≤ℤ kind
  pub known : kind ≤ℤ pos entries

-- there are so many durations, none of them negative, and as many offsets, marks, entry numbers, sizes and counts of pieces; the
-- counts are those of all pieces, and a size is how long the sample's pieces are together
pub record AreColumns (track : PlacedTrack) : Type 0 where
  pub deltas : All IsNatural track.deltas
  pub offsets_len : length track.offsets ≡ length track.deltas
  pub syncs_len : length track.syncs ≡ length track.deltas
  pub syncs : All IsMark track.syncs
  pub kinds_len : length track.kinds ≡ length track.deltas
  pub kinds : All (IsEntryNumber (length track.entries)) track.kinds
  pub counts_len : length track.counts ≡ length track.deltas
  pub counts : All IsNatural track.counts
  pub counted : sum (naturals track.counts) ≡ length track.pieces
  pub sizes_len : length track.sizes ≡ length track.deltas
  pub sizes : (before : ℕ) → before < length track.deltas
      → slice_index_or track.sizes before (pos 0) ≡ pos (sum_by piece_len (pieces_of track before))

-- a track without its samples
abbrev pub bare_track : PlacedTrack → TrackRecord
bare_track track = with_samples track []

-- a movie without its samples
abbrev pub bare_movie : PlacedMovie → MovieRecord
bare_movie movie = record { scale = movie.scale; head = movie.head; tracks = map bare_track movie.tracks }

-- the parts of a track, in a movie of this scale, are well formed
pub record AreTrackParts (movie_scale : ℕ) (track : PlacedTrack) : Type 0 where
  pub bare : IsWellFormedTrack movie_scale (bare_track track)
  pub columns : AreColumns track

-- the parts of a movie are well formed
pub record AreParts (movie : PlacedMovie) : Type 0 where
  pub bare : IsWellFormed (bare_movie movie)
  pub columns : AllByRecursion AreColumns movie.tracks
