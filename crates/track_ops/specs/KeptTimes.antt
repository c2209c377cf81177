-- The commands that change times, on tracks as they are kept.
use Rattle.std.specs.Prelude.{◌≡◌, ℕ, ℤ, ◌*◌, ◌%◌, ◌^◌, ◌<◌, unsigned_abs, Bool, false, ◌==◌, All, FitsSigned, List, [], ◌∷◌, ◌++◌, map, option_map, length, get_or, set, Option, Some, None}
use Rattle.std.specs.List.{list_all, list_any}
use Rattle.std.specs.Int.{◌∣◌, w64}
use Rattle.mp_frac.specs.Divisors.{IsGreatestCommon}
use Rattle.mp_timeline.specs.declared.segment.Segment.{Segment}
use Rattle.mp_timeline.specs.declared.segment.Segment.TheVariants.{Empty, Media}
use Rattle.mp_edits.specs.Segments.{starts_late}
use Rattle.mp_edits.specs.EditBox.{segments_in}
use Rattle.mp_movie.specs.Placed.{PlacedTrack, PlacedMovie}
use Rattle.mp_clip.specs.Clipped.{starts}
use Rattle.track_ops.specs.declared.ticks.Ratio.{Ratio}
use Rattle.track_ops.specs.Kept.{has_number, kept_in_scale}
use Rattle.track_ops.specs.Scales.{in_scale}
use Rattle.track_ops.specs.Ticks.{signed_in_scale, starting}

-- the ticks are whole in the new scale
abbrev pub IsWholeIn : (old new : ℕ) → ℤ → Type 0
IsWholeIn old new ticks = old ∣ unsigned_abs ticks * new

-- 64 bits with a sign hold them there
abbrev pub FitsIn : (old new : ℕ) → ℤ → Type 0
FitsIn old new ticks = FitsSigned w64 (signed_in_scale old new ticks)

-- 64 bits hold the start of a segment in the new scale
abbrev pub CanStart : (old new : ℕ) → Segment → Type 0
CanStart old new (Empty dur) = Unit {0}
CanStart old new (Media start dur) = in_scale old new start < 2 ^ 64

-- the columns of times can be told in ticks of the new scale
pub record CanRetime (old new : ℕ) (deltas offsets : List ℤ) : Type 0 where
  pub whole : All (IsWholeIn old new) deltas
  pub whole_offsets : All (IsWholeIn old new) offsets
  pub short : All (FitsIn old new) deltas
  pub narrow : All (FitsIn old new) offsets

-- so can the samples of a track
pub record CanRetimeTrack (new : ℕ) (track : PlacedTrack) : Type 0 where
  pub some : 0 < track.scale
  pub columns : CanRetime track.scale new track.deltas track.offsets

-- a track can be told in ticks of the new scale
pub record CanSetScale (new : ℕ) (track : PlacedTrack) : Type 0 where
  pub some : 0 < track.scale
  pub columns : CanRetime track.scale new track.deltas track.offsets
  pub early : All (CanStart track.scale new) (segments_in track.edits)

-- a column of ticks, in ticks of the new scale
abbrev pub column_in_scale : (old new : ℕ) → List ℤ → List ℤ
column_in_scale old new column = map (signed_in_scale old new) column

-- the samples of a track in ticks of another scale, and these edits
abbrev pub kept_retimed : ℕ → Option (List Segment) → PlacedTrack → PlacedTrack
kept_retimed new edits track = record track {
  scale = new;
  deltas = column_in_scale track.scale new track.deltas;
  offsets = column_in_scale track.scale new track.offsets;
  edits = edits;
}

-- a track in ticks of another scale
abbrev pub kept_in_track_scale : ℕ → PlacedTrack → PlacedTrack
kept_in_track_scale new track = kept_retimed new (option_map (map (starting track.scale new)) track.edits) track

-- the numbers of a track that its scale tells: durations, offsets and starts
abbrev pub kept_ticks : PlacedTrack → List ℕ
kept_ticks track = map unsigned_abs track.deltas ++ map unsigned_abs track.offsets ++ starts (segments_in track.edits)

-- how ticks of the old scale become ticks of the new one: both scales by what they have in common
pub record IsRatio (old new : ℕ) (ratio : Ratio) : Type 0 where
  pub common : ℕ
  pub greatest : IsGreatestCommon (old ∷ new ∷ []) common
  pub down : old ≡ common * ratio.down
  pub up : new ≡ common * ratio.up

-- a segment starts at 2^62 or later there
abbrev pub some_late_in : (old new : ℕ) → List Segment → Bool
some_late_in old new edits = list_any (λ segment. starts_late (starting old new segment)) edits

-- all these ticks of the old scale are whole in the new one
abbrev pub are_whole : (old new : ℕ) → List ℕ → Bool
are_whole old new ticks = list_all (λ number. number * new % old == 0) ticks

-- the place of the track of that number; none where there is no such track
abbrev pub IsPosition : ℕ → List PlacedTrack → Option ℕ → Type 0
IsPosition number tracks None = has_number number tracks ≡ false
IsPosition number tracks (Some at) = (at < length tracks) × ((track : PlacedTrack) → (get_or tracks at track).number ≡ number)

-- the movie in ticks of that scale
abbrev pub kept_in_movie_scale : ℕ → PlacedMovie → PlacedMovie
kept_in_movie_scale scale movie = record movie { scale = scale; tracks = map (kept_in_scale movie.scale scale) movie.tracks }

-- the movie with another track at that place
abbrev pub with_track : ℕ → PlacedTrack → PlacedMovie → PlacedMovie
with_track at track movie = record movie { tracks = set movie.tracks at track }
