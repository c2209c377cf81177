-- The limits of a movie in the order of their codes, each over all tracks (this project's own, where the standard's fields don't
-- set them).
use Rattle.std.specs.Prelude.{ℕ, ℤ, pos, negsuc, ◌-◌, ◌^◌, Bool, false, not, ◌&&◌, nat_le, nat_lt, List, [], ◌∷◌, length, Option}
use Rattle.std.specs.List.{list_all, list_any}
use Rattle.mp_ports.specs.declared.code.Code.{Code}
use Rattle.mp_ports.specs.declared.code.Code.TheVariants.{DeltaLimit, OffsetLimit, DurationLimit, StartLimit, SizeLimit, SampleLimit, TrackLimit, EntryLimit, SegmentLimit}
use Rattle.mp_ports.specs.Checks.{first_code}
use Rattle.mp_columns.specs.declared.columns.TheConstants.{MOST_ITEMS}
use Rattle.mp_columns.specs.Numbers.{largest}
use Rattle.mp_times.specs.Written.{is_unsigned}
use Rattle.mp_entries.specs.Description.{most_entries}
use Rattle.mp_edits.specs.EditBox.{segments_in}
use Rattle.mp_edits.specs.Segments.{most_segments, starts_late, total}
use Rattle.mp_movie.specs.Limits.{most_tracks}
use Rattle.mp_movie.specs.Placed.{PlacedTrack, PlacedMovie, sample_count}

-- the greatest number of a column is above 32 bits
abbrev pub is_long : List ℤ → Bool
is_long column = nat_lt (2 ^ 32 - 1) (largest column)

-- an offset that 32 bits with a sign hold
abbrev pub is_signed : ℤ → Bool
is_signed (pos offset) = nat_lt offset (2 ^ 31)
is_signed (negsuc before) = nat_lt before (2 ^ 31)

-- the offsets fit 32 bits neither all without a sign nor all with one
abbrev pub is_wide : List ℤ → Bool
is_wide offsets = not (list_all is_unsigned offsets) && not (list_all is_signed offsets)

-- the track passes the limit of that code: a duration, the offsets, how long the edits last and when they start, a size, the
-- number of entries and of segments
abbrev pub passes : Code → PlacedTrack → Bool
passes DeltaLimit track = is_long track.deltas
passes OffsetLimit track = is_wide track.offsets
passes DurationLimit track = nat_le (2 ^ 62) (total (segments_in track.edits))
passes StartLimit track = list_any starts_late (segments_in track.edits)
passes SizeLimit track = is_long track.sizes
passes EntryLimit track = nat_lt most_entries (length track.entries)
passes SegmentLimit track = nat_lt most_segments (length (segments_in track.edits))
passes _ track = false

-- one of the tracks does
abbrev pub some_passes : List PlacedTrack → Code → Bool × Code
some_passes tracks code = (list_any (passes code) tracks, code)

-- the limits, in order
abbrev pub limits : PlacedMovie → List (Bool × Code)
limits movie =
    some_passes movie.tracks DeltaLimit
    ∷ some_passes movie.tracks OffsetLimit
    ∷ some_passes movie.tracks DurationLimit
    ∷ some_passes movie.tracks StartLimit
    ∷ some_passes movie.tracks SizeLimit
    ∷ (nat_lt MOST_ITEMS (sample_count movie.tracks), SampleLimit)
    ∷ (nat_lt most_tracks (length movie.tracks), TrackLimit)
    ∷ some_passes movie.tracks EntryLimit
    ∷ some_passes movie.tracks SegmentLimit
    ∷ []

-- the first that the movie passes; none where it fits
abbrev pub first_limit : PlacedMovie → Option Code
first_limit movie = first_code (limits movie)
