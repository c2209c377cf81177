-- The movie of a film as it is kept: its track has the numbers of the pictures, and where their units stand.
use Rattle.std.specs.Prelude.{ℕ, ◌+◌, pos, List, [], ◌∷◌, map}
use Rattle.mp_movie.specs.Placed.{PlacedMovie, PlacedTrack, empty_track, movie_of_track, with_sample}
use Rattle.avc_units.specs.declared.reader.UnitSpan.{UnitSpan}
use Rattle.avc_order.specs.Sequence.{is_sync}
use Rattle.avc_import.specs.declared.schedule.Schedule.{Schedule}
use Rattle.avc_import.specs.Film.{Film, edits, entry_bytes, offset, picture_head}
use Rattle.avc_import.specs.Pictures.{piece_of}

-- the track before its pictures
unfoldable pub bare_track : Film → Schedule → PlacedTrack
bare_track film s =
    record (empty_track 1 (picture_head film.sequence.fields) s.scale (entry_bytes film ∷ [])) { edits = edits s }

-- that track with picture k, whose units these are of that file
abbrev pub with_part : ℕ → Film → Schedule → ℕ → List UnitSpan → PlacedTrack → PlacedTrack
with_part file film s k part track =
    with_sample track s.ticks (pos (offset film s k)) (is_sync film.syncs k) 1 (map (piece_of file) part)

-- and with those that follow it
unfoldable pub with_parts : ℕ → Film → Schedule → ℕ → List (List UnitSpan) → PlacedTrack → PlacedTrack
with_parts file film s k [] track = track
with_parts file film s k (part ∷ parts) track =
    with_parts file film s (k + 1) parts (with_part file film s k part track)

-- the movie
abbrev pub placed_movie : ℕ → Film → Schedule → PlacedMovie
placed_movie file film s = movie_of_track s.movie_scale (with_parts file film s 0 film.parts (bare_track film s))
