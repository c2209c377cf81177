-- Each track of well-formed parts can be told of.
use Rattle.std.proofs.Common.{ℕ, zero, suc, ◌≤◌, List, [], ◌∷◌, length, map, arith}
use Rattle.std.specs.Prelude.{All}
use Rattle.std.specs.List.{AllByRecursion}
use Rattle.mp_movie.specs.Placed.{PlacedTrack, PlacedMovie}
use Rattle.mp_movie.specs.WellFormed.{IsEntryBox, IsWellFormedTrack}
use Rattle.mp_movie.specs.WholeParts.{AreColumns, AreParts, bare_track}
use Rattle.mp_dump.specs.Track.{IsTold}

entries_long : (entries : List (List ℕ)) → AllByRecursion IsEntryBox entries → All (λ entry. 8 ≤ length entry) entries
entries_long [] boxes k d lt = absurd (omega arith)
entries_long (entry ∷ entries) boxes zero d lt = let room = boxes.0.entry.room in omega arith
entries_long (entry ∷ entries) boxes (suc k) d lt = entries_long entries boxes.1 k d (omega arith)

each_told : (scale : ℕ) (tracks : List PlacedTrack) → AllByRecursion (IsWellFormedTrack scale) (map bare_track tracks) → AllByRecursion AreColumns tracks → All IsTold tracks
each_told scale [] whole columns k d lt = absurd (omega arith)
each_told scale (track ∷ tracks) whole columns zero d lt = record { columns = columns.0; entries = entries_long track.entries whole.0.entries }
each_told scale (track ∷ tracks) whole columns (suc k) d lt = each_told scale tracks whole.1 columns.1 k d (omega arith)

pub tracks_are_told : (movie : PlacedMovie) → AreParts movie → All IsTold movie.tracks
tracks_are_told movie parts = each_told movie.scale movie.tracks parts.bare.tracks parts.columns
