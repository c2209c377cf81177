use Rattle.std.proofs.Common.{◌≡◌, ℕ, Bool, List, nat_lt}
use Rattle.mp_movie.specs.Placed.{PlacedMovie, PlacedTrack}
use Rattle.mp_dump.specs.Json.{track_value}
use Rattle.mp_dump.proofs.Commas.{left}
use Rattle.mp_dump.proofs.TracksAreWritten.{AreToldOf}
use Rattle.mp_dump.proofs.object.timeline_json.Given as goal

-- a comma is due behind the first track
pub record AreWithCommas (movie : PlacedMovie) (tracks : List PlacedTrack) (index : ℕ) (later : Bool) (written start : List ℕ) : Type 0 where
  pub comma : later ≡ nat_lt 0 index
  pub told : AreToldOf (left track_value) movie tracks index written start

abbrev pub invariant-loop-track : goal.invariant-loop-track
invariant-loop-track l = AreWithCommas l.movie l.track-items l.track-index l.later l.out.items l.initial.out.items
