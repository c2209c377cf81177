-- What a command did to a movie.
use Rattle.std.specs.Prelude.{◌≡◌, ℕ, List, length, map, Option, Result, IfErr}
use Rattle.mp_ports.specs.declared.code.Code.{Code}
use Rattle.mp_ports.specs.declared.fault.Bad.{Bad}
use Rattle.mp_ports.specs.Checks.{placed}
use Rattle.mp_ports.specs.Gives.{Gives}
use Rattle.mp_timeline.specs.Movie.{MovieRecord}
use Rattle.mp_movie.specs.Placed.{PlacedMovie}
use Rattle.mp_movie.specs.StandsFor.{Hold, stands_for}
use Rattle.track_ops.specs.declared.chosen.Choice.{Choice}
use Rattle.track_ops.specs.Adding.{add}

-- for all files that hold its pieces, the movie stands for what the command makes of what it stood for, or is refused as the
-- command refuses it; they hold its pieces still; and a refusal changes nothing
pub record Does {A E : Type 0} (why : E → Option Bad) (command : MovieRecord → Result MovieRecord Code) (old new : PlacedMovie) (result : Result A E) : Type 0 where
  pub gives : (files : List (List ℕ)) → Hold (map length files) old
      → Gives why (λ done. stands_for files new) result (placed 0 (command (stands_for files old)))
  pub held : (sizes : List ℕ) → Hold sizes old → Hold sizes new
  pub same : IfErr result (λ refused. new ≡ old)

-- the same where tracks of another movie are added, whose pieces the files hold too
pub record Adds {A E : Type 0} (why : E → Option Bad) (choice : Choice) (other old new : PlacedMovie) (result : Result A E) : Type 0 where
  pub gives : (files : List (List ℕ)) → Hold (map length files) old → Hold (map length files) other
      → Gives why (λ done. stands_for files new) result (placed 0 (add choice (stands_for files other) (stands_for files old)))
  pub held : (sizes : List ℕ) → Hold sizes old → Hold sizes other → Hold sizes new
  pub same : IfErr result (λ refused. new ≡ old)
