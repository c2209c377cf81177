-- What a movie that is cut by its plan answers.
use Rattle.std.proofs.Common.{◌≡◌, ℕ, ◌<◌, List, [], ◌∷◌, length, map, ap, subst, ◌∙◌}
use Rattle.std.specs.Prelude.{Ok}
use Rattle.std.specs.List.{AllByRecursion}
use Rattle.mp_frac.specs.declared.time.Frac.{Frac}
use Rattle.mp_ports.specs.Checks.{placed}
use Rattle.mp_timeline.specs.Movie.{MovieRecord}
use Rattle.mp_timeline.specs.Same.{HasScales}
use Rattle.mp_movie.specs.CanBeWritten.{CanBeWritten}
use Rattle.mp_movie.specs.PartsLaw.{ColumnsAreKept}
use Rattle.mp_movie.specs.Placed.{PlacedMovie, PlacedTrack}
use Rattle.mp_movie.specs.StandsFor.{Hold, stands_for, track_for}
use Rattle.mp_movie.specs.WholeParts.{AreParts}
use Rattle.mp_clip.specs.Clipped.{IsRange}
use Rattle.track_ops.specs.Law.{LeastScalesAreFound}
use Rattle.cut_op.specs.declared.plan.Plan.{Plan}
use Rattle.cut_op.specs.Cut.{cut}
use Rattle.cut_op.specs.Law.{CutShowsTheRange}
use Rattle.cut_op.specs.Planned.{IsPlan, placed_movie}
use Rattle.cut_op.specs.Shows.{MovieShowsRange}
use Rattle.cut_op.proofs.CanCut.{all_can_be_planned, plan_scales}
use Rattle.cut_op.proofs.PlannedMovies.{cut_stands, held_placed, parts_placed}

has_scales : (files : List (List ℕ)) (movie : PlacedMovie) → 0 < movie.scale → AllByRecursion CanBeWritten movie.tracks → HasScales (stands_for files movie)
has_scales files movie some can = record { whole = some; tracks = each movie.tracks can }
  where
    each : (tracks : List PlacedTrack) → AllByRecursion CanBeWritten tracks → AllByRecursion (λ track. 0 < track.scale) (map (track_for files) tracks)
    each [] can = tt
    each (track ∷ tracks) can = (can.0.scale, each tracks can.1)

module _ (found : LeastScalesAreFound) (law : ColumnsAreKept) (cuts : CutShowsTheRange) (files : List (List ℕ)) (from to : Frac) (movie : PlacedMovie) (plan : Plan) (range : IsRange from to) (some : 0 < movie.scale)
    (can : AllByRecursion CanBeWritten movie.tracks) (hold : Hold (map length files) movie) (is : IsPlan files from to movie plan) where
  is_cut : cut from to (stands_for files movie) ≡ Ok (stands_for files (placed_movie plan movie))
  is_cut = cut_stands found law files from to movie plan some range.some_begin.some range.some_end.some (all_can_be_planned movie.tracks can) hold is

  pub gives : (new : PlacedMovie) → placed_movie plan movie ≡ new → placed 0 (cut from to (stands_for files movie)) ≡ Ok (stands_for files new)
  gives new same = ap (placed 0) is_cut ∙ ap (λ (m : PlacedMovie). Ok (stands_for files m)) same

  pub shows : (new : PlacedMovie) → placed_movie plan movie ≡ new → MovieShowsRange from to (stands_for files movie) (stands_for files new)
  shows new same = subst (λ (m : PlacedMovie). MovieShowsRange from to (stands_for files movie) (stands_for files m)) same (cuts from to (stands_for files movie) (stands_for files (placed_movie plan movie)) range (has_scales files movie some can) is_cut)

pub whole : (from to : Frac) (movie : PlacedMovie) (plan : Plan) → AllByRecursion CanBeWritten movie.tracks → AreParts movie → IsPlan [] from to movie plan → AreParts (placed_movie plan movie)
whole from to movie plan can parts is = parts_placed [] from to movie plan parts (all_can_be_planned movie.tracks can) is.some is.short (plan_scales [] from to movie plan is) is

pub held : (sizes : List ℕ) (movie : PlacedMovie) (plan : Plan) (new : PlacedMovie) → placed_movie plan movie ≡ new → Hold sizes movie → Hold sizes new
held sizes movie plan new same hold = subst (Hold sizes) same (held_placed sizes plan.tracks.items movie.tracks hold)
