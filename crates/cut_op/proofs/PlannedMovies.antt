-- The movie that a plan makes stands for the cut of the one that it was made for, and its parts are well formed.
use Rattle.std.proofs.Common.{◌≡◌, ◌≢◌, ℕ, zero, suc, ◌+◌, ◌-◌, ◌*◌, ◌^◌, ◌<◌, ◌≤◌, Bool, true, false, cond, List, [], ◌∷◌, length, map, take, drop, Option, Some, None, refl, sym, ap, subst, ◌∙◌, arith}
use Rattle.std.specs.Prelude.{option_map, slice_range, sum, Result, Ok, Err}
use Rattle.std.specs.List.{AllByRecursion, AllZip, flat_map}
use Rattle.mp_frac.specs.declared.time.Frac.{Frac}
use Rattle.mp_frac.specs.Divisors.{most}
use Rattle.mp_ports.specs.declared.code.Code.{Code}
use Rattle.mp_ports.specs.declared.code.Code.TheVariants.{BadRange}
use Rattle.mp_ports.specs.Checks.{unless}
use Rattle.mp_pieces.specs.declared.piece.Piece.{Piece}
use Rattle.mp_pieces.specs.Piece.{IsHeld}
use Rattle.mp_timeline.specs.declared.segment.Segment.{Segment}
use Rattle.mp_timeline.specs.Movie.{MovieRecord, TrackRecord}
use Rattle.mp_movie.specs.Durations.{greatest, track_duration}
use Rattle.mp_movie.specs.PartsFit.{first_limit}
use Rattle.mp_movie.specs.PartsLaw.{ColumnsAreKept}
use Rattle.mp_movie.specs.Placed.{PlacedMovie, PlacedTrack, naturals}
use Rattle.mp_movie.specs.StandsFor.{Hold, HoldTrack, stands_for, track_for}
use Rattle.mp_movie.specs.WellFormed.{AreDistinct, IsWellFormed, IsWellFormedTrack}
use Rattle.mp_movie.specs.WholeParts.{AreColumns, AreParts, bare_movie, bare_track}
use Rattle.mp_shown.specs.Fractions.{is_before}
use Rattle.track_ops.specs.Law.{LeastScalesAreFound}
use Rattle.track_ops.specs.Limits.{limit, settled_to}
use Rattle.track_ops.specs.Told.{all_some, or_empty}
use Rattle.cut_op.specs.declared.plan.Plan.{Plan}
use Rattle.cut_op.specs.declared.plan.TrackPlan.{TrackPlan}
use Rattle.cut_op.specs.Cut.{cut, cut_movie, cut_scale, cut_settled, in_movie_scale}
use Rattle.cut_op.specs.Placed.{kept_pieces}
use Rattle.cut_op.specs.Planned.{IsPlan, PlansTrack, placed_by, placed_movie, placed_tracks}
use Rattle.cut_op.proofs.CutParts.{cut_bare, cut_columns}
use Rattle.cut_op.proofs.CutSettles.{cut_is_placed}
use Rattle.cut_op.proofs.SameLimits.{stands_limits}

-- what is asked of the tracks that are cut
pub record CanBePlanned (track : PlacedTrack) : Type 0 where
  pub some : 0 < track.scale
  pub columns : AreColumns track

-- ---- what it stands for

module _ (found : LeastScalesAreFound) (files : List (List ℕ)) (old new : ℕ) (from to : Frac) (some_old : 0 < old) (some_from : 0 < from.d) (some_to : 0 < to.d) where
  all_placed : (tracks : List PlacedTrack) (plans : List TrackPlan) → AllByRecursion CanBePlanned tracks → AllZip (PlansTrack files old new from to) tracks plans
      → all_some (map (cut_settled old new from to) (map (track_for files) tracks)) ≡ Some (map (track_for files) (placed_tracks plans tracks))
  all_placed [] [] can planned = refl
  all_placed [] (plan ∷ plans) can planned = absurd planned
  all_placed (track ∷ tracks) [] can planned = absurd planned
  all_placed (track ∷ tracks) (plan ∷ plans) can planned =
      let here = cut_is_placed files old new from to track planned.0.shape plan some_old some_from some_to can.0.some can.0.columns planned.0.is plan.edits.items found planned.0.has in
      let rest = all_placed tracks plans can.1 planned.1 in
      ap (λ (one : Option TrackRecord). all_some (one ∷ map (cut_settled old new from to) (map (track_for files) tracks))) here
      ∙ ap (option_map (λ (items : List TrackRecord). track_for files (placed_by plan track) ∷ items)) rest

-- ---- its parts

columns_placed : (files : List (List ℕ)) (old new : ℕ) (from to : Frac) (tracks : List PlacedTrack) (plans : List TrackPlan) → AllByRecursion CanBePlanned tracks → AllZip (PlansTrack files old new from to) tracks plans
    → AllByRecursion AreColumns (placed_tracks plans tracks)
columns_placed files old new from to [] [] can planned = tt
columns_placed files old new from to [] (plan ∷ plans) can planned = absurd planned
columns_placed files old new from to (track ∷ tracks) [] can planned = absurd planned
columns_placed files old new from to (track ∷ tracks) (plan ∷ plans) can planned =
    (cut_columns track plan.kept.from plan.kept.to plan.scale plan.factor plan.ahead plan.edits.items can.0.columns planned.0.is.order planned.0.is.inside, columns_placed files old new from to tracks plans can.1 planned.1)

pub held_front : (sizes : List ℕ) (n : ℕ) (pieces : List Piece) → AllByRecursion (IsHeld sizes) pieces → AllByRecursion (IsHeld sizes) (take n pieces)
held_front sizes zero pieces held = tt
held_front sizes (suc n) [] held = tt
held_front sizes (suc n) (piece ∷ pieces) held = (held.0, held_front sizes n pieces held.1)

pub held_behind : (sizes : List ℕ) (n : ℕ) (pieces : List Piece) → AllByRecursion (IsHeld sizes) pieces → AllByRecursion (IsHeld sizes) (drop n pieces)
held_behind sizes zero pieces held = held
held_behind sizes (suc n) [] held = tt
held_behind sizes (suc n) (piece ∷ pieces) held = held_behind sizes n pieces held.1

-- where files hold all pieces, they hold those that are kept
pub held_placed : (sizes : List ℕ) (plans : List TrackPlan) (tracks : List PlacedTrack) → AllByRecursion (HoldTrack sizes) tracks → AllByRecursion (HoldTrack sizes) (placed_tracks plans tracks)
held_placed sizes [] tracks held = held
held_placed sizes (plan ∷ plans) [] held = tt
held_placed sizes (plan ∷ plans) (track ∷ tracks) held = (
  held_front sizes (sum (take plan.kept.to (naturals track.counts)) - sum (take plan.kept.from (naturals track.counts))) (drop (sum (take plan.kept.from (naturals track.counts))) track.pieces)
      (held_behind sizes (sum (take plan.kept.from (naturals track.counts))) track.pieces held.0),
  held_placed sizes plans tracks held.1,
)

-- ---- the movie

pub cut_stands : LeastScalesAreFound → ColumnsAreKept → (files : List (List ℕ)) (from to : Frac) (movie : PlacedMovie) (plan : Plan) → 0 < movie.scale → 0 < from.d → 0 < to.d → AllByRecursion CanBePlanned movie.tracks
    → Hold (map length files) movie → IsPlan files from to movie plan → cut from to (stands_for files movie) ≡ Ok (stands_for files (placed_movie plan movie))
cut_stands found law files from to movie plan some some_from some_to can held is =
    let tracks = all_placed found files movie.scale plan.scale from to some some_from some_to movie.tracks plan.tracks.items can is.tracks in
    let made : cut_movie from to (stands_for files movie) ≡ Some (stands_for files (placed_movie plan movie)) =
    ap (in_movie_scale from to (stands_for files movie)) is.scale
    ∙ ap (option_map (λ (all : List TrackRecord). record (stands_for files movie) { scale = plan.scale; tracks = all })) tracks in
    let none : limit (stands_for files (placed_movie plan movie)) ≡ None =
    stands_limits law files (placed_movie plan movie) (columns_placed files movie.scale plan.scale from to movie.tracks plan.tracks.items can is.tracks) (held_placed (map length files) plan.tracks.items movie.tracks held) ∙ is.fits in
    ap (λ (b : Bool). cond b (settled_to (λ (settled : MovieRecord). settled) (cut_movie from to (stands_for files movie))) (Err BadRange)) is.before
    ∙ (ap (settled_to (λ (settled : MovieRecord). settled)) made ∙ ap (λ (code : Option Code). unless code (stands_for files (placed_movie plan movie))) none)

-- ---- well formed

longest_fits : (scale : ℕ) (tracks : List TrackRecord) → greatest (map (track_duration scale) tracks) < 2 ^ 64
longest_fits scale [] = omega arith
longest_fits scale (track ∷ tracks) = let rest = longest_fits scale tracks in omega (arith, rest)

-- the scales that the cut has fit 32 bits
pub record HasShortScale (plan : TrackPlan) : Type 0 where
  pub some : 0 < plan.scale
  pub short : plan.scale < 2 ^ 32

not_empty : (segments : List Segment) → or_empty segments ≢ []
not_empty [] = λ is. cc
not_empty (segment ∷ segments) = λ is. cc

each_bare : (files : List (List ℕ)) (old new : ℕ) (from to : Frac) (tracks : List PlacedTrack) (plans : List TrackPlan) → AllByRecursion (IsWellFormedTrack old) (map bare_track tracks) → AllByRecursion HasShortScale plans
    → AllZip (PlansTrack files old new from to) tracks plans → AllByRecursion (IsWellFormedTrack new) (map bare_track (placed_tracks plans tracks))
each_bare files old new from to [] [] bare short planned = tt
each_bare files old new from to [] (plan ∷ plans) bare short planned = absurd planned
each_bare files old new from to (track ∷ tracks) [] bare short planned = absurd planned
each_bare files old new from to (track ∷ tracks) (plan ∷ plans) bare short planned = (
  cut_bare old new track plan.kept.from plan.kept.to plan.scale plan.factor plan.ahead plan.edits.items bare.0 short.0.some short.0.short (subst (λ (edits : List Segment). edits ≢ []) (sym planned.0.has.are) (not_empty planned.0.has.made)),
  each_bare files old new from to tracks plans bare.1 short.1 planned.1,
)

numbers_stay : (plans : List TrackPlan) (tracks : List PlacedTrack) → length plans ≡ length tracks
    → map (λ (t : TrackRecord). t.number) (map bare_track (placed_tracks plans tracks)) ≡ map (λ (t : TrackRecord). t.number) (map bare_track tracks)
numbers_stay [] tracks same = refl
numbers_stay (plan ∷ plans) [] same = cc
numbers_stay (plan ∷ plans) (track ∷ tracks) same = ap (λ (numbers : List ℕ). track.number ∷ numbers) (numbers_stay plans tracks (omega (arith, same)))

as_many : (files : List (List ℕ)) (old new : ℕ) (from to : Frac) (tracks : List PlacedTrack) (plans : List TrackPlan) → AllZip (PlansTrack files old new from to) tracks plans → length plans ≡ length tracks
as_many files old new from to [] [] planned = refl
as_many files old new from to [] (plan ∷ plans) planned = absurd planned
as_many files old new from to (track ∷ tracks) [] planned = absurd planned
as_many files old new from to (track ∷ tracks) (plan ∷ plans) planned = ap (λ (n : ℕ). suc n) (as_many files old new from to tracks plans planned.1)

pub parts_placed : (files : List (List ℕ)) (from to : Frac) (movie : PlacedMovie) (plan : Plan) → AreParts movie → AllByRecursion CanBePlanned movie.tracks → 0 < plan.scale → plan.scale < 2 ^ 32 → AllByRecursion HasShortScale plan.tracks.items
    → IsPlan files from to movie plan → AreParts (placed_movie plan movie)
parts_placed files from to movie plan h can some short scales is = record {
  bare = record {
    header = record {
      created = h.bare.header.created;
      modified = h.bare.header.modified;
      some_scale = some;
      timescale = short;
      duration = longest_fits plan.scale (map bare_track (placed_tracks plan.tracks.items movie.tracks));
      rate = h.bare.header.rate;
      volume = h.bare.header.volume;
      matrix = h.bare.header.matrix;
      next_track = omega arith;
    };
    udta = h.bare.udta;
    tracks = each_bare files movie.scale plan.scale from to movie.tracks plan.tracks.items h.bare.tracks scales is.tracks;
    distinct = subst AreDistinct (sym (numbers_stay plan.tracks.items movie.tracks (as_many files movie.scale plan.scale from to movie.tracks plan.tracks.items is.tracks))) h.bare.distinct;
  };
  columns = columns_placed files movie.scale plan.scale from to movie.tracks plan.tracks.items can is.tracks;
}
