-- How a track is cut, as it is decided before anything changes.
use Rattle.std.specs.Prelude.{◌≡◌, ℕ, ◌+◌, ◌-◌, ◌*◌, ◌/◌, ◌^◌, ◌<◌, ◌≤◌, ◌*ℤ◌, pos, min, true, false, nat_le, ◌||◌, All, FitsSigned, List, [], ◌∷◌, length, map, slice_range, Option, Some, None}
use Rattle.std.specs.Int.{w64, ◌∣◌}
use Rattle.std.specs.List.{AllZip, flat_map}
use Rattle.mp_frac.specs.declared.time.Frac.{Frac}
use Rattle.mp_ports.specs.declared.code.Code.{Code}
use Rattle.mp_ports.specs.declared.code.Code.TheVariants.{DeltaLimit, OffsetLimit, DurationLimit, StartLimit}
use Rattle.mp_ports.specs.Checks.{first_code}
use Rattle.mp_timeline.specs.Movie.{MovieHeadRecord}
use Rattle.mp_timeline.specs.declared.segment.Segment.{Segment}
use Rattle.mp_movie.specs.PartsFit.{first_limit, is_long, is_wide}
use Rattle.mp_movie.specs.Placed.{PlacedMovie, PlacedTrack}
use Rattle.mp_movie.specs.Settling.{Settles}
use Rattle.mp_movie.specs.StandsFor.{samples_of, stands_for, track_for}
use Rattle.mp_movie.specs.WholeParts.{AreColumns}
use Rattle.mp_shown.specs.Fractions.{is_before}
use Rattle.mp_shown.specs.Law.{finer_sample}
use Rattle.mp_clip.specs.declared.shape.ClipShape.{ClipShape}
use Rattle.mp_clip.specs.Clipped.{TellsBack, unit}
use Rattle.mp_clip.specs.Shape.{IsShape}
use Rattle.track_ops.specs.Told.{or_empty}
use Rattle.cut_op.specs.declared.limits.Passed.{Passed}
use Rattle.cut_op.specs.declared.plan.Plan.{Plan}
use Rattle.cut_op.specs.declared.plan.TrackPlan.{TrackPlan}
use Rattle.cut_op.specs.Cut.{cut_durations, cut_movie, cut_scale}
use Rattle.cut_op.specs.Needed.{kept_samples}
use Rattle.cut_op.specs.Placed.{FitsOffset, first_ticks, moved_offset, placed_cut}
use Rattle.cut_op.specs.Track.{track_pieces, track_samples}

-- the samples from one place up to another are those that the pieces need
pub record IsNeededRange (files : List (List ℕ)) (movie : ℕ) (from to : Frac) (track : PlacedTrack) (low high : ℕ) : Type 0 where
  pub order : low ≤ high
  pub inside : high ≤ length track.deltas
  pub kept : kept_samples (track_pieces movie from to (track_for files track)) (track_samples movie from to (track_for files track))
      ≡ map (finer_sample (movie * (from.d * to.d))) (slice_range (samples_of files track) low high)

-- the kept samples are those that the pieces need; the new scale is that of the pieces' starts; times fall by when the first kept sample
-- is decoded, but no further than the least start
pub record IsTrackPlan (files : List (List ℕ)) (movie : ℕ) (from to : Frac) (track : PlacedTrack) (shape : ClipShape) (plan : TrackPlan) : Type 0 where
  pub order : plan.kept.from ≤ plan.kept.to
  pub inside : plan.kept.to ≤ length track.deltas
  pub kept : kept_samples (track_pieces movie from to (track_for files track)) (track_samples movie from to (track_for files track))
      ≡ map (finer_sample (movie * (from.d * to.d))) (slice_range (samples_of files track) plan.kept.from plan.kept.to)
  pub is_shape : IsShape track.scale movie (unit track.scale movie from to) (track_pieces movie from to (track_for files track)) shape
  pub scale : plan.scale ≡ shape.media_scale
  pub factor : plan.scale ≡ track.scale * plan.factor
  pub back : plan.back ≡ min (first_ticks plan.kept.from plan.kept.to track * plan.factor) shape.least
  pub ahead : plan.ahead ≡ first_ticks plan.kept.from plan.kept.to track * plan.factor - plan.back

-- edits are the pieces in ticks of the new scales, one of no time where there is none
pub record HasEdits (files : List (List ℕ)) (movie new_movie : ℕ) (from to : Frac) (track : PlacedTrack) (plan : TrackPlan) (edits : List Segment) : Type 0 where
  pub made : List Segment
  pub told : TellsBack (unit track.scale movie from to) plan.scale new_movie plan.back (track_pieces movie from to (track_for files track)) made
  pub are : edits ≡ or_empty made

-- which limits the track of a plan passes, in a movie of that scale
abbrev pub passed_of : (movie : ℕ) → ClipShape → TrackPlan → PlacedTrack → Passed
passed_of movie shape plan track = record {
  durations = is_long (map (λ delta. delta *ℤ pos plan.factor) (slice_range track.deltas plan.kept.from plan.kept.to));
  offsets = is_wide (map (moved_offset plan.factor plan.ahead) (slice_range track.offsets plan.kept.from plan.kept.to));
  total = nat_le (2 ^ 62) (shape.total * (movie / shape.movie_scale));
  starts = nat_le (2 ^ 62 + plan.back) shape.greatest;
}

-- the plan of a track has got edits
pub record IsFilled (files : List (List ℕ)) (movie new_movie : ℕ) (from to : Frac) (track : PlacedTrack) (plan filled : TrackPlan) : Type 0 where
  pub same : filled ≡ record plan { edits = filled.edits }
  pub has : HasEdits files movie new_movie from to track plan filled.edits.items

-- each has
abbrev pub AreFilled : List (List ℕ) → (movie new_movie : ℕ) → (from to : Frac) → List PlacedTrack → (plans filled : List TrackPlan) → Type 0
AreFilled files movie new_movie from to [] [] [] = Unit {0}
AreFilled files movie new_movie from to (track ∷ tracks) (plan ∷ plans) (one ∷ filled) =
    IsFilled files movie new_movie from to track plan one × AreFilled files movie new_movie from to tracks plans filled
AreFilled files movie new_movie from to _ _ _ = ⊥

-- there is such a plan, before it has edits, and so much passes its track
pub record MakesPlan (files : List (List ℕ)) (movie new_movie : ℕ) (from to : Frac) (track : PlacedTrack) (plan : TrackPlan) (passed : Passed) : Type 0 where
  pub shape : ClipShape
  pub is : IsTrackPlan files movie from to track shape plan
  pub room : plan.back < 2 ^ 127
  pub passed_is : passed ≡ passed_of new_movie shape plan track

-- there is one of each track
abbrev pub MakePlans : List (List ℕ) → (movie new_movie : ℕ) → (from to : Frac) → List PlacedTrack → List TrackPlan → List Passed → Type 0
MakePlans files movie new_movie from to [] [] [] = Unit {0}
MakePlans files movie new_movie from to (track ∷ tracks) (plan ∷ plans) (passed ∷ all) =
    MakesPlan files movie new_movie from to track plan passed × MakePlans files movie new_movie from to tracks plans all
MakePlans files movie new_movie from to _ _ _ = ⊥

-- what one of some tracks passes
abbrev pub either_of : Passed → Passed → Passed
either_of one other = record {
  durations = one.durations || other.durations;
  offsets = one.offsets || other.offsets;
  total = one.total || other.total;
  starts = one.starts || other.starts;
}

abbrev pub any_passed : List Passed → Passed
any_passed [] = record { durations = false; offsets = false; total = false; starts = false }
any_passed (passed ∷ others) = either_of passed (any_passed others)

-- all tracks are planned, and one of them passes so much
pub record ArePlanned (files : List (List ℕ)) (movie new_movie : ℕ) (from to : Frac) (tracks : List PlacedTrack) (plans : List TrackPlan) (passed : Passed) : Type 0 where
  pub all : List Passed
  pub each : MakePlans files movie new_movie from to tracks plans all
  pub passed_is : passed ≡ any_passed all

-- the first of the limits that is passed
abbrev pub first_passed : Passed → Option Code
first_passed passed =
    first_code ((passed.durations, DeltaLimit) ∷ (passed.offsets, OffsetLimit) ∷ (passed.total, DurationLimit) ∷ (passed.starts, StartLimit) ∷ [])

-- the scale is the least multiple of the movie's in which the pieces of these tracks last whole ticks
abbrev pub HasScale : List (List ℕ) → (movie : ℕ) → (from to : Frac) → List PlacedTrack → ℕ → Type 0
HasScale files movie from to tracks scale = Settles movie (flat_map (cut_durations movie from to) (map (track_for files) tracks)) (Some scale)

-- a movie of these tracks has no cut, since a scale would be above the greatest one
abbrev pub NoCut : List (List ℕ) → (movie : ℕ) → (from to : Frac) → List PlacedTrack → Type 0
NoCut files movie from to tracks = (head : MovieHeadRecord) → cut_movie from to (record { scale = movie; head = head; tracks = map (track_for files) tracks }) ≡ None

-- the pieces can be told in the scales of the plan
pub record CanEdit (files : List (List ℕ)) (movie new_movie : ℕ) (from to : Frac) (track : PlacedTrack) (plan : TrackPlan) : Type 0 where
  pub shape : ClipShape
  pub is : IsTrackPlan files movie from to track shape plan
  pub multiple : shape.movie_scale ∣ new_movie
  pub short : shape.total * (new_movie / shape.movie_scale) < 2 ^ 62
  pub early : shape.greatest < 2 ^ 62 + plan.back
  pub room : plan.back < 2 ^ 127

-- a track is planned so
pub record PlansTrack (files : List (List ℕ)) (movie new_movie : ℕ) (from to : Frac) (track : PlacedTrack) (plan : TrackPlan) : Type 0 where
  pub shape : ClipShape
  pub is : IsTrackPlan files movie from to track shape plan
  pub has : HasEdits files movie new_movie from to track plan plan.edits.items

-- what a plan makes of a track, and of a movie
abbrev pub placed_by : TrackPlan → PlacedTrack → PlacedTrack
placed_by plan track = placed_cut plan.kept.from plan.kept.to plan.scale plan.factor plan.ahead plan.edits.items track

abbrev pub placed_tracks : List TrackPlan → List PlacedTrack → List PlacedTrack
placed_tracks [] tracks = tracks
placed_tracks (plan ∷ plans) [] = []
placed_tracks (plan ∷ plans) (track ∷ tracks) = placed_by plan track ∷ placed_tracks plans tracks

abbrev pub placed_movie : Plan → PlacedMovie → PlacedMovie
placed_movie plan movie = record movie { scale = plan.scale; tracks = placed_tracks plan.tracks.items movie.tracks }

-- how a movie is cut: its new scale, each track, and that the cut movie passes no limit
pub record IsPlan (files : List (List ℕ)) (from to : Frac) (movie : PlacedMovie) (plan : Plan) : Type 0 where
  pub before : is_before from to ≡ true
  pub scale : cut_scale from to (stands_for files movie) ≡ Some plan.scale
  pub some : 0 < plan.scale
  pub short : plan.scale < 2 ^ 32
  pub tracks : AllZip (PlansTrack files movie.scale plan.scale from to) movie.tracks plan.tracks.items
  pub fits : first_limit (placed_movie plan movie) ≡ None

-- the track can be cut so in place: no number is longer on the way than it comes to
pub record CanApply (track : PlacedTrack) (plan : TrackPlan) : Type 0 where
  pub columns : AreColumns track
  pub order : plan.kept.from ≤ plan.kept.to
  pub inside : plan.kept.to ≤ length track.deltas
  pub some : 0 < plan.factor
  pub deltas : All (λ delta. FitsSigned w64 (delta *ℤ pos plan.factor)) (slice_range track.deltas plan.kept.from plan.kept.to)
  pub old : All FitsOffset (slice_range track.offsets plan.kept.from plan.kept.to)
  pub offsets : All (λ offset. FitsOffset (moved_offset plan.factor plan.ahead offset)) (slice_range track.offsets plan.kept.from plan.kept.to)
