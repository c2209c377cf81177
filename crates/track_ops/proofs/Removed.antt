-- A movie without one of its tracks.
use Rattle.std.proofs.Common.{◌≡◌, ℕ, Bool, List, length, true, false, not, ◌==◌, Some, None, refl, sym, ap}
use Rattle.std.specs.Prelude.{Result, Ok, Err}
use Rattle.mp_ports.specs.declared.code.Code.{Code}
use Rattle.mp_ports.specs.declared.code.Code.TheVariants.{NoTrack, DeltaLimit, SizeLimit, EntryLimit, SegmentLimit, OffsetLimit, DurationLimit, StartLimit}
use Rattle.mp_ports.specs.declared.fault.Bad.{Bad}
use Rattle.mp_ports.specs.Checks.{bad_at, placed}
use Rattle.mp_timeline.specs.Movie.{TrackRecord, MovieRecord}
use Rattle.mp_movie.specs.Placed.{PlacedTrack, PlacedMovie}
use Rattle.mp_movie.specs.StandsFor.{Hold, HoldTrack, stands_for, track_for}
use Rattle.mp_movie.specs.PartsFit.{first_limit, passes}
use Rattle.mp_movie.specs.WholeParts.{AreColumns, AreParts, bare_track}
use Rattle.mp_movie.specs.WellFormed.{IsWellFormedTrack}
use Rattle.track_ops.specs.Kept.{has_number, kept_less, kept_without}
use Rattle.track_ops.specs.Does.{Does}
use Rattle.track_ops.specs.Tracks.{remove, where_there}
use Rattle.track_ops.proofs.Lists.{all_filtered, all_kept, distinct_kept, fewer_kept, map_filter, none_kept, sum_kept}
use Rattle.track_ops.proofs.LimitsStay.{NoMore, still_fits}
use Rattle.track_ops.proofs.PartsStay.{numbers_distinct, parts_stay}
use Rattle.track_ops.proofs.StandsForTracks.{taken}

abbrev others : ℕ → PlacedTrack → Bool
others number track = not (track.number == number)

pub parts_less : (number : ℕ) (movie : PlacedMovie) → AreParts movie → AreParts (kept_less number movie)
parts_less number movie h =
    parts_stay movie movie.scale (kept_without number movie.tracks) h h.bare.header.some_scale h.bare.header.timescale
    (all_kept (IsWellFormedTrack movie.scale) bare_track (others number) movie.tracks h.bare.tracks)
    (distinct_kept (λ (t : PlacedTrack). t.number) (others number) movie.tracks (numbers_distinct movie h))
    (all_filtered AreColumns (others number) movie.tracks h.columns)

pub fits_less : (number : ℕ) (movie : PlacedMovie) → first_limit movie ≡ None → first_limit (kept_less number movie) ≡ None
fits_less number movie fits =
    still_fits (kept_less number movie) movie fits (record { delta = each DeltaLimit; offset = each OffsetLimit; duration = each DurationLimit; start = each StartLimit; size = each SizeLimit; entry = each EntryLimit; segment = each SegmentLimit }) (sum_kept (λ (t : PlacedTrack). length t.deltas) (others number) movie.tracks)
    (fewer_kept (others number) movie.tracks)
  where
    each : (code : Code) → NoMore (kept_less number movie) movie code
    each code none = none_kept (passes code) (others number) movie.tracks none

-- it stands for the movie without the track of that number
stands_less : (files : List (List ℕ)) (number : ℕ) (movie : PlacedMovie) → has_number number movie.tracks ≡ true → placed 0 (remove number (stands_for files movie)) ≡ Ok (stands_for files (kept_less number movie))
stands_less files number movie there =
    rw (taken files movie.tracks number, there)
    (ap (λ (tracks : List TrackRecord). Ok (record (stands_for files movie) { tracks = tracks }))
    (sym (map_filter (track_for files) (others number) (λ (t : TrackRecord). not (t.number == number)) (λ track. refl) movie.tracks)))

held_less : (sizes : List ℕ) (number : ℕ) (movie : PlacedMovie) → Hold sizes movie → Hold sizes (kept_less number movie)
held_less sizes number movie hold = all_filtered (HoldTrack sizes) (others number) movie.tracks hold

pub removed : (number : ℕ) (movie new : PlacedMovie) → has_number number movie.tracks ≡ true → new ≡ kept_less number movie → Does {A = Unit {0}} Some (remove number) movie new (Ok tt)
removed number movie new there is =
    rw is
    (record { gives = λ files hold. stands_less files number movie there; held = λ sizes hold. held_less sizes number movie hold; same = tt })

-- a command on a number that no track has
pub refused : (number : ℕ) (movie : PlacedMovie) (command : MovieRecord → Result MovieRecord Code) (wanted : MovieRecord → Result MovieRecord Code) (bad : Bad)
    → ((given : MovieRecord) → command given ≡ where_there number given (wanted given)) → has_number number movie.tracks ≡ false → bad ≡ bad_at NoTrack 0
    → Does {A = Unit {0}} Some command movie movie (Err bad)
refused number movie command wanted bad guards none is =
    rw is
    (record { gives = λ files hold. rw (guards (stands_for files movie), taken files movie.tracks number, none) refl; held = λ sizes hold. hold; same = refl })
