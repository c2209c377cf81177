-- The track at a place of a movie that was taken apart.
use Rattle.std.proofs.Common.{◌≡◌, ℕ, zero, suc, ◌<◌, false, List, [], ◌∷◌, All, length, map, option_map, get_or, set, Some, None, refl, sym, ap, ◌∙◌, subst, arith}
use Rattle.mp_timeline.specs.declared.segment.Segment.{Segment}
use Rattle.mp_edits.specs.EditBox.{segments_in}
use Rattle.mp_timeline.specs.Plain.{plain_track_head}
use Rattle.mp_movie.specs.Placed.{PlacedTrack, PlacedMovie, empty_track}
use Rattle.mp_ports.specs.declared.code.Code.TheVariants.{DurationLimit}
use Rattle.mp_movie.specs.PartsFit.{first_limit, limits, passes}
use Rattle.std.specs.List.{list_any}
use Rattle.track_ops.specs.Kept.{kept_in_scale}
use Rattle.track_ops.specs.KeptShown.{kept_shown, without_edits}
use Rattle.track_ops.specs.KeptTimes.{CanRetimeTrack, CanSetScale, kept_in_movie_scale, kept_in_track_scale, kept_retimed, with_track}
use Rattle.track_ops.specs.Scales.{CanLast}
use Rattle.track_ops.specs.Ticks.{starting}
use Rattle.track_ops.proofs.AddedTracks.{all_short}
use Rattle.track_ops.proofs.LimitsStay.{none_holds}
use Rattle.track_ops.proofs.Lists.{neither}
use Rattle.track_ops.proofs.TrackIsSet.{IsThere}
use Rattle.track_ops.proofs.TracksAt.{map_set}

pub any_default : {A : Type 0} (xs : List A) (at : ℕ) (d e : A) → at < length xs → get_or xs at d ≡ get_or xs at e
any_default [] at d e lt = absurd (omega (arith, lt))
any_default (x ∷ xs) zero d e lt = refl
any_default (x ∷ xs) (suc at) d e lt = any_default xs at d e (omega (arith, lt))

pub placed_at : (number at : ℕ) (track d : PlacedTrack) (movie parts : PlacedMovie) → IsThere number at track movie → parts ≡ movie → get_or parts.tracks at d ≡ track
placed_at number at track d movie parts h same = subst (λ (m : PlacedMovie). get_or m.tracks at d ≡ track) (sym same) (any_default movie.tracks at d track h.inside ∙ h.is)

pub can_set_at : (number at scale : ℕ) (track d : PlacedTrack) (movie parts : PlacedMovie) → IsThere number at track movie → parts ≡ movie → CanSetScale scale track → CanSetScale scale (get_or parts.tracks at d)
can_set_at number at scale track d movie parts h same can = subst (CanSetScale scale) (sym (placed_at number at track d movie parts h same)) can

pub set_made : (number at scale : ℕ) (track d : PlacedTrack) (movie parts new : PlacedMovie) → IsThere number at track movie → parts ≡ movie → new ≡ with_track at (kept_in_track_scale scale (get_or parts.tracks at d)) parts
    → new ≡ with_track at (kept_in_track_scale scale track) movie
set_made number at scale track d movie parts new h same is =
    is ∙ (ap (λ (t : PlacedTrack). with_track at (kept_in_track_scale scale t) parts) (placed_at number at track d movie parts h same) ∙ ap (with_track at (kept_in_track_scale scale track)) same)

-- some track
abbrev pub any_track : PlacedTrack
any_track = empty_track 1 (plain_track_head []) 1 []

-- what is told of an old scale and new edits, of the track
pub set_told : (scale old : ℕ) (track mid : PlacedTrack) → old ≡ track.scale → mid ≡ record track { edits = option_map (map (starting old scale)) track.edits } → kept_retimed scale mid.edits mid ≡ kept_in_track_scale scale track
set_told scale old track mid same is =
    ap (λ (t : PlacedTrack). kept_retimed scale t.edits t) is ∙ ap (λ (s : ℕ). kept_retimed scale (option_map (map (starting s scale)) track.edits) track) same

-- ---- edits that are cleared first

set_set : {A : Type 0} (xs : List A) (at : ℕ) (x y : A) → set (set xs at x) at y ≡ set xs at y
set_set [] at x y = refl
set_set (z ∷ xs) zero x y = refl
set_set {A = A} (z ∷ xs) (suc at) x y = ap (λ (ys : List A). z ∷ ys) (set_set xs at x y)

get_set : {A : Type 0} (xs : List A) (at : ℕ) (x d : A) → at < length xs → get_or (set xs at x) at d ≡ x
get_set [] at x d lt = absurd (omega (arith, lt))
get_set (z ∷ xs) zero x d lt = refl
get_set (z ∷ xs) (suc at) x d lt = get_set xs at x d (omega (arith, lt))

pub length_with : {A : Type 0} (xs : List A) (at : ℕ) (x : A) → length (set xs at x) ≡ length xs
length_with [] at x = refl
length_with (z ∷ xs) zero x = refl
length_with (z ∷ xs) (suc at) x = ap suc (length_with xs at x)

-- the track without an edit list, in another scale of the movie
abbrev cleared : (old new : ℕ) → PlacedTrack → PlacedTrack
cleared old new track = kept_in_scale old new (record track { edits = None })

abbrev pub cleared_parts : ℕ → PlacedTrack → PlacedMovie → PlacedMovie
cleared_parts at track movie = record movie { tracks = without_edits at track movie.tracks }

pub cleared_at : (at scale : ℕ) (d e : PlacedTrack) (movie first parts : PlacedMovie) → at < length movie.tracks → first ≡ cleared_parts at (get_or movie.tracks at d) movie → parts ≡ kept_in_movie_scale scale first
    → get_or parts.tracks at e ≡ cleared movie.scale scale (get_or movie.tracks at d)
cleared_at at scale d e movie first parts lt is made =
    ap (λ (m : PlacedMovie). get_or m.tracks at e) (made ∙ ap (kept_in_movie_scale scale) is)
    ∙ (ap (λ (ts : List PlacedTrack). get_or ts at e) (map_set (kept_in_scale movie.scale scale) movie.tracks at (record (get_or movie.tracks at d) { edits = None }))
    ∙ get_set (map (kept_in_scale movie.scale scale) movie.tracks) at (cleared movie.scale scale (get_or movie.tracks at d)) e (omega (arith, lt, many movie.tracks)))
  where
    many : (ts : List PlacedTrack) → length (map (kept_in_scale movie.scale scale) ts) ≡ length ts
    many [] = refl
    many (t ∷ ts) = ap suc (many ts)

pub cleared_inside : (at scale : ℕ) (d : PlacedTrack) (movie first parts : PlacedMovie) → at < length movie.tracks → first ≡ cleared_parts at (get_or movie.tracks at d) movie → parts ≡ kept_in_movie_scale scale first → at < length parts.tracks
cleared_inside at scale d movie first parts lt is made =
    let long = ap (λ (m : PlacedMovie). length m.tracks) (made ∙ ap (kept_in_movie_scale scale) is) in
    omega (arith, lt, long, many (set movie.tracks at (record (get_or movie.tracks at d) { edits = None })), length_with movie.tracks at (record (get_or movie.tracks at d) { edits = None }))
  where
    many : (ts : List PlacedTrack) → length (map (kept_in_scale movie.scale scale) ts) ≡ length ts
    many [] = refl
    many (t ∷ ts) = ap suc (many ts)

pub cleared_can : (at scale media : ℕ) (d e : PlacedTrack) (movie first parts : PlacedMovie) → at < length movie.tracks → first ≡ cleared_parts at (get_or movie.tracks at d) movie → parts ≡ kept_in_movie_scale scale first
    → CanRetimeTrack media (get_or movie.tracks at d) → CanRetimeTrack media (get_or parts.tracks at e)
cleared_can at scale media d e movie first parts lt is made can =
    subst (CanRetimeTrack media) (sym (cleared_at at scale d e movie first parts lt is made)) (record { some = can.some; columns = can.columns })

pub can_at : (number at scale : ℕ) (track d : PlacedTrack) (movie parts : PlacedMovie) → IsThere number at track movie → parts ≡ movie → CanRetimeTrack scale track → CanRetimeTrack scale (get_or parts.tracks at d)
can_at number at scale track d movie parts h same can = subst (CanRetimeTrack scale) (sym (placed_at number at track d movie parts h same)) can

pub cleared_shown : (at scale media : ℕ) (edits : List Segment) (d e : PlacedTrack) (movie first parts new : PlacedMovie) → at < length movie.tracks → first ≡ cleared_parts at (get_or movie.tracks at d) movie → parts ≡ kept_in_movie_scale scale first
    → new ≡ with_track at (kept_retimed media (Some edits) (get_or parts.tracks at e)) parts → new ≡ kept_shown at (get_or movie.tracks at d) media edits scale movie
cleared_shown at scale media edits d e movie first parts new lt is made so =
    so
    ∙ (ap (λ (t : PlacedTrack). with_track at (kept_retimed media (Some edits) t) parts) (cleared_at at scale d e movie first parts lt is made)
    ∙ (ap (with_track at (kept_retimed media (Some edits) (get_or movie.tracks at d))) (made ∙ ap (kept_in_movie_scale scale) is)
    ∙ ap (λ (ts : List PlacedTrack). record (kept_in_movie_scale scale movie) { tracks = ts })
    (ap (λ (ts : List PlacedTrack). set ts at (kept_retimed media (Some edits) (get_or movie.tracks at d))) (map_set (kept_in_scale movie.scale scale) movie.tracks at (record (get_or movie.tracks at d) { edits = None }))
    ∙ set_set (map (kept_in_scale movie.scale scale) movie.tracks) at (cleared movie.scale scale (get_or movie.tracks at d)) (kept_retimed media (Some edits) (get_or movie.tracks at d)))))

-- 64 bits hold the durations of all other edit lists, where no edit list is too long there
others_short : (old new : ℕ) (tracks : List PlacedTrack) (at : ℕ) (made d : PlacedTrack) → list_any (passes DurationLimit) (set (map (kept_in_scale old new) tracks) at made) ≡ false
    → list_any (passes DurationLimit) (map (kept_in_scale old new) (set tracks at (record d { edits = None }))) ≡ false
others_short old new [] at made d none = refl
others_short old new (track ∷ tracks) zero made d none = (neither (passes DurationLimit made) (list_any (passes DurationLimit) (map (kept_in_scale old new) tracks)) none).1
others_short old new (track ∷ tracks) (suc at) made d none =
    let both = neither (passes DurationLimit (kept_in_scale old new track)) (list_any (passes DurationLimit) (set (map (kept_in_scale old new) tracks) at made)) none in
    rw (both.0, others_short old new tracks at made d both.1) refl

pub shown_short : (number at media scale : ℕ) (edits : List Segment) (track d : PlacedTrack) (movie parts : PlacedMovie) → IsThere number at track movie → parts ≡ movie → first_limit (kept_shown at track media edits scale movie) ≡ None
    → All (λ (t : PlacedTrack). All (CanLast parts.scale scale) (segments_in t.edits)) (without_edits at (get_or parts.tracks at d) parts.tracks)
shown_short number at media scale edits track d movie parts h same fits =
    subst (λ (m : PlacedMovie). All (λ (t : PlacedTrack). All (CanLast m.scale scale) (segments_in t.edits)) (without_edits at (get_or m.tracks at d) m.tracks)) (sym same)
    (all_short movie.scale scale (without_edits at (get_or movie.tracks at d) movie.tracks)
    (others_short movie.scale scale movie.tracks at (kept_retimed media (Some edits) track) (get_or movie.tracks at d) (none_holds (limits (kept_shown at track media edits scale movie)) fits).1.1.0))
