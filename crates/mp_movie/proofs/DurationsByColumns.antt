-- What the headers of a movie state, by the columns of its tracks.
use Rattle.std.proofs.Common.{◌≡◌, ℕ, ℤ, pos, ◌+◌, ◌<◌, ◌≤◌, max, get_or, List, [], ◌∷◌, length, map, take, drop, refl, sym, ap, ◌∙◌, arith}
use Rattle.std.specs.Prelude.{sum, unsigned_abs}
use Rattle.std.specs.List.{AllByRecursion, sum_by}
use Rattle.std.proofs.lemmas.List.{drop_all, drop_more}
use Rattle.std.proofs.lemmas.Simd.{map-map}
use Rattle.std.proofs.lemmas.List.Sums.{sum_by-cons}
use Rattle.mp_boxes.specs.Table.{capped}
use Rattle.mp_timeline.specs.Movie.{SampleRecord, TrackRecord}
use Rattle.mp_movie.specs.Columns.{durations}
use Rattle.mp_movie.specs.Durations.{greatest, media_duration, track_duration}
use Rattle.mp_movie.specs.Placed.{PlacedTrack, naturals}
use Rattle.mp_movie.specs.StandsFor.{samples_of, track_for}
use Rattle.mp_movie.specs.WholeParts.{AreColumns, bare_track}
use Rattle.mp_movie.specs.WellFormed.{IsWellFormedTrack}
use Rattle.mp_movie.proofs.ColumnsAreKept.{columns_are_kept}

-- the sum of what is asked of each item
sum_is : (samples : List SampleRecord) → sum (naturals (durations samples)) ≡ sum_by (λ (s : SampleRecord). s.dur) samples
sum_is [] = refl
sum_is (sample ∷ samples) =
    omega (arith, sum_is samples, sum_by-cons (λ (n : ℕ). n) sample.dur (naturals (durations samples)), sum_by-cons (λ (s : SampleRecord). s.dur) sample samples)

pub media_is : (files : List (List ℕ)) (track : PlacedTrack) → AreColumns track → capped (sum (naturals track.deltas)) ≡ media_duration (track_for files track)
media_is files track h = ap capped (ap (λ (column : List ℤ). sum (naturals column)) (sym (columns_are_kept.durations files track h)) ∙ sum_is (samples_of files track))

-- the numbers of tracks
abbrev pub numbers_of : List PlacedTrack → List ℕ
numbers_of tracks = map (λ track. track.number) tracks

pub numbers_for : (files : List (List ℕ)) (tracks : List PlacedTrack) → map (λ (t : TrackRecord). t.number) (map (track_for files) tracks) ≡ numbers_of tracks
numbers_for files tracks = map-map (λ (t : TrackRecord). t.number) (track_for files) tracks

-- the greatest of what is asked of all tracks, once none is left
pub all_passed : (f : PlacedTrack → ℕ) (tracks : List PlacedTrack) (index so_far : ℕ) → length tracks ≤ index → max so_far (greatest (map f (drop index tracks))) ≡ greatest (map f tracks) → so_far ≡ greatest (map f tracks)
all_passed f tracks index so_far past e = omega (arith, e, ap (λ (left : List PlacedTrack). greatest (map f left)) (drop_all index tracks past))

-- the duration of a track, in a movie of this scale
abbrev pub duration_for : ℕ → List (List ℕ) → PlacedTrack → ℕ
duration_for scale files track = track_duration scale (track_for files track)

pub durations_for : (scale : ℕ) (files : List (List ℕ)) (tracks : List PlacedTrack) → map (track_duration scale) (map (track_for files) tracks) ≡ map (duration_for scale files) tracks
durations_for scale files tracks = map-map (track_duration scale) (track_for files) tracks

-- one track more
pub one_passed : (f : PlacedTrack → ℕ) (tracks : List PlacedTrack) (index so_far next : ℕ) (track : PlacedTrack) → index < length tracks → track ≡ get_or tracks index track → next ≡ f track
    → max so_far (greatest (map f (drop index tracks))) ≡ greatest (map f tracks) → max (max next so_far) (greatest (map f (drop (index + 1) tracks))) ≡ greatest (map f tracks)
one_passed f tracks index so_far next track lt here is e =
    let left : greatest (map f (drop index tracks)) ≡ max (f track) (greatest (map f (drop (index + 1) tracks))) =
    ap (λ (ts : List PlacedTrack). greatest (map f ts)) (drop_more tracks index track lt) ∙ ap (λ (t : PlacedTrack). max (f t) (greatest (map f (drop (index + 1) tracks)))) (sym here) in
    omega (arith, e, left, is)

-- each scale is at least one tick a second
pub scales_are : (scale : ℕ) (tracks : List PlacedTrack) → AllByRecursion (IsWellFormedTrack scale) (map bare_track tracks) → AllByRecursion (λ track. 0 < track.scale) tracks
scales_are scale [] bare = tt
scales_are scale (track ∷ tracks) bare = (bare.0.media.some_scale, scales_are scale tracks bare.1)
