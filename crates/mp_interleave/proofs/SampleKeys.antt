-- The keys of a track's samples: their windows never fall, and their numbers count from 1.
use Rattle.std.proofs.Common.{◌≡◌, ℕ, zero, suc, ◌+◌, ◌*◌, ◌/◌, ◌<◌, ◌≤◌, ◌==◌, Bool, true, false, cond, List, [], ◌∷◌, length, map, drop, take, get_or, refl, sym, ap, subst, ◌∙◌, arith}
use Rattle.std.specs.Prelude.{sum, slice_index, unsigned_abs}
use Rattle.std.specs.List.{AllByRecursion, range_with_len}
use Rattle.std.proofs.lemmas.List.{length-map}
use Rattle.std.proofs.lemmas.List.Sums.{fold_more}
use Rattle.std.proofs.lemmas.Nat.{le-div}
use Rattle.std.proofs.Math.Nat.{div-mul-le_self}
use Rattle.mp_timeline.specs.Movie.{SampleRecord, TrackRecord}
use Rattle.mp_movie.specs.Placed.{PlacedTrack, naturals}
use Rattle.mp_movie.specs.StandsFor.{sample_at, samples_of, track_for}
use Rattle.mp_movie.specs.WellFormed.{AreConsecutive}
use Rattle.mp_interleave.specs.Order.{Key, key_at, keys_in, track_keys, window_at}
use Rattle.mp_interleave.specs.Left.{track_at}
use Rattle.mp_interleave.specs.Samples.{keys_from, keys_of, samples_at}
use Rattle.mp_interleave.specs.Law.{IsTimed}
use Rattle.mp_interleave.proofs.Runs.{IsSorted}
use Rattle.mp_interleave.proofs.Chunks.{AreSorted}
use Rattle.mp_interleave.proofs.Turns.{AreTracks, IsNumbered}

-- ---- windows never fall along decode times

pub quotient-rises : (a b n : ℕ) → a ≤ b → a / n ≤ b / n
quotient-rises a b zero le = omega arith
quotient-rises a b (suc n) le = le-div (a / suc n) b (suc n) (omega arith) (omega (arith, div-mul-le_self a (suc n), le))

pub window-rises : (millis scale one other : ℕ) → one ≤ other → window_at millis scale one ≤ window_at millis scale other
window-rises millis scale one other le = by (millis == 0)
  where
    by : (whole : Bool) → (cond whole 0 (one * 1000 / (scale * millis))) ≤ (cond whole 0 (other * 1000 / (scale * millis)))
    by true = omega arith
    by false = quotient-rises (one * 1000) (other * 1000) (scale * millis) (omega (arith, le))

le-le : (a b c : ℕ) → a ≤ b → b ≤ c → a ≤ c
le-le a b c one other = omega (arith, one, other)

-- ---- the keys of samples

later : (millis scale number window decode : ℕ) (samples : List SampleRecord) → AreConsecutive decode samples → window ≤ window_at millis scale decode
    → AllByRecursion (λ (key : Key). window ≤ key.window) (keys_from millis scale number samples)
later millis scale number window decode [] times le = tt
later millis scale number window decode (sample ∷ samples) times le = (
  subst (λ (time : ℕ). window ≤ window_at millis scale time) (sym times.0) le,
  later millis scale (number + 1) window (decode + sample.dur) samples times.1 (le-le window (window_at millis scale decode) _ le (window-rises millis scale decode (decode + sample.dur) (omega arith))),
)

sorted-from : (millis scale number decode : ℕ) (samples : List SampleRecord) → AreConsecutive decode samples → IsSorted (keys_from millis scale number samples)
sorted-from millis scale number decode [] times = tt
sorted-from millis scale number decode (sample ∷ samples) times = (
  later millis scale (number + 1) (window_at millis scale sample.decode) (decode + sample.dur) samples times.1 (window-rises millis scale sample.decode (decode + sample.dur) (omega (arith, times.0))),
  sorted-from millis scale (number + 1) (decode + sample.dur) samples times.1,
)

numbered-from : (millis scale number : ℕ) (samples : List SampleRecord) → IsNumbered number (keys_from millis scale number samples)
numbered-from millis scale number [] = tt
numbered-from millis scale number (sample ∷ samples) = (refl, numbered-from millis scale (number + 1) samples)

pub length-from : (millis scale number : ℕ) (samples : List SampleRecord) → length (keys_from millis scale number samples) ≡ length samples
length-from millis scale number [] = refl
length-from millis scale number (sample ∷ samples) = ap suc (length-from millis scale (number + 1) samples)

pub drop-from : (millis scale number n : ℕ) (samples : List SampleRecord) → drop n (keys_from millis scale number samples) ≡ keys_from millis scale (number + n) (drop n samples)
drop-from millis scale number zero samples = ap (λ (m : ℕ). keys_from millis scale m samples) (omega arith)
drop-from millis scale number (suc n) [] = refl
drop-from millis scale number (suc n) (sample ∷ samples) = drop-from millis scale (number + 1) n samples ∙ ap (λ (m : ℕ). keys_from millis scale m (drop n samples)) (omega arith)

-- the keys of the track at a position
abbrev pub scale_at : List TrackRecord → ℕ → ℕ
scale_at tracks position = get_or (map (λ (track : TrackRecord). track.scale) tracks) position 0

pub keys-at : (millis : ℕ) (tracks : List TrackRecord) (position : ℕ) → track_at (map (keys_of millis) tracks) position ≡ keys_from millis (scale_at tracks position) 1 (samples_at tracks position)
unfolding keys_of
keys-at millis [] position = refl
keys-at millis (track ∷ tracks) zero = refl
keys-at millis (track ∷ tracks) (suc position) = keys-at millis tracks position

sorted : (millis : ℕ) (tracks : List TrackRecord) → AllByRecursion IsTimed tracks → AreSorted (map (keys_of millis) tracks)
unfolding keys_of
sorted millis [] times = tt
sorted millis (track ∷ tracks) times = (sorted-from millis track.scale 1 0 track.samples times.0, sorted millis tracks times.1)

numbered : (millis : ℕ) (tracks : List TrackRecord) → AllByRecursion (IsNumbered 1) (map (keys_of millis) tracks)
unfolding keys_of
numbered millis [] = tt
numbered millis (track ∷ tracks) = (numbered-from millis track.scale 1 track.samples, numbered millis tracks)

pub are-tracks : (millis : ℕ) (tracks : List TrackRecord) → AllByRecursion IsTimed tracks → AreTracks (map (keys_of millis) tracks)
are-tracks millis tracks times = record { sorted = sorted millis tracks times; numbered = numbered millis tracks }

-- ---- the keys of a track as it is kept

from-range : (files : List (List ℕ)) (millis : ℕ) (track : PlacedTrack) (from n : ℕ)
    → keys_from millis track.scale (from + 1) (map (sample_at files track) (range_with_len from n)) ≡ map (key_at millis track) (range_with_len from n)
unfolding sample_at
from-range files millis track from zero = refl
from-range files millis track from (suc n) = ap (λ (rest : List Key). key_at millis track from ∷ rest) (from-range files millis track (from + 1) n)

kept-keys : (files : List (List ℕ)) (millis : ℕ) (track : PlacedTrack) → keys_of millis (track_for files track) ≡ track_keys millis track
unfolding keys_of track_keys samples_of
kept-keys files millis track = from-range files millis track 0 (length track.deltas)

pub keys-of-kept : (files : List (List ℕ)) (millis : ℕ) (tracks : List PlacedTrack) → map (keys_of millis) (map (track_for files) tracks) ≡ keys_in millis tracks
keys-of-kept files millis [] = refl
keys-of-kept files millis (track ∷ tracks) = rw (kept-keys files millis track, keys-of-kept files millis tracks) refl

-- the time of the next sample
pub next-time : (durations : List ℕ) (k : ℕ) → k < length durations → sum (take (k + 1) durations) ≡ sum (take k durations) + slice_index durations k
next-time durations k lt = fold_more (λ (a : ℕ) (x : ℕ). a + x) 0 durations k 0 lt

times-from : (files : List (List ℕ)) (track : PlacedTrack) (decode k m : ℕ) → k + m ≤ length track.deltas → decode ≡ sum (take k (naturals track.deltas))
    → AreConsecutive decode (map (sample_at files track) (range_with_len k m))
unfolding sample_at
times-from files track decode k zero le at = tt
times-from files track decode k (suc m) le at =
    let long = length-map track.deltas unsigned_abs in
    (sym at, times-from files track (decode + slice_index (naturals track.deltas) k) (k + 1) m (omega (arith, le)) (ap (λ (d : ℕ). d + slice_index (naturals track.deltas) k) at ∙ sym (next-time (naturals track.deltas) k (omega (arith, le, long)))))

kept-times : (files : List (List ℕ)) (track : PlacedTrack) → IsTimed (track_for files track)
unfolding samples_of
kept-times files track = times-from files track 0 0 (length track.deltas) (omega arith) refl

all-kept-times : (files : List (List ℕ)) (tracks : List PlacedTrack) → AllByRecursion IsTimed (map (track_for files) tracks)
all-kept-times files [] = tt
all-kept-times files (track ∷ tracks) = (kept-times files track, all-kept-times files tracks)

pub kept-tracks : (millis : ℕ) (tracks : List PlacedTrack) → AreTracks (keys_in millis tracks)
kept-tracks millis tracks = subst AreTracks (keys-of-kept [] millis tracks) (are-tracks millis (map (track_for []) tracks) (all-kept-times [] tracks))

-- how many there are
pub length-keys : (millis : ℕ) (tracks : List PlacedTrack) (position : ℕ) (d : PlacedTrack) → position < length tracks → length (track_at (keys_in millis tracks) position) ≡ length (get_or tracks position d).deltas
unfolding track_keys
length-keys millis [] position d lt = absurd (omega arith)
length-keys millis (track ∷ tracks) zero d lt = length-map (range_with_len 0 (length track.deltas)) (key_at millis track) ∙ length-range 0 (length track.deltas)
  where
    length-range : (from n : ℕ) → length (range_with_len from n) ≡ n
    length-range from zero = refl
    length-range from (suc n) = ap suc (length-range (from + 1) n)
length-keys millis (track ∷ tracks) (suc position) d lt = length-keys millis tracks position d (omega arith)
