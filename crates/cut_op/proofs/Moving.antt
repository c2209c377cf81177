-- Samples and segments that are moved together show the same.
use Rattle.std.proofs.Common.{◌≡◌, ℕ, ◌+◌, ◌-◌, ◌*◌, ◌≤◌, min, Bool, true, false, cond, List, [], ◌∷◌, map, filter, Option, Some, None, ℤ, pos, ◌+ℤ◌, ◌-ℤ◌, ◌*ℤ◌, ◌≤ℤ◌, refl, sym, ap, ◌∙◌, arith, inl, inr}
use Rattle.std.specs.Prelude.{int_lt, unsigned_abs}
use Rattle.std.specs.List.{AllByRecursion}
use Rattle.std.proofs.lemmas.Bool.{cases_lt, lt-ltb, le-ltb}
use Rattle.std.proofs.lemmas.Int.{ints}
use Rattle.mp_timeline.specs.declared.segment.Segment.{Segment}
use Rattle.mp_timeline.specs.declared.segment.Segment.TheVariants.{Empty, Media}
use Rattle.mp_timeline.specs.Movie.{SampleRecord}
use Rattle.mp_edits.specs.Segments.{shifted}
use Rattle.mp_shown.specs.Segments.{in_unit}
use Rattle.mp_shown.specs.Shown.{Seen, media_time, is_at, is_at_some, seen}
use Rattle.mp_clip.specs.Clipped.{starts}
use Rattle.mp_clip.specs.Shape.{least}
use Rattle.track_ops.specs.Told.{or_empty}
use Rattle.cut_op.specs.Track.{moved_sample}
use Rattle.cut_op.proofs.Units.{add-times}

-- no start is below a number
abbrev pub AllFrom : ℕ → List ℕ → Type 0
AllFrom low numbers = AllByRecursion (λ number. low ≤ number) numbers

from_lower : (n m : ℕ) (numbers : List ℕ) → m ≤ n → AllFrom n numbers → AllFrom m numbers
from_lower n m [] le h = tt
from_lower n m (k ∷ numbers) le h = (omega (arith, le, h.0), from_lower n m numbers le h.1)

pub least-from : (numbers : List ℕ) → AllFrom (least numbers) numbers
least-from [] = tt
least-from (n ∷ []) = (omega arith, tt)
least-from (n ∷ m ∷ numbers) = (omega arith, from_lower (least (m ∷ numbers)) (min n (least (m ∷ numbers))) (m ∷ numbers) (omega arith) (least-from (m ∷ numbers)))

-- a time of the media that moves with them
abbrev pub IsMoved : (by : ℤ) (k : ℕ) → (time new : Option ℕ) → Type 0
IsMoved by k None None = Unit {0}
IsMoved by k (Some time) (Some new) = pos new ≡ pos time +ℤ by *ℤ pos k
IsMoved by k None (Some new) = ⊥
IsMoved by k (Some time) None = ⊥

-- ---- segments

start_moved : (start k at : ℕ) (by : ℤ) → pos 0 ≤ℤ (pos start +ℤ by) → pos (unsigned_abs (pos start +ℤ by) * k + at) ≡ pos (start * k + at) +ℤ by *ℤ pos k
start_moved start k at by le =
    let n = unsigned_abs (pos start +ℤ by) in
    let there : pos n ≡ pos start +ℤ by = omega (arith, ints, le) in
    let product : pos (n * k) ≡ pos (start * k) +ℤ by *ℤ pos k = ap (λ (z : ℤ). z *ℤ pos k) there ∙ add-times (pos start) by k in
    omega (arith, ints, product)

pub time-moved : (k at : ℕ) (by : ℤ) (segments : List Segment) → AllByRecursion (λ start. pos 0 ≤ℤ (pos start +ℤ by)) (starts segments)
    → IsMoved by k (media_time (map (in_unit k k) segments) at) (media_time (map (in_unit k k) (map (shifted by) segments)) at)
time-moved k at by [] h = tt
time-moved k at by (Empty dur ∷ segments) h = elim (cases_lt at (dur * k)) [
  | inl lt ↦ rw (lt-ltb at (dur * k) lt) tt
  | inr le ↦ rw (le-ltb at (dur * k) le) (time-moved k (at - dur * k) by segments h)
]
time-moved k at by (Media start dur ∷ segments) h = elim (cases_lt at (dur * k)) [
  | inl lt ↦ rw (lt-ltb at (dur * k) lt) (start_moved start k at by h.0)
  | inr le ↦ rw (le-ltb at (dur * k) le) (time-moved k (at - dur * k) by segments h.1)
]

pub time-empty : (k at : ℕ) (segments : List Segment) → media_time (map (in_unit k k) (or_empty segments)) at ≡ media_time (map (in_unit k k) segments) at
time-empty k at [] = rw (le-ltb at (0 * k) (omega arith)) refl
time-empty k at (segment ∷ segments) = refl

-- how far each start falls, it stays at least 0
pub starts_stay : (first : ℕ) (numbers : List ℕ) → AllByRecursion (λ start. pos 0 ≤ℤ (pos start +ℤ (pos (first - least numbers) -ℤ pos first))) numbers
starts_stay first numbers = each numbers (least numbers) (least-from numbers)
  where
    each : (rest : List ℕ) (low : ℕ) → AllFrom low rest → AllByRecursion (λ start. pos 0 ≤ℤ (pos start +ℤ (pos (first - low) -ℤ pos first))) rest
    each [] low h = tt
    each (n ∷ rest) low h = (one n low h.0, each rest low h.1)
      where
        one : (n low : ℕ) → low ≤ n → pos 0 ≤ℤ (pos n +ℤ (pos (first - low) -ℤ pos first))
        one n low le = omega (arith, ints, le)

-- ---- samples

int_lt-shift : (a b c : ℤ) → int_lt (a +ℤ c) (b +ℤ c) ≡ int_lt a b
int_lt-shift a b c = grind (arith, ints)

add_move : (a b c : ℤ) → a +ℤ c +ℤ b ≡ a +ℤ b +ℤ c
add_move a b c = omega (arith, ints)

is_at-moved : (first late k time new : ℕ) (sample : SampleRecord) → pos new ≡ pos time +ℤ (pos late -ℤ pos first) *ℤ pos k
    → is_at k (moved_sample first late sample) new ≡ is_at k sample time
is_at-moved first late k time new sample e =
    let by : ℤ = pos late -ℤ pos first in
    rw (e, add-times sample.comp by k, int_lt-shift (pos time) (sample.comp *ℤ pos k) (by *ℤ pos k), add_move sample.comp (pos sample.dur) by, add-times (sample.comp +ℤ pos sample.dur) by k, int_lt-shift (pos time) ((sample.comp +ℤ pos sample.dur) *ℤ pos k) (by *ℤ pos k)) refl

-- what is seen of the samples at a time
abbrev pub seen_at : (entries : List (List ℕ)) → ℕ → Option ℕ → List SampleRecord → List Seen
seen_at entries k time samples = map (seen entries) (filter (is_at_some k time) samples)

seen-moved-at : (entries : List (List ℕ)) (first late k time new : ℕ) (samples : List SampleRecord) → pos new ≡ pos time +ℤ (pos late -ℤ pos first) *ℤ pos k
    → seen_at entries k (Some new) (map (moved_sample first late) samples) ≡ seen_at entries k (Some time) samples
seen-moved-at entries first late k time new [] e = refl
seen-moved-at entries first late k time new (sample ∷ samples) e = rw (is_at-moved first late k time new sample e) (by (is_at k sample time) (seen-moved-at entries first late k time new samples e))
  where
    by : (b : Bool) → seen_at entries k (Some new) (map (moved_sample first late) samples) ≡ seen_at entries k (Some time) samples
        → map (seen entries) (cond b (moved_sample first late sample ∷ filter (is_at_some k (Some new)) (map (moved_sample first late) samples)) (filter (is_at_some k (Some new)) (map (moved_sample first late) samples)))
        ≡ map (seen entries) (cond b (sample ∷ filter (is_at_some k (Some time)) samples) (filter (is_at_some k (Some time)) samples))
    by true rest = ap (λ (xs : List Seen). seen entries sample ∷ xs) rest
    by false rest = rest

-- at no time nothing is seen
pub seen-never : (entries : List (List ℕ)) (k : ℕ) (samples : List SampleRecord) → seen_at entries k None samples ≡ []
seen-never entries k [] = refl
seen-never entries k (sample ∷ samples) = seen-never entries k samples

-- samples and their time move together
pub seen-moved : (entries : List (List ℕ)) (first late k : ℕ) (time new : Option ℕ) (samples : List SampleRecord) → IsMoved (pos late -ℤ pos first) k time new
    → seen_at entries k new (map (moved_sample first late) samples) ≡ seen_at entries k time samples
seen-moved entries first late k None None samples is = seen-never entries k (map (moved_sample first late) samples) ∙ sym (seen-never entries k samples)
seen-moved entries first late k (Some time) (Some new) samples is = seen-moved-at entries first late k time new samples is
seen-moved entries first late k None (Some new) samples is = absurd is
seen-moved entries first late k (Some time) None samples is = absurd is
