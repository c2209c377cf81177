-- The next chunk is that of the track whose next sample comes first.
use Rattle.std.proofs.Common.{◌≡◌, inl, inr, ℕ, zero, suc, ◌+◌, ◌<◌, ◌≤◌, ◌==◌, Bool, true, false, nat_le, max, List, [], ◌∷◌, ◌++◌, map, drop, take, length, Option, Some, None, if◌then◌else◌, refl, sym, ap, ◌∙◌, arith, rules, subst, add-one}
use Rattle.std.specs.List.{AllByRecursion, flat_map, range_with_len}
use Rattle.std.proofs.lemmas.Bool.{cases_lt}
use Rattle.std.proofs.lemmas.List.{drop-drop, length-drop}
use Rattle.std.proofs.lemmas.Option.{same_Some}
use Rattle.mp_columns.specs.Stretch.{stretches}
use Rattle.mp_interleave.specs.declared.chunk.Chunk.{Chunk}
use Rattle.mp_movie.specs.Durations.{greatest}
use Rattle.mp_interleave.specs.Order.{Key, chunk_of, chunk_order, chunks_in, last_window, same_entry, window_chunks}
use Rattle.mp_interleave.specs.Place.{held}
use Rattle.mp_interleave.specs.Left.{least_from, run_len, same_as, sooner, tails, track_at, window_from}
use Rattle.mp_interleave.proofs.Runs.{From, IsSorted, from-earlier, front-chunk, other-number, sorted-drop, within, within-drop, within-later}

-- the number of the first sample
abbrev pub number_from : List Key → ℕ
number_from [] = 0
number_from (key ∷ keys) = key.number

-- the next sample of the track at a position is in the window, no other is earlier, and those of the tracks before it are later
abbrev pub IsLeast : ℕ → List (List Key) → ℕ → Type 0
IsLeast window [] position = ⊥
IsLeast window (keys ∷ tracks) zero = (window_from keys ≡ Some window) × AllByRecursion (From window) tracks
IsLeast window (keys ∷ tracks) (suc position) = From (window + 1) keys × IsLeast window tracks position

abbrev pub AreSorted : List (List Key) → Type 0
AreSorted tracks = AllByRecursion IsSorted tracks

-- so many samples less of the track at a position
abbrev pub shortened : {A : Type 0} → ℕ → ℕ → List (List A) → List (List A)
shortened position n [] = []
shortened zero n (items ∷ tracks) = drop n items ∷ tracks
shortened (suc position) n (items ∷ tracks) = items ∷ shortened position n tracks

-- the run in front of the track at a position
abbrev pub run_at : List (List Key) → ℕ → ℕ
run_at tracks position = run_len (track_at tracks position)

-- the chunk that begins with the first sample of a track, and what is left behind it
abbrev pub chunk_at : ℕ → List Key → Chunk
chunk_at position keys = record { track = position; first = number_from keys; count = run_len keys }

abbrev pub behind : List (List Key) → ℕ → List (List Key)
behind tracks position = shortened position (run_at tracks position) tracks

-- ---- one window

in-front : (window : ℕ) (key : Key) (keys : List Key) → key.window ≡ window → within window (key ∷ keys) ≡ key ∷ within window keys
in-front window key keys e = rw (same key.window window e) refl
  where
    same : (a b : ℕ) → a ≡ b → (a == b) ≡ true
    same a b e = grind arith

chunks-front : (window at : ℕ) (keys : List Key) (tracks : List (List Key)) → IsSorted keys → window_from keys ≡ Some window
    → window_chunks window at (keys ∷ tracks) ≡ chunk_at at keys ∷ window_chunks window at (drop (run_len keys) keys ∷ tracks)
chunks-front window at [] tracks sorted e = absurd (search rules)
chunks-front window at (key ∷ keys) tracks sorted e =
    let is : key.window ≡ window = same_Some _ _ e in
    let here : chunks_in window at (key ∷ keys) ≡ record { track = at; first = key.number; count = suc (same_as key keys) } ∷ chunks_in window at (drop (same_as key keys) keys)
    = ap (λ (ks : List Key). map (chunk_of at) (stretches same_entry ks)) (in-front window key keys is) ∙ front-chunk at window key keys is sorted in
    rw (add-one (same_as key keys), here) refl

chunks-at : (window at target position : ℕ) (tracks : List (List Key)) → AreSorted tracks → IsLeast window tracks position → at + position ≡ target
    → window_chunks window at tracks ≡ chunk_at target (track_at tracks position) ∷ window_chunks window at (behind tracks position)
chunks-at window at target position [] sorted least e = elim least [ ]
chunks-at window at target zero (keys ∷ tracks) sorted least e =
    subst (λ (t : ℕ). window_chunks window at (keys ∷ tracks) ≡ chunk_at t keys ∷ window_chunks window at (drop (run_len keys) keys ∷ tracks)) (omega (arith, e)) (chunks-front window at keys tracks sorted.0 least.0)
chunks-at window at target (suc position) (keys ∷ tracks) sorted least e =
    rw (within-later window (window + 1) keys (omega arith) least.0) (chunks-at window (at + 1) target position tracks sorted.1 least.1 (omega (arith, e)))

chunks-other : (window other at position : ℕ) (tracks : List (List Key)) → (window ≡ other → ⊥) → IsLeast window tracks position
    → window_chunks other at (behind tracks position) ≡ window_chunks other at tracks
chunks-other window other at position [] apart least = elim least [ ]
chunks-other window other at zero ([] ∷ tracks) apart least = absurd (search rules)
chunks-other window other at zero ((key ∷ keys) ∷ tracks) apart least =
    let is : key.window ≡ window = same_Some _ _ least.0 in
    let out : (key.window == other) ≡ false = other-number key.window other (λ e. apart (omega (arith, is, e))) in
    rw (add-one (same_as key keys), within-drop other key keys (λ e. apart (omega (arith, is, e))), out) refl
chunks-other window other at (suc position) (keys ∷ tracks) apart least = rw (chunks-other window other (at + 1) position tracks apart least.1) refl

chunks-later : (window later at : ℕ) (tracks : List (List Key)) → window < later → AllByRecursion (From later) tracks → window_chunks window at tracks ≡ []
chunks-later window later at [] lt h = refl
chunks-later window later at (keys ∷ tracks) lt h = rw (within-later window later keys lt h.0) (chunks-later window later (at + 1) tracks lt h.1)

chunks-none : (window at : ℕ) (tracks : List (List Key)) → AllByRecursion (λ keys. keys ≡ []) tracks → window_chunks window at tracks ≡ []
chunks-none window at [] h = refl
chunks-none window at (keys ∷ tracks) h = rw h.0 (chunks-none window (at + 1) tracks h.1)

-- all samples are in the window or later
least-from : (window position : ℕ) (tracks : List (List Key)) → AreSorted tracks → IsLeast window tracks position → AllByRecursion (From window) tracks
least-from window position [] sorted least = elim least [ ]
least-from window zero ([] ∷ tracks) sorted least = absurd (search rules)
least-from window zero ((key ∷ keys) ∷ tracks) sorted least =
    let is : key.window ≡ window = same_Some _ _ least.0 in
    ((omega (arith, is), from-earlier window key.window keys (omega (arith, is)) sorted.0.0), least.1)
least-from window (suc position) (keys ∷ tracks) sorted least = (from-earlier window (window + 1) keys (omega arith) least.0, least-from window position tracks sorted.1 least.1)

-- ---- all windows

abbrev pub windows : ℕ → ℕ → List (List Key) → List Chunk
windows from n tracks = flat_map (λ window. window_chunks window 0 tracks) (range_with_len from n)

windows-none : (from n : ℕ) (tracks : List (List Key)) → AllByRecursion (λ keys. keys ≡ []) tracks → windows from n tracks ≡ []
windows-none from zero tracks h = refl
windows-none from (suc n) tracks h = rw (chunks-none from 0 tracks h) (windows-none (from + 1) n tracks h)

windows-behind : (window from n position : ℕ) (tracks : List (List Key)) → window < from → IsLeast window tracks position → windows from n (behind tracks position) ≡ windows from n tracks
windows-behind window from zero position tracks lt least = refl
windows-behind window from (suc n) position tracks lt least =
    rw (chunks-other window from 0 position tracks (λ e. absurd (omega (arith, e))) least, windows-behind window (from + 1) n position tracks (omega arith) least) refl

-- the first chunk of all that is left
pub windows-step : (window from n position : ℕ) (tracks : List (List Key)) → AreSorted tracks → IsLeast window tracks position → from ≤ window → window < from + n
    → windows from n tracks ≡ chunk_at position (track_at tracks position) ∷ windows from n (behind tracks position)
windows-step window from zero position tracks sorted least le lt = absurd (omega arith)
windows-step window from (suc n) position tracks sorted least le lt = elim (cases_lt from window) [
  | inl before ↦
      rw (
        chunks-later from window 0 tracks before (least-from window position tracks sorted least),
        chunks-other window from 0 position tracks (λ e. absurd (omega (arith, e))) least,
        chunks-later from window 0 tracks before (least-from window position tracks sorted least),
      )
      (windows-step window (from + 1) n position tracks sorted least (omega arith) (omega arith))
  | inr later ↦
      let at : from ≡ window = omega arith in
      rw (at, chunks-at window 0 position position tracks sorted least (omega arith), windows-behind window (window + 1) n position tracks (omega arith) least) refl
]

-- ---- what is left

pub tails-none : {A : Type 0} (at : ℕ) (tracks : List (List A)) → tails (held []) at tracks ≡ tracks
tails-none at [] = refl
tails-none at (items ∷ tracks) = ap (λ rest. items ∷ rest) (tails-none (at + 1) tracks)

pub tails-same : {A : Type 0} (gone other : ℕ → ℕ) (at : ℕ) (tracks : List (List A)) → ((track : ℕ) → at ≤ track → track < at + length tracks → gone track ≡ other track) → tails gone at tracks ≡ tails other at tracks
tails-same gone other at [] h = refl
tails-same gone other at (items ∷ tracks) h = rw (h at (omega arith) (omega arith), tails-same gone other (at + 1) tracks (λ track le lt. h track (omega (arith, le)) (omega (arith, lt)))) refl

pub held-more : (chunks : List Chunk) (chunk : Chunk) (track : ℕ) → held (chunks ++ chunk ∷ []) track ≡ held chunks track + (if chunk.track == track then chunk.count else 0)
held-more [] chunk track = omega arith
held-more (first ∷ chunks) chunk track = omega (arith, held-more chunks chunk track)

same-eqb : (a b : ℕ) → a ≡ b → (a == b) ≡ true
same-eqb a b e = grind arith

pub held-at : (chunks : List Chunk) (chunk : Chunk) (track : ℕ) → chunk.track ≡ track → held (chunks ++ chunk ∷ []) track ≡ held chunks track + chunk.count
held-at chunks chunk track e = held-more chunks chunk track ∙ rw (same-eqb chunk.track track e) refl

pub held-off : (chunks : List Chunk) (chunk : Chunk) (track : ℕ) → (chunk.track ≡ track → ⊥) → held (chunks ++ chunk ∷ []) track ≡ held chunks track
held-off chunks chunk track h = held-more chunks chunk track ∙ rw (other-number chunk.track track h) (omega arith)

pub tails-step : {A : Type 0} (chunks : List Chunk) (chunk : Chunk) (at position : ℕ) (tracks : List (List A)) → at + position ≡ chunk.track
    → tails (held (chunks ++ chunk ∷ [])) at tracks ≡ shortened position chunk.count (tails (held chunks) at tracks)
tails-step chunks chunk at position [] e = refl
tails-step chunks chunk at zero (items ∷ tracks) e =
    rw (
      held-at chunks chunk at (omega (arith, e)),
      tails-same (held (chunks ++ chunk ∷ [])) (held chunks) (at + 1) tracks (λ track le lt. held-off chunks chunk track (λ p. absurd (omega (arith, e, p, le)))),
    )
    (ap (λ rest. rest ∷ tails (held chunks) (at + 1) tracks) (sym (drop-drop chunk.count (held chunks at) items)))
tails-step chunks chunk at (suc position) (items ∷ tracks) e =
    rw (held-off chunks chunk at (λ p. absurd (omega (arith, e, p))), tails-step chunks chunk (at + 1) position tracks (omega (arith, e))) refl

-- ---- the least

-- all tracks are at their ends, or the one at that position is the least
abbrev pub Found : ℕ → List (List Key) → Option (ℕ × ℕ) → Type 0
Found at tracks None = AllByRecursion (λ (keys : List Key). keys ≡ []) tracks
Found at tracks (Some best) = (position : ℕ) × (best.0 ≡ at + position) × IsLeast best.1 tracks position

none-from : (window : ℕ) (tracks : List (List Key)) → AllByRecursion (λ (keys : List Key). keys ≡ []) tracks → AllByRecursion (From window) tracks
none-from window [] h = h
none-from window (keys ∷ tracks) h = (rw h.0 tt, none-from window tracks h.1)

all-earlier : (window later : ℕ) (tracks : List (List Key)) → window ≤ later → AllByRecursion (From later) tracks → AllByRecursion (From window) tracks
all-earlier window later [] le h = h
all-earlier window later (keys ∷ tracks) le h = (from-earlier window later keys le h.0, all-earlier window later tracks le h.1)

found-past : (at : ℕ) (tracks : List (List Key)) (best : Option (ℕ × ℕ)) → Found (at + 1) tracks best → Found at ([] ∷ tracks) best
found-past at tracks None h = (refl, h)
found-past at tracks (Some best) h = (suc h.0, omega (arith, h.1), (tt, h.2))

found-here : (at : ℕ) (key : Key) (keys : List Key) (tracks : List (List Key)) (best : Option (ℕ × ℕ)) → IsSorted (key ∷ keys) → AreSorted tracks
    → Found (at + 1) tracks best → Found at ((key ∷ keys) ∷ tracks) (sooner at (Some key.window) best)
found-here at key keys tracks None sorted all h = (0, omega arith, (refl, none-from key.window tracks h))
found-here at key keys tracks (Some best) sorted all h = both (nat_le key.window best.1) refl
  where
    both : (b : Bool) → nat_le key.window best.1 ≡ b → Found at ((key ∷ keys) ∷ tracks) (sooner at (Some key.window) (Some best))
    both true e = rw e (0, omega arith, (refl, all-earlier key.window best.1 tracks (grind arith) (least-from best.1 h.0 tracks all h.2)))
    both false e =
        let lt : best.1 < key.window = grind arith in
        rw e (suc h.0, omega (arith, h.1), ((omega (arith, lt), from-earlier (best.1 + 1) key.window keys (omega (arith, lt)) sorted.0), h.2))

pub found : (at : ℕ) (tracks : List (List Key)) → AreSorted tracks → Found at tracks (least_from at tracks)
found at [] sorted = tt
found at ([] ∷ tracks) sorted = found-past at tracks (least_from (at + 1) tracks) (found (at + 1) tracks sorted.1)
found at ((key ∷ keys) ∷ tracks) sorted = found-here at key keys tracks (least_from (at + 1) tracks) sorted.0 sorted.1 (found (at + 1) tracks sorted.1)

-- ---- windows below a bound

-- the window of each sample is below this number
abbrev pub Below : ℕ → List (List Key) → Type 0
Below n tracks = AllByRecursion (λ (keys : List Key). AllByRecursion (λ (key : Key). key.window < n) keys) tracks

below-drop : (bound n : ℕ) (keys : List Key) → AllByRecursion (λ (key : Key). key.window < bound) keys → AllByRecursion (λ (key : Key). key.window < bound) (drop n keys)
below-drop bound zero keys h = h
below-drop bound (suc n) [] h = h
below-drop bound (suc n) (key ∷ keys) h = below-drop bound n keys h.1

below-tails : (bound : ℕ) (gone : ℕ → ℕ) (at : ℕ) (tracks : List (List Key)) → Below bound tracks → Below bound (tails gone at tracks)
below-tails bound gone at [] h = h
below-tails bound gone at (keys ∷ tracks) h = (below-drop bound (gone at) keys h.0, below-tails bound gone (at + 1) tracks h.1)

sorted-tails : (gone : ℕ → ℕ) (at : ℕ) (tracks : List (List Key)) → AreSorted tracks → AreSorted (tails gone at tracks)
sorted-tails gone at [] h = h
sorted-tails gone at (keys ∷ tracks) h = (sorted-drop (gone at) keys h.0, sorted-tails gone (at + 1) tracks h.1)

least-below : (bound window position : ℕ) (tracks : List (List Key)) → Below bound tracks → IsLeast window tracks position → window < bound
least-below bound window position [] h least = elim least [ ]
least-below bound window zero ([] ∷ tracks) h least = absurd (search rules)
least-below bound window zero ((key ∷ keys) ∷ tracks) h least = omega (arith, h.0.0, same_Some _ _ least.0)
least-below bound window (suc position) (keys ∷ tracks) h least = least-below bound window position tracks h.1 least.1

greatest-append : (xs ys : List ℕ) → greatest (xs ++ ys) ≡ max (greatest xs) (greatest ys)
greatest-append [] ys = omega arith
greatest-append (x ∷ xs) ys = omega (arith, greatest-append xs ys)

below-keys : (bound : ℕ) (keys : List Key) → greatest (map (λ (key : Key). key.window) keys) < bound → AllByRecursion (λ (key : Key). key.window < bound) keys
below-keys bound [] h = tt
below-keys bound (key ∷ keys) h = (omega arith, below-keys bound keys (omega arith))

below-last : (bound : ℕ) (tracks : List (List Key)) → last_window tracks < bound → Below bound tracks
below-last bound [] h = tt
below-last bound (keys ∷ tracks) h =
    let split = greatest-append (map (λ (key : Key). key.window) keys) (flat_map (λ (ks : List Key). map (λ (key : Key). key.window) ks) tracks) in
    (below-keys bound keys (omega (arith, split)), below-last bound tracks (omega (arith, split)))

-- ---- the chunks from a place on

-- a list from an item on
pub record Splits {A : Type 0} (n : ℕ) (xs : List A) (x : A) : Type 0 where
  pub front : take (n + 1) xs ≡ take n xs ++ x ∷ []
  pub back : drop n xs ≡ x ∷ drop (n + 1) xs
  pub more : n < length xs

from-item : {A : Type 0} (n : ℕ) (xs : List A) (x : A) (rest : List A) → drop n xs ≡ x ∷ rest
    → (take (suc n) xs ≡ take n xs ++ x ∷ []) × (drop n xs ≡ x ∷ drop (suc n) xs) × (n < length xs)
from-item zero xs x rest e = rw e (refl, refl, omega arith)
from-item (suc n) [] x rest e = absurd (search rules)
from-item (suc n) (y ∷ xs) x rest e =
    let s = from-item n xs x rest e in
    (ap (λ l. y ∷ l) s.0, s.1, omega (arith, s.2))

splits : {A : Type 0} (n : ℕ) (xs : List A) (x : A) (rest : List A) → drop n xs ≡ x ∷ rest → Splits n xs x
splits n xs x rest e =
    let s = from-item n xs x rest e in
    record { front = rw (add-one n) s.0; back = rw (add-one n) s.1; more = s.2 }

-- what is left behind the first `done` chunks
abbrev pub left : List (List Key) → ℕ → List (List Key)
left tracks done = tails (held (take done (chunk_order tracks))) 0 tracks

-- its chunks are those from there on
abbrev Rest : List (List Key) → ℕ → Type 0
Rest tracks done = windows 0 (last_window tracks + 1) (left tracks done) ≡ drop done (chunk_order tracks)

-- the next chunk is that of the track at that position
pub record IsStep (tracks : List (List Key)) (done position : ℕ) : Type 0 where
  pub window : ℕ
  pub least : IsLeast window (left tracks done) position
  pub next : Splits done (chunk_order tracks) (chunk_at position (track_at (left tracks done) position))
  pub on : left tracks (done + 1) ≡ behind (left tracks done) position

step : (tracks : List (List Key)) (done : ℕ) (best : ℕ × ℕ) → AreSorted tracks → Rest tracks done → (h : Found 0 (left tracks done) (Some best)) → IsStep tracks done h.0 × Rest tracks (done + 1)
step tracks done best sorted rest h =
    let all = left tracks done in
    let bound = last_window tracks + 1 in
    let chunk = chunk_at h.0 (track_at all h.0) in
    let below = below-tails bound (held (take done (chunk_order tracks))) 0 tracks (below-last bound tracks (omega arith)) in
    let parts : drop done (chunk_order tracks) ≡ chunk ∷ windows 0 bound (behind all h.0)
    = sym rest ∙ windows-step best.1 0 bound h.0 all (sorted-tails _ 0 tracks sorted) h.2 (omega arith) (omega (arith, least-below bound best.1 h.0 all below h.2)) in
    let s = splits done (chunk_order tracks) _ _ parts in
    let next : left tracks (done + 1) ≡ behind all h.0
    = ap (λ (chunks : List Chunk). tails (held chunks) 0 tracks) s.front ∙ tails-step (take done (chunk_order tracks)) chunk 0 h.0 tracks (omega arith) in (
      record { window = best.1; least = h.2; next = s; on = next },
      ap (windows 0 bound) next ∙ tail chunk _ _ (sym parts ∙ s.back),
    )
  where
    tail : (chunk : Chunk) (one other : List Chunk) → chunk ∷ one ≡ chunk ∷ other → one ≡ other
    tail chunk one other e = ap (λ (l : List Chunk). drop 1 l) e

-- what the least of what is left says of the chunks
abbrev pub Next : List (List Key) → ℕ → Option (ℕ × ℕ) → Type 0
Next tracks done None = (done ≡ length (chunk_order tracks)) × AllByRecursion (λ (keys : List Key). keys ≡ []) (left tracks done)
Next tracks done (Some best) = IsStep tracks done best.0

next-of : (tracks : List (List Key)) (done : ℕ) (best : Option (ℕ × ℕ)) → AreSorted tracks → done ≤ length (chunk_order tracks) → Rest tracks done → Found 0 (left tracks done) best → Next tracks done best
next-of tracks done None sorted le rest h =
    let none : drop done (chunk_order tracks) ≡ [] = sym rest ∙ windows-none 0 (last_window tracks + 1) (left tracks done) h in
    (omega (arith, le, length-drop done (chunk_order tracks), ap length none), h)
next-of tracks done (Some best) sorted le rest h = subst (IsStep tracks done) (omega (arith, h.1)) (step tracks done best sorted rest h).0

rest-on : (tracks : List (List Key)) (done : ℕ) (best : Option (ℕ × ℕ)) → AreSorted tracks → suc done ≤ length (chunk_order tracks) → Rest tracks done → Found 0 (left tracks done) best → Rest tracks (done + 1)
rest-on tracks done None sorted le rest h = absurd (omega (arith, (next-of tracks done None sorted (omega (arith, le)) rest h).0))
rest-on tracks done (Some best) sorted le rest h = (step tracks done best sorted rest h).1

least : (tracks : List (List Key)) (done : ℕ) → AreSorted tracks → Found 0 (left tracks done) (least_from 0 (left tracks done))
least tracks done sorted = found 0 (left tracks done) (sorted-tails (held (take done (chunk_order tracks))) 0 tracks sorted)

rest-at : (tracks : List (List Key)) (done : ℕ) → AreSorted tracks → done ≤ length (chunk_order tracks) → Rest tracks done
unfolding chunk_order
rest-at tracks zero sorted le = ap (windows 0 (last_window tracks + 1)) (tails-none 0 tracks)
rest-at tracks (suc done) sorted le =
    subst (Rest tracks) (suc-is done) (rest-on tracks done (least_from 0 (left tracks done)) sorted le (rest-at tracks done sorted (omega (arith, le))) (least tracks done sorted))
  where
    suc-is : (n : ℕ) → n + 1 ≡ suc n
    suc-is n = omega arith

pub next-is : (tracks : List (List Key)) (done : ℕ) → AreSorted tracks → done ≤ length (chunk_order tracks) → Next tracks done (least_from 0 (left tracks done))
next-is tracks done sorted le = next-of tracks done (least_from 0 (left tracks done)) sorted le (rest-at tracks done sorted le) (least tracks done sorted)
