-- Each chunk holds the samples of its track that follow those of the chunks before it.
use Rattle.std.proofs.Common.{◌≡◌, ℕ, zero, suc, ◌+◌, ◌<◌, ◌≤◌, ◌==◌, Bool, true, false, List, [], ◌∷◌, ◌++◌, drop, take, get_or, length, Option, Some, None, if◌then◌else◌, refl, sym, ap, ◌∙◌, arith, rules, subst, add-one}
use Rattle.std.specs.List.{AllByRecursion}
use Rattle.std.proofs.lemmas.List.{length-drop}
use Rattle.mp_interleave.specs.declared.chunk.Chunk.{Chunk}
use Rattle.mp_interleave.specs.Order.{Key, chunk_order}
use Rattle.mp_interleave.specs.Place.{IsNext, held}
use Rattle.mp_interleave.specs.Left.{least_from, run_len, tails, track_at, window_from}
use Rattle.mp_interleave.proofs.Runs.{run-some, run-within}
use Rattle.mp_interleave.proofs.Chunks.{AreSorted, IsLeast, IsStep, Next, Splits, chunk_at, held-more, left, next-is, number_from}

-- the numbers count on from this one
abbrev pub IsNumbered : ℕ → List Key → Type 0
IsNumbered number [] = Unit
IsNumbered number (key ∷ keys) = (key.number ≡ number) × IsNumbered (number + 1) keys

-- tracks of a movie: their windows never fall, and their numbers count from 1
pub record AreTracks (tracks : List (List Key)) : Type 0 where
  pub sorted : AreSorted tracks
  pub numbered : AllByRecursion (IsNumbered 1) tracks

number-at : (number n : ℕ) (keys : List Key) → IsNumbered number keys → n < length keys → number_from (drop n keys) ≡ number + n
number-at number n [] h lt = absurd (omega arith)
number-at number zero (key ∷ keys) h lt = omega (arith, h.0)
number-at number (suc n) (key ∷ keys) h lt = omega (arith, number-at (number + 1) n keys h.1 (omega arith))

-- what is left of the track at a position
pub track-left : {A : Type 0} (gone : ℕ → ℕ) (at p : ℕ) (tracks : List (List A)) → p < length tracks → track_at (tails gone at tracks) p ≡ drop (gone (at + p)) (track_at tracks p)
track-left gone at p [] lt = absurd (omega arith)
track-left gone at zero (items ∷ tracks) lt = ap (λ (n : ℕ). drop (gone n) items) (omega arith)
track-left gone at (suc p) (items ∷ tracks) lt = track-left gone (at + 1) p tracks (omega arith) ∙ ap (λ (n : ℕ). drop (gone n) (track_at tracks p)) (omega arith)

-- the least is a track with a sample left
least-inside : (window p : ℕ) (gone : ℕ → ℕ) (at : ℕ) (tracks : List (List Key)) → IsLeast window (tails gone at tracks) p → (p < length tracks) × (1 ≤ length (track_at (tails gone at tracks) p))
least-inside window p gone at [] least = elim least [ ]
least-inside window zero gone at (keys ∷ tracks) least = (omega arith, some (drop (gone at) keys) least.0)
  where
    some : (keys : List Key) → window_from keys ≡ Some window → 1 ≤ length keys
    some [] e = absurd (search rules)
    some (key ∷ keys) e = omega arith
least-inside window (suc p) gone at (keys ∷ tracks) least =
    let rest = least-inside window p gone (at + 1) tracks least.1 in
    (omega (arith, rest.0), rest.1)

-- how many samples of a track the first `done` chunks hold
abbrev pub gone : List (List Key) → ℕ → ℕ → ℕ
gone tracks done position = held (take done (chunk_order tracks)) position

-- the chunk behind the first `done`
pub record Ahead (tracks : List (List Key)) (done : ℕ) (chunk : Chunk) : Type 0 where
  pub next : Splits done (chunk_order tracks) chunk
  pub inside : chunk.track < length tracks
  pub first : chunk.first ≡ gone tracks done chunk.track + 1
  pub count : chunk.count ≡ run_len (drop (gone tracks done chunk.track) (track_at tracks chunk.track))
  pub some : 1 ≤ chunk.count
  pub within : gone tracks done chunk.track + chunk.count ≤ length (track_at tracks chunk.track)

pub ahead : (tracks : List (List Key)) (done position : ℕ) → AreTracks tracks → IsStep tracks done position → Ahead tracks done (chunk_at position (track_at (left tracks done) position))
ahead tracks done position are s =
    let here = least-inside s.window position (gone tracks done) 0 tracks s.least in
    let keys = track_at tracks position in
    let n = gone tracks done position in
    let at : track_at (left tracks done) position ≡ drop n keys
    = track-left (gone tracks done) 0 position tracks here.0 ∙ ap (λ (p : ℕ). drop (gone tracks done p) keys) (omega arith) in
    let len = length-drop n keys in
    let some : 1 ≤ length (drop n keys) = subst (λ (ks : List Key). 1 ≤ length ks) at here.1 in
    record {
      next = s.next;
      inside = here.0;
      first = ap number_from at ∙ (number-at 1 n keys (numbers tracks position are.numbered here.0) (omega (arith, len, some)) ∙ omega arith);
      count = ap run_len at;
      some = subst (λ (ks : List Key). 1 ≤ run_len ks) (sym at) (run-some (drop n keys) some);
      within = subst (λ (ks : List Key). n + run_len ks ≤ length keys) (sym at) (omega (arith, len, some, run-within (drop n keys)));
    }
  where
    numbers : (tracks : List (List Key)) (position : ℕ) → AllByRecursion (IsNumbered 1) tracks → position < length tracks → IsNumbered 1 (track_at tracks position)
    numbers [] position h lt = absurd (omega arith)
    numbers (keys ∷ tracks) zero h lt = h.0
    numbers (keys ∷ tracks) (suc position) h lt = numbers tracks position h.1 (omega arith)

-- there is one before the last chunk
pub record SomeAhead (tracks : List (List Key)) (done : ℕ) : Type 0 where
  pub chunk : Chunk
  pub is : Ahead tracks done chunk

pub ahead-at : (tracks : List (List Key)) (done : ℕ) → AreTracks tracks → done < length (chunk_order tracks) → SomeAhead tracks done
ahead-at tracks done are lt = by (least_from 0 (left tracks done)) (next-is tracks done are.sorted (omega (arith, lt)))
  where
    by : (best : Option (ℕ × ℕ)) → Next tracks done best → SomeAhead tracks done
    by None next = absurd (omega (arith, next.0, lt))
    by (Some best) next = record { chunk = _; is = ahead tracks done best.0 are next }

-- how many samples are held behind it
pub gone-on : (tracks : List (List Key)) (done position : ℕ) (chunk : Chunk) → Ahead tracks done chunk
    → gone tracks (done + 1) position ≡ gone tracks done position + (if chunk.track == position then chunk.count else 0)
gone-on tracks done position chunk a = ap (λ (chunks : List Chunk). held chunks position) a.next.front ∙ held-more (take done (chunk_order tracks)) chunk position

-- at the end all are
pub all-gone : (tracks : List (List Key)) (position : ℕ) → AreTracks tracks → position < length tracks → length (track_at tracks position) ≤ gone tracks (length (chunk_order tracks)) position
all-gone tracks position are lt =
    let done = length (chunk_order tracks) in
    by (least_from 0 (left tracks done)) (next-is tracks done are.sorted (omega arith))
  where
    none-at : (tracks : List (List Key)) (position : ℕ) → AllByRecursion (λ (keys : List Key). keys ≡ []) tracks → track_at tracks position ≡ []
    none-at [] position h = refl
    none-at (keys ∷ tracks) zero h = h.0
    none-at (keys ∷ tracks) (suc position) h = none-at tracks position h.1

    by : (best : Option (ℕ × ℕ)) → Next tracks (length (chunk_order tracks)) best → length (track_at tracks position) ≤ gone tracks (length (chunk_order tracks)) position
    by (Some best) next = absurd (omega (arith, next.next.more))
    by None next =
        let done = length (chunk_order tracks) in
        let none : drop (gone tracks done (0 + position)) (track_at tracks position) ≡ []
        = sym (track-left (gone tracks done) 0 position tracks lt) ∙ none-at (left tracks done) position next.1 in
        let same : 0 + position ≡ position = omega arith in
        let none-here = subst (λ (p : ℕ). drop (gone tracks done p) (track_at tracks position) ≡ []) same none in
        omega (arith, length-drop (gone tracks done position) (track_at tracks position), ap length none-here)

-- what holds of each next chunk holds of all
pub each : (P : Chunk → Type 0) (tracks : List (List Key)) → AreTracks tracks → ((done : ℕ) (chunk : Chunk) → Ahead tracks done chunk → P chunk) → AllByRecursion P (chunk_order tracks)
each P tracks are h = subst (AllByRecursion P) (take_all (chunk_order tracks)) (front (length (chunk_order tracks)) (omega arith))
  where
    take_all : (chunks : List Chunk) → take (length chunks) chunks ≡ chunks
    take_all [] = refl
    take_all (chunk ∷ chunks) = ap (λ (l : List Chunk). chunk ∷ l) (take_all chunks)

    push : (chunks : List Chunk) (chunk : Chunk) → AllByRecursion P chunks → P chunk → AllByRecursion P (chunks ++ chunk ∷ [])
    push [] chunk all p = (p, tt)
    push (first ∷ chunks) chunk all p = (all.0, push chunks chunk all.1 p)

    front : (done : ℕ) → done ≤ length (chunk_order tracks) → AllByRecursion P (take done (chunk_order tracks))
    front zero le = tt
    front (suc done) le =
        let s = ahead-at tracks done are (omega (arith, le)) in
        let is : suc done ≡ done + 1 = omega arith in
        subst (λ (n : ℕ). AllByRecursion P (take n (chunk_order tracks))) (sym is)
        (subst (AllByRecursion P) (sym s.is.next.front) (push (take done (chunk_order tracks)) s.chunk (front done (omega (arith, le))) (h done s.chunk s.is)))

-- no more than there are
pub gone-within : (tracks : List (List Key)) (done position : ℕ) → AreTracks tracks → done ≤ length (chunk_order tracks) → gone tracks done position ≤ length (track_at tracks position)
gone-within tracks zero position are le = omega arith
gone-within tracks (suc done) position are le =
    let s = ahead-at tracks done are (omega (arith, le)) in
    let before = gone-within tracks done position are (omega (arith, le)) in
    subst (λ (n : ℕ). gone tracks n position ≤ length (track_at tracks position)) (add-one done)
    (subst (λ (n : ℕ). n ≤ length (track_at tracks position)) (sym (gone-on tracks done position s.chunk s.is)) (by s.chunk s.is before (s.chunk.track == position) refl))
  where
    same : (a b : ℕ) → (a == b) ≡ true → a ≡ b
    same a b e = grind arith

    by : (chunk : Chunk) → Ahead tracks done chunk → gone tracks done position ≤ length (track_at tracks position) → (b : Bool) → (chunk.track == position) ≡ b
        → gone tracks done position + (if b then chunk.count else 0) ≤ length (track_at tracks position)
    by chunk a before true e = subst (λ (p : ℕ). gone tracks done p + chunk.count ≤ length (track_at tracks p)) (same chunk.track position e) a.within
    by chunk a before false e = omega (arith, before)

-- the chunk that follows is the one behind the first `done`
pub ahead-of : (tracks : List (List Key)) (done : ℕ) (chunk : Chunk) → AreTracks tracks → IsNext tracks done chunk → Ahead tracks done chunk
ahead-of tracks done chunk are next =
    let s = ahead-at tracks done are (some done (chunk_order tracks) next.splits) in
    subst (Ahead tracks done) (same s.chunk chunk _ _ (sym s.is.next.back ∙ next.splits)) s.is
  where
    some : (n : ℕ) (chunks : List Chunk) {rest : List Chunk} → drop n chunks ≡ chunk ∷ rest → n < length chunks
    some zero [] e = absurd (search rules)
    some zero (one ∷ chunks) e = omega arith
    some (suc n) [] e = absurd (search rules)
    some (suc n) (one ∷ chunks) e = omega (arith, some n chunks e)

    same : (one other : Chunk) (ones others : List Chunk) → one ∷ ones ≡ other ∷ others → one ≡ other
    same one other ones others e = ap (λ (l : List Chunk). get_or l 0 one) e
