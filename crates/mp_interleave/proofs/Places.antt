-- What a place of the cursors says of the next chunk, and the place behind it.
use Rattle.std.proofs.Common.{◌≡◌, ◌≢◌, ℕ, zero, suc, ◌+◌, ◌-◌, ◌<◌, ◌≤◌, ◌==◌, Bool, true, false, List, [], ◌∷◌, ◌++◌, map, replicate, drop, take, get_or, length, slice_index, slice_set, Some, None, if◌then◌else◌, refl, sym, ap, subst, ◌∙◌, arith, add-one}
use Rattle.std.specs.List.{AllByRecursion, range_with_len}
use Rattle.std.proofs.lemmas.Grind.{get_or-set_at}
use Rattle.std.proofs.lemmas.List.{get_or-set_other, length-map, length-set, same_lists}
use Rattle.std.proofs.lemmas.List.FromFn.{get_or-map-range_with_len, length-map-range_with_len}
use Rattle.std.proofs.lemmas.List.Sums.{sum_by-cons}
use Rattle.mp_columns.specs.declared.columns.TheConstants.{MOST_ITEMS}
use Rattle.mp_movie.specs.Placed.{PlacedTrack, PlacedMovie, sample_count}
use Rattle.mp_interleave.specs.declared.chunk.Chunk.{Chunk}
use Rattle.mp_interleave.specs.Order.{Key, chunk_order, keys_in, track_keys}
use Rattle.mp_interleave.specs.Place.{IsNext, IsPlace, held}
use Rattle.mp_interleave.specs.Left.{IsFirst, chunk_from, least_from, run_len, sooner, tails, track_at, window_from}
use Rattle.mp_interleave.proofs.Chunks.{Next, left, next-is, tails-same}
use Rattle.mp_interleave.proofs.Turns.{Ahead, AreTracks, ahead, ahead-of, gone, gone-on, gone-within}
use Rattle.mp_interleave.proofs.SampleKeys.{kept-tracks, length-keys}
use Rattle.mp_interleave.proofs.SamplesInChunks.{few}

-- ---- the numbers of a place

next-at : (keys : List (List Key)) (done : ℕ) (next : List ℕ) → IsPlace keys done next → (k : ℕ) → k < length keys → slice_index next k ≡ gone keys done k + 1
next-at keys done next place k lt = rw place.next_is (get_or-map-range_with_len (λ position. gone keys done position + 1) 0 (length keys) k k 0 lt (omega arith))

length-next : (keys : List (List Key)) (done : ℕ) (next : List ℕ) → IsPlace keys done next → length next ≡ length keys
length-next keys done next place = rw place.next_is (length-map-range_with_len (λ position. gone keys done position + 1) 0 (length keys))

-- what is left by the numbers is what is left
gone-next : (keys : List (List Key)) (done : ℕ) (next : List ℕ) → IsPlace keys done next → tails (λ position. slice_index next position - 1) 0 keys ≡ left keys done
gone-next keys done next place = tails-same (λ position. slice_index next position - 1) (gone keys done) 0 keys (λ position le lt. omega (arith, next-at keys done next place position (omega (arith, lt))))

-- each is the number of a sample, or of the one behind the last
pub record IsNumber (tracks : List PlacedTrack) (next : List ℕ) (position : ℕ) : Type 0 where
  pub named : position < length next
  pub some : 1 ≤ slice_index next position
  pub inside : (d : PlacedTrack) → slice_index next position - 1 ≤ length (get_or tracks position d).deltas

pub number-at : (tracks : List PlacedTrack) (window done : ℕ) (next : List ℕ) (position : ℕ) → IsPlace (keys_in window tracks) done next → position < length tracks → IsNumber tracks next position
number-at tracks window done next position place lt =
    let keys = keys_in window tracks in
    let there : position < length keys = omega (arith, lt, length-map tracks (track_keys window)) in
    let at = next-at keys done next place position there in
    record {
      named = omega (arith, there, length-next keys done next place);
      some = omega (arith, at);
      inside = λ d. omega (arith, at, gone-within keys done position (kept-tracks window tracks) place.within, length-keys window tracks position d lt);
    }

-- what holds of each track holds of the one at a position
pub track-is : (P : PlacedTrack → Type 0) (tracks : List PlacedTrack) (position : ℕ) (d : PlacedTrack) → AllByRecursion P tracks → position < length tracks → P (get_or tracks position d)
track-is P [] position d all lt = absurd (omega (arith, lt))
track-is P (track ∷ tracks) zero d all lt = all.0
track-is P (track ∷ tracks) (suc position) d all lt = track-is P tracks position d all.1 (omega (arith, lt))

pub keys-of-track : (window : ℕ) (tracks : List PlacedTrack) (position : ℕ) (d : PlacedTrack) → position < length tracks → track_at (keys_in window tracks) position ≡ track_keys window (get_or tracks position d)
keys-of-track window [] position d lt = absurd (omega (arith, lt))
keys-of-track window (track ∷ tracks) zero d lt = refl
keys-of-track window (track ∷ tracks) (suc position) d lt = keys-of-track window tracks position d (omega (arith, lt))

-- ---- the least track

-- a step back
pub least-back : (left_of : ℕ → ℕ) (at before window : ℕ) (tracks : List PlacedTrack) (d : PlacedTrack) → at ≡ before + 1 → before < length tracks
    → sooner before (window_from (drop (left_of before) (track_keys window (get_or tracks before d)))) (least_from at (tails left_of at (drop at (keys_in window tracks))))
    ≡ least_from before (tails left_of before (drop before (keys_in window tracks)))
least-back left_of at before window tracks d e lt = rw e (sym (ap (λ (rest : List (List Key)). least_from before (tails left_of before rest)) (from-track tracks before lt)))
  where
    by-place : (tracks : List PlacedTrack) (before : ℕ) → before < length tracks → drop before (keys_in window tracks) ≡ track_keys window (get_or tracks before d) ∷ drop (suc before) (keys_in window tracks)
    by-place [] before lt = absurd (omega (arith, lt))
    by-place (track ∷ tracks) zero lt = refl
    by-place (track ∷ tracks) (suc before) lt = by-place tracks before (omega (arith, lt))

    from-track : (tracks : List PlacedTrack) (before : ℕ) → before < length tracks → drop before (keys_in window tracks) ≡ track_keys window (get_or tracks before d) ∷ drop (before + 1) (keys_in window tracks)
    from-track tracks before lt = rw (add-one before) (by-place tracks before lt)

least-end : (keys : List (List Key)) (left_of : ℕ → ℕ) (at : ℕ) → length keys ≤ at → None ≡ least_from at (tails left_of at (drop at keys))
least-end [] left_of zero le = refl
least-end [] left_of (suc at) le = refl
least-end (ks ∷ keys) left_of zero le = absurd (omega (arith, le))
least-end (ks ∷ keys) left_of (suc at) le = rw (ended keys at (omega (arith, le))) refl
  where
    ended : (keys : List (List Key)) (at : ℕ) → length keys ≤ at → drop at keys ≡ []
    ended [] zero le = refl
    ended [] (suc at) le = refl
    ended (ks ∷ keys) zero le = absurd (omega (arith, le))
    ended (ks ∷ keys) (suc at) le = ended keys at (omega (arith, le))

pub least-start : (window : ℕ) (tracks : List PlacedTrack) (left_of : ℕ → ℕ) → None ≡ least_from (length tracks) (tails left_of (length tracks) (drop (length tracks) (keys_in window tracks)))
least-start window tracks left_of = least-end (keys_in window tracks) left_of (length tracks) (omega (arith, length-map tracks (track_keys window)))

-- ---- the next chunk

abbrev pub chunk_with : ℕ → ℕ → ℕ → Chunk
chunk_with track first count = record { track = track; first = first; count = count }

same-chunk : (track first other count total : ℕ) → first ≡ other → count ≡ total → chunk_with track first count ≡ chunk_with track other total
same-chunk track first other count total e f = rw (e, f) refl

pub first-is : (tracks : List PlacedTrack) (window done : ℕ) (next : List ℕ) (best : ℕ × ℕ) → IsPlace (keys_in window tracks) done next
    → Some best ≡ least_from 0 (tails (λ position. slice_index next position - 1) 0 (keys_in window tracks)) → IsFirst tracks window done next best.0
first-is tracks window done next best place e =
    let keys = keys_in window tracks in
    let are = kept-tracks window tracks in
    let found : least_from 0 (left keys done) ≡ Some best = ap (least_from 0) (sym (gone-next keys done next place)) ∙ sym e in
    let step : Next keys done (Some best) = subst (Next keys done) found (next-is keys done are.sorted place.within) in
    let a = ahead keys done best.0 are step in
    let inside : best.0 < length tracks = omega (arith, a.inside, length-map tracks (track_keys window)) in
    let number = number-at tracks window done next best.0 place inside in
    let at = next-at keys done next place best.0 a.inside in
    let left_of : gone keys done best.0 ≡ slice_index next best.0 - 1 = omega (arith, at) in
    let count = a.count ∙ ap (λ (n : ℕ). run_len (drop n (track_at keys best.0))) left_of in
    let first = a.first ∙ sym at in
    record {
      inside = inside;
      named = number.named;
      some = number.some;
      left = λ d. omega (arith, at, a.some, a.within, length-keys window tracks best.0 d inside);
      follows = record { splits = subst (λ (chunk : Chunk). drop done (chunk_order keys) ≡ chunk ∷ drop (done + 1) (chunk_order keys)) (same-chunk best.0 _ _ _ _ first count) a.next.back };
    }

pub none-left : (tracks : List PlacedTrack) (window done : ℕ) (next : List ℕ) → IsPlace (keys_in window tracks) done next
    → None ≡ least_from 0 (tails (λ position. slice_index next position - 1) 0 (keys_in window tracks)) → done ≡ length (chunk_order (keys_in window tracks))
none-left tracks window done next place e =
    let keys = keys_in window tracks in
    let found : least_from 0 (left keys done) ≡ None = ap (least_from 0) (sym (gone-next keys done next place)) ∙ sym e in
    let step : Next keys done None = subst (Next keys done) found (next-is keys done (kept-tracks window tracks).sorted place.within) in
    step.0

-- the chunk of the first track
pub chunk-is : (tracks : List PlacedTrack) (window done : ℕ) (next : List ℕ) (position first count : ℕ) (d : PlacedTrack) → IsFirst tracks window done next position
    → first ≡ slice_index next position → count ≡ run_len (drop (first - 1) (track_keys window (get_or tracks position d)))
    → IsNext (keys_in window tracks) done (chunk_with position first count)
chunk-is tracks window done next position first count d is e f =
    subst (IsNext (keys_in window tracks) done) (sym same) is.follows
  where
    same : chunk_with position first count ≡ chunk_from (keys_in window tracks) next position
    same = rw (f, e, keys-of-track window tracks position d is.inside) refl

-- ---- on to the next place

pub place-on : (keys : List (List Key)) (done : ℕ) (next : List ℕ) (chunk : Chunk) → AreTracks keys → IsPlace keys done next → IsNext keys done chunk
    → IsPlace keys (done + 1) (slice_set next chunk.track (chunk.first + chunk.count))
place-on keys done next chunk are place is =
    let a = ahead-of keys done chunk are is in
    record {
      within = omega (arith, a.next.more);
      next_is = same_lists _ _ (len ∙ sym (length-map-range_with_len (λ position. gone keys (done + 1) position + 1) 0 (length keys)))
          (λ k d lt. at a k d (omega (arith, len, lt)) (chunk.track == k) refl ∙ sym (get_or-map-range_with_len (λ position. gone keys (done + 1) position + 1) 0 (length keys) k k d (omega (arith, len, lt)) (omega arith)));
    }
  where
    len : length (slice_set next chunk.track (chunk.first + chunk.count)) ≡ length keys
    len = length-set next chunk.track (chunk.first + chunk.count) ∙ length-next keys done next place

    default : (next : List ℕ) (k d : ℕ) → k < length next → get_or next k d ≡ slice_index next k
    default [] k d lt = absurd (omega arith)
    default (n ∷ next) zero d lt = refl
    default (n ∷ next) (suc k) d lt = default next k d (omega arith)

    same : (a b : ℕ) → (a == b) ≡ true → a ≡ b
    same a b e = grind arith

    other : (a b : ℕ) → (a == b) ≡ false → b ≢ a
    other a b e = λ p. absurd (grind arith)

    at : Ahead keys done chunk → (k d : ℕ) → k < length keys → (b : Bool) → (chunk.track == k) ≡ b → get_or (slice_set next chunk.track (chunk.first + chunk.count)) k d ≡ gone keys (done + 1) k + 1
    at a k d lt true e =
        let is : chunk.track ≡ k = same _ _ e in
        let l = length-next keys done next place in
        let on-here : gone keys (done + 1) k ≡ gone keys done k + chunk.count = gone-on keys done k chunk a ∙ ap (λ (b : Bool). gone keys done k + (if b then chunk.count else 0)) e in
        get_or-set_at next chunk.track k (chunk.first + chunk.count) d (sym is) (omega (arith, l, a.inside))
        ∙ omega (arith, on-here, a.first, ap (gone keys done) is)
    at a k d lt false e =
        let l = length-next keys done next place in
        let on-here : gone keys (done + 1) k ≡ gone keys done k + 0 = gone-on keys done k chunk a ∙ ap (λ (b : Bool). gone keys done k + (if b then chunk.count else 0)) e in
        get_or-set_other next chunk.track k (chunk.first + chunk.count) d (other _ _ e)
        ∙ (default next k d (omega (arith, l, lt)) ∙ omega (arith, on-here, next-at keys done next place k lt))

pub place-start : (window : ℕ) (tracks : List PlacedTrack) → IsPlace (keys_in window tracks) 0 (replicate (length tracks) 1)
place-start window tracks = record {
  within = omega arith;
  next_is = subst (λ (n : ℕ). replicate (length tracks) 1 ≡ map (λ position. held [] position + 1) (range_with_len 0 n)) (sym (length-map tracks (track_keys window))) (ones 0 (length tracks));
}
  where
    ones : (from n : ℕ) → replicate n 1 ≡ map (λ position. held [] position + 1) (range_with_len from n)
    ones from zero = refl
    ones from (suc n) = ap (λ (l : List ℕ). 1 ∷ l) (ones (from + 1) n)

-- ---- numbers fit their types

-- where the next chunk stands, and where its samples end
pub record IsShort (done : ℕ) (next : List ℕ) (chunk : Chunk) : Type 0 where
  pub done_short : done < MOST_ITEMS
  pub named : chunk.track < length next
  pub end_short : chunk.first + chunk.count ≤ MOST_ITEMS + 1

one-of : (tracks : List PlacedTrack) (position : ℕ) (d : PlacedTrack) → position < length tracks → length (get_or tracks position d).deltas ≤ sample_count tracks
one-of [] position d lt = absurd (omega (arith, lt))
one-of (track ∷ tracks) zero d lt = omega (arith, sum_by-cons (λ (t : PlacedTrack). length t.deltas) track tracks)
one-of (track ∷ tracks) (suc position) d lt = omega (arith, sum_by-cons (λ (t : PlacedTrack). length t.deltas) track tracks, one-of tracks position d (omega (arith, lt)))

pub next-short : (movie : PlacedMovie) (window done : ℕ) (next : List ℕ) (chunk : Chunk) → sample_count movie.tracks ≤ MOST_ITEMS → IsPlace (keys_in window movie.tracks) done next → IsNext (keys_in window movie.tracks) done chunk
    → IsShort done next chunk
next-short movie window done next chunk short place is =
    let keys = keys_in window movie.tracks in
    let a = ahead-of keys done chunk (kept-tracks window movie.tracks) is in
    let inside : chunk.track < length movie.tracks = omega (arith, a.inside, length-map movie.tracks (track_keys window)) in
    let long = no-more movie.tracks chunk.track inside in
    record {
      done_short = omega (arith, a.next.more, few window movie, short);
      named = omega (arith, a.inside, length-next keys done next place);
      end_short = omega (arith, a.first, a.within, long, short);
    }
  where
    no-more : (tracks : List PlacedTrack) (position : ℕ) → position < length tracks → length (track_at (keys_in window tracks) position) ≤ sample_count tracks
    no-more [] position lt = absurd (omega (arith, lt))
    no-more (track ∷ tracks) position lt = omega (arith, length-keys window (track ∷ tracks) position track lt, one-of (track ∷ tracks) position track lt)

-- there is a chunk only where not all are done
pub not-last : (keys : List (List Key)) (done : ℕ) (chunk : Chunk) → AreTracks keys → IsNext keys done chunk → done ≡ length (chunk_order keys) → ⊥
not-last keys done chunk are is e = omega (arith, (ahead-of keys done chunk are is).next.more, e)

-- ---- all chunks

pub plan-on : (keys : List (List Key)) (done : ℕ) (chunks : List Chunk) (chunk : Chunk) → AreTracks keys → IsNext keys done chunk → chunks ≡ take done (chunk_order keys) → chunks ++ chunk ∷ [] ≡ take (done + 1) (chunk_order keys)
plan-on keys done chunks chunk are is e = ap (λ (l : List Chunk). l ++ chunk ∷ []) e ∙ sym (ahead-of keys done chunk are is).next.front

pub plan-end : (done : ℕ) (chunks order : List Chunk) → done ≡ length order → chunks ≡ take done order → chunks ≡ order
plan-end done chunks order e is = is ∙ (ap (λ (n : ℕ). take n order) e ∙ all order)
  where
    all : (order : List Chunk) → take (length order) order ≡ order
    all [] = refl
    all (chunk ∷ order) = ap (λ (l : List Chunk). chunk ∷ l) (all order)
