-- The pieces of the samples of a chunk have the bytes of the chunk.
use Rattle.std.proofs.Common.{◌==◌, Bool, true, false, ◌≡◌, ℕ, zero, suc, ℤ, ◌+◌, ◌-◌, ◌<◌, ◌≤◌, List, [], ◌∷◌, ◌++◌, length, map, take, drop, get_or, All, refl, sym, ap, subst, ◌∙◌, arith, add-one, append-nil, replicate, slice_set}
use Rattle.std.specs.Prelude.{sum, slice_index, unsigned_abs}
use Rattle.std.specs.List.{flat_map, range_with_len, AllByRecursion}
use Rattle.std.proofs.lemmas.Bool.{eqb-true}
use Rattle.std.proofs.lemmas.List.{drop-drop, get_or-map, get_or-replicate, get_or-set_other, get_or-set_same, length-map, length-replicate, length-set, take-append-drop, take_more}
use Rattle.std.proofs.lemmas.List.Concat.{flat_map-append}
use Rattle.std.proofs.lemmas.List.Elements.{All-from_recursion, recursion_from_All}
use Rattle.std.proofs.lemmas.List.Folds.{flat_map-map}
use Rattle.std.proofs.lemmas.List.FromFn.{take-map-range_with_len}
use Rattle.std.proofs.lemmas.List.Sums.{sum_by-cons}
use Rattle.std.proofs.Math.Seq.{drop-cons, take-add}
use Rattle.mp_pieces.specs.declared.piece.Piece.{Piece}
use Rattle.mp_pieces.specs.Piece.{piece_bytes, pieces_bytes}
use Rattle.mp_timeline.specs.Movie.{SampleRecord}
use Rattle.mp_movie.specs.Placed.{PlacedTrack, naturals}
use Rattle.mp_movie.specs.StandsFor.{pieces_at, sample_at, samples_of}
use Rattle.mp_movie.specs.WholeParts.{AreColumns}
use Rattle.mp_interleave.specs.declared.chunk.Chunk.{Chunk}
use Rattle.mp_interleave.specs.Law.{IsWithin}
use Rattle.mp_interleave.specs.Samples.{samples_at, with_samples}
use Rattle.mp_layout.specs.Order.{chunk_bytes, joined, payload}
use Rattle.mp_layout.specs.Chunked.{column_at}
use Rattle.mp_layout.specs.declared.pieces.Start.{Start}
use Rattle.mp_layout.specs.Emitted.{AreStarts, IsStart, chunk_pieces, pieces_in}
use Rattle.mp_layout.proofs.ColumnSums.{at-track, column-is, some-track, sum-range}
use Rattle.mp_layout.proofs.HeadsOfChunks.{chunks_for, samples-are, tracks_for}

-- ---- samples in a row

drop-range : {X : Type 0} (g : ℕ → X) (from k m n at : ℕ) → k + m ≡ n → from + k ≡ at → drop k (map g (range_with_len from n)) ≡ map g (range_with_len at m)
drop-range g from zero m n at e1 e2 =
    let same : from ≡ at = omega (arith, e2) in
    let many : n ≡ m = omega (arith, e1) in
    λ i. map g (range_with_len (same i) (many i))
drop-range g from (suc k) m zero at e1 e2 = absurd (omega (arith, e1))
drop-range g from (suc k) m (suc n) at e1 e2 = drop-range g (from + 1) k m n at (omega (arith, e1)) (omega (arith, e2))

chunk-range : (files : List (List ℕ)) (track : PlacedTrack) (first count : ℕ) → first + count ≤ length track.deltas → take count (drop first (samples_of files track)) ≡ map (sample_at files track) (range_with_len first count)
unfolding samples_of
chunk-range files track first count le =
    let left = length track.deltas - first in
    ap (take count) (drop-range (sample_at files track) 0 first left (length track.deltas) first (omega (arith, le)) (omega arith))
    ∙ take-map-range_with_len (sample_at files track) first left count (omega (arith, le))

sample-bytes : (files : List (List ℕ)) (track : PlacedTrack) (before : ℕ) → (sample_at files track before).bytes ≡ flat_map (piece_bytes files) (pieces_at (naturals track.counts) track.pieces before)
unfolding sample_at
sample-bytes files track before = refl

-- ---- their pieces

-- the pieces of so many samples, one after another
run-pieces : {X : Type 0} (bytes : Piece → List X) (counts : List ℕ) (pieces : List Piece) (count first : ℕ) → first + count ≤ length counts
    → flat_map (λ before. flat_map bytes (pieces_at counts pieces before)) (range_with_len first count) ≡ flat_map bytes (take (sum (take count (drop first counts))) (drop (sum (take first counts)) pieces))
unfolding pieces_at
run-pieces {X = X} bytes counts pieces zero first le = refl
run-pieces {X = X} bytes counts pieces (suc count) first le =
    let inside : first < length counts = omega (arith, le) in
    let here = slice_index counts first in
    let before = sum (take first counts) in
    let next : drop first counts ≡ here ∷ drop (first + 1) counts = drop-cons counts first 0 inside ∙ ap (λ (n : ℕ). here ∷ drop n counts) (sym (add-one first)) in
    let later = sum (take count (drop (first + 1) counts)) in
    let whole : sum (take (suc count) (drop first counts)) ≡ here + later = ap (λ (xs : List ℕ). sum (take (suc count) xs)) next ∙ sum_by-cons (λ (n : ℕ). n) here (take count (drop (first + 1) counts)) in
    let one : sum (take (first + 1) counts) ≡ before + here = omega (arith, sum-range counts first 1, ap (λ (xs : List ℕ). sum (take 1 xs)) next, sum_by-cons (λ (n : ℕ). n) here []) in
    let rest = run-pieces bytes counts pieces count (first + 1) (omega (arith, le)) in
    let left = drop before pieces in
    let beyond : drop (sum (take (first + 1) counts)) pieces ≡ drop here left = ap (λ (n : ℕ). drop n pieces) one ∙ drop-after before here pieces in
    ap (λ (xs : List X). flat_map bytes (take here left) ++ xs) (rest ∙ ap (λ (ps : List Piece). flat_map bytes (take later ps)) beyond)
    ∙ (sym (flat_map-append bytes (take here left) (take later (drop here left)))
    ∙ ap (flat_map bytes) (sym (take-add here later left) ∙ ap (λ (n : ℕ). take n left) (sym whole)))
  where
    drop-after : (a b : ℕ) (ps : List Piece) → drop (a + b) ps ≡ drop b (drop a ps)
    drop-after a b ps = ap (λ (n : ℕ). drop n ps) (omega arith) ∙ sym (drop-drop b a ps)

chunk-pieces-are : (tracks : List PlacedTrack) (chunk : Chunk) (d : PlacedTrack) → chunk.track < length tracks
    → (let counts = naturals (get_or tracks chunk.track d).counts in
    chunk_pieces tracks chunk ≡ take (sum (take chunk.count (drop (chunk.first - 1) counts))) (drop (sum (take (chunk.first - 1) counts)) (get_or tracks chunk.track d).pieces))
chunk-pieces-are tracks chunk d lt =
    let column = column-is (λ t. t.counts) tracks chunk.track d lt in
    let pieces = get_or-map (λ (t : PlacedTrack). t.pieces) tracks chunk.track d [] lt in
    λ i. take (sum (take chunk.count (drop (chunk.first - 1) (naturals (column i))))) (drop (sum (take (chunk.first - 1) (naturals (column i)))) (pieces i))

pub chunk-paid : (files : List (List ℕ)) (tracks : List PlacedTrack) (chunk : Chunk) → AllByRecursion AreColumns tracks → IsWithin tracks chunk
    → pieces_bytes files (chunk_pieces tracks chunk) ≡ chunk_bytes (with_samples (tracks_for files tracks) chunk)
chunk-paid files tracks chunk columns within =
    let d = some-track tracks chunk.track within.track in
    let track = get_or tracks chunk.track d in
    let first = chunk.first - 1 in
    let counts = naturals track.counts in
    let own = at-track AreColumns tracks chunk.track d columns within.track in
    let whole = within.samples d in
    let many = own.counts_len in
    let long : first + chunk.count ≤ length counts = omega (arith, whole, many, length-map track.counts unsigned_abs) in
    let is : samples_at (tracks_for files tracks) chunk.track ≡ samples_of files track = samples-are files tracks chunk.track d within.track in
    ap (pieces_bytes files) (chunk-pieces-are tracks chunk d within.track)
    ∙ (sym (run-pieces (piece_bytes files) counts track.pieces chunk.count first long)
    ∙ ((λ i. flat_map (λ (before : ℕ). sym (sample-bytes files track before) i) (range_with_len first chunk.count))
    ∙ (sym (flat_map-map (λ (sample : SampleRecord). sample.bytes) (sample_at files track) (range_with_len first chunk.count))
    ∙ (ap joined (sym (chunk-range files track first chunk.count whole))
    ∙ ap (λ (xs : List SampleRecord). joined (take chunk.count (drop first xs))) (sym is)))))

pub all-paid : (files : List (List ℕ)) (tracks : List PlacedTrack) (chunks : List Chunk) → AllByRecursion AreColumns tracks → AllByRecursion (IsWithin tracks) chunks
    → pieces_bytes files (pieces_in tracks chunks) ≡ payload (chunks_for files tracks chunks)
unfolding payload
all-paid files tracks [] columns within = refl
all-paid files tracks (chunk ∷ chunks) columns within =
    flat_map-append (piece_bytes files) (chunk_pieces tracks chunk) (pieces_in tracks chunks)
    ∙ (λ i. chunk-paid files tracks chunk columns within.0 i ++ all-paid files tracks chunks columns within.1 i)

-- ---- what holds of all pieces holds of a chunk's

first-part : {X : Type 0} (P : X → Type 0) (xs ys : List X) → AllByRecursion P (xs ++ ys) → AllByRecursion P xs
first-part P [] ys all = tt
first-part P (x ∷ xs) ys all = (all.0, first-part P xs ys all.1)

second-part : {X : Type 0} (P : X → Type 0) (xs ys : List X) → AllByRecursion P (xs ++ ys) → AllByRecursion P ys
second-part P [] ys all = all
second-part P (x ∷ xs) ys all = second-part P xs ys all.1

taken-part : {X : Type 0} (P : X → Type 0) (n : ℕ) (xs : List X) → AllByRecursion P xs → AllByRecursion P (take n xs)
taken-part P zero xs all = tt
taken-part P (suc n) [] all = tt
taken-part P (suc n) (x ∷ xs) all = (all.0, taken-part P n xs all.1)

dropped-part : {X : Type 0} (P : X → Type 0) (n : ℕ) (xs : List X) → AllByRecursion P xs → AllByRecursion P (drop n xs)
dropped-part P zero xs all = all
dropped-part P (suc n) [] all = tt
dropped-part P (suc n) (x ∷ xs) all = dropped-part P n xs all.1

track-part : (P : Piece → Type 0) (tracks : List PlacedTrack) (position : ℕ) (d : PlacedTrack) → position < length tracks → AllByRecursion P (flat_map (λ track. track.pieces) tracks) → AllByRecursion P (get_or tracks position d).pieces
track-part P [] position d lt all = absurd (omega arith)
track-part P (track ∷ tracks) zero d lt all = first-part P track.pieces (flat_map (λ (t : PlacedTrack). t.pieces) tracks) all
track-part P (track ∷ tracks) (suc position) d lt all = track-part P tracks position d (omega arith) (second-part P track.pieces (flat_map (λ (t : PlacedTrack). t.pieces) tracks) all)

pub of-chunk : (P : Piece → Type 0) (tracks : List PlacedTrack) (chunk : Chunk) → IsWithin tracks chunk → All P (flat_map (λ track. track.pieces) tracks) → All P (chunk_pieces tracks chunk)
of-chunk P tracks chunk within all =
    let d = some-track tracks chunk.track within.track in
    let track = get_or tracks chunk.track d in
    let counts = naturals track.counts in
    subst (All P) (sym (chunk-pieces-are tracks chunk d within.track))
    (All-from_recursion P _ (taken-part P (sum (take chunk.count (drop (chunk.first - 1) counts))) _ (dropped-part P (sum (take (chunk.first - 1) counts)) track.pieces (track-part P tracks chunk.track d within.track (recursion_from_All P _ all)))))

-- ---- places in the tracks

-- the same of one track as of its column
pub start-of : (tracks : List PlacedTrack) (position : ℕ) (d : PlacedTrack) (start : Start) → position < length tracks → IsStart (column_at (λ track. track.counts) tracks position) start → IsStart (get_or tracks position d).counts start
start-of tracks position d start lt is = subst (λ (counts : List ℤ). IsStart counts start) (column-is (λ t. t.counts) tracks position d lt) is

pub start-in : (tracks : List PlacedTrack) (position : ℕ) (d : PlacedTrack) (start : Start) → position < length tracks → IsStart (get_or tracks position d).counts start → IsStart (column_at (λ track. track.counts) tracks position) start
start-in tracks position d start lt is = subst (λ (counts : List ℤ). IsStart counts start) (sym (column-is (λ t. t.counts) tracks position d lt)) is

pub starts-none : (tracks : List PlacedTrack) (starts : List Start) → starts ≡ replicate 64 (record { sample = 0; piece = 0 }) → length tracks ≤ 64 → AreStarts tracks starts
starts-none tracks starts is few = subst (AreStarts tracks) (sym is) (record {
  len = length-replicate 64 no_start;
  each = λ position d lt. subst (IsStart (column_at (λ t. t.counts) tracks position)) (sym (get_or-replicate 64 position no_start d (omega (arith, lt, few)))) (record { inside = omega arith; piece_is = refl });
})
  where
    no_start : Start
    no_start = record { sample = 0; piece = 0 }

pub starts-on : (tracks : List PlacedTrack) (starts : List Start) (position : ℕ) (start : Start) → AreStarts tracks starts → position < 64 → IsStart (column_at (λ track. track.counts) tracks position) start
    → AreStarts tracks (slice_set starts position start)
starts-on tracks starts position start are lt is = record {
  len = length-set starts position start ∙ are.len;
  each = λ at d inside. by at d inside (at == position) refl;
}
  where
    by : (at : ℕ) (d : Start) → at < length tracks → (b : Bool) → (at == position) ≡ b → IsStart (column_at (λ t. t.counts) tracks at) (get_or (slice_set starts position start) at d)
    by at d inside true e =
        let same : at ≡ position = eqb-true at position e in
        subst (λ (n : ℕ). IsStart (column_at (λ t. t.counts) tracks n) (get_or (slice_set starts position start) n d)) (sym same)
        (subst (IsStart (column_at (λ t. t.counts) tracks position)) (sym (get_or-set_same starts position start d (omega (arith, lt, are.len)))) is)
    by at d inside false e =
        subst (IsStart (column_at (λ t. t.counts) tracks at)) (sym (get_or-set_other starts position at start d (λ same. other same e))) (are.each at d inside)
      where
        other : at ≡ position → (at == position) ≡ false → ⊥
        other same e = grind (arith, same, e)

-- so many chunks, and one more
pub paid-next : (tracks : List PlacedTrack) (at : ℕ) (chunks : List Chunk) (d : Chunk) (files : List (List ℕ)) → at < length chunks
    → pieces_bytes files (pieces_in tracks (take at chunks)) ++ pieces_bytes files (chunk_pieces tracks (get_or chunks at d)) ≡ pieces_bytes files (pieces_in tracks (take (at + 1) chunks))
paid-next tracks at chunks d files lt =
    sym (flat_map-append (piece_bytes files) (pieces_in tracks (take at chunks)) (chunk_pieces tracks (get_or chunks at d)))
    ∙ ap (pieces_bytes files)
    (ap (λ (ps : List Piece). pieces_in tracks (take at chunks) ++ ps) (sym (append-nil (chunk_pieces tracks (get_or chunks at d))))
    ∙ (sym (flat_map-append (chunk_pieces tracks) (take at chunks) (get_or chunks at d ∷ [])) ∙ ap (pieces_in tracks) (sym (take_more chunks at d lt))))

pub paid-whole : (tracks : List PlacedTrack) (at : ℕ) (chunks : List Chunk) (d : Chunk) (files : List (List ℕ)) → at < length chunks
    → pieces_bytes files (pieces_in tracks (take at chunks)) ++ (pieces_bytes files (chunk_pieces tracks (get_or chunks at d)) ++ pieces_bytes files (pieces_in tracks (drop (at + 1) chunks))) ≡ pieces_bytes files (pieces_in tracks chunks)
paid-whole tracks at chunks d files lt =
    let B = pieces_bytes files in
    let before = pieces_in tracks (take at chunks) in
    let here = chunk_pieces tracks (get_or chunks at d) in
    let after = pieces_in tracks (drop (at + 1) chunks) in
    let split : take at chunks ++ (get_or chunks at d ∷ drop (at + 1) chunks) ≡ chunks =
    ap (λ (cs : List Chunk). take at chunks ++ cs) (sym (drop-cons chunks at d lt ∙ ap (λ (n : ℕ). get_or chunks at d ∷ drop n chunks) (sym (add-one at)))) ∙ take-append-drop at chunks in
    ap (λ (b : List ℕ). B before ++ b) (sym (flat_map-append (piece_bytes files) here after))
    ∙ (sym (flat_map-append (piece_bytes files) before (here ++ after))
    ∙ ap B (sym (flat_map-append (chunk_pieces tracks) (take at chunks) (get_or chunks at d ∷ drop (at + 1) chunks)) ∙ ap (pieces_in tracks) split))

-- the pieces of a chunk, cut out of its track's
pub pieces-are : (tracks : List PlacedTrack) (chunk : Chunk) (d : PlacedTrack) (counts : List ℤ) (pieces : List Piece) (from count : ℕ) → chunk.track < length tracks → counts ≡ (get_or tracks chunk.track d).counts → pieces ≡ (get_or tracks chunk.track d).pieces
    → from ≡ sum (take (chunk.first - 1) (naturals counts)) → sum (take (chunk.first - 1) (naturals counts)) + count ≡ sum (take (chunk.first - 1 + chunk.count) (naturals counts))
    → take (from + count - from) (drop from pieces) ≡ chunk_pieces tracks chunk
pieces-are tracks chunk d counts pieces from count lt counts_are pieces_are from_is count_is =
    let ns = naturals counts in
    let first = chunk.first - 1 in
    let many : from + count - from ≡ sum (take chunk.count (drop first ns)) = omega (arith, count_is, sum-range ns first chunk.count) in
    (λ i. take (many i) (drop (from_is i) (pieces_are i)))
    ∙ ((λ i. take (sum (take chunk.count (drop first (naturals (counts_are i))))) (drop (sum (take first (naturals (counts_are i)))) (get_or tracks chunk.track d).pieces))
    ∙ sym (chunk-pieces-are tracks chunk d lt))

-- what holds of the pieces of each track holds of all
pub of-all : (P : Piece → Type 0) (tracks : List PlacedTrack) → AllByRecursion (λ track. AllByRecursion P track.pieces) tracks → AllByRecursion P (flat_map (λ track. track.pieces) tracks)
of-all P [] all = tt
of-all P (track ∷ tracks) all = both track.pieces (flat_map (λ (t : PlacedTrack). t.pieces) tracks) all.0 (of-all P tracks all.1)
  where
    both : (xs ys : List Piece) → AllByRecursion P xs → AllByRecursion P ys → AllByRecursion P (xs ++ ys)
    both [] ys one other = other
    both (x ∷ xs) ys one other = (one.0, both xs ys one.1 other)
