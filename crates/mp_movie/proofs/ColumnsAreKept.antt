-- The columns of a track are those of the samples that it stands for.
use Rattle.std.proofs.Common.{◌≡◌, ℕ, ℤ, zero, suc, pos, negsuc, ◌+◌, ◌<◌, ◌≤◌, ◌+ℤ◌, ◌-ℤ◌, Bool, true, false, List, [], ◌∷◌, ◌++◌, length, map, take, drop, get_or, refl, sym, ap, ◌∙◌, arith, subst, inl, inr, ◌⊎◌}
use Rattle.std.specs.Prelude.{slice_index, slice_index_or, sum, unsigned_abs, if◌then◌else◌, All}
use Rattle.std.specs.List.{AllByRecursion, flat_map, range_with_len, sum_by}
use Rattle.std.proofs.lemmas.Int.{ints}
use Rattle.std.proofs.lemmas.List.{get_or-map, length-map, length-append, length-drop, length-take-le}
use Rattle.std.proofs.lemmas.List.Concat.{length-flat_map}
use Rattle.std.proofs.lemmas.List.FromFn.{fill_by_all, length-map-range_with_len}
use Rattle.std.proofs.lemmas.List.Sums.{sum_by-cons}
use Rattle.std.proofs.lemmas.Simd.{map-map}
use Rattle.mp_pieces.specs.declared.piece.Piece.{Piece}
use Rattle.mp_pieces.specs.Piece.{IsHeld, piece_bytes, piece_len, prefix_bytes}
use Rattle.mp_timeline.specs.Movie.{SampleRecord}
use Rattle.mp_times.specs.Sync.{is_sync}
use Rattle.mp_times.specs.Written.{IsMark}
use Rattle.mp_movie.specs.Columns.{composition_offsets, durations, entry_numbers, sizes, sync_marks}
use Rattle.mp_movie.specs.Placed.{PlacedTrack, naturals}
use Rattle.mp_movie.specs.StandsFor.{HoldTrack, pieces_at, pieces_of, sample_at, samples_of}
use Rattle.mp_movie.specs.WholeParts.{AreColumns, IsEntryNumber, IsNatural}
use Rattle.mp_movie.specs.PartsLaw.{ColumnsAreKept}
use Rattle.mp_movie.proofs.ColumnsInNumbers.{natural_is}

-- what is asked of each sample is a column, where it is one at each place
kept : {A : Type 0} (f : SampleRecord → A) (files : List (List ℕ)) (track : PlacedTrack) (column : List A) (d : A) → length column ≡ length track.deltas
    → ((k : ℕ) → k < length track.deltas → get_or column k d ≡ f (sample_at files track k)) → map f (samples_of files track) ≡ column
unfolding samples_of
kept f files track column d long each =
    map-map f (sample_at files track) (range_with_len 0 (length track.deltas))
    ∙ sym (fill_by_all (λ (k : ℕ). f (sample_at files track k)) column (length track.deltas) d long each)

-- an item of a column of natural numbers
number_at : (column : List ℤ) (k : ℕ) → k < length column → slice_index (naturals column) k ≡ unsigned_abs (get_or column k (pos 0))
number_at column k lt = get_or-map unsigned_abs column k (pos 0) 0 lt

pub natural_at : (column : List ℤ) (k : ℕ) → k < length column → IsNatural (get_or column k (pos 0)) → get_or column k (pos 0) ≡ pos (slice_index (naturals column) k)
natural_at column k lt natural = sym (ap pos (number_at column k lt) ∙ natural_is (get_or column k (pos 0)) natural)

offset_is : (decode : ℕ) (offset : ℤ) → offset ≡ (pos decode +ℤ offset) -ℤ pos decode
offset_is decode offset = omega (arith, ints)

mark_kept : (mark : ℤ) → IsMark mark → mark ≡ (if is_sync mark then pos 1 else pos 0)
mark_kept mark (inl none) = rw none refl
mark_kept mark (inr one) = rw one refl

entry_natural : (entries : ℕ) (kind : ℤ) → IsEntryNumber entries kind → IsNatural kind
entry_natural entries kind h = let some = h.some in omega (arith, ints)

-- the bytes of a piece are as many as it says, where its file holds it
held_len : (files : List (List ℕ)) (piece : Piece) → IsHeld (map length files) piece → length (piece_bytes files piece) ≡ piece_len piece
held_len files piece h =
    let file = get_or files piece.file [] in
    let opened : piece.file < length files = omega (arith, h.opened, length-map files length) in
    let size : get_or (map length files) piece.file 0 ≡ length file = get_or-map length files piece.file [] 0 opened in
    let inside : piece.from + piece.len ≤ length file = omega (arith, h.inside, size) in
    omega (
      arith,
      length-append (prefix_bytes piece.prefix) (take piece.len (drop piece.from file)),
      length-take-le piece.len (drop piece.from file) (omega (arith, inside, length-drop piece.from file)),
    )

held_lens : (files : List (List ℕ)) (pieces : List Piece) → AllByRecursion (IsHeld (map length files)) pieces → sum_by (λ piece. length (piece_bytes files piece)) pieces ≡ sum_by piece_len pieces
held_lens files [] h = refl
held_lens files (piece ∷ pieces) h =
    omega (
      arith,
      held_len files piece h.0,
      held_lens files pieces h.1,
      sum_by-cons (λ (p : Piece). length (piece_bytes files p)) piece pieces,
      sum_by-cons piece_len piece pieces,
    )

-- what holds of each piece holds of those of a sample
pub of_front : {A : Type 0} (P : A → Type 0) (n : ℕ) (xs : List A) → AllByRecursion P xs → AllByRecursion P (take n xs)
of_front P zero xs all = tt
of_front P (suc n) [] all = tt
of_front P (suc n) (x ∷ xs) all = (all.0, of_front P n xs all.1)

of_rest : {A : Type 0} (P : A → Type 0) (n : ℕ) (xs : List A) → AllByRecursion P xs → AllByRecursion P (drop n xs)
of_rest P zero xs all = all
of_rest P (suc n) [] all = tt
of_rest P (suc n) (x ∷ xs) all = of_rest P n xs all.1

pub of_sample : (P : Piece → Type 0) (track : PlacedTrack) (k : ℕ) → AllByRecursion P track.pieces → AllByRecursion P (pieces_of track k)
unfolding pieces_at
of_sample P track k all = of_front P _ _ (of_rest P _ track.pieces all)

-- the bytes of a sample are as many as its size says
pub size_at : (files : List (List ℕ)) (track : PlacedTrack) (k : ℕ) → AreColumns track → HoldTrack (map length files) track → k < length track.deltas
    → get_or track.sizes k (pos 0) ≡ pos (length (sample_at files track k).bytes)
unfolding sample_at
size_at files track k h hold lt =
    let pieces = pieces_of track k in
    h.sizes k lt ∙ ap pos (sym (length-flat_map (piece_bytes files) pieces ∙ held_lens files pieces (of_sample (IsHeld (map length files)) track k hold)))

pub delta_at : (files : List (List ℕ)) (track : PlacedTrack) (k : ℕ) → AreColumns track → k < length track.deltas → get_or track.deltas k (pos 0) ≡ pos (sample_at files track k).dur
unfolding sample_at
delta_at files track k h lt = natural_at track.deltas k lt (h.deltas k (pos 0) lt)

offset_at : (files : List (List ℕ)) (track : PlacedTrack) (k : ℕ) → get_or track.offsets k (pos 0) ≡ (sample_at files track k).comp -ℤ pos (sample_at files track k).decode
unfolding sample_at
offset_at files track k = offset_is _ _

mark_at : (files : List (List ℕ)) (track : PlacedTrack) (k : ℕ) → AreColumns track → k < length track.deltas
    → get_or track.syncs k (pos 0) ≡ (if (sample_at files track k).sync then pos 1 else pos 0)
unfolding sample_at
mark_at files track k h lt = mark_kept _ (h.syncs k (pos 0) (omega (arith, h.syncs_len)))

pub kind_at : (files : List (List ℕ)) (track : PlacedTrack) (k : ℕ) → AreColumns track → k < length track.deltas → get_or track.kinds k (pos 0) ≡ pos (sample_at files track k).entry
unfolding sample_at
kind_at files track k h lt =
    let inside : k < length track.kinds = omega (arith, h.kinds_len) in
    natural_at track.kinds k inside (entry_natural (length track.entries) _ (h.kinds k (pos 0) inside))

pub count_is : (files : List (List ℕ)) (track : PlacedTrack) → length (samples_of files track) ≡ length track.deltas
unfolding samples_of
count_is files track = length-map-range_with_len (sample_at files track) 0 (length track.deltas)

pub columns_are_kept : ColumnsAreKept
columns_are_kept = record {
  count = λ files track. count_is files track;
  durations = λ files track h. kept (λ (s : SampleRecord). pos s.dur) files track track.deltas (pos 0) refl (λ k lt. delta_at files track k h lt);
  offsets = λ files track h. kept (λ (s : SampleRecord). s.comp -ℤ pos s.decode) files track track.offsets (pos 0) h.offsets_len (λ k lt. offset_at files track k);
  syncs = λ files track h. kept (λ (s : SampleRecord). if s.sync then pos 1 else pos 0) files track track.syncs (pos 0) h.syncs_len (λ k lt. mark_at files track k h lt);
  kinds = λ files track h. kept (λ (s : SampleRecord). pos s.entry) files track track.kinds (pos 0) h.kinds_len (λ k lt. kind_at files track k h lt);
  sizes = λ files track h hold.
      map-map pos (λ (s : SampleRecord). length s.bytes) (samples_of files track)
      ∙ kept (λ (s : SampleRecord). pos (length s.bytes)) files track track.sizes (pos 0) h.sizes_len (λ k lt. size_at files track k h hold lt);
}
