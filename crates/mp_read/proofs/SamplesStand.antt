-- The samples that the tables of a track give with the bytes of their file.
use Rattle.std.proofs.Common.{◌≡◌, ℕ, ℤ, zero, suc, pos, ◌*◌, ◌<◌, List, [], ◌∷◌, length, map, take, drop, get_or, replicate, refl, sym, ap, ◌∙◌, append-nil, arith}
use Rattle.std.specs.Prelude.{slice_index, slice_index_or, unsigned_abs}
use Rattle.std.specs.List.{flat_map, range_with_len}
use Rattle.std.proofs.lemmas.List.{get_or-replicate, take-replicate, at_drop_more, length-map, get_or-map}
use Rattle.std.proofs.lemmas.List.Folds.{sum_by-replicate}
use Rattle.std.proofs.lemmas.List.FromFn.{fill_by_all, length-map-range_with_len, get_or-map-range_with_len}
use Rattle.mp_chunks.specs.Places.{SamplePlace, no_sample}
use Rattle.mp_chunks.specs.Samples.{PlacesRecord, columns_of}
use Rattle.mp_pieces.specs.declared.piece.Piece.{Piece}
use Rattle.mp_pieces.specs.Piece.{piece_bytes}
use Rattle.mp_movie.specs.Placed.{naturals}
use Rattle.mp_movie.specs.SampleTable.{SampleTable, sample_of, samples_of as table_samples}
use Rattle.mp_movie.specs.StandsFor.{pieces_at, sample_at, samples_of}
use Rattle.mp_read.specs.Parts.{piece_in, pieces_in, placed_track}
use Rattle.mp_read.specs.Track.{TrackTablesRecord}

-- a track with these columns
abbrev pub with_columns : TrackTablesRecord → List ℤ → List ℤ → List ℤ → List SamplePlace → TrackTablesRecord
with_columns track deltas offsets syncs places = record track {
  columns = record { durations = deltas; composition_offsets = offsets; sync_marks = syncs; places = columns_of places };
}

-- the same as a table
abbrev pub table_with : List ℤ → List ℤ → List ℤ → List SamplePlace → SampleTable
table_with deltas offsets syncs places = record { durations = naturals deltas; composition_offsets = offsets; sync_marks = syncs; places = places }

pub ones_are : (n : ℕ) → naturals (replicate n (pos 1)) ≡ replicate n 1
ones_are zero = refl
ones_are (suc n) = ap (λ (l : List ℕ). 1 ∷ l) (ones_are n)

-- with one piece for each, a sample has the piece of its number
pub alone : (n : ℕ) (pieces : List Piece) (i : ℕ) (d : Piece) → n ≡ length pieces → i < length pieces → pieces_at (naturals (replicate n (pos 1))) pieces i ≡ get_or pieces i d ∷ []
unfolding pieces_at
alone n pieces i d e lt =
    let one : ℕ = 1 in
    rw (ones_are n, get_or-replicate {A = ℕ} n i one 0 (omega arith), take-replicate i n one (omega arith), sum_by-replicate (λ (x : ℕ). x) i one, times_one i) (at_drop_more (take 1) pieces i d lt)
  where
    times_one : (m : ℕ) → m * 1 ≡ m
    times_one m = omega arith

-- that is the one piece at its place
pub piece_alone : (file : ℕ) (places : PlacesRecord) (i : ℕ) → i < length places.from → pieces_at (naturals (replicate (length places.from) (pos 1))) (pieces_in file places) i ≡ piece_in file places i ∷ []
unfolding pieces_in
piece_alone file places i lt =
    let n = length places.from in
    let pieces = map (piece_in file places) (range_with_len 0 n) in
    let long : length pieces ≡ n = length-map-range_with_len (piece_in file places) 0 n in
    let d = piece_in file places 0 in
    alone n pieces i d (sym long) (omega (arith, long)) ∙ ap (λ (p : Piece). p ∷ []) (get_or-map-range_with_len (piece_in file places) 0 n i i d lt (omega arith))

kind_is : (places : List SamplePlace) (i : ℕ) → i < length places → slice_index (naturals (map (λ place. pos place.kind) places)) i ≡ (get_or places i no_sample).kind
kind_is places i lt =
    get_or-map unsigned_abs (map (λ (place : SamplePlace). pos place.kind) places) i (pos 0) 0 (rw (length-map places (λ (place : SamplePlace). pos place.kind)) lt)
    ∙ ap unsigned_abs (get_or-map (λ (place : SamplePlace). pos place.kind) places i no_sample (pos 0) lt)

pub from_is : (places : List SamplePlace) (i : ℕ) → i < length places → slice_index (map (λ place. place.from) places) i ≡ (get_or places i no_sample).from
from_is places i lt = get_or-map (λ (place : SamplePlace). place.from) places i no_sample 0 lt

pub size_is : (places : List SamplePlace) (i : ℕ) → i < length places → unsigned_abs (slice_index_or (map (λ place. pos place.size) places) i (pos 0)) ≡ (get_or places i no_sample).size
size_is places i lt = ap unsigned_abs (get_or-map (λ (place : SamplePlace). pos place.size) places i no_sample (pos 0) lt)

bytes_are : (files : List (List ℕ)) (file : ℕ) (places : List SamplePlace) (i : ℕ) → i < length places
    → flat_map (piece_bytes files) (pieces_at (naturals (replicate (length (map (λ (place : SamplePlace). place.from) places)) (pos 1))) (pieces_in file (columns_of places)) i)
    ≡ take (get_or places i no_sample).size (drop (get_or places i no_sample).from (get_or files file []))
bytes_are files file places i lt =
    rw (piece_alone file (columns_of places) i (rw (length-map places (λ (place : SamplePlace). place.from)) lt), from_is places i lt, size_is places i lt)
    (append-nil (take (get_or places i no_sample).size (drop (get_or places i no_sample).from (get_or files file []))))

sample_is : (files : List (List ℕ)) (file : ℕ) (track : TrackTablesRecord) (deltas offsets syncs : List ℤ) (places : List SamplePlace) (i : ℕ) → i < length places
    → sample_at files (placed_track file (with_columns track deltas offsets syncs places)) i ≡ sample_of (get_or files file []) (table_with deltas offsets syncs places) i
unfolding sample_at
sample_is files file track deltas offsets syncs places i lt = rw (bytes_are files file places i lt, kind_is places i lt) refl

-- the samples of the pieces are those of the tables
pub samples_are : (files : List (List ℕ)) (file : ℕ) (track : TrackTablesRecord) (deltas offsets syncs : List ℤ) (places : List SamplePlace) → length deltas ≡ length places
    → samples_of files (placed_track file (with_columns track deltas offsets syncs places)) ≡ table_samples (get_or files file []) (table_with deltas offsets syncs places)
unfolding samples_of table_samples
samples_are files file track deltas offsets syncs places e =
    let parts = placed_track file (with_columns track deltas offsets syncs places) in
    let n = length places in
    let none = sample_at files parts 0 in
    rw e
    (fill_by_all (sample_of (get_or files file []) (table_with deltas offsets syncs places)) (map (sample_at files parts) (range_with_len 0 n)) n none (length-map-range_with_len (sample_at files parts) 0 n)
    (λ k lt. get_or-map-range_with_len (sample_at files parts) 0 n k k none lt (omega arith) ∙ sample_is files file track deltas offsets syncs places k lt))
