-- The numbers of samples by the columns of their track.
use Rattle.std.proofs.Common.{◌≡◌, ℕ, ℤ, pos, ◌<◌, List, [], ◌∷◌, length, map, get_or, refl, sym, ap, ◌∙◌, arith}
use Rattle.std.specs.Prelude.{slice_index, unsigned_abs}
use Rattle.std.specs.List.{range_with_len}
use Rattle.std.proofs.lemmas.List.{get_or-map}
use Rattle.std.proofs.lemmas.List.FromFn.{fill_by_all, get_or-map-range_with_len, length-map-range_with_len}
use Rattle.std.proofs.lemmas.Simd.{map-map}
use Rattle.mp_timeline.specs.Movie.{SampleRecord}
use Rattle.mp_movie.specs.Columns.{sizes}
use Rattle.mp_movie.specs.Placed.{PlacedTrack, naturals}
use Rattle.mp_movie.specs.StandsFor.{HoldTrack, sample_at, samples_of}
use Rattle.mp_movie.specs.WholeParts.{AreColumns}
use Rattle.mp_movie.specs.PartsLaw.{ColumnsAreKept}
use Rattle.mp_dump.specs.declared.row.Row.{Row}
use Rattle.mp_dump.specs.Row.{row_of}
use Rattle.mp_dump.specs.Track.{row_in, rows_in}

-- an item of a column
pub item_of : (column : List ℤ) (i : ℕ) → i < length column → unsigned_abs (get_or column i (pos 0)) ≡ slice_index (naturals column) i
item_of column i lt = sym (get_or-map unsigned_abs column i (pos 0) 0 lt)

naturals_back : (numbers : List ℕ) → naturals (map pos numbers) ≡ numbers
naturals_back [] = refl
naturals_back (number ∷ numbers) = ap (λ rest. number ∷ rest) (naturals_back numbers)

-- the sizes of the samples are the column of sizes
pub sizes_are : ColumnsAreKept → (files : List (List ℕ)) (track : PlacedTrack) → AreColumns track → HoldTrack (map length files) track
    → naturals track.sizes ≡ sizes (samples_of files track)
sizes_are law files track columns held = sym (ap naturals (law.sizes files track columns held)) ∙ naturals_back (sizes (samples_of files track))

size_at : (files : List (List ℕ)) (track : PlacedTrack) (k : ℕ) → k < length track.deltas → slice_index (sizes (samples_of files track)) k ≡ length (sample_at files track k).bytes
unfolding samples_of
size_at files track k lt =
    ap (λ (all : List ℕ). slice_index all k) (map-map (λ (s : SampleRecord). length s.bytes) (sample_at files track) (range_with_len 0 (length track.deltas)))
    ∙ get_or-map-range_with_len (λ (i : ℕ). length (sample_at files track i).bytes) 0 (length track.deltas) k k 0 lt (omega arith)

-- only its size is not by the columns alone
same_row : (files : List (List ℕ)) (track : PlacedTrack) (k : ℕ) → slice_index (naturals track.sizes) k ≡ length (sample_at files track k).bytes → row_in track k ≡ row_of (sample_at files track k)
unfolding row_in sample_at
same_row files track k e = rw e refl

-- the numbers of the samples are those by the columns
pub rows_are_kept : ColumnsAreKept → (files : List (List ℕ)) (track : PlacedTrack) → AreColumns track → HoldTrack (map length files) track
    → rows_in track ≡ map row_of (samples_of files track)
unfolding rows_in samples_of
rows_are_kept law files track columns held =
    let row : ℕ → Row = λ k. row_of (sample_at files track k) in
    fill_by_all row (map (row_in track) (range_with_len 0 (length track.deltas))) (length track.deltas) (row_in track 0) (length-map-range_with_len (row_in track) 0 (length track.deltas))
    (λ k lt.
    get_or-map-range_with_len (row_in track) 0 (length track.deltas) k k (row_in track 0) lt (omega arith)
    ∙ same_row files track k (ap (λ (all : List ℕ). slice_index all k) (sizes_are law files track columns held) ∙ size_at files track k lt))
    ∙ sym (map-map row_of (sample_at files track) (range_with_len 0 (length track.deltas)))
