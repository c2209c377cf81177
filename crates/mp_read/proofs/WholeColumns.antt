-- The columns by tables without a fault are columns of a track.
use Rattle.std.proofs.Common.{◌≡◌, ℕ, ℤ, pos, ◌+◌, ◌<◌, List, [], ◌∷◌, All, length, map, get_or, replicate, Option, Some, None, inl, inr, refl, sym, ap, subst, ◌∙◌, arith}
use Rattle.std.specs.Prelude.{slice_index_or, sum, if◌then◌else◌, ◌==◌, true, false}
use Rattle.std.specs.List.{list_any, sum_by}
use Rattle.std.proofs.lemmas.Int.{ints}
use Rattle.std.proofs.lemmas.List.{length-map, length-replicate, get_or-map}
use Rattle.std.proofs.lemmas.List.Elements.{All-nil, All-replicate}
use Rattle.std.proofs.lemmas.List.Folds.{sum_by-replicate}
use Rattle.std.proofs.lemmas.List.FromFn.{length-map-range_with_len, get_or-map-range_with_len}
use Rattle.mp_ports.specs.declared.code.Code.{Code}
use Rattle.mp_ports.specs.Checks.{fault_at, unless}
use Rattle.mp_boxes.specs.Boxes.{Box}
use Rattle.mp_boxes.specs.Reading.{value_or}
use Rattle.mp_chunks.specs.Places.{SamplePlace, no_sample}
use Rattle.mp_chunks.specs.Samples.{PlacesRecord, TablesGiveSamples, chunks_fault_of, columns_of, outside_fault, samples_by}
use Rattle.mp_pieces.specs.Piece.{piece_len}
use Rattle.mp_times.specs.Sync.{mark, marks, numbers_of, stss_fault}
use Rattle.mp_times.specs.Written.{IsMark}
use Rattle.mp_movie.specs.Placed.{naturals}
use Rattle.mp_movie.specs.SampleTable.{bodies_in, count_in, places_fault, sync_marks_of}
use Rattle.mp_movie.specs.TrackBoxes.{TrackBoxes, boxes_of}
use Rattle.mp_movie.specs.Tracks.{track_fault}
use Rattle.mp_movie.specs.WholeParts.{AreColumns, IsEntryNumber, IsNatural}
use Rattle.mp_read.specs.Columns.{columns_in, marks_fault}
use Rattle.mp_read.specs.Parts.{pieces_in, piece_in, placed_track}
use Rattle.mp_read.specs.Track.{samples_in, tables_of}
use Rattle.mp_read.proofs.ColumnsStand.{durations_natural, offsets_len, syncs_len}
use Rattle.mp_read.proofs.SamplesStand.{ones_are, piece_alone}
use Rattle.mp_read.proofs.TracksPass.{are_counted, durations_len, places_len, track_passes}
use Rattle.mp_read.proofs.WithinFile.{all_hold}

-- the tables that say where the samples are
record AreMapped (entries size : ℕ) (boxes : TrackBoxes) : Type 0 where
  chunks : chunks_fault_of entries boxes.stsc.place boxes.places.place (bodies_in boxes) ≡ None
  marks : marks_fault (count_in boxes) boxes.stss ≡ None

are_mapped : (entries size : ℕ) (boxes : TrackBoxes) → places_fault entries size boxes ≡ None → AreMapped entries size boxes
unfolding places_fault
are_mapped entries size boxes e =
    let bodies = bodies_in boxes in
    let chunks = chunks_fault_of entries boxes.stsc.place boxes.places.place bodies in
    let marks = marks_fault (count_in boxes) boxes.stss in
    let outside = fault_at boxes.places.place (outside_fault size (samples_by bodies)) in
    let each = all_hold (chunks ∷ marks ∷ outside ∷ []) e in
    record { chunks = each.0; marks = each.1.0 }

mark_is : (numbers : List ℕ) (number : ℕ) → IsMark (mark numbers number)
mark_is numbers number = by (list_any (λ sync. sync == number) numbers)
  where
    by : (b : _) → IsMark (if b then pos 1 else pos 0)
    by true = inr refl
    by false = inl refl

syncs_are : (samples : ℕ) (stss : Option Box) → All IsMark (sync_marks_of samples stss)
syncs_are samples None = All-replicate IsMark samples (pos 1) (inr refl)
syncs_are samples (Some stss) = by (stss_fault samples stss.body)
  where
    by : (fault : Option Code) → All IsMark (value_or [] (unless fault (marks samples (numbers_of stss.body))))
    by None = λ i d lt. subst IsMark (sym (get_or-map-range_with_len (mark (numbers_of stss.body)) 1 samples i (i + 1) d (omega (arith, lt, length-map-range_with_len (mark (numbers_of stss.body)) 1 samples)) (omega arith))) (mark_is (numbers_of stss.body) (i + 1))
    by (Some code) = All-nil IsMark

kinds_are : TablesGiveSamples → (entries size : ℕ) (boxes : TrackBoxes) → AreMapped entries size boxes → All (IsEntryNumber entries) (map (λ place. pos place.kind) (samples_by (bodies_in boxes)))
kinds_are law entries size boxes h i d lt =
    let samples = samples_by (bodies_in boxes) in
    let inside : i < length samples = omega (arith, lt, length-map samples (λ (place : SamplePlace). pos place.kind)) in
    let kind = law.entry entries boxes.stsc.place boxes.places.place (bodies_in boxes) i h.chunks inside in
    let item : get_or (map (λ (place : SamplePlace). pos place.kind) samples) i d ≡ pos (get_or samples i no_sample).kind = get_or-map (λ (place : SamplePlace). pos place.kind) samples i no_sample d inside in
    let some = kind.some in
    let known = kind.known in
    subst (IsEntryNumber entries) (sym item) (record { some = omega (arith, ints, some); known = omega (arith, ints, known) })

one_each : (file n : ℕ) (places : PlacesRecord) → n ≡ length places.from → sum (naturals (replicate n (pos 1))) ≡ length (pieces_in file places)
unfolding pieces_in
one_each file n places e =
    let long = length-map-range_with_len (piece_in file places) 0 (length places.from) in
    let one : ℕ = 1 in
    rw (ones_are n) (omega (arith, e, long, sum_by-replicate (λ (x : ℕ). x) n one))

size_of_piece : (file : ℕ) (samples : List SamplePlace) (i : ℕ) → i < length samples
    → slice_index_or (map (λ place. pos place.size) samples) i (pos 0) ≡ pos (sum_by piece_len (piece_in file (columns_of samples) i ∷ []))
size_of_piece file samples i lt =
    let item : get_or (map (λ (place : SamplePlace). pos place.size) samples) i (pos 0) ≡ pos (get_or samples i no_sample).size = get_or-map (λ (place : SamplePlace). pos place.size) samples i no_sample (pos 0) lt in
    rw item (ap pos (omega arith))

pub columns_are : TablesGiveSamples → (file size : ℕ) (earlier : List Box) (trak : Box) → track_fault size earlier trak ≡ None → AreColumns (placed_track file (tables_of trak))
unfolding tables_of columns_in
columns_are law file size earlier trak e =
    let boxes = boxes_of trak in
    let samples = samples_by (bodies_in boxes) in
    let passes = track_passes size earlier trak e in
    let counted = are_counted (samples_in earlier) boxes passes.counts in
    let mapped = are_mapped _ size boxes passes.places in
    let deltas = durations_len (samples_in earlier) boxes counted in
    let places = places_len law (samples_in earlier) boxes counted in
    let from = length-map samples (λ (place : SamplePlace). place.from) in
    let one : ℤ = pos 1 in
    record {
      deltas = durations_natural boxes.stts;
      offsets_len = offsets_len (samples_in earlier) boxes counted ∙ sym deltas;
      syncs_len = syncs_len (count_in boxes) boxes.stss mapped.marks ∙ sym deltas;
      syncs = syncs_are (count_in boxes) boxes.stss;
      kinds_len = length-map samples (λ (place : SamplePlace). pos place.kind) ∙ (places ∙ sym deltas);
      kinds = kinds_are law _ size boxes mapped;
      counts_len = length-replicate _ one ∙ (from ∙ (places ∙ sym deltas));
      counts = All-replicate IsNatural _ one (omega (arith, ints));
      counted = one_each file _ (columns_of samples) refl;
      sizes_len = length-map samples (λ (place : SamplePlace). pos place.size) ∙ (places ∙ sym deltas);
      sizes = λ i lt.
          let inside : i < length samples = omega (arith, lt, deltas, places) in
          rw (piece_alone file (columns_of samples) i (omega (arith, inside, from))) (size_of_piece file samples i inside);
    }
