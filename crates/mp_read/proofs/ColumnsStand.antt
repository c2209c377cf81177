-- The columns by tables without a fault: their lengths, their items, and their sizes in 32 bits.
use Rattle.std.proofs.Common.{◌≡◌, ℕ, pos, true, List, [], ◌∷◌, All, length, replicate, Option, Some, None, refl, arith}
use Rattle.std.proofs.lemmas.Int.{ints}
use Rattle.std.proofs.lemmas.List.{length-replicate}
use Rattle.std.proofs.lemmas.List.Elements.{All-append, All-nil, All-replicate}
use Rattle.std.proofs.lemmas.List.FromFn.{length-map-range_with_len}
use Rattle.mp_ports.specs.declared.code.Code.{Code}
use Rattle.mp_ports.specs.Checks.{fault_at, unless}
use Rattle.mp_boxes.specs.Boxes.{Box}
use Rattle.mp_boxes.specs.FullBox.{table_fault, table_rows, version}
use Rattle.mp_boxes.specs.Number.{u32_at}
use Rattle.mp_boxes.specs.Reading.{value_or}
use Rattle.mp_times.specs.Sync.{mark, numbers_of, stss_fault}
use Rattle.mp_times.specs.Times.{offset, per_sample, run_len, stts_of}
use Rattle.mp_movie.specs.SampleTable.{composition_offsets_of, count_in, has_count, sync_marks_of, unfolded_at}
use Rattle.mp_movie.specs.Readings.{fault_of, if_there}
use Rattle.mp_movie.specs.TrackBoxes.{TrackBoxes}
use Rattle.mp_movie.specs.WholeParts.{IsNatural}
use Rattle.mp_read.specs.Columns.{marks_fault}
use Rattle.mp_read.proofs.TracksPass.{AreCounted, not_failed, same, unfolded_items}

-- each item of a table of times is the value of some row
values_are : {A : Type 0} (P : A → Type 0) (value : ℕ → A) → ((n : ℕ) → P (value n)) → (rows : List (List ℕ)) → All P (per_sample value rows)
values_are P value each [] = All-nil P
values_are P value each (row ∷ rows) = All-append P (replicate (u32_at row 0) (value (u32_at row 4))) (per_sample value rows) (All-replicate P (u32_at row 0) (value (u32_at row 4)) (each (u32_at row 4))) (values_are P value each rows)

pub durations_natural : (stts : Box) → All IsNatural (value_or [] (stts_of stts.body))
durations_natural stts = by (table_fault 0 run_len stts.body)
  where
    by : (fault : Option Code) → All IsNatural (value_or [] (unless fault (per_sample pos (table_rows run_len stts.body))))
    by None = values_are IsNatural pos (λ n. omega (arith, ints)) (table_rows run_len stts.body)
    by (Some code) = All-nil IsNatural

pub offsets_len : (before : ℕ) (boxes : TrackBoxes) → AreCounted before boxes → length (composition_offsets_of (count_in boxes) boxes.ctts) ≡ count_in boxes
offsets_len before boxes h = by boxes.ctts h.offsets h.offsets_count
  where
    by : (ctts : Option Box) → if_there (λ box. fault_of (unfolded_at true box)) ctts ≡ None → if_there (has_count (count_in boxes) true) ctts ≡ None → length (composition_offsets_of (count_in boxes) ctts) ≡ count_in boxes
    by None e n = length-replicate (count_in boxes) (pos 0)
    by (Some ctts) e n = unfolded_items ctts.place (table_fault 1 run_len ctts.body) (offset (version ctts.body)) (table_rows run_len ctts.body) (count_in boxes) e (same _ _ (not_failed ctts.place _ _ n))

no_marks_fault : (place : ℕ) (fault : Option Code) → fault_at place fault ≡ None → fault ≡ None
no_marks_fault place None e = refl
no_marks_fault place (Some code) e = absurd cc

pub syncs_len : (samples : ℕ) (stss : Option Box) → marks_fault samples stss ≡ None → length (sync_marks_of samples stss) ≡ samples
syncs_len samples None e = length-replicate samples (pos 1)
syncs_len samples (Some stss) e =
    rw (no_marks_fault stss.place (stss_fault samples stss.body) e) (length-map-range_with_len (mark (numbers_of stss.body)) 1 samples)
