-- What is read of a sample table, by the answers of its readers.
use Rattle.std.proofs.Common.{◌≡◌, ℕ, ℤ, List, [], ◌∷◌, Bool, true, false, Option, Some, None, Result, Ok, Err, refl, sym, ap, subst, ◌∙◌}
use Rattle.std.specs.Prelude.{if◌then◌else◌}
use Rattle.mp_ports.specs.declared.code.Code.{Code}
use Rattle.mp_ports.specs.declared.code.Code.TheVariants.{SampleOutside}
use Rattle.mp_ports.specs.declared.fault.Bad.{Bad}
use Rattle.mp_ports.specs.Checks.{fault_at, first_code, first_some, placed, unless}
use Rattle.mp_boxes.specs.Reading.{value_or}
use Rattle.mp_times.specs.Times.{stts_of}
use Rattle.mp_chunks.specs.Samples.{PlacesRecord, chunks_fault_of, columns_of, outside_fault, samples_by}
use Rattle.mp_movie.specs.TrackBoxes.{TrackBoxes}
use Rattle.mp_movie.specs.SampleTable.{bodies_in, composition_offsets_of, count_in, places_fault, sync_marks_of}
use Rattle.mp_read.specs.Columns.{ColumnsRecord, columns_in, marks_fault}

-- a value is given where there is no fault
pub given : {A E : Type 0} (fault : Option E) (value answer : A) → unless fault value ≡ Ok answer → (fault ≡ None) × (value ≡ answer)
given None value answer e = (refl, cc)
given (Some fault) value answer e = absurd cc

inside : {A : Type 0} (outside : Bool) (value answer : A) → (if outside then None else Some value) ≡ Some answer → (outside ≡ false) × (value ≡ answer)
inside true value answer e = absurd cc
inside false value answer e = (refl, cc)

placed_is : (place : ℕ) (answer : Result (List ℤ) Code) (column : List ℤ) → placed place answer ≡ Ok column → value_or [] answer ≡ column
placed_is place (Ok value) column e = cc
placed_is place (Err code) column e = absurd cc

passed : {A : Type 0} (chunks marks : Option Bad) (code : Option Code) (outside : Bool) (place : ℕ) (value : A) → chunks ≡ None → marks ≡ None → code ≡ first_code ((outside, SampleOutside) ∷ []) → outside ≡ false
    → unless (first_some (chunks ∷ marks ∷ fault_at place code ∷ [])) value ≡ Ok value
passed chunks marks code outside place value a b c d = rw (a, b, c, d) refl

columns_are : (durations offsets marks : List ℤ) (places : PlacesRecord) (columns : ColumnsRecord) → columns.durations ≡ durations → columns.composition_offsets ≡ offsets → columns.sync_marks ≡ marks → columns.places ≡ places
    → columns ≡ record { durations = durations; composition_offsets = offsets; sync_marks = marks; places = places }
columns_are durations offsets marks places columns a b c d = rw (sym a, sym b, sym c, sym d) refl

pub columns_given : (entries file_size samples : ℕ) (boxes : TrackBoxes) (outside : Bool) (durations offsets marks : List ℤ) (places : PlacesRecord) → count_in boxes ≡ samples
    → outside_fault file_size (samples_by (bodies_in boxes)) ≡ first_code ((outside, SampleOutside) ∷ [])
    → chunks_fault_of entries boxes.stsc.place boxes.places.place (bodies_in boxes) ≡ None
    → unless (chunks_fault_of entries boxes.stsc.place boxes.places.place (bodies_in boxes)) (if outside then None else Some (columns_of (samples_by (bodies_in boxes)))) ≡ Ok (Some places)
    → unless (marks_fault samples boxes.stss) (sync_marks_of samples boxes.stss) ≡ Ok marks
    → placed boxes.stts.place (stts_of boxes.stts.body) ≡ Ok durations
    → composition_offsets_of samples boxes.ctts ≡ offsets
    → unless (places_fault entries file_size boxes) (columns_in boxes) ≡ Ok (record { durations = durations; composition_offsets = offsets; sync_marks = marks; places = places })
unfolding places_fault columns_in
columns_given entries file_size samples boxes outside durations offsets marks places count outside_is none found marked timed composed =
    let within = inside outside (columns_of (samples_by (bodies_in boxes))) places (given _ _ (Some places) found).1 in
    let marks_are = given (marks_fault (count_in boxes) boxes.stss) (sync_marks_of (count_in boxes) boxes.stss) marks (subst (λ (n : ℕ). unless (marks_fault n boxes.stss) (sync_marks_of n boxes.stss) ≡ Ok marks) (sym count) marked) in
    passed (chunks_fault_of entries boxes.stsc.place boxes.places.place (bodies_in boxes)) (marks_fault (count_in boxes) boxes.stss) (outside_fault file_size (samples_by (bodies_in boxes))) outside boxes.places.place (columns_in boxes) none marks_are.0 outside_is within.0
    ∙ ap (λ (columns : ColumnsRecord). unless {E = Bad} None columns) (columns_are durations offsets marks places (columns_in boxes) (placed_is boxes.stts.place (stts_of boxes.stts.body) durations timed)
    (subst (λ (n : ℕ). composition_offsets_of n boxes.ctts ≡ offsets) (sym count) composed) marks_are.1 within.1)
