-- The faults of the tables in their order, as a walk over all runs tells them.
use Rattle.std.proofs.Common.{◌≡◌, ℕ, ◌≤◌, true, false, List, length, sum, Option, Some, None, Result, Ok, Err, refl, sym, ap, ◌∙◌, arith}
use Rattle.std.specs.Prelude.{nat_lt, ◌&&◌, ◌==◌}
use Rattle.std.specs.List.{list_any}
use Rattle.std.proofs.lemmas.List.{take_all}
use Rattle.mp_ports.specs.declared.code.Code.{Code}
use Rattle.mp_ports.specs.declared.code.Code.TheVariants.{ChunkMap}
use Rattle.mp_ports.specs.declared.fault.Bad.{Bad}
use Rattle.mp_columns.specs.declared.columns.TheConstants.{MOST_ITEMS}
use Rattle.mp_ports.specs.Checks.{bad_at, first_code, placed, unless}
use Rattle.mp_boxes.specs.FullBox.{HasRows, row_count, table_fault}
use Rattle.mp_chunks.specs.declared.chunks.ChunkRun.{ChunkRun}
use Rattle.mp_chunks.specs.declared.tables.Tables.{Tables}
use Rattle.mp_chunks.specs.declared.walk.Limits.{Limits}
use Rattle.mp_chunks.specs.declared.walk.Walk.{Walk}
use Rattle.mp_chunks.specs.Sizes.{sample_count, size_checks}
use Rattle.mp_chunks.specs.Chunks.{offset_len, run_len, runs_fault, runs_of_chunks}
use Rattle.mp_chunks.specs.Places.{counts_of, no_sample, is_outside}
use Rattle.mp_chunks.specs.Samples.{AreWithin, PlacesRecord, chunks, columns_of, count_from, map_fault, offsets, offsets_body, placed_from, runs, samples, sizes, sizes_body, stsc_body}
use Rattle.mp_chunks.specs.Walk.{AreRead, IsDone, lacks_runs}
use Rattle.mp_chunks.proofs.TablesAreRead.{offsets_len, stsc_len}
use Rattle.mp_chunks.proofs.MapFaults.{count_fault, no_fault, no_run_fault}
use Rattle.mp_chunks.proofs.RunsAreFound.{before_end, in_order}
use Rattle.mp_chunks.proofs.SamplesArePlaced.{any_none, samples_len, sizes_len}
use Rattle.mp_chunks.proofs.ChunksAreWalked.{none_outside, one_outside}

-- what was read without a fault
was_read : {A : Type 0} (place : ℕ) (fault : Option Code) (value found : A) → Ok found ≡ placed place (unless fault value) → (fault ≡ None) × (value ≡ found)
was_read place None value found h = (refl, cc)
was_read place (Some code) value found h = absurd (no_ok (bad_at code place) found h)
  where
    no_ok : {A : Type 0} (bad : Bad) (found : A) → ◌≡◌ {A = Result A Bad} (Ok found) (Err bad) → ⊥
    no_ok bad found h = cc

-- there are chunks and no run, by the numbers that were read
lacks_them : (t : Tables) (limits : Limits) → AreRead t limits → (nat_lt 0 (length (offsets t)) && (length (runs t) == 0)) ≡ lacks_runs limits
lacks_them t limits read = rw (read.chunks, read.runs) refl

no_runs_to_check : (entries : ℕ) (runs : List ChunkRun) → length runs ≡ 0 → runs_fault entries runs ≡ None
unfolding runs_fault
no_runs_to_check entries runs none = rw none refl

both_hold : (chunks runs : ℕ) → (nat_lt 0 chunks && (runs == 0)) ≡ true → runs ≡ 0
both_hold chunks runs h = grind arith

pub no_run_is_first : (t : Tables) (limits : Limits) → AreRead t limits → lacks_runs limits ≡ true → placed_from limits.entries limits.file_size t ≡ Err (bad_at ChunkMap t.stsc.place)
no_run_is_first t limits read lacks =
    let none = no_runs_to_check limits.entries (runs t) (read.runs ∙ both_hold limits.chunks limits.runs lacks) in
    let fault = no_run_fault (runs t) (length (offsets t)) (length (sizes t)) (lacks_them t limits read ∙ lacks) in
    rw (read.stsc_table, read.offsets_table, none, fault) refl

-- a walk over all runs has gone over all chunks
all_held : (t : Tables) (limits : Limits) (walk : Walk) → AreRead t limits → lacks_runs limits ≡ false → IsDone t limits walk → walk.held ≡ sum (counts_of (chunks t))
all_held t limits walk read some done =
    let order = in_order limits.entries (runs t) done.no_fault in
    let all : walk.chunks ≡ length (offsets t) = done.walked.ends order ∙ (before_end (runs t) limits.chunks limits.runs (omega (arith, read.runs)) ∙ sym read.chunks) in
    done.walked.walked.held order ∙ ap (λ (n : ℕ). sum (counts_of (runs_of_chunks (runs t) n))) all

pub map_fault_is_first : (t : Tables) (limits : Limits) (walk : Walk) → AreRead t limits → lacks_runs limits ≡ false → IsDone t limits walk → (walk.held ≡ limits.samples → ⊥) → placed_from limits.entries limits.file_size t ≡ Err (bad_at ChunkMap t.stsc.place)
map_fault_is_first t limits walk read some done differs =
    let fault = count_fault (runs t) (length (offsets t)) (length (sizes t)) (lacks_them t limits read ∙ some) (λ same. differs (all_held t limits walk read some done ∙ (same ∙ read.samples))) in
    rw (read.stsc_table, read.offsets_table, done.no_fault, fault) refl

no_map_fault : (t : Tables) (limits : Limits) (walk : Walk) → AreRead t limits → lacks_runs limits ≡ false → IsDone t limits walk → walk.held ≡ limits.samples → map_fault (runs t) (length (offsets t)) (length (sizes t)) ≡ None
no_map_fault t limits walk read some done same =
    no_fault (runs t) (length (offsets t)) (length (sizes t)) (lacks_them t limits read ∙ some) (sym (all_held t limits walk read some done) ∙ (same ∙ sym read.samples))

pub one_is_outside : (t : Tables) (limits : Limits) (walk : Walk) → AreRead t limits → lacks_runs limits ≡ false → IsDone t limits walk → walk.held ≡ limits.samples → walk.outside ≡ true → placed_from limits.entries limits.file_size t ≡ Ok None
one_is_outside t limits walk read some done same outside =
    let found = one_outside t limits.file_size walk.held walk.outside walk.places outside (done.walked.walked.placed (omega (arith, same))) (in_order limits.entries (runs t) done.no_fault) in
    rw (read.stsc_table, read.offsets_table, done.no_fault, no_map_fault t limits walk read some done same, found) refl

pub all_are_placed : (t : Tables) (limits : Limits) (walk : Walk) → AreRead t limits → lacks_runs limits ≡ false → IsDone t limits walk → walk.held ≡ limits.samples → walk.outside ≡ false → placed_from limits.entries limits.file_size t ≡ Ok (Some walk.places)
all_are_placed t limits walk read some done same inside =
    let placed = none_outside t limits.file_size walk.held walk.outside walk.places inside (done.walked.walked.placed (omega (arith, same))) in
    let these = placed.placed (in_order limits.entries (runs t) done.no_fault) in
    let len : length (samples t) ≡ walk.held = omega (arith, samples_len (chunks t) (offsets t) (sizes t), same, read.samples) in
    let within : list_any (is_outside limits.file_size) (samples t) ≡ false = any_none (is_outside limits.file_size) (samples t) no_sample (λ k lt. these.inside k (omega (arith, len))) in
    let whole : walk.places ≡ columns_of (samples t) = these.columns ∙ ap columns_of (take_all walk.held (samples t) (omega (arith, len))) in
    rw (read.stsc_table, read.offsets_table, done.no_fault, no_map_fault t limits walk read some done same, within) (ap (λ (p : PlacesRecord). Ok (Some p)) (sym whole))

-- ---- the tables on their own

same_ok : {A E : Type 0} (x y : A) → ◌≡◌ {A = Result A E} (Ok x) (Ok y) → x ≡ y
same_ok x y h = cc

pub are_read : (t : Tables) (entries file_size runs_there chunks_there samples_there width : ℕ) (stsc offs : List ℕ) → AreWithin t → stsc ≡ stsc_body t → offs ≡ offsets_body t → width ≡ offset_len t.wide
    → Ok runs_there ≡ placed t.stsc.place (unless (table_fault 0 run_len stsc) (row_count stsc)) → HasRows run_len stsc → Ok chunks_there ≡ placed t.offsets.place (unless (table_fault 0 width offs) (row_count offs))
    → HasRows width offs → Ok samples_there ≡ count_from t → (n : ℕ) × (count_from t ≡ Ok n) × (n ≤ MOST_ITEMS)
    → AreRead t record { entries = entries; runs = runs_there; chunks = chunks_there; samples = samples_there; file_size = file_size }
are_read t entries file_size runs_there chunks_there samples_there width stsc offs within es eo ew answer_runs whole_runs answer_chunks whole_chunks answer_samples counted =
    let first = was_read t.stsc.place (table_fault 0 run_len stsc) (row_count stsc) runs_there answer_runs in
    let second = was_read t.offsets.place (table_fault 0 width offs) (row_count offs) chunks_there answer_chunks in
    let third = was_read t.sizes.place (first_code (size_checks t.compact (sizes_body t))) (sample_count (sizes_body t)) samples_there answer_samples in
    let same : samples_there ≡ counted.0 = same_ok samples_there counted.0 (answer_samples ∙ counted.1) in
    let most = counted.2 in
    record {
      within = within;
      stsc_table = rw (← es) first.0;
      stsc_whole = rw (← es) whole_runs;
      offsets_table = rw (← eo, ← ew) second.0;
      offsets_whole = rw (← eo, ← ew) whole_chunks;
      sizes_read = third.0;
      runs = rw (← es) (stsc_len stsc ∙ first.1);
      chunks = rw (← eo) (offsets_len t.wide offs ∙ second.1);
      samples = sizes_len t.compact (sizes_body t) third.0 ∙ third.1;
      few = rw same most;
    }
