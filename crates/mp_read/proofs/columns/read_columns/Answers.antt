use Rattle.std.proofs.Common.{◌≡◌, Ok, Some, None, refl, sym, ap, subst, ◌∙◌, List, ℕ}
use Rattle.mp_ports.specs.declared.fault.Bad.{Bad}
use Rattle.mp_ports.specs.Checks.{placed, unless}
use Rattle.mp_chunks.specs.declared.tables.Tables.{Tables}
use Rattle.mp_chunks.specs.Samples.{chunks_fault, placed_from}
use Rattle.mp_times.specs.Times.{stts_of}
use Rattle.mp_movie.specs.SampleTable.{composition_offsets_of}
use Rattle.mp_read.specs.Columns.{ColumnsRecord}
use Rattle.mp_read.specs.Table.{boxes_at}
use Rattle.mp_read.proofs.ColumnsGiven.{columns_given, given}
use Rattle.mp_read.proofs.columns.read_columns.Goals as goal

pub find_places-requires-clause-counted : goal.find_places-requires-clause-counted
find_places-requires-clause-counted c = let counted = c.requires.counted in (c.args.samples, rw (c.tables.ensures, counted.whole, counted.count) refl, c.requires.few)

pub returns-clause-columns : goal.returns-clause-columns
returns-clause-columns c =
    let boxes = boxes_at c.args.moov.now c.args.parts.now in
    let none = subst (λ (tables : Tables). chunks_fault c.args.entries tables ≡ None) c.tables.ensures c.in_ok-found.ensures.mapped in
    let found = subst (λ (tables : Tables). placed_from c.args.entries c.args.file_size tables ≡ Ok c.in_ok-found.found) c.tables.ensures c.in_ok-found.ensures.found ∙ ap (λ places. Ok places) c.in-Some.is in
    let timed = subst (λ (body : List ℕ). placed c.args.parts.now.stts.span.place (stts_of body) ≡ Ok c.in_ok-durations.durations) c.body.ensures c.in_ok-durations.ensures in
    columns_given c.args.entries c.args.file_size c.args.samples boxes _ _ _ _ _ c.requires.counted.count refl none found c.in_ok-sync_marks.ensures.marks timed (given None _ _ c.in_ok-composition_offsets.ensures).1
    ∙ ap (λ (columns : ColumnsRecord). unless {E = Bad} None columns) (sym c.of.ensures)
