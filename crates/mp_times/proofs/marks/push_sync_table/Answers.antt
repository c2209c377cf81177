use Rattle.std.proofs.Common.{map, sym, ◌∙◌}
use Rattle.std.proofs.lemmas.List.{length-map}
use Rattle.mp_times.specs.Written.{stss_body, sync_numbers, sync_row}
use Rattle.mp_times.proofs.WrittenMarks.{four_each}
use Rattle.mp_times.proofs.marks.push_sync_table.Goals as goal

pub returns : goal.returns
unfolding stss_body
returns g c = λ rest all p.
    let numbers = sync_numbers 1 (g.C.Column.items c.args.column.now) in
    c.push_numbers.ensures rest all (c.begin_table.ensures (map sync_row numbers) (c.requires ∙ sym (length-map numbers sync_row)) (four_each numbers) rest all p)
