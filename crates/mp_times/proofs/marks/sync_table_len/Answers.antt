use Rattle.std.proofs.Common.{map, sym, ◌∙◌, refl, false}
use Rattle.std.specs.Prelude.{codes}
use Rattle.std.proofs.lemmas.List.{length-map}
use Rattle.mp_times.specs.Written.{stss_body, sync_numbers, sync_row}
use Rattle.mp_times.proofs.WrittenMarks.{four_each}
use Rattle.mp_times.proofs.marks.sync_table_len.Goals as goal

pub returns-clause-len : goal.returns-clause-len
unfolding stss_body
returns-clause-len c = λ xs count.
    let numbers = sync_numbers 1 xs in
    c.table_len.ensures.table (codes "stss") false (map sync_row numbers) refl (count ∙ sym (length-map numbers sync_row)) (four_each numbers)
