use Rattle.std.proofs.Common.{sym, ap, ◌∙◌}
use Rattle.mp_movie.specs.SampleTable.{count_in}
use Rattle.mp_read.proofs.ColumnsGiven.{given}
use Rattle.mp_read.proofs.sample_table.read_sample_table.Goals as goal

pub returns-clause-count : goal.returns-clause-count
returns-clause-count c =
    let boxes = (given _ _ _ c.in_ok-table.ensures.boxes).1 in
    c.in_ok-columns.ensures.length ∙ (sym c.in_ok-samples.ensures.counted.count ∙ ap count_in (sym boxes))
