use Rattle.std.proofs.Common.{arith}
use Rattle.mp_entries.proofs.EntriesInOrder.{few_kept}
use Rattle.mp_entries.proofs.description.read_stsd.Goals as goal

pub returns-clause-few : goal.returns-clause-few
returns-clause-few c =
    let few = c.if-count-gt-MOST_ENTRIES.false in
    few_kept _ _ _ _ _ _ c.read_entries.result (omega arith) c.in_ok-check_counted.ensures.counted c.read_entries.ensures.kept
