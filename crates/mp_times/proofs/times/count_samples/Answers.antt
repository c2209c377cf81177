use Rattle.std.proofs.Common.{rules}
use Rattle.mp_times.proofs.EntriesFollow.{row_is_counted, all_are_counted}
use Rattle.mp_times.proofs.times.count_samples.Goals as goal

pub loop-i-preserved : goal.loop-i-preserved
loop-i-preserved c = rw c.from-samples.ensures (row_is_counted c.loop-i.invariant c.loop-i-test.true c.u32_in.ensures (search rules))

pub returns : goal.returns
returns c = all_are_counted c.loop-i.invariant c.loop-i-test.false
