use Rattle.mp_times.proofs.EntriesFollow.{SamplesAreCounted}
use Rattle.mp_times.proofs.times.count_samples.Given as goal

abbrev pub invariant-loop-i : goal.invariant-loop-i
invariant-loop-i l = SamplesAreCounted l.body l.rows l.i l.samples
