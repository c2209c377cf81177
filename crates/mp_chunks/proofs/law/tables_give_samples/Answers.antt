use Rattle.mp_chunks.proofs.KindsAreEntries.{tables_give_samples}
use Rattle.mp_chunks.proofs.law.tables_give_samples.Goals as goal

pub returns : goal.returns
returns c = tables_give_samples
