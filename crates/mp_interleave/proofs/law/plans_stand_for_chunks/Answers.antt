use Rattle.mp_interleave.proofs.SamplesInChunks.{few, same-chunks, within-tracks}
use Rattle.mp_interleave.proofs.law.plans_stand_for_chunks.Goals as goal

pub returns : goal.returns
returns c = record { same = same-chunks; within = within-tracks; few = few }
