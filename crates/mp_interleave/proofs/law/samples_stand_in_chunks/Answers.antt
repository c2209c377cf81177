use Rattle.mp_interleave.proofs.SamplesInChunks.{alike, counted, inside, kept}
use Rattle.mp_interleave.proofs.law.samples_stand_in_chunks.Goals as goal

pub returns : goal.returns
returns c = record { kept = kept; alike = alike; inside = inside; counted = counted }
