use Rattle.std.proofs.Common.{refl, false}
use Rattle.std.specs.Prelude.{codes}
use Rattle.mp_times.proofs.runs.stts_len.Goals as goal

pub returns : goal.returns
returns g c = c.run_table_len.ensures.len (codes "stts") false _ refl c.look_over.ensures.count
