use Rattle.mp_chunks.proofs.TablesAreRead.{run_read}
use Rattle.mp_chunks.proofs.chunks.run_in.Goals as goal

pub returns : goal.returns
returns c = run_read c.args.body.now c.args.before _ _ _ c.requires.inside c.u32_in.ensures c.u32_in-2.ensures c.u32_in-3.ensures
