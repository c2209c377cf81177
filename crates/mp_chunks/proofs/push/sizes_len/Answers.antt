use Rattle.std.proofs.Common.{ap, ◌∙◌, arith}
use Rattle.mp_boxes.specs.Table.{capped}
use Rattle.mp_chunks.proofs.RowsAreWritten.{stsz_len}
use Rattle.mp_chunks.proofs.push.sizes_len.Goals as goal

pub returns : goal.returns
returns c = λ sizes common samples.
    let len = stsz_len sizes c.args.common c.args.samples c.listed_of.result common samples c.listed_of.ensures in
    rw c.version_and_flags.ensures at c.box_len.ensures.len ∙ ap capped (omega (arith, len, c.from.ensures))
