use Rattle.mp_boxes.specs.Boxes.{IsBytes}
use Rattle.mp_read.proofs.BytesStay.{ranged}
use Rattle.mp_read.proofs.FrontBoxes.{read_is_read}
use Rattle.mp_read.proofs.Refusals.{bytes_refused}
use Rattle.mp_read.proofs.file.read_bytes.Goals as goal

pub returns-clause-read : goal.returns-clause-read
returns-clause-read c =
    let bytes : IsBytes c.args.bytes.now = λ at. (c.type_inv.bytes at).fits in
    let head = c.args.found.head in
    read_is_read c.args.size _ c.read_moov.result c.read_moov.ensures (ranged c.args.bytes.now head.head head.len bytes)

pub returns-clause-refusal : goal.returns-clause-refusal
returns-clause-refusal c = bytes_refused c.args.size _ c.read_moov.result c.read_moov.ensures
