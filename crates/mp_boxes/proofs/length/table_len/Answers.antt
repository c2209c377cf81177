use Rattle.std.proofs.Common.{◌≡◌, ◌*◌, length, refl, arith}
use Rattle.mp_boxes.proofs.Lengths.{table-len}
use Rattle.mp_boxes.proofs.length.table_len.Goals as goal

pub returns-clause-table : goal.returns-clause-table
returns-clause-table c = λ kind wide rows four count each.
    let rows_len : c.from.result * c.from-2.result ≡ c.args.width * length rows = rw (c.from.ensures, c.from-2.ensures, count) refl in
    omega (arith, c.box_len.ensures.len, table-len kind wide c.args.width rows four each)
