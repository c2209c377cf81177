use Rattle.std.proofs.Common.{rules}
use Rattle.mp_dump.proofs.TextsOfRows.{value_of_row}
use Rattle.mp_dump.proofs.values.put_row.Goals as goal

pub returns : goal.returns
returns c =
    value_of_row c.args.row c.args.out.now.items c.put_field.new.out.items c.put_field-2.new.out.items c.put_field-3.new.out.items c.put_signed.new.out.items
    c.put_mark.new.out.items c.put_field-4.new.out.items c.extend_from_slice.new.self.items
    c.in_ok-put_field.ensures c.in_ok-put_field-2.ensures c.in_ok-put_field-3.ensures (search rules)
    c.in_ok-put_mark.ensures c.in_ok-put_field-4.ensures c.in_ok-extend_from_slice.ensures.items
