use Rattle.std.proofs.Common.{sym, ap, ◌∙◌}
use Rattle.mp_boxes.specs.Field.{field_bytes}
use Rattle.mp_boxes.proofs.PiecesAreLeft.{pushed_as}
use Rattle.mp_boxes.proofs.push.push_field.Goals as goal

pub returns-in-U16 : goal.returns-in-U16
returns-in-U16 c = pushed_as c.args.out.now c.push_bytes.new.out _ _ (c.to_be_bytes.ensures ∙ ap field_bytes (sym c.in-U16.is)) c.push_bytes.ensures

pub returns-in-U32 : goal.returns-in-U32
returns-in-U32 c = pushed_as c.args.out.now c.push_bytes-in-U32.new.out _ _ (c.to_be_bytes-in-U32.ensures ∙ ap field_bytes (sym c.in-U32.is)) c.push_bytes-in-U32.ensures

pub returns-in-U64 : goal.returns-in-U64
returns-in-U64 c = pushed_as c.args.out.now c.push_bytes-in-U64.new.out _ _ (c.to_be_bytes-in-U64.ensures ∙ ap field_bytes (sym c.in-U64.is)) c.push_bytes-in-U64.ensures

pub returns-in-Bytes : goal.returns-in-Bytes
returns-in-Bytes c = pushed_as c.args.out.now c.push_bytes-in-Bytes.new.out _ _ (ap field_bytes (sym c.in-Bytes.is)) c.push_bytes-in-Bytes.ensures
