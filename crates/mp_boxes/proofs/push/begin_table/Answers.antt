use Rattle.std.proofs.Common.{◌≡◌, List, [], ◌∷◌, length, map, refl, sym, subst, arith}
use Rattle.mp_boxes.specs.declared.field.Field.{Field}
use Rattle.mp_boxes.specs.declared.field.Field.TheVariants.{U32}
use Rattle.mp_boxes.specs.Field.{body_bytes, box_bytes, leaf, version_and_flags}
use Rattle.mp_boxes.specs.Push.{IsLeft}
use Rattle.mp_boxes.specs.Table.{box_len, capped, with_rows}
use Rattle.mp_boxes.proofs.push.begin_table.Goals as goal

pub returns : goal.returns
returns c = λ rows count each.
    let head : List Field = version_and_flags c.args.wide 0 ∷ U32 (length rows) ∷ [] in
    let same : c.version_and_flags.result ∷ U32 c.args.count ∷ [] ≡ head = rw (c.version_and_flags.ensures, count) refl in
    let len = c.table_len.ensures.table c.args.kind c.args.wide rows (omega arith) count each in
    subst (λ (front : List Field). IsLeft c.args.out.now c.begin_box.new.out (box_bytes (leaf c.args.kind (with_rows front rows)) ∷ []) (map body_bytes rows)) same
    (c.begin_box.ensures.rows rows (subst (λ (front : List Field). c.table_len.result ≡ capped (box_len (leaf c.args.kind (with_rows front rows)))) (sym same) len))
