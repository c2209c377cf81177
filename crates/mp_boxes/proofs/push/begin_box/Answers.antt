use Rattle.std.proofs.Common.{map, ap, sym, ◌∙◌, ◌++◌, List, ℕ, arith}
use Rattle.std.specs.List.{flat_map}
use Rattle.std.proofs.lemmas.Grind.{flat_map-append}
use Rattle.mp_boxes.specs.Field.{body_bytes, box_bytes, boxes_bytes, field_bytes}
use Rattle.mp_boxes.proofs.PiecesAreLeft.{box_begun, boxes_joined, rows_joined}
use Rattle.mp_boxes.proofs.push.begin_box.Goals as goal

pub returns-clause-boxes : goal.returns-clause-boxes
returns-clause-boxes c = λ parts len.
    let front = body_bytes c.args.fields.now in
    box_begun c.args.out.now c.push_head.new.out c.push_fields.new.out c.args.kind front (front ++ boxes_bytes parts) c.args.len (map box_bytes parts) (ap (λ (text : List ℕ). front ++ text) (sym (boxes_joined parts)))
    (omega arith) len c.push_head.ensures.pushed c.push_fields.ensures

pub returns-clause-rows : goal.returns-clause-rows
returns-clause-rows c = λ rows len.
    let front = body_bytes c.args.fields.now in
    box_begun c.args.out.now c.push_head.new.out c.push_fields.new.out c.args.kind front _ c.args.len (map body_bytes rows)
    (flat_map-append field_bytes c.args.fields.now (flat_map (λ row. row) rows) ∙ ap (λ (text : List ℕ). front ++ text) (rows_joined rows))
    (omega arith) len c.push_head.ensures.pushed c.push_fields.ensures
