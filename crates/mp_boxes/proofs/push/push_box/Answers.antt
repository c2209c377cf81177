use Rattle.std.proofs.Common.{[], ap, length, List, arith}
use Rattle.std.proofs.lemmas.List.{append-nil}
use Rattle.mp_boxes.specs.declared.field.Field.{Field}
use Rattle.mp_boxes.specs.Field.{body_bytes, box_bytes, leaf}
use Rattle.mp_boxes.proofs.PiecesAreLeft.{pushed_as}
use Rattle.mp_boxes.proofs.push.push_box.Goals as goal

pub returns : goal.returns
returns c =
    let fields = c.args.fields.now in
    pushed_as c.args.out.now c.begin_box.new.out _ _ (ap (λ (all : List Field). box_bytes (leaf c.args.kind all)) (append-nil fields))
    (c.begin_box.ensures.rows [] (omega (arith, c.box_len.ensures.len, ap (λ (all : List Field). length (body_bytes all)) (append-nil fields))))
