use Rattle.std.proofs.Common.{[], ◌∷◌, length, ap, arith}
use Rattle.std.proofs.lemmas.List.{length-append}
use Rattle.mp_boxes.specs.Field.{body_bytes, boxes_bytes}
use Rattle.mp_boxes.specs.Table.{mixed}
use Rattle.mp_entries.specs.Esds.{esds}
use Rattle.mp_entries.proofs.Pieces.{all_pushed}
use Rattle.mp_entries.proofs.put.entry_of.Goals as goal

pub returns-clause-written : goal.returns-clause-written
returns-clause-written c =
    let e = c.args.entry.now in
    all_pushed _ _ (c.push_esds.ensures [] _ (c.in_ok-out.ensures (esds e) c.esds_len.ensures.len))

pub returns-clause-short : goal.returns-clause-short
returns-clause-short c =
    let parts = esds c.args.entry.now ∷ [] in
    let law = c.boxes_have_lengths.ensures in
    let whole = law.one (mixed c.args.kind c.args.fields.now parts) in
    omega (arith, ap length (returns-clause-written c), whole, length-append (body_bytes c.args.fields.now) (boxes_bytes parts), law.all parts, c.esds_len.ensures.len, c.esds_len.ensures.most)
