use Rattle.std.proofs.Common.{◌∷◌, subst, sym}
use Rattle.std.proofs.lemmas.List.{append-nil}
use Rattle.mp_boxes.specs.Field.{Part, box_bytes}
use Rattle.mp_boxes.specs.Push.{IsPushing}
use Rattle.mp_boxes.specs.Table.{HasLen}
use Rattle.mp_entries.specs.Descriptor.{descriptor, stream_tag}
use Rattle.mp_entries.specs.Esds.{stream_body}
use Rattle.mp_entries.proofs.Pieces.{esds_is, esds_row}
use Rattle.mp_entries.proofs.put.push_esds.Goals as goal

pub returns : goal.returns
returns c = λ rest all p.
    let e = c.args.entry.now in
    let len = subst (λ (part : Part). HasLen c.esds_len.result part) (sym (esds_is e)) c.esds_len.ensures.len in
    let whole = subst (λ (part : Part). IsPushing c.args.out.now (box_bytes part ∷ rest) all) (sym (esds_is e)) p in
    let begun = c.begin_box.ensures.rows (esds_row e) (rw c.version_and_flags.ensures len) rest all (rw c.version_and_flags.ensures whole) in
    c.push_stream.ensures rest all (rw (append-nil (descriptor stream_tag (stream_body e))) at begun)
