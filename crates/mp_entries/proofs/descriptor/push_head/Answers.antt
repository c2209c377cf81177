use Rattle.mp_entries.proofs.Pieces.{head_pieces}
use Rattle.mp_entries.proofs.descriptor.push_head.Goals as goal

pub returns : goal.returns
returns c = λ rest all p.
    let left = c.pieces_may_be_cut.ensures c.args.out.now _ _ all (head_pieces c.args.tag c.args.len rest) p in
    c.push_bytes-2.ensures _ all (c.push_group-3.ensures _ all (c.push_group-2.ensures _ all (c.push_group.ensures _ all (c.push_bytes.ensures _ all left))))
