use Rattle.mp_entries.proofs.Lengths.{some_bytes}
use Rattle.mp_entries.proofs.Pieces.{specific_pieces}
use Rattle.mp_entries.proofs.put.push_specific.Goals as goal

pub returns : goal.returns
returns c = λ rest all p.
    let left = c.pieces_may_be_cut.ensures c.args.out.now _ _ all (specific_pieces c.args.info.now rest (some_bytes c.args.info.now c.if-is_empty.ensures)) p in
    c.push_bytes.ensures rest all (c.push_head.ensures _ all left)
