use Rattle.mp_entries.proofs.Pieces.{stream_pieces}
use Rattle.mp_entries.proofs.put.push_stream.Goals as goal

pub returns : goal.returns
returns c = λ rest all p.
    let left = c.pieces_may_be_cut.ensures c.args.out.now _ _ all (stream_pieces c.args.entry.now c.stream_len.result rest c.stream_len.ensures.len) p in
    c.push_bytes.ensures rest all (c.push_decoder.ensures _ all (c.push_fields.ensures _ all (c.push_head.ensures _ all left)))
