use Rattle.std.proofs.Common.{map, sym}
use Rattle.std.proofs.lemmas.List.{length-map}
use Rattle.mp_chunks.specs.Written.{offsets_body, place_row}
use Rattle.mp_chunks.proofs.RowsAreWritten.{wide_each}
use Rattle.mp_chunks.proofs.RowsArePushed.{rows_pushed}
use Rattle.mp_chunks.proofs.push.push_chunk_offsets.Goals as goal

pub returns : goal.returns
unfolding offsets_body
returns c =
    let wide = c.args.wide in
    let chunks = c.args.chunks.now in
    rw (← c.offsets_kind.ensures)
    (rows_pushed _ _ _ _ _ (c.begin_table.ensures (map (place_row wide) chunks) (sym (length-map chunks (place_row wide))) (rw c.offset_len.ensures (wide_each wide chunks))) c.push_places.ensures)
