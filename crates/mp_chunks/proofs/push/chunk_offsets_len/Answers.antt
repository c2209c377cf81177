use Rattle.std.proofs.Common.{map, sym, ◌∙◌, false}
use Rattle.std.proofs.lemmas.List.{length-map}
use Rattle.mp_chunks.specs.Written.{offsets_body, place_row}
use Rattle.mp_chunks.proofs.RowsAreWritten.{kind_len, wide_each}
use Rattle.mp_chunks.proofs.push.chunk_offsets_len.Goals as goal

pub returns : goal.returns
unfolding offsets_body
returns c = λ heads same.
    c.table_len.ensures.table _ false (map (place_row c.args.wide) heads) (kind_len c.args.wide) (sym same ∙ sym (length-map heads (place_row c.args.wide))) (rw c.offset_len.ensures (wide_each c.args.wide heads))
