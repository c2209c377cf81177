use Rattle.std.proofs.Common.{ℕ, List, arith, ap, ◌∙◌, slice_index}
use Rattle.mp_boxes.specs.FullBox.{row_count}
use Rattle.mp_chunks.specs.Chunks.{chunk_offsets_of}
use Rattle.mp_chunks.specs.Samples.{offsets_body}
use Rattle.mp_chunks.proofs.TablesAreRead.{offsets_len}
use Rattle.mp_chunks.proofs.ChunksAreWalked.{chunk_more, next_chunk, stays_outside}
use Rattle.mp_chunks.proofs.walk.Walk.place_chunk.Goals as goal
use Rattle.mp_chunks.proofs.walk.Walk.place_chunk.Goals.{then-self-via-then-self, then-self-via-else-self+then-self-limits}

pub returns-then-self-clause-walked : goal.returns-then-self-clause-walked
returns-then-self-clause-walked c =
    let t = c.args.tables.now in
    let old = c.args.self.now in
    chunk_more t c.args.limits old _ c.args.run c.requires.more (omega arith) c.requires.walked c.requires.run (omega arith) (omega (arith, c.from.ensures))
    (λ le.
    elim c.then-self.branch [
      | then-self-via-then-self w ↦ stays_outside t c.args.limits.file_size old.held _ old.outside old.places _ w.if-self.true (c.requires.walked.placed (omega (arith, le)))
      | then-self-via-else-self+then-self-limits w ↦ absurd (omega (arith, le, w.if-self-limits.true))
    ])

pub offset_in-requires-clause-inside : goal.offset_in-requires-clause-inside
offset_in-requires-clause-inside c =
    let t = c.args.tables.now in
    omega (arith, c.requires.more, c.requires.read.chunks, offsets_len t.wide (offsets_body t), ap (λ (body : List ℕ). row_count body) c.body.ensures)

pub push_chunk-requires-clause-chunk : goal.push_chunk-requires-clause-chunk
push_chunk-requires-clause-chunk c =
    let t = c.args.tables.now in
    let old = c.args.self.now in
    next_chunk t c.args.limits old.chunks old.held c.args.run c.offset_in.result c.requires.read c.requires.more c.requires.walked.held c.requires.run (omega (arith, c.if-self-limits.false, c.from.ensures))
    (c.offset_in.ensures ∙ ap (λ (body : List ℕ). slice_index (chunk_offsets_of t.wide body) old.chunks) c.body.ensures)

pub returns-clause-walked : goal.returns-clause-walked
returns-clause-walked c =
    let t = c.args.tables.now in
    chunk_more t c.args.limits c.args.self.now _ c.args.run c.requires.more (omega arith) c.requires.walked c.requires.run (omega arith) (omega (arith, c.from.ensures)) (λ le. rw c.from.ensures c.in_ok-self.ensures)
