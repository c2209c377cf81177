use Rattle.std.proofs.Common.{ℕ, List, ◌≡◌, ◌<◌, arith, ap, sym, ◌∙◌, slice_index, length}
use Rattle.mp_chunks.specs.Sizes.{sample_count, sizes_of}
use Rattle.mp_chunks.specs.Samples.{sizes, sizes_body}
use Rattle.mp_chunks.proofs.SamplesArePlaced.{part_more, sizes_len}
use Rattle.mp_chunks.proofs.ChunksAreWalked.{outside_found, sample_more}
use Rattle.mp_chunks.proofs.places.Places.push_chunk.Goals as goal

pub size_in-size-requires-clause-inside : goal.size_in-size-requires-clause-inside
size_in-size-requires-clause-inside c =
    let t = c.args.tables.now in
    omega
    (arith, sizes_len t.compact (sizes_body t) c.requires.read.sizes_read, ap (λ (body : List ℕ). sample_count body) c.body-sizes.ensures, c.loop-before-test.true, c.requires.chunk.ends)

pub returns-then-is_outside : goal.returns-then-is_outside
returns-then-is_outside c =
    let t = c.args.tables.now in
    let i = c.loop-before.before in
    let size : c.size_in-size.result ≡ slice_index (sizes t) i = c.size_in-size.ensures ∙ ap (λ (body : List ℕ). slice_index (sizes_of t.compact body) i) c.body-sizes.ensures in
    outside_found t c.args.limits.file_size c.args.chunk i c.size_in-size.result c.loop-before.from c.requires.chunk c.loop-before.auto.before c.loop-before-test.true size c.loop-before.invariant.from
    (sym c.is_outside.ensures ∙ c.if-is_outside.true)

pub loop-before-preserved : goal.loop-before-preserved
loop-before-preserved c =
    let t = c.args.tables.now in
    let i = c.loop-before.before in
    let size : c.size_in-size.result ≡ slice_index (sizes t) i = c.size_in-size.ensures ∙ ap (λ (body : List ℕ). slice_index (sizes_of t.compact body) i) c.body-sizes.ensures in
    let inside : i < length (sizes t) = omega (arith, c.requires.chunk.ends, c.loop-before-test.true) in
    record {
      from = omega (arith, c.loop-before.invariant.from, c.from-from.ensures, size, part_more c.args.chunk.first i (sizes t) c.loop-before.auto.before inside);
      placed = sample_more t c.args.limits.file_size c.args.chunk i c.size_in-size.result c.loop-before.from _ _ c.requires.chunk c.loop-before.auto.before c.loop-before-test.true size c.loop-before.invariant.from
          (sym c.is_outside.ensures ∙ c.if-is_outside.false) c.loop-before.invariant.placed c.in_ok-push.ensures;
    }
