use Rattle.std.proofs.Common.{rules, arith, ◌≡◌, get_or, ap, sym, ◌∙◌}
use Rattle.mp_movie.specs.Placed.{PlacedTrack}
use Rattle.mp_layout.specs.Chunked.{column_at}
use Rattle.mp_layout.proofs.ColumnSums.{column-is, few-of-track, range-is}
use Rattle.mp_layout.proofs.places.chunk_len.Goals as goal

pub overflow_add-first : goal.overflow_add-first
overflow_add-first c =
    let d = c.index-tracks-chunk.result in
    let few = c.requires.few_samples in
    omega (arith, few, c.requires.within.samples d, few-of-track c.args.tracks.now c.args.chunk.track d c.requires.within.track)

pub returns : goal.returns
returns c =
    let d = c.index-tracks-chunk.result in
    let at : get_or c.args.tracks.now c.args.chunk.track d ≡ d = search rules in
    let column : c.track.inside.sizes ≡ column_at (λ t. t.sizes) c.args.tracks.now c.args.chunk.track =
    ap (λ (t : PlacedTrack). t.sizes) (c.track.view_is ∙ sym at) ∙ sym (column-is (λ t. t.sizes) c.args.tracks.now c.args.chunk.track d c.requires.within.track) in
    range-is _ _ _ _ _ column c.range_sum.ensures.is
