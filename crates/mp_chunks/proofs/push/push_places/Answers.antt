use Rattle.std.proofs.Common.{ap}
use Rattle.std.proofs.lemmas.List.{drop_all}
use Rattle.mp_chunks.proofs.RowsArePushed.{all_pushed, more_pushed}
use Rattle.mp_chunks.proofs.RunsArePushed.{next_place, place_pieces}
use Rattle.mp_chunks.proofs.push.push_places.Goals as goal

pub loop-chunk-preserved : goal.loop-chunk-preserved
loop-chunk-preserved c =
    more_pushed _ _ _ _ _ _ _ c.loop-chunk.invariant (next_place c.args.wide c.args.chunks.now c.loop-chunk.chunk-index c.place_field.result c.loop-chunk-test.true c.place_field.ensures) c.push_fields.ensures

pub returns : goal.returns
returns c = all_pushed _ _ _ _ c.loop-chunk.invariant (ap (place_pieces c.args.wide) (drop_all c.loop-chunk.chunk-index c.args.chunks.now c.loop-chunk-test.false))
