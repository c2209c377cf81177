use Rattle.std.proofs.Common.{rules}
use Rattle.mp_interleave.proofs.DecodeTimes.{run-of}
use Rattle.mp_interleave.proofs.times.run_len.Goals as goal

pub returns : goal.returns
returns c =
    run-of c.args.millis c.args.track.now c.args.before c.equal_items-most.result c.samples_before.result c.window_end-end.result c.track.inside.scale c.decode_at-decode.result c.track.inside.deltas c.track.inside.kinds
    (search rules) (search rules) (search rules) c.decode_at-decode.ensures.time c.requires.track c.decode_at-decode.ensures.short c.requires.inside c.equal_items-most.ensures
    c.window_end-end.ensures.inside c.window_end-end.ensures.behind c.samples_before.ensures.within c.samples_before.ensures.earlier c.samples_before.ensures.later
