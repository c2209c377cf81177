use Rattle.std.proofs.Common.{ap, ◌∙◌, ℤ, List, map, pos, ◌*ℤ◌}
use Rattle.track_ops.proofs.SignedTicks.{all_divided, all_fit, column_is, some_down}
use Rattle.track_ops.proofs.ticks.rescale_column.Goals as goal

pub divide_by-requires-clause-some : goal.divide_by-requires-clause-some
divide_by-requires-clause-some c = let r = c.ratio_of-ratio.ensures in some_down c.args.old r.common c.ratio_of-ratio.result.down c.requires.old r.down

pub divide_by-requires-clause-whole : goal.divide_by-requires-clause-whole
divide_by-requires-clause-whole c =
    let r = c.ratio_of-ratio.ensures in
    all_divided c.args.old c.args.new r.common c.ratio_of-ratio.result.down c.ratio_of-ratio.result.up c.requires.old r.greatest r.down r.up c.args.column.now c.requires.whole

pub scale_by-requires : goal.scale_by-requires
scale_by-requires c =
    let r = c.ratio_of-ratio.ensures in
    rw c.divide_by.ensures.quotients
    (all_fit c.args.old c.args.new r.common c.ratio_of-ratio.result.down c.ratio_of-ratio.result.up c.requires.old r.greatest r.down r.up c.args.column.now c.requires.whole c.requires.fits)

pub returns : goal.returns
returns c =
    let r = c.ratio_of-ratio.ensures in
    c.scale_by.ensures ∙ (ap (λ (xs : List ℤ). map (λ x. x *ℤ pos c.ratio_of-ratio.result.up) xs) c.divide_by.ensures.quotients
    ∙ column_is c.args.old c.args.new r.common c.ratio_of-ratio.result.down c.ratio_of-ratio.result.up c.requires.old r.greatest r.down r.up c.args.column.now c.requires.whole)
