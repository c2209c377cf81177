use Rattle.std.proofs.Common.{rules}
use Rattle.track_ops.proofs.SignedTicks.{is_ratio, some_common}
use Rattle.track_ops.proofs.ticks.ratio_of.Goals as goal

pub nonzero_div-result : goal.nonzero_div-result
nonzero_div-result c = let common = rw (c.from.ensures, c.from-2.ensures) at c.gcd-common.ensures in some_common c.args.old c.args.new c.gcd-common.result c.requires.old common

pub nonzero_div-result-2 : goal.nonzero_div-result-2
nonzero_div-result-2 c = let common = rw (c.from.ensures, c.from-2.ensures) at c.gcd-common.ensures in some_common c.args.old c.args.new c.gcd-common.result c.requires.old common

pub returns : goal.returns
returns c =
    let common = rw (c.from.ensures, c.from-2.ensures) at c.gcd-common.ensures in
    is_ratio c.args.old c.args.new c.gcd-common.result _ common (search rules) (search rules)
