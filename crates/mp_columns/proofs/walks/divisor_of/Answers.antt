use Rattle.std.proofs.Common.{rules}
use Rattle.mp_columns.proofs.WholeDivisors.{without_zero, divided_more, divided_whole}
use Rattle.mp_columns.proofs.walks.divisor_of.Goals as goal

pub loop-item-init : goal.loop-item-init
loop-item-init c = without_zero _

pub loop-item-preserved : goal.loop-item-preserved
loop-item-preserved c = divided_more c.args.items.now c.loop-item.item-index c.loop-item.divisor c.gcd-divisor.result c.unsigned_abs.result c.loop-item-test.true (search rules) c.gcd-divisor.ensures c.loop-item.invariant

pub returns : goal.returns
returns c = divided_whole c.args.items.now c.loop-item.item-index c.loop-item.divisor c.loop-item-test.false c.loop-item.invariant
