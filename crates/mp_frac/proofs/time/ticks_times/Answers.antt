use Rattle.std.proofs.Common.{rules, arith}
use Rattle.std.proofs.lemmas.Int.{ints}
use Rattle.mp_frac.proofs.Products.{product_kept, small_fits, product_fits}
use Rattle.mp_frac.proofs.time.ticks_times.Goals as goal

pub returns : goal.returns
returns c =
    let n = c.args.time.n in
    product_kept n c.from.result c.args.scale c.from.ensures (small_fits n c.requires.small) (product_fits n c.args.scale c.requires.small (omega arith)) (search (rules, ints))
