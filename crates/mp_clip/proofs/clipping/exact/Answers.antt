use Rattle.std.proofs.Common.{arith, ◌*◌}
use Rattle.mp_clip.proofs.Telling.{exact_ticks, exact_early, exact_late, exact_product}
use Rattle.mp_clip.proofs.clipping.exact.Goals as goal

pub overflow_mul-whole : goal.overflow_mul-whole
overflow_mul-whole c =
    let unit = c.args.scale * c.args.tick in
    let early = exact_early c.args.back c.args.parts unit c.args.new_scale c.requires.some c.requires.exact in
    let split = exact_ticks c.args.parts unit c.args.new_scale c.requires.some in
    rw (c.from.ensures, c.from-2.ensures, c.from-3.ensures) (omega (arith, early, split))

pub overflow_add-result : goal.overflow_add-result
overflow_add-result c =
    let unit = c.args.scale * c.args.tick in
    let early = exact_early c.args.back c.args.parts unit c.args.new_scale c.requires.some c.requires.exact in
    rw (c.from.ensures, c.from-2.ensures, c.from-3.ensures, c.from-4.ensures, exact_ticks c.args.parts unit c.args.new_scale c.requires.some) (omega (arith, early))

pub overflow_sub-result : goal.overflow_sub-result
overflow_sub-result c =
    let unit = c.args.scale * c.args.tick in
    let late = exact_late c.args.back c.args.parts unit c.args.new_scale c.requires.some c.requires.exact in
    rw (c.from.ensures, c.from-2.ensures, c.from-3.ensures, c.from-4.ensures, exact_ticks c.args.parts unit c.args.new_scale c.requires.some) (omega (arith, late))

pub overflow_cast-result : goal.overflow_cast-result
overflow_cast-result c =
    let unit = c.args.scale * c.args.tick in
    let early = exact_early c.args.back c.args.parts unit c.args.new_scale c.requires.some c.requires.exact in
    rw (c.from.ensures, c.from-2.ensures, c.from-3.ensures, c.from-4.ensures, exact_ticks c.args.parts unit c.args.new_scale c.requires.some) (omega (arith, early))

pub returns : goal.returns
returns c =
    let unit = c.args.scale * c.args.tick in
    rw (c.from.ensures, c.from-2.ensures, c.from-3.ensures, c.from-4.ensures, exact_ticks c.args.parts unit c.args.new_scale c.requires.some)
    (exact_product c.args.back c.args.parts unit c.args.new_scale c.requires.some c.requires.exact)
