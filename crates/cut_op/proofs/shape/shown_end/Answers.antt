use Rattle.std.proofs.Common.{rules, ◌≡◌, ◌*◌, ◌^◌, ◌<◌, ◌≤◌, ℕ, ℤ, pos, ◌≤ℤ◌, arith}
use Rattle.cut_op.proofs.ShownEnds.{shown_end_is}
use Rattle.cut_op.proofs.shape.shown_end.Goals as goal

pub returns : goal.returns
returns c = shown_end_is c.args.scale c.args.extent c.args.to c.earlier.result c.requires.some c.requires.range c.requires.after c.requires.short (search rules)
