use Rattle.std.proofs.Common.{ℕ, ◌%◌, ap}
use Rattle.mp_clip.proofs.Counting.{common_of_rest}
use Rattle.mp_clip.proofs.tally.common_divisor.Goals as goal

pub returns : goal.returns
returns c = common_of_rest c.args.divisor c.args.number (c.args.number % c.from.result) c.gcd.result (ap (λ (x : ℕ). c.args.number % x) c.from.ensures) c.gcd.ensures
