use Rattle.std.proofs.Common.{ℕ, subst}
use Rattle.mp_interleave.specs.Left.{AreEqual}
use Rattle.mp_interleave.proofs.DecodeTimes.{equal-run}
use Rattle.mp_interleave.proofs.times.equal_items.Goals as goal

pub returns-in-Some : goal.returns-in-Some
returns-in-Some c =
    subst (λ (from : ℕ). AreEqual c.args.items.now from c.in-Some.run'.count) c.at.ensures (equal-run c.args.items.now c.at.result c.next_run.new.cursor c.in-Some.run' c.in-Some.ensures.next)
