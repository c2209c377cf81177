use Rattle.generator.specs.Line.{generated}
use Rattle.generator.proofs.line.generated_line.Goals as goal

pub returns-in-Ok : goal.returns-in-Ok
unfolding generated
returns-in-Ok c = rw c.in_ok-digits.ensures at c.in-Ok.ensures.ok
