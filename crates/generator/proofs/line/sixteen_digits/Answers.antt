use Rattle.std.proofs.Common.{◌∙◌, false}
use Rattle.std.specs.Fmt.{digits}
use Rattle.generator.proofs.Padding.{sixteen}
use Rattle.generator.proofs.line.sixteen_digits.Goals as goal

pub returns-in-Ok : goal.returns-in-Ok
returns-in-Ok c = (rw (c.in_radix.ensures, c.laid_out.ensures) at c.in-Ok.ensures.ok) ∙ sixteen (digits 16 false c.args.number)
