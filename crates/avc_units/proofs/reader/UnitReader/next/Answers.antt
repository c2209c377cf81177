use Rattle.std.proofs.Common.{Some, None, Ok, Err}
use Rattle.avc_units.proofs.Answering.{stands_told}
use Rattle.avc_units.proofs.reader.UnitReader.next.Goals as goal

pub returns-in-Ok-Some-clause-told : goal.returns-in-Ok-Some-clause-told
returns-in-Ok-Some-clause-told g c = stands_told _ c.args.self.now.end (Ok (Some c.in-Ok-Some.span)) (rw c.in-Ok-Some.field-0-is at c.in-Ok-Some.ensures.gives)

pub returns-in-Ok-None-clause-told : goal.returns-in-Ok-None-clause-told
returns-in-Ok-None-clause-told g c = stands_told _ c.args.self.now.end (Ok None) (rw c.in-Ok-None.field-0-is at c.in-Ok-None.ensures.gives)

pub returns-in-Err-clause-told : goal.returns-in-Err-clause-told
returns-in-Err-clause-told g c = stands_told _ c.args.self.now.end (Err c.in-Err.fail) c.in-Err.ensures.gives
