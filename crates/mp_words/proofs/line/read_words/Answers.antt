use Rattle.std.proofs.Common.{arith, ◌<◌, length}
use Rattle.std.proofs.lemmas.Bool.Decides.{nat_tests}
use Rattle.mp_words.proofs.CommandsAreAsked.{commands_are_asked}
use Rattle.mp_words.proofs.JobsAreShort.{jobs_are_short}
use Rattle.mp_words.proofs.line.read_words.Goals as goal

pub returns-in-Ok-clause-few : goal.returns-in-Ok-clause-few
returns-in-Ok-clause-few c =
    let some : 0 < length c.args.words.now = grind (arith, nat_tests, c.is_empty.ensures, c.if-is_empty.false) in
    jobs_are_short c.args.words.now c.in-Ok.line c.into_job.result some c.in-Ok.ensures c.into_job.ensures

pub returns-in-Ok-clause-each : goal.returns-in-Ok-clause-each
returns-in-Ok-clause-each c = commands_are_asked c.args.words.now c.in-Ok.line c.into_job.result c.in-Ok.ensures c.into_job.ensures
