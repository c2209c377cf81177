use Rattle.mp_times.proofs.LeftOut.{no_ctts, one_ctts}
use Rattle.mp_times.proofs.runs.push_ctts.Goals as goal

pub returns-then-survey : goal.returns-then-survey
returns-then-survey g c = λ rest all p. rw (no_ctts _ _ c.look_over-survey.ensures.zero c.if-survey.true) at p

pub returns : goal.returns
returns g c = λ rest all p.
    c.push_run_table.ensures rest all (rw (one_ctts _ _ c.look_over-survey.ensures.zero c.if-survey.false, ← c.look_over-survey.ensures.unsigned) at p)
