use Rattle.std.proofs.Common.{◌∙◌, ap}
use Rattle.nhnt_import.proofs.Fields.{head_read, head_refused, too_short}
use Rattle.nhnt_import.proofs.head.read_head.Goals as goal

pub returns-then-size-lt-HEAD_LEN-clause-fault : goal.returns-then-size-lt-HEAD_LEN-clause-fault
returns-then-size-lt-HEAD_LEN-clause-fault g c = too_short _ _ _ c.size.ensures.told c.if-size-lt-HEAD_LEN.true c.at.ensures

pub returns-in-Ok-clause-head : goal.returns-in-Ok-clause-head
returns-in-Ok-clause-head g c =
    let filled = c.in_ok-fill.ensures.filled in
    let part = rw (c.in_ok-fill.ensures.same, ap (λ w. w.file) filled.same ∙ c.requires.names) at (c.held-front.ensures.bytes _ filled.part) in
    head_read _ _ _ _ c.size.ensures.told part c.held-front.ensures.count c.if-size-lt-HEAD_LEN.false c.in-Ok.ensures.fault c.in-Ok.ensures.head

pub returns-in-Err-clause-fault : goal.returns-in-Err-clause-fault
returns-in-Err-clause-fault g c =
    let filled = c.in_ok-fill.ensures.filled in
    let part = rw (c.in_ok-fill.ensures.same, ap (λ w. w.file) filled.same ∙ c.requires.names) at (c.held-front.ensures.bytes _ filled.part) in
    head_refused _ _ _ _ _ c.size.ensures.told part c.held-front.ensures.count c.if-size-lt-HEAD_LEN.false c.in-Err.ensures.fault c.at-in-Err.ensures
