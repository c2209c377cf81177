use Rattle.std.proofs.Common.{◌∙◌, ap, arith}
use Rattle.adts_import.proofs.Walking.{empty_refused, first_is, first_refused}
use Rattle.adts_import.proofs.walk.read_configuration.Goals as goal

pub returns-then-size-eq0-clause-fault : goal.returns-then-size-eq0-clause-fault
returns-then-size-eq0-clause-fault g c = empty_refused _ _ _ c.size-size.ensures.told c.if-size-eq0.true c.at.ensures

pub returns-in-Ok-clause-first : goal.returns-in-Ok-clause-first
returns-in-Ok-clause-first g c =
    let filled = c.in_ok-fill.ensures.filled in
    let part = rw (c.in_ok-fill.ensures.same, ap (λ w. w.file) filled.same ∙ c.requires.names) at (c.held-front.ensures.bytes _ filled.part) in
    first_is _ _ _ _ c.size-size.ensures.told part (c.held-front.ensures.count ∙ c.front_len-count.ensures) c.in-Ok.ensures.header

pub returns-in-Err-clause-fault : goal.returns-in-Err-clause-fault
returns-in-Err-clause-fault g c =
    let filled = c.in_ok-fill.ensures.filled in
    let part = rw (c.in_ok-fill.ensures.same, ap (λ w. w.file) filled.same ∙ c.requires.names) at (c.held-front.ensures.bytes _ filled.part) in
    first_refused _ _ _ _ _ c.size-size.ensures.told part (c.held-front.ensures.count ∙ c.front_len-count.ensures) (omega (arith, c.if-size-eq0.false)) c.in-Err.ensures.fault c.at-in-Err.ensures
