use Rattle.std.proofs.Common.{◌-◌, true, Ok, Err, ap, ◌∙◌}
use Rattle.mp_pieces.specs.Window.{WindowRecord}
use Rattle.mp_read.proofs.Refusals.{head_refused}
use Rattle.mp_read.proofs.TopWalk.{head_told}
use Rattle.mp_read.proofs.top.next_head.Goals as goal

pub returns-in-Ok-head_of-clause-head : goal.returns-in-Ok-head_of-clause-head
returns-in-Ok-head_of-clause-head g c =
    let filled = c.in-Ok.ensures.filled in
    let front = rw (c.in-Ok.ensures.same, ap (λ (w : WindowRecord). w.file) filled.same) at (c.held.ensures.bytes _ filled.part) in
    head_told _ c.args.size c.args.at c.held.result.now (Ok c.in-Ok-head_of.head) c.heads_are_read.ensures.told c.requires.told front (c.held.ensures.count ∙ c.min-count.ensures) c.in-Ok-head_of.ensures

pub returns-in-Err-clause-head : goal.returns-in-Err-clause-head
returns-in-Err-clause-head g c =
    let filled = c.in-Ok.ensures.filled in
    let front = rw (c.in-Ok.ensures.same, ap (λ (w : WindowRecord). w.file) filled.same) at (c.held.ensures.bytes _ filled.part) in
    rw c.at.ensures
    (head_told _ c.args.size c.args.at c.held.result.now (Err c.in-Err.code) c.heads_are_read.ensures.told c.requires.told front (c.held.ensures.count ∙ c.min-count.ensures) c.in-Err.ensures)

pub returns-in-Err-clause-refusal : goal.returns-in-Err-clause-refusal
returns-in-Err-clause-refusal g c = rw c.at.ensures (head_refused true c.held.result.now (c.args.size - c.args.at) c.args.at c.in-Err.code c.in-Err.ensures)
