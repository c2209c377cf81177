use Rattle.std.proofs.Common.{◌∙◌, ap}
use Rattle.nhnt_import.proofs.Fields.{unit_read}
use Rattle.nhnt_import.proofs.walk.read_unit.Goals as goal

pub returns-clause-unit : goal.returns-clause-unit
returns-clause-unit g c =
    let filled = c.in_ok-fill.ensures.filled in
    let part = rw (c.in_ok-fill.ensures.same, ap (λ w. w.file) filled.same ∙ c.requires.window.names) at (c.held.ensures.bytes _ filled.part) in
    unit_read _ c.args.wide c.args.at _ _ part (c.held.ensures.count ∙ c.record_len-len.ensures.len) c.unit_in.ensures.unit
