use Rattle.avc_import.proofs.Identifying.{kind_goes, kind_refused, nothing_refused}
use Rattle.avc_import.proofs.kind.identify.Goals as goal

pub returns-in-Err-clause-unit : goal.returns-in-Err-clause-unit
returns-in-Err-clause-unit g c = nothing_refused _ _ _ c.in-Err.ensures.refusal

pub returns-in-Ok-kind_of-clause-unit : goal.returns-in-Ok-kind_of-clause-unit
returns-in-Ok-kind_of-clause-unit g c =
    kind_goes _ _ c.args.sets.now c.of_type.new.sets c.of_type.result c.args.span c.in-Ok.byte c.in-Ok-kind_of.kind c.first_byte.ensures.told c.requires.some c.requires.inside c.in-Ok.ensures.byte
    c.in-Ok-kind_of.ensures.checks c.in-Ok-kind_of.ensures.kind (rw c.in-Ok.ensures.folder at c.of_type.ensures.unit)

pub returns-in-Err-kind_of-clause-unit : goal.returns-in-Err-kind_of-clause-unit
returns-in-Err-kind_of-clause-unit g c =
    kind_refused _ _ c.args.sets.now c.args.span c.in-Ok.byte c.in-Err-kind_of.code _ c.first_byte.ensures.told c.requires.some c.requires.inside c.in-Ok.ensures.byte
    c.in-Err-kind_of.ensures.checks c.at.ensures
