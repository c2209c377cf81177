use Rattle.std.proofs.Common.{◌∙◌}
use Rattle.avc_import.proofs.Parting.{inside, part_is}
use Rattle.avc_import.proofs.pictures.part_of.Goals as goal

pub between-requires-clause-some : goal.between-requires-clause-some
between-requires-clause-some c =
    let parts = c.requires.parts in
    let i = inside parts.file parts.parts _ _ c.args.k parts.are c.requires.inside in
    rw c.part_begin-from.ensures i.some

pub between-requires-clause-within : goal.between-requires-clause-within
between-requires-clause-within c =
    let parts = c.requires.parts in
    let i = inside parts.file parts.parts _ _ c.args.k parts.are c.requires.inside in
    i.within

pub returns : goal.returns
returns c = λ file parts cut. c.between.ensures ∙ rw c.part_begin-from.ensures (part_is file parts _ _ c.args.k cut c.requires.inside)
