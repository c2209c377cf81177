use Rattle.avc_import.proofs.pictures.Pictures.part.Goals as goal

pub part_of-requires-clause-inside : goal.part_of-requires-clause-inside
part_of-requires-clause-inside c = rw c.deref-2.ensures.value c.requires.inside

pub part_of-requires-clause-parts : goal.part_of-requires-clause-parts
part_of-requires-clause-parts c = rw (c.deref.ensures.value, c.deref-2.ensures.value) c.requires.parts

pub returns : goal.returns
returns c = λ file parts cut. c.part_of.ensures file parts (rw (c.deref.ensures.value, c.deref-2.ensures.value) cut)
