use Rattle.std.proofs.Common.{◌∙◌, Some, ap, sym, option_map}
use Rattle.avc_import.specs.Sets.{ParameterSets, SequenceUnit, sequence_of}
use Rattle.avc_import.proofs.Slicing.{by_sets}
use Rattle.avc_import.proofs.slice.slice_by.Goals as goal

pub returns-in-Some : goal.returns-in-Some
returns-in-Some c =
    by_sets c.args.sets.now _ _ c.args.clean.now _
    (ap sequence_of (sym c.sets.view_is) ∙ ap (option_map (λ (s : SequenceUnit). s.fields)) c.in-Some.is ∙ ap (λ (s : SequenceUnit). Some s.fields) (sym c.sequence.view_is))
    (ap (λ (s : ParameterSets). s.pictures) (sym c.sets.view_is) ∙ sym c.deref.ensures.value) c.read_slice.ensures

pub returns-in-None : goal.returns-in-None
returns-in-None c =
    by_sets c.args.sets.now _ _ c.args.clean.now _
    (ap sequence_of (sym c.sets.view_is) ∙ ap (option_map (λ (s : SequenceUnit). s.fields)) c.in-None.is)
    (ap (λ (s : ParameterSets). s.pictures) (sym c.sets.view_is) ∙ sym c.deref-in-None.ensures.value) c.read_slice-in-None.ensures
