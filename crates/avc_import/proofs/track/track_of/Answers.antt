use Rattle.std.proofs.Common.{◌∙◌, ◌∷◌, ◌++◌, [], ℕ, List, Some, ap, sym}
use Rattle.avc_sets.specs.Configuration.{items_of}
use Rattle.avc_import.specs.Sets.{ParameterSets, SequenceUnit}
use Rattle.avc_import.proofs.Fitting.{bare_is, vectors_short}
use Rattle.avc_import.proofs.track.track_of.Goals as goal

pub picture_entry-requires-clause-short : goal.picture_entry-requires-clause-short
picture_entry-requires-clause-short c = rw c.deref-2.ensures.value (vectors_short _ c.sets.invariant.short)

pub returns-clause-track : goal.returns-clause-track
returns-clause-track c = λ film sequence units.
    let kept : SequenceUnit = record { bytes = c.sequence.inside.bytes.items; fields = c.sequence.inside.fields } in
    let entries = c.in_ok-push.ensures.items ∙ ap (λ (t : List (List ℕ)). t ++ c.in_ok-picture_entry.field-0 ∷ []) c.new-entries.ensures.items in
    let written = rw (c.deref.ensures.value, c.deref-2.ensures.value) at c.in_ok-picture_entry.ensures.written in
    bare_is film c.args.schedule c.sets.inside.sequence (items_of c.sets.inside.units.items) kept c.in_ok-head.head c.in_ok-picture_entry.field-0 c.push.new.self.items _ _
    (c.in-Some.is ∙ ap Some (sym c.sequence.view_is)) (ap (λ (t : ParameterSets). t.sequence) c.sets.view_is ∙ sequence) (ap (λ (t : ParameterSets). t.units) c.sets.view_is ∙ units)
    c.in_ok-head.ensures.head written entries c.in_ok-track-inside.ensures (c.track.view_is ∙ c.new-track.ensures.empty)
