use Rattle.std.proofs.Common.{◌∙◌}
use Rattle.std.specs.Prelude.{codes}
use Rattle.std.proofs.lemmas.Result.{IfOk-weaker}
use Rattle.mp_entries.specs.Esds.{esds}
use Rattle.mp_entries.specs.Visual.{visual_fields}
use Rattle.mp_entries.proofs.Pieces.{same_front}
use Rattle.mp_entries.proofs.put.picture_entry.Goals as goal

pub returns-clause-written : goal.returns-clause-written
returns-clause-written c =
    IfOk-weaker c.entry_of.result _ _ (λ out text. text ∙ same_front (codes "mp4v") c.visual_fields.result (visual_fields 0 0) (esds c.args.entry.now) c.visual_fields.ensures) c.entry_of.ensures.written
