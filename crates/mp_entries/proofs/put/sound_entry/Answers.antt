use Rattle.std.proofs.Common.{ap, ◌∙◌}
use Rattle.std.specs.Prelude.{codes}
use Rattle.std.proofs.lemmas.Result.{IfOk-weaker}
use Rattle.mp_entries.specs.Esds.{EsdsRecord, esds, sample_rate, sound_fields}
use Rattle.mp_entries.proofs.Pieces.{same_front, fields_of_sound, sound_bytes}
use Rattle.mp_entries.proofs.put.sound_entry.Goals as goal

pub returns-clause-written : goal.returns-clause-written
returns-clause-written c =
    let e = c.args.entry.now in
    let view = c.entry.view_is in
    let fields = sound_bytes e c.entry.inside.channels c.sample_rate.result (ap (λ (e : EsdsRecord). e.channels) view) (c.sample_rate.ensures ∙ ap (λ (e : EsdsRecord). sample_rate e.rate) view) in
    IfOk-weaker c.entry_of.result _ _ (λ out text. text ∙ same_front (codes "mp4a") (fields_of_sound c.entry.inside.channels c.sample_rate.result) (sound_fields e) (esds e) fields) c.entry_of.ensures.written
