use Rattle.std.proofs.Common.{ap, length, List, ℕ, ◌∙◌, arith}
use Rattle.mp_entries.specs.Esds.{EsdsRecord, specific_info}
use Rattle.mp_entries.proofs.Lengths.{length-decoder_body}
use Rattle.mp_entries.proofs.put.decoder_len.Goals as goal

pub returns-clause-len : goal.returns-clause-len
returns-clause-len c =
    let info = c.deref.ensures.value ∙ ap (λ (e : EsdsRecord). e.info) c.entry.view_is in
    omega (arith, c.fields_len.ensures, c.specific_len.ensures.len, ap (λ (t : List ℕ). length (specific_info t)) info, length-decoder_body c.args.entry.now)
