use Rattle.std.proofs.Common.{◌≡◌, ◌∙◌, ap}
use Rattle.std.proofs.lemmas.Result.{IfOk-weaker}
use Rattle.std.proofs.lemmas.Str.{IsUtf8-from_ascii}
use Rattle.serde_json.specs.Data.{string}
use Rattle.serde_json.specs.View.{view}
use Rattle.serde_json.specs.Written.{compact_text, has_float}
use Rattle.serde_json.specs.declared.value.Value.{String}
use Rattle.mp_dump.proofs.TextsAsValues.{view-String}
use Rattle.mp_dump.proofs.values.string_text.Goals as goal

pub returns : goal.returns
returns c =
    let viewed : view (String c.in_ok-from_utf8_lossy.field-0) ≡ string c.args.text.now =
    view-String _ ∙ ap string (c.in_ok-from_utf8_lossy.ensures.ok (IsUtf8-from_ascii _ c.requires)) in
    IfOk-weaker c.to_string.result _ _ (λ s written. written (ap has_float viewed) ∙ ap compact_text viewed) c.to_string.ensures.text
