-- A text as a JSON value.
use Rattle.std.proofs.Common.{◌≡◌, Global, String as Text, string_bytes, rules}
use Rattle.serde_json.specs.Data.{string}
use Rattle.serde_json.specs.View.{view}
use Rattle.serde_json.specs.declared.value.Value.{String, the_lemmas}

pub view-String : (text : Text Global) → view (String text) ≡ string (string_bytes text)
view-String text = search (rules, the_lemmas)
