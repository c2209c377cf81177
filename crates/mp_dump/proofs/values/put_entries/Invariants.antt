use Rattle.std.proofs.Common.{◌≡◌, ◌++◌, false, drop}
use Rattle.serde_json.specs.Data.{string}
use Rattle.serde_json.specs.Written.{items_text}
use Rattle.mp_dump.specs.Json.{items}
use Rattle.mp_dump.specs.Words.{entry_type}
use Rattle.mp_dump.proofs.values.put_entries.Given as goal

-- what is written, and what is left, are all
abbrev pub invariant-loop-entry : goal.invariant-loop-entry
invariant-loop-entry l =
    l.out.items ++ items_text l.later (items (λ entry. string (entry_type entry)) (drop l.entry-index l.entries))
    ≡ l.initial.out.items ++ items_text false (items (λ entry. string (entry_type entry)) l.entries)
