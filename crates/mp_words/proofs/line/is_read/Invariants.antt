use Rattle.std.proofs.Common.{◌≡◌, drop}
use Rattle.std.specs.List.{list_any}
use Rattle.mp_words.specs.Line.{reads}
use Rattle.mp_words.proofs.line.is_read.Given as goal

abbrev pub invariant-loop-command : goal.invariant-loop-command
invariant-loop-command l = list_any (reads l.file) l.commands ≡ list_any (reads l.file) (drop l.command-index l.commands)
