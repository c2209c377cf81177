use Rattle.std.proofs.Common.{◌≡◌, drop}
use Rattle.mp4edit.specs.Words.{first_unbuilt}
use Rattle.mp4edit.proofs.words.first_unbuilt.Given as goal

abbrev pub invariant-loop-command : goal.invariant-loop-command
invariant-loop-command l = first_unbuilt l.commands ≡ first_unbuilt (drop l.command-index l.commands)
