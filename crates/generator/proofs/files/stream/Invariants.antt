use Rattle.std.proofs.Common.{◌≡◌}
use Rattle.std.specs.List.{flat_map, range_with_len}
use Rattle.generator.specs.Files.{frame}
use Rattle.generator.proofs.files.stream.Given as goal

abbrev pub invariant-loop-number : goal.invariant-loop-number
invariant-loop-number l = l.made.items ≡ flat_map frame (range_with_len 0 l.number)
