use Rattle.std.proofs.Common.{◌≡◌, ◌*◌, ◌≤◌}
use Rattle.generator.specs.Files.{picture_from, table}
use Rattle.generator.proofs.files.table.Given as goal

abbrev pub invariant-loop-picture : goal.invariant-loop-picture
invariant-loop-picture l = record {
  made : l.made.items ≡ table l.picture;
  from : l.from ≡ picture_from l.picture;
  short : l.from ≤ 150 * l.picture;
}
