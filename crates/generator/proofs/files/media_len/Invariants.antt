use Rattle.std.proofs.Common.{◌≡◌, ◌*◌, ◌≤◌}
use Rattle.generator.specs.Files.{picture_from}
use Rattle.generator.proofs.files.media_len.Given as goal

abbrev pub invariant-loop-picture : goal.invariant-loop-picture
invariant-loop-picture l = record {
  same : l.len ≡ picture_from l.picture;
  short : l.len ≤ 150 * l.picture;
}
