use Rattle.std.proofs.Common.{◌≡◌, drop}
use Rattle.mp_ports.specs.Folder.{bytes_under}
use Rattle.mp_ports.proofs.mem_file.place_of.Given as goal

abbrev pub invariant-loop-at : goal.invariant-loop-at
invariant-loop-at l = bytes_under l.name l.files ≡ bytes_under l.name (drop l.at l.files)
