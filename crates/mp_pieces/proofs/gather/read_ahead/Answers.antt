use Rattle.std.proofs.Common.{arith, rules}
use Rattle.mp_ports.specs.Folder.{opened_at}
use Rattle.mp_pieces.proofs.Parts.{read_is}
use Rattle.mp_pieces.proofs.gather.read_ahead.Goals as goal

pub returns-clause-stands : goal.returns-clause-stands
returns-clause-stands g c = record {
  kept = c.requires.kept;
  ahead = omega arith;
  room = search rules;
  place = omega arith;
  part = rw c.in_ok-read_at.ensures.same (read_is (opened_at (g.F.Folder.state c.args.folder.now) c.args.file) c.args.at c.args.begin c.args.count _ c.args.window.now _ c.requires.room (search rules) c.in_ok-read_at.ensures.read);
}
