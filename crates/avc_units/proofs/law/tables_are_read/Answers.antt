use Rattle.std.proofs.Common.{refl}
use Rattle.avc_units.proofs.Writing.{says_said, said_says, bits_are}
use Rattle.avc_units.proofs.law.tables_are_read.Goals as goal

pub returns : goal.returns
returns g c = record {
  written_is_read = λ table bytes r s. says_said table _ r (bits_are bytes) s;
  read_is_written = λ table bytes. said_says table _ _ (bits_are bytes) refl;
}
