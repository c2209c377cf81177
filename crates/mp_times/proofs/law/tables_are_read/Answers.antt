use Rattle.std.proofs.Common.{ap}
use Rattle.mp_ports.specs.Checks.{placed}
use Rattle.mp_times.proofs.WrittenRows.{durations_read, offsets_read}
use Rattle.mp_times.proofs.WrittenMarks.{syncs_read}
use Rattle.mp_times.proofs.law.tables_are_read.Goals as goal

pub returns : goal.returns
returns c =
    let law = c.tables_are_read.ensures in
    record {
      durations = durations_read law;
      offsets = offsets_read law;
      syncs = syncs_read law;
      stts_format = record { back = λ xs base fits. ap (placed base) (durations_read law xs fits.0 fits.1) };
      ctts_format = record { back = λ xs base fits. ap (placed base) (offsets_read law xs fits.0 fits.1) };
    }
