use Rattle.std.proofs.Common.{ap, sym, take}
use Rattle.mp_pieces.specs.declared.stand.Stand.{Stand}
use Rattle.mp_pieces.proofs.Gathering.{unwritten, unwritten_behind, written_behind}
use Rattle.mp_pieces.proofs.gather.gather_prefix.Goals as goal

pub returns-in_default-flush-clause-failed : goal.returns-in_default-flush-clause-failed
returns-in_default-flush-clause-failed g c = unwritten _ _ _ _ c.in_default-flush.ensures.failed

pub returns-in_default-append-clause-failed : goal.returns-in_default-append-clause-failed
returns-in_default-append-clause-failed g c =
    rw (c.in-Some.is, sym c.to_be_bytes-bytes.ensures) (unwritten_behind _ _ _ _ _ c.in-Ok.ensures.appended c.in_default-append.ensures.failed)

pub returns-clause-gathered : goal.returns-clause-gathered
returns-clause-gathered g c =
    rw (c.in-Some.is, sym c.to_be_bytes-bytes.ensures)
    (written_behind _ _ _ _ _ _ c.in-Ok.ensures.appended c.in-Ok-append.ensures.appended (ap (λ (stand : Stand). take stand.kept c.args.window.now) c.in-Ok.ensures.stand))
