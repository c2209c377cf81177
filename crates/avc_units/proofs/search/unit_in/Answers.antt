use Rattle.std.proofs.Common.{◌≡◌, ◌+◌, ◌-◌, length, take, drop, arith}
use Rattle.std.proofs.lemmas.Bool.{not-false}
use Rattle.std.proofs.lemmas.List.{take_all, length-drop}
use Rattle.avc_units.proofs.Answering.{holds_unit}
use Rattle.avc_units.proofs.search.unit_in.Goals as goal

pub returns : goal.returns
returns c =
    let piece = c.args.piece.now in
    let from = c.zeros_in-zeros.result + 1 in
    let whole : take (length piece - from) (drop from piece) ≡ drop from piece = take_all (length piece - from) (drop from piece) (omega (arith, length-drop from piece)) in
    let e = rw whole at (c.scan-stand.ensures.ended (not-false c.scan-stand.result.ended c.if-not-stand.false)) in
    holds_unit piece c.zeros_in-zeros.result c.scan-stand.result.used c.zeros_in-zeros.ensures (omega arith) c.if-piece-zeros-ne1.false (omega arith)
    (omega (arith, e.0, c.if-stand-eq2.false)) e.1 e.2
