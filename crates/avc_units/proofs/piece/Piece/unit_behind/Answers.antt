use Rattle.std.proofs.Common.{◌-◌, take, drop, arith}
use Rattle.avc_units.proofs.Passing.{kept_behind}
use Rattle.avc_units.proofs.Answering.{gives_held}
use Rattle.avc_units.proofs.piece.Piece.unit_behind.Goals as goal

pub returns-in-Some-clause-gives : goal.returns-in-Some-clause-gives
returns-in-Some-clause-gives c = λ file kept.
    let piece = c.args.self.now in
    let start = c.args.end - piece.place in
    let n = piece.len - start in
    gives_held file.bytes c.args.end n c.in-Some.unit.from c.in-Some.unit.len (take n (drop start piece.bytes))
    (kept_behind file.bytes piece.place piece.len c.args.end piece.bytes (omega arith) (omega arith) kept.holds) c.in-Some.ensures
