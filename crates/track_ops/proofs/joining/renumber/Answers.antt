use Rattle.std.proofs.Common.{◌<◌, arith, length, get_or}
use Rattle.std.proofs.lemmas.List.{get_or_default}
use Rattle.track_ops.proofs.Renumbering.{numbered_next}
use Rattle.track_ops.proofs.joining.renumber.Goals as goal

pub loop-at-preserved : goal.loop-at-preserved
loop-at-preserved c =
    let many = c.requires in
    let test = c.loop-at-test.true in
    let long = c.loop-at.invariant.long in
    let lt : c.loop-at.at < length c.args.tracks.now = omega (arith, many, test, long) in
    let lt_n : c.loop-at.at < length c.args.numbers.now = omega (arith, many, lt) in
    numbered_next c.args.numbers.now c.loop-at.tracks c.args.tracks.now c.loop-at.at (get_or c.args.numbers.now c.loop-at.at 0) c.index-tracks-at.result c.set_number.new.track many lt c.loop-at.invariant
    (get_or_default c.args.numbers.now c.loop-at.at 0 (get_or c.args.numbers.now c.loop-at.at 0) lt_n) c.set_number.ensures
