use Rattle.std.specs.List.{range_with_len}
use Rattle.mp_times.proofs.SyncsAreWalked.{number_texts, number_pushed, range_pushed}
use Rattle.mp_times.proofs.marks.push_range.Goals as goal

pub loop-number-preserved : goal.loop-number-preserved
loop-number-preserved c = number_pushed (number_texts (range_with_len c.args.first c.args.count)) c.loop-number-test.true c.loop-number.invariant c.push_fields.ensures

pub returns : goal.returns
returns c = range_pushed (number_texts (range_with_len c.args.first c.args.count)) c.loop-number-test.false c.loop-number.invariant
