use Rattle.std.proofs.Common.{rules, arith, ◌-◌, ◌<◌, ◌≤◌, length}
use Rattle.mp_columns.specs.Kept.{end_at, start_at}
use Rattle.mp_columns.proofs.ChangesOfRuns.{can_find, cut_column}
use Rattle.mp_columns.proofs.kept.Kept.keep_first.Goals as goal

pub run_of-run-requires : goal.run_of-run-requires
run_of-run-requires c =
    rw c.deref.ensures.value (record { found = can_find c.args.self.now.ends.items c.args.self.now.values.items (c.args.to - 1) c.requires.column.longest (omega (arith, c.requires.some, c.requires.inside)) })

pub returns : goal.returns
returns c =
    let ends = c.args.self.now.ends.items in
    let run = c.run_of-run.result in
    let within : run < length ends = search rules in
    let begun : start_at ends run ≤ c.args.to - 1 = search rules in
    let holds : c.args.to - 1 < end_at ends run = search rules in
    rw (c.truncate.ensures.items, c.truncate-2.ensures.items, c.truncate-3.ensures.items)
    (cut_column ends c.args.self.now.values.items c.args.self.now.sums.items run c.args.to c.requires.column within (omega (arith, begun, c.requires.some)) (omega (arith, holds, c.requires.some)))
