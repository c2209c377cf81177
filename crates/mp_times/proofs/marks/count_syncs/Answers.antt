use Rattle.std.proofs.Common.{rules, w64, to_z, of_z, ap, sym, ◌∙◌, arith, length, ◌+◌, drop}
use Rattle.std.specs.List.{range_with_len}
use Rattle.std.proofs.lemmas.Int.{to_z-of_z}
use Rattle.std.proofs.lemmas.List.{length-append}
use Rattle.std.proofs.lemmas.List.FromFn.{length-range_with_len}
use Rattle.mp_times.specs.Written.{sync_numbers}
use Rattle.mp_times.proofs.SyncsAreWalked.{sync_run, other_run}
use Rattle.mp_times.proofs.marks.count_syncs.Goals as goal

pub loop-run-preserved-then-run-eq1 : goal.loop-run-preserved-then-run-eq1
loop-run-preserved-then-run-eq1 g c =
    let xs = g.C.Column.items c.args.column.now in
    let run = c.in-Some.run' in
    let from = c.loop-run.cursor in
    let to = c.next_run.new.cursor in
    let is = c.in-Some.ensures.next in
    let end = is.end in
    let few = c.loop-run.invariant.few in
    let counted = c.loop-run.invariant.counted in
    let next = sync_run xs from to run is (sym (to_z-of_z w64 run.value (search rules)) ∙ ap (to_z w64) c.if-run-eq1.true) in
    record {
      inside = is.inside;
      few = omega arith;
      counted = omega (arith, ap length next, length-append (range_with_len (from + 1) run.count) (sync_numbers (to + 1) (drop to xs)), length-range_with_len (from + 1) run.count);
    }

pub loop-run-preserved : goal.loop-run-preserved
loop-run-preserved g c =
    let is = c.in-Some.ensures.next in
    let end = is.end in
    let few = c.loop-run.invariant.few in
    let counted = c.loop-run.invariant.counted in
    let next = other_run (g.C.Column.items c.args.column.now) c.loop-run.cursor c.next_run.new.cursor c.in-Some.run' is (λ e. c.if-run-eq1.false (ap (of_z w64) e)) in
    record { inside = is.inside; few = omega arith; counted = omega (arith, ap length next) }
