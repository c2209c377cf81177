use Rattle.std.proofs.Common.{rules, w64, to_z, of_z, ap, sym, ◌∙◌, arith}
use Rattle.std.proofs.lemmas.Int.{to_z-of_z}
use Rattle.mp_times.specs.Written.{sync_numbers}
use Rattle.mp_times.proofs.SyncsAreWalked.{number_texts, run_pushed, run_passed, numbers_pushed}
use Rattle.mp_times.proofs.marks.push_numbers.Goals as goal

pub loop-run-preserved-then-run-eq1 : goal.loop-run-preserved-then-run-eq1
loop-run-preserved-then-run-eq1 g c =
    let run = c.in-Some.run' in
    let is = c.in-Some.ensures.next in
    let end = is.end in
    let one = sym (to_z-of_z w64 run.value (search rules)) ∙ ap (to_z w64) c.if-run-eq1.true in
    record {
      inside = is.inside;
      left = run_pushed (number_texts (sync_numbers 1 (g.C.Column.items c.args.column.now))) run is one (omega (arith, c.place.ensures, end)) c.loop-run.invariant.left c.push_range.ensures;
    }

pub loop-run-preserved : goal.loop-run-preserved
loop-run-preserved g c =
    record {
      inside = c.in-Some.ensures.next.inside;
      left = run_passed (number_texts (sync_numbers 1 (g.C.Column.items c.args.column.now))) c.in-Some.run' c.in-Some.ensures.next (λ e. c.if-run-eq1.false (ap (of_z w64) e)) c.loop-run.invariant.left;
    }

pub returns : goal.returns
returns g c = let xs = g.C.Column.items c.args.column.now in numbers_pushed xs (number_texts (sync_numbers 1 xs)) c.in_default.ensures.next.0 c.loop-run.invariant.left
