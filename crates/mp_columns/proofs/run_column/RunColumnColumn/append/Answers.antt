use Rattle.std.proofs.Common.{rules, w64, ◌++◌, ℤ, List, take, replicate, sym, ap, ◌∙◌, append_assoc}
use Rattle.std.proofs.lemmas.Int.{to_z-of_z}
use Rattle.mp_columns.proofs.LongestRuns.{run_taken}
use Rattle.mp_columns.proofs.run_column.RunColumnColumn.append.Goals as goal

pub loop-run-preserved : goal.loop-run-preserved
loop-run-preserved c =
    let self = c.args.self.now in
    let next = c.in-Some.ensures.next in
    let own = replicate c.in-Some.run'.count c.in-Some.run'.value in
    let same = to_z-of_z w64 c.in-Some.run'.value (search rules) in
    record {
      inside = next.inside;
      len = c.loop-run.invariant.len;
      items = c.in-Ok.ensures.ok
          ∙ (ap (λ (x : ℤ). c.loop-run.self ++ replicate c.in-Some.run'.count x) same
          ∙ (ap (λ (xs : List ℤ). xs ++ own) c.loop-run.invariant.items
          ∙ (append_assoc self (take c.loop-run.cursor c.args.other.now) own ∙ ap (λ (ys : List ℤ). self ++ ys) (sym (run_taken c.args.other.now c.loop-run.cursor c.next_run.new.cursor c.in-Some.run' next)))));
    }
