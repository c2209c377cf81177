use Rattle.std.proofs.Common.{rules, ◌∙◌, ap, sym, subst, w32, w64}
use Rattle.std.specs.Int.{cast_unsigned}
use Rattle.std.proofs.lemmas.Int.{to_z-of_z}
use Rattle.mp_columns.specs.Runs.{runs}
use Rattle.mp_times.specs.Written.{FitsBits}
use Rattle.mp_times.proofs.RunsAreWalked.{row_texts, run_meets, row_pushed, rows_pushed}
use Rattle.mp_times.proofs.runs.push_rows.Goals as goal

pub bits-requires : goal.bits-requires
bits-requires g c = subst FitsBits (sym (to_z-of_z w64 c.in-Some.run'.value (search rules))) (run_meets FitsBits _ _ _ c.in-Some.run' c.requires c.in-Some.ensures.next)

pub loop-run-preserved : goal.loop-run-preserved
loop-run-preserved g c =
    let bits = c.bits.ensures ∙ ap (cast_unsigned w32) (to_z-of_z w64 c.in-Some.run'.value (search rules)) in
    record {
      inside = c.in-Some.ensures.next.inside;
      left = row_pushed (row_texts (runs (g.C.Column.items c.args.column.now))) c.in-Some.run' c.in-Some.ensures.next c.in-Some.ensures.first bits c.loop-run.invariant.left c.push_fields.ensures;
    }

pub returns : goal.returns
returns g c = let xs = g.C.Column.items c.args.column.now in rows_pushed xs (row_texts (runs xs)) c.in_default.ensures.next.0 c.loop-run.invariant.left
