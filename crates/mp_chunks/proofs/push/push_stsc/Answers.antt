use Rattle.std.proofs.Common.{map, sym, ◌∙◌}
use Rattle.std.proofs.lemmas.List.{length-map}
use Rattle.mp_chunks.specs.Written.{run_row, runs_of, stsc_body}
use Rattle.mp_chunks.proofs.RowsAreWritten.{twelve_each}
use Rattle.mp_chunks.proofs.RowsArePushed.{rows_pushed}
use Rattle.mp_chunks.proofs.push.push_stsc.Goals as goal

pub returns : goal.returns
unfolding stsc_body
returns c =
    let runs = runs_of c.args.chunks.now in
    rows_pushed _ _ _ _ _ (c.begin_table.ensures (map run_row runs) (c.count_runs.ensures ∙ sym (length-map runs run_row)) (twelve_each runs)) c.push_runs.ensures
