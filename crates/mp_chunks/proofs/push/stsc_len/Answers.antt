use Rattle.std.proofs.Common.{map, sym, ◌∙◌, refl, codes, false}
use Rattle.std.proofs.lemmas.List.{length-map}
use Rattle.mp_chunks.specs.Written.{run_row, runs_of, stsc_body}
use Rattle.mp_chunks.proofs.RowsAreWritten.{twelve_each}
use Rattle.mp_chunks.proofs.push.stsc_len.Goals as goal

pub returns : goal.returns
unfolding stsc_body
returns c =
    let runs = runs_of c.args.chunks.now in
    c.table_len.ensures.table (codes "stsc") false (map run_row runs) refl (c.count_runs.ensures ∙ sym (length-map runs run_row)) (twelve_each runs)
