use Rattle.std.proofs.Common.{List, arith, ap, sym, ◌+◌, ◌∙◌, length}
use Rattle.mp_chunks.specs.declared.chunks.ChunkRun.{ChunkRun}
use Rattle.mp_chunks.specs.Chunks.{or_no_run, run_at, stsc_of}
use Rattle.mp_chunks.specs.Samples.{runs}
use Rattle.mp_chunks.specs.Walk.{chunks_before}
use Rattle.mp_chunks.proofs.TablesAreRead.{stsc_len}
use Rattle.mp_chunks.proofs.RunsAreFound.{before_within, run_found, run_holds}
use Rattle.mp_chunks.proofs.walk.Walk.place_run.Goals as goal

pub run_in-run-requires-clause-inside : goal.run_in-run-requires-clause-inside
run_in-run-requires-clause-inside c = omega (arith, c.requires.inside, c.requires.read.runs, stsc_len c.body-stsc.result.now, ap length (ap stsc_of c.body-stsc.ensures))

pub place_chunk-requires-clause-run : goal.place_chunk-requires-clause-run
place_chunk-requires-clause-run c =
    λ order.
    let all = runs c.args.tables.now in
    let at = c.args.before in
    let n = c.loop-self.self.chunks in
    let most = c.args.limits.chunks in
    let same = ap stsc_of c.body-stsc.ensures in
    let end = c.chunks_before-end.ensures ∙ ap (λ (rs : List ChunkRun). chunks_before rs most (at + 1)) same in
    let is_run = run_holds all most n at order (omega (arith, c.requires.inside, c.requires.read.runs)) (c.loop-self.invariant.begun order) (omega (arith, c.loop-self-test.true, end)) (omega (arith, c.loop-self-test.true, end, before_within all most (at + 1))) in
    ap or_no_run (run_found all (n + 1) at order is_run) ∙ sym (c.run_in-run.ensures ∙ ap (λ (rs : List ChunkRun). run_at rs at) same)
