use Rattle.std.proofs.Common.{ℕ, List, length, map, sym, ap, subst, ◌∙◌, arith, Some}
use Rattle.std.specs.List.{range_with_len}
use Rattle.mp_ports.specs.declared.fault.Bad.{Bad}
use Rattle.mp_ports.specs.Checks.{first_some, fault_at}
use Rattle.mp_chunks.specs.declared.chunks.ChunkRun.{ChunkRun}
use Rattle.mp_chunks.specs.Chunks.{run_fault, runs_fault, stsc_of}
use Rattle.mp_chunks.specs.Samples.{runs}
use Rattle.mp_chunks.specs.Walk.{HasWalked}
use Rattle.mp_chunks.proofs.TablesAreRead.{stsc_len}
use Rattle.mp_chunks.proofs.FirstOfRows.{goes_on, stops, ends}
use Rattle.mp_chunks.proofs.walk.Walk.place_runs.Goals as goal

pub loop-before-init : goal.loop-before-init
unfolding runs_fault
loop-before-init c = record {
  faults = ap (λ (n : ℕ). first_some (map (run_fault c.args.limits.entries (runs c.args.tables.now)) (range_with_len 0 n))) (omega (arith, c.requires.read.runs));
  walked = c.requires.walked;
}

pub run_fault-requires-clause-inside : goal.run_fault-requires-clause-inside
run_fault-requires-clause-inside c = omega (arith, c.loop-before-test.true, c.requires.read.runs, stsc_len c.body-stsc.result.now, ap length (ap stsc_of c.body-stsc.ensures))

pub returns-in-Some : goal.returns-in-Some
returns-in-Some c =
    let t = c.args.tables.now in
    let n = c.loop-before.before in
    let entries = c.args.limits.entries in
    let here = c.run_fault.ensures ∙ ap (λ (rs : List ChunkRun). run_fault entries rs n) (ap stsc_of c.body-stsc.ensures) in
    ap (fault_at t.stsc.place) (stops (run_fault entries (runs t)) c.args.limits.runs n _ c.in-Some.code c.loop-before-test.true (sym here ∙ c.in-Some.is) c.loop-before.invariant.faults) ∙ ap (λ (bad : Bad). Some bad) (sym c.at.ensures)

pub loop-before-preserved : goal.loop-before-preserved
loop-before-preserved c =
    let t = c.args.tables.now in
    let n = c.loop-before.before in
    let entries = c.args.limits.entries in
    let here = c.run_fault.ensures ∙ ap (λ (rs : List ChunkRun). run_fault entries rs n) (ap stsc_of c.body-stsc.ensures) in
    record { faults = goes_on (run_fault entries (runs t)) c.args.limits.runs n _ c.loop-before-test.true (sym here ∙ c.in_default.is) c.loop-before.invariant.faults; walked = c.in_ok-place_run.ensures }

pub returns : goal.returns
returns c =
    let t = c.args.tables.now in
    let n = c.loop-before.before in
    record {
      no_fault = ends (run_fault c.args.limits.entries (runs t)) c.args.limits.runs n _ c.loop-before-test.false c.loop-before.invariant.faults;
      walked = subst (λ (n : ℕ). HasWalked t c.args.limits n c.loop-before.self) (omega arith) c.loop-before.invariant.walked;
    }
