-- The faults of the map of chunks.
use Rattle.std.proofs.Common.{◌≡◌, ℕ, ◌<◌, true, false, List, length, sum, Some, None, refl, sym, ◌∙◌, arith, inl, inr}
use Rattle.std.specs.Prelude.{nat_lt, ◌&&◌, ◌==◌}
use Rattle.std.proofs.lemmas.Bool.{cases_lt, lt-ltb, ne_eqb, eq-eqb, false≢true}
use Rattle.mp_ports.specs.declared.code.Code.TheVariants.{ChunkMap}
use Rattle.mp_chunks.specs.declared.chunks.ChunkRun.{ChunkRun}
use Rattle.mp_chunks.specs.Chunks.{runs_of_chunks}
use Rattle.mp_chunks.specs.Places.{counts_of}
use Rattle.mp_chunks.specs.Samples.{map_fault}

pub some_runs : (chunks runs : ℕ) → (nat_lt 0 chunks && (runs == 0)) ≡ false → 0 < chunks → 0 < runs
some_runs chunks runs h some = elim (cases_lt 0 runs) [
  | inl there ↦ there
  | inr none ↦ absurd (false≢true (sym h ∙ rw (lt-ltb 0 chunks some, eq-eqb runs 0 (omega arith)) refl))
]

pub no_run_fault : (runs : List ChunkRun) (chunks samples : ℕ) → (nat_lt 0 chunks && (length runs == 0)) ≡ true → map_fault runs chunks samples ≡ Some ChunkMap
unfolding map_fault
no_run_fault runs chunks samples none = rw none refl

pub count_fault : (runs : List ChunkRun) (chunks samples : ℕ) → (nat_lt 0 chunks && (length runs == 0)) ≡ false → (sum (counts_of (runs_of_chunks runs chunks)) ≡ samples → ⊥) → map_fault runs chunks samples ≡ Some ChunkMap
unfolding map_fault
count_fault runs chunks samples some differs = rw (some, ne_eqb _ _ differs) refl

pub no_fault : (runs : List ChunkRun) (chunks samples : ℕ) → (nat_lt 0 chunks && (length runs == 0)) ≡ false → sum (counts_of (runs_of_chunks runs chunks)) ≡ samples → map_fault runs chunks samples ≡ None
unfolding map_fault
no_fault runs chunks samples some same = rw (some, eq-eqb _ _ same) refl
