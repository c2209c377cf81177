-- Where chunks stand changes no row of `stsc`, and no length.
use Rattle.std.proofs.Common.{◌≡◌, ℕ, ◌+◌, ◌*◌, Bool, List, [], ◌∷◌, length, map, refl, ap, arith}
use Rattle.std.proofs.lemmas.List.{length-map}
use Rattle.mp_boxes.specs.Table.{TablesAreRead}
use Rattle.mp_chunks.specs.declared.chunks.ChunkRun.{ChunkRun}
use Rattle.mp_chunks.specs.declared.push.ChunkHead.{ChunkHead}
use Rattle.mp_chunks.specs.Chunks.{no_run, offset_len}
use Rattle.mp_chunks.specs.Written.{offsets_body, place_row, run_from, runs_behind, runs_of, stsc_body, unplaced}
use Rattle.mp_chunks.proofs.RowsAreWritten.{wide_each}

same_behind : (number : ℕ) (run : ChunkRun) (chunks : List ChunkHead) → runs_behind number run (map unplaced chunks) ≡ runs_behind number run chunks
same_behind number run [] = refl
same_behind number run (chunk ∷ chunks) = rw (same_behind (number + 1) run chunks, same_behind (number + 1) (run_from number chunk) chunks) refl

pub same_stsc : (chunks : List ChunkHead) → stsc_body (map unplaced chunks) ≡ stsc_body chunks
unfolding stsc_body runs_of
same_stsc chunks = rw (same_behind 1 no_run chunks) refl

-- the length of the table of places
pub length-offsets : TablesAreRead → (wide : Bool) (chunks : List ChunkHead) → length (offsets_body wide chunks) ≡ 8 + offset_len wide * length chunks
unfolding offsets_body
length-offsets tables wide chunks =
    let rows = map (place_row wide) chunks in
    omega (arith, ap length (tables.text rows), tables.len (offset_len wide) rows (wide_each wide chunks), ap (λ (n : ℕ). offset_len wide * n) (length-map chunks (place_row wide)))
