-- The runs of chunks are found one after another.
use Rattle.std.proofs.Common.{◌≡◌, ℕ, ◌+◌, ◌<◌, ◌≤◌, Bool, true, false, List, [], ◌∷◌, length, map, drop, get_or, refl, ap, ◌∙◌}
use Rattle.std.proofs.lemmas.List.{drop_more, drop_all}
use Rattle.mp_boxes.specs.declared.field.Field.{Field}
use Rattle.mp_boxes.specs.Field.{body_bytes}
use Rattle.mp_chunks.specs.declared.chunks.ChunkRun.{ChunkRun}
use Rattle.mp_chunks.specs.declared.push.ChunkHead.{ChunkHead}
pub use Rattle.mp_chunks.proofs.RunsAreReadBack.{no_head}
use Rattle.mp_chunks.specs.Written.{is_of, place_field, place_row, run_from, run_row, runs_behind}

-- the runs that are left behind the first chunks, the last of which has this run
abbrev pub left_of : List ChunkHead → ℕ → ChunkRun → List ChunkRun
left_of chunks i run = runs_behind (i + 1) run (drop i chunks)

same_left : (chunks : List ChunkHead) (i : ℕ) (run : ChunkRun) → i < length chunks → is_of run (get_or chunks i no_head) ≡ true → left_of chunks i run ≡ left_of chunks (i + 1) run
same_left chunks i run lt is = ap (runs_behind (i + 1) run) (drop_more chunks i no_head lt) ∙ rw is refl

other_left : (chunks : List ChunkHead) (i : ℕ) (run : ChunkRun) → i < length chunks → is_of run (get_or chunks i no_head) ≡ false
    → left_of chunks i run ≡ run_from (i + 1) (get_or chunks i no_head) ∷ left_of chunks (i + 1) (run_from (i + 1) (get_or chunks i no_head))
other_left chunks i run lt other = ap (runs_behind (i + 1) run) (drop_more chunks i no_head lt) ∙ rw other refl

pub none_left : (chunks : List ChunkHead) (i : ℕ) (run : ChunkRun) → length chunks ≤ i → left_of chunks i run ≡ []
none_left chunks i run le = ap (runs_behind (i + 1) run) (drop_all i chunks le)

-- ---- the rows that are left

-- the rows of runs, as pieces of text
abbrev pub run_pieces : List ChunkRun → List (List ℕ)
run_pieces runs = map body_bytes (map run_row runs)

-- and those of places
abbrev pub place_pieces : Bool → List ChunkHead → List (List ℕ)
place_pieces wide chunks = map body_bytes (map (place_row wide) chunks)

pub next_place : (wide : Bool) (chunks : List ChunkHead) (i : ℕ) (field : Field) → i < length chunks → field ≡ place_field wide (get_or chunks i no_head)
    → place_pieces wide (drop i chunks) ≡ body_bytes (field ∷ []) ∷ place_pieces wide (drop (i + 1) chunks)
next_place wide chunks i field lt is = ap (place_pieces wide) (drop_more chunks i no_head lt) ∙ rw is refl

pub no_next_row : (chunks : List ChunkHead) (i : ℕ) (run : ChunkRun) → i < length chunks → is_of run (get_or chunks i no_head) ≡ true → run_pieces (left_of chunks i run) ≡ run_pieces (left_of chunks (i + 1) run)
no_next_row chunks i run lt is = ap run_pieces (same_left chunks i run lt is)

pub next_row : (chunks : List ChunkHead) (i : ℕ) (run begun : ChunkRun) → i < length chunks → is_of run (get_or chunks i no_head) ≡ false → begun ≡ run_from (i + 1) (get_or chunks i no_head)
    → run_pieces (left_of chunks i run) ≡ body_bytes (run_row begun) ∷ run_pieces (left_of chunks (i + 1) begun)
next_row chunks i run begun lt other is = rw is (ap run_pieces (other_left chunks i run lt other))
