-- The fields of a header are those of the frame's first seven bytes.
use Rattle.std.proofs.Common.{◌≡◌, ◌<◌, ◌≤◌, ℕ, List, ◌++◌, length, take, refl, arith, lit<}
use Rattle.std.specs.Prelude.{slice_index}
use Rattle.std.proofs.lemmas.List.{get_or_append_left, get_or-take}
use Rattle.adts_import.specs.Header.{front_number}

front_number-same : (front other : List ℕ) → ((i : ℕ) → i < 7 → slice_index front i ≡ slice_index other i) → front_number front ≡ front_number other
unfolding front_number
front_number-same front other same =
    rw (same 0 (lit< tt), same 1 (lit< tt), same 2 (lit< tt), same 3 (lit< tt), same 4 (lit< tt), same 5 (lit< tt), same 6 (lit< tt)) refl

-- what follows a frame doesn't matter
pub front_number-append : (frame after : List ℕ) → 7 ≤ length frame → front_number (frame ++ after) ≡ front_number frame
front_number-append frame after long =
    front_number-same (frame ++ after) frame (λ i lt. get_or_append_left frame after 0 i (omega arith))

pub front_number-take : (n : ℕ) (rest : List ℕ) → 7 ≤ n → front_number (take n rest) ≡ front_number rest
front_number-take n rest long = front_number-same (take n rest) rest (λ i lt. get_or-take n rest i 0 (omega arith))
