-- An output that is written piece by piece: several appends in a row are one append of the whole.
use Rattle.std.proofs.Common.{◌≡◌, ◌+◌, ◌≤◌, ℕ, List, [], ◌++◌, length, take, min, Option, Some, None, refl, sym, ap, subst, ◌∙◌, arith, append_assoc, append-nil}
use Rattle.std.proofs.lemmas.List.{take_min, take-append-le}
use Rattle.std.proofs.Math.Seq.{take-append-add}
use Rattle.mp_ports.specs.Count.{after_fault}
use Rattle.mp_ports.specs.Told.{followed_by}
use Rattle.mp_ports.specs.Folder.{FolderState, Appends, FailsToAppend}

-- a front of the piece behind what is done is a front of the whole
part_of_whole : (done piece rest : List ℕ) (k : ℕ)
    → done ++ take k piece ≡ take (length done + min k (length piece)) (done ++ (piece ++ rest))
part_of_whole done piece rest k =
    let short : min k (length piece) ≤ length piece = omega arith in
    sym (take-append-add done (piece ++ rest) (min k (length piece)) ∙ ap (λ t. done ++ t) (take-append-le (min k (length piece)) piece rest short ∙ take_min k piece))

-- a piece that follows another follows as one with it
followed_by-append : (told : Option (List ℕ)) (done piece : List ℕ)
    → followed_by (followed_by told done) piece ≡ followed_by told (done ++ piece)
followed_by-append None done piece = refl
followed_by-append (Some w) done piece = ap Some (append_assoc w done piece)

-- two appends are one
pub appends_more : (s t u : FolderState) (done piece : List ℕ)
    → Appends s t done → Appends t u piece → Appends s u (done ++ piece)
appends_more s t u done piece first second = rw (second, first, followed_by-append s.written done piece) refl

-- an append that fails before the rest fails as the whole
pub fails_first : (s t : FolderState) (piece rest : List ℕ)
    → FailsToAppend s t piece → FailsToAppend s t (piece ++ rest)
fails_first s t piece rest fails =
    let same : take fails.part piece ≡ take (min fails.part (length piece)) (piece ++ rest) = sym (take-append-le (min fails.part (length piece)) piece rest (omega arith) ∙ take_min fails.part piece) in
    record {
      part = min fails.part (length piece);
      state = subst (λ (p : List ℕ). t ≡ record s { written = followed_by s.written p; write_faults = after_fault s.write_faults }) same fails.state;
    }

-- an append that fails after some are done, and before the rest
pub fails_later : (s t u : FolderState) (done piece rest : List ℕ)
    → Appends s t done → FailsToAppend t u piece → FailsToAppend s u (done ++ (piece ++ rest))
fails_later s t u done piece rest first fails = record {
  part = length done + min fails.part (length piece);
  state = rw (fails.state, first, followed_by-append s.written done (take fails.part piece), part_of_whole done piece rest fails.part) refl;
}

-- an append that fails after all others are done
pub fails_last : (s t u : FolderState) (done piece : List ℕ)
    → Appends s t done → FailsToAppend t u piece → FailsToAppend s u (done ++ piece)
fails_last s t u done piece first fails =
    subst (λ (p : List ℕ). FailsToAppend s u (done ++ p)) (append-nil piece) (fails_later s t u done piece [] first fails)
