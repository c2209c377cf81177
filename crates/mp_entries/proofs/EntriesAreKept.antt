-- An entry of the first data reference is kept as it is.
use Rattle.std.proofs.Common.{◌≡◌, ℕ, ◌+◌, ◌≤◌, ◌<◌, Bool, true, false, List, [], ◌∷◌, ◌++◌, length, take, drop, None, Ok, refl, sym, ap, ◌∙◌, append_assoc, arith}
use Rattle.std.specs.Prelude.{slice_index, slice_index_or}
use Rattle.std.specs.Int.{w16, from_be_bytes}
use Rattle.std.proofs.lemmas.Bool.{le-ltb}
use Rattle.std.proofs.lemmas.List.{take-append-drop, drop_more}
use Rattle.mp_boxes.specs.Boxes.{IsBytes}
use Rattle.mp_boxes.specs.declared.head.TopHead.{TopHead}
use Rattle.mp_boxes.specs.Head.{head_at}
use Rattle.mp_boxes.specs.Number.{u16_at}
use Rattle.mp_entries.specs.Entry.{IsEntry, is_protected, reference}
use Rattle.mp_entries.specs.Kept.{entry_fault, with_first_reference, kept_entry}

-- the two bytes of a number that is 1
record AreOne (high low : ℕ) : Type 0 where
  pub high_is : high ≡ 0
  pub low_is : low ≡ 1

two_bytes : (high low : ℕ) → high < 256 → low < 256 → from_be_bytes w16 (high ∷ low ∷ []) ≡ 1 → AreOne high low
two_bytes high low a b e = record { high_is = omega arith; low_is = omega arith }

bytes_of : (bytes : List ℕ) (at : ℕ) → IsBytes bytes → u16_at bytes at ≡ 1 → AreOne (slice_index bytes at) (slice_index bytes (at + 1))
unfolding u16_at
bytes_of bytes at all e = two_bytes (slice_index bytes at) (slice_index bytes (at + 1)) (all at) (all (at + 1)) e

rest_is : (bytes : List ℕ) (at : ℕ) → at + 2 ≤ length bytes → drop at bytes ≡ slice_index bytes at ∷ slice_index bytes (at + 1) ∷ drop (at + 2) bytes
rest_is bytes at le = grind (arith, drop_more)

same : (bytes : List ℕ) (from : ℕ) → IsBytes bytes → from + 8 ≤ length bytes → reference bytes from ≡ 1 → with_first_reference from bytes ≡ bytes
same bytes from all room one =
    let two = bytes_of bytes (from + 6) all one in
    let eight : from + 8 ≡ from + 6 + 2 = omega arith in
    let rest : drop (from + 6) bytes ≡ 0 ∷ 1 ∷ drop (from + 8) bytes = rw (eight, ← two.high_is, ← two.low_is) (rest_is bytes (from + 6) (omega arith)) in
    append_assoc (take (from + 6) bytes) (0 ∷ 1 ∷ []) (drop (from + 8) bytes) ∙ (ap (λ (t : List ℕ). take (from + 6) bytes ++ t) (sym rest) ∙ take-append-drop (from + 6) bytes)

no_fault : (kind : List ℕ) (from : ℕ) (bytes : List ℕ) (local : List Bool) → from + 8 ≤ length bytes → is_protected kind ≡ false → reference bytes from ≡ 1 → slice_index_or local 0 false ≡ true
    → entry_fault kind from bytes local ≡ None
no_fault kind from bytes [] room plain one own = absurd cc
no_fault kind from bytes (first ∷ others) room plain one own = rw (one, own, plain, le-ltb (length bytes) (from + 8) room, le-ltb (length (first ∷ others)) 1 (omega arith)) refl

kept-ok : (base : ℕ) (bytes : List ℕ) (local : List Bool) (head : TopHead) → head_at false bytes ≡ Ok head → entry_fault head.kind head.head bytes local ≡ None
    → kept_entry base bytes local ≡ Ok (with_first_reference head.head bytes)
kept-ok base bytes local head read fine = rw (read, fine) refl

pub entries_are_kept : (base : ℕ) (bytes : List ℕ) (local : List Bool) → IsBytes bytes → IsEntry bytes → slice_index_or local 0 false ≡ true → kept_entry base bytes local ≡ Ok bytes
entries_are_kept base bytes local all entry own =
    let head = entry.head in
    kept-ok base bytes local head entry.read (no_fault head.kind head.head bytes local entry.room entry.plain entry.first own)
    ∙ ap (λ (t : List ℕ). Ok t) (same bytes head.head all entry.room entry.first)
