-- Samples in a row of one window and entry, and longest stretches.
use Rattle.std.proofs.Common.{◌≡◌, ℕ, zero, suc, ◌<◌, ◌≤◌, ◌==◌, ◌&&◌, Bool, true, false, List, [], ◌∷◌, map, filter, drop, length, refl, ap, ◌∙◌, arith, subst, add-one}
use Rattle.std.specs.List.{AllByRecursion}
use Rattle.mp_columns.specs.Stretch.{Stretch, in_front, stretches}
use Rattle.mp_interleave.specs.declared.chunk.Chunk.{Chunk}
use Rattle.mp_interleave.specs.Order.{Key, chunk_of, chunks_in, same_entry}
use Rattle.mp_interleave.specs.Left.{run_len, same_as}

-- windows never fall along a track
abbrev pub IsSorted : List Key → Type 0
IsSorted [] = Unit
IsSorted (key ∷ keys) = AllByRecursion (λ (later : Key). key.window ≤ later.window) keys × IsSorted keys

-- the samples in a window
abbrev pub within : ℕ → List Key → List Key
within window keys = filter (λ (key : Key). key.window == window) keys

-- one sample more at the front of the first of these chunks
abbrev longer : ℕ → List Chunk → List Chunk
longer number [] = []
longer number (chunk ∷ chunks) = record { track = chunk.track; first = number; count = suc chunk.count } ∷ chunks

stretch-alike : (at : ℕ) (key next : Key) (keys : List Key) → same_entry key next ≡ true
    → map (chunk_of at) (stretches same_entry (key ∷ next ∷ keys)) ≡ longer key.number (map (chunk_of at) (stretches same_entry (next ∷ keys)))
stretch-alike at key next keys e = joins (stretches same_entry keys)
  where
    joins : (rest : List (Stretch Key)) → map (chunk_of at) (in_front same_entry key (in_front same_entry next rest)) ≡ longer key.number (map (chunk_of at) (in_front same_entry next rest))
    joins [] = rw e refl
    joins (s ∷ rest) = both (same_entry next s.first) refl
      where
        both : (b : Bool) → same_entry next s.first ≡ b → map (chunk_of at) (in_front same_entry key (in_front same_entry next (s ∷ rest))) ≡ longer key.number (map (chunk_of at) (in_front same_entry next (s ∷ rest)))
        both true f = rw (f, e) refl
        both false f = rw (f, e) refl

stretch-other : (at : ℕ) (key next : Key) (keys : List Key) → same_entry key next ≡ false
    → map (chunk_of at) (stretches same_entry (key ∷ next ∷ keys)) ≡ record { track = at; first = key.number; count = 1 } ∷ map (chunk_of at) (stretches same_entry (next ∷ keys))
stretch-other at key next keys e = parts (stretches same_entry keys)
  where
    parts : (rest : List (Stretch Key)) → map (chunk_of at) (in_front same_entry key (in_front same_entry next rest)) ≡ record { track = at; first = key.number; count = 1 } ∷ map (chunk_of at) (in_front same_entry next rest)
    parts [] = rw e refl
    parts (s ∷ rest) = both (same_entry next s.first) refl
      where
        both : (b : Bool) → same_entry next s.first ≡ b → map (chunk_of at) (in_front same_entry key (in_front same_entry next (s ∷ rest))) ≡ record { track = at; first = key.number; count = 1 } ∷ map (chunk_of at) (in_front same_entry next (s ∷ rest))
        both true f = rw (f, e) refl
        both false f = rw (f, e) refl

-- all samples are in this window or later
abbrev pub From : ℕ → List Key → Type 0
From window keys = AllByRecursion (λ (key : Key). window ≤ key.window) keys

pub from-earlier : (window later : ℕ) (keys : List Key) → window ≤ later → From later keys → From window keys
from-earlier window later [] le h = h
from-earlier window later (key ∷ keys) le h = (omega (arith, h.0), from-earlier window later keys le h.1)

pub sorted-drop : (n : ℕ) (keys : List Key) → IsSorted keys → IsSorted (drop n keys)
sorted-drop zero keys h = h
sorted-drop (suc n) [] h = h
sorted-drop (suc n) (key ∷ keys) h = sorted-drop n keys h.1

pub other-number : (a b : ℕ) → (a ≡ b → ⊥) → (a == b) ≡ false
other-number a b h = grind arith

same-number : (a b : ℕ) → (a == b) ≡ true → a ≡ b
same-number a b e = grind arith

not-number : (a b : ℕ) → (a == b) ≡ false → a ≤ b → a < b
not-number a b e le = grind arith

-- no sample is in a window before all of them
pub within-later : (window later : ℕ) (keys : List Key) → window < later → From later keys → within window keys ≡ []
within-later window later [] lt h = refl
within-later window later (key ∷ keys) lt h = rw (other-number key.window window (λ e. absurd (omega (arith, h.0, e)))) (within-later window later keys lt h.1)

same_as-fields : (key next : Key) (keys : List Key) → next.window ≡ key.window → next.entry ≡ key.entry → same_as key keys ≡ same_as next keys
same_as-fields key next [] w e = refl
same_as-fields key next (one ∷ keys) w e = rw (w, e, same_as-fields key next keys w e) refl

-- the samples in front, of one window and entry, are the first chunk of their window
abbrev FrontChunk : ℕ → ℕ → Key → List Key → Type 0
FrontChunk at window key keys =
    map (chunk_of at) (stretches same_entry (key ∷ within window keys)) ≡ record { track = at; first = key.number; count = suc (same_as key keys) } ∷ chunks_in window at (drop (same_as key keys) keys)

pub front-chunk : (at window : ℕ) (key : Key) (keys : List Key) → key.window ≡ window → IsSorted (key ∷ keys) → FrontChunk at window key keys
front-chunk at window key [] is sorted = refl
front-chunk at window key (next ∷ keys) is sorted = by-window (λ e. front-chunk at window next keys e sorted.1) (next.window == key.window) refl
  where
    in-window : (b : Bool) → (next.window == key.window) ≡ b → (next.window == window) ≡ b
    in-window b e = subst (λ (w : ℕ). (next.window == w) ≡ b) is e

    by-entry : FrontChunk at window next keys → (next.window == key.window) ≡ true → (b : Bool) → (next.entry == key.entry) ≡ b → FrontChunk at window key (next ∷ keys)
    by-entry hyp e false f = rw (e, f, in-window true e) (stretch-other at key next (within window keys) (other-number key.entry next.entry (λ p. absurd (grind arith))))
    by-entry hyp e true f =
        let same = same_as-fields key next keys (same-number _ _ e) (same-number _ _ f) in
        rw (e, f, in-window true e, add-one (same_as key keys), same) (stretch-alike at key next (within window keys) (grind arith) ∙ ap (longer key.number) hyp)

    by-window : (next.window ≡ window → FrontChunk at window next keys) → (b : Bool) → (next.window == key.window) ≡ b → FrontChunk at window key (next ∷ keys)
    by-window hyp false e =
        let lt : window < next.window = omega (arith, is, not-number key.window next.window (other-number key.window next.window (λ p. absurd (grind arith))) sorted.0.0) in
        rw (e, in-window false e, within-later window next.window keys lt sorted.1.0) refl
    by-window hyp true e = by-entry (hyp (same-number _ _ (in-window true e))) e (next.entry == key.entry) refl

-- no other window loses a sample
pub within-drop : (window : ℕ) (key : Key) (keys : List Key) → (key.window ≡ window → ⊥) → within window (drop (same_as key keys) keys) ≡ within window keys
within-drop window key [] other = refl
within-drop window key (next ∷ keys) other = same (within-drop window key keys other) ((next.window == key.window) && (next.entry == key.entry)) refl
  where
    not-in : ((next.window == key.window) && (next.entry == key.entry)) ≡ true → (next.window == window) ≡ false
    not-in e = other-number next.window window (λ p. other (grind arith))

    same : within window (drop (same_as key keys) keys) ≡ within window keys → (b : Bool) → ((next.window == key.window) && (next.entry == key.entry)) ≡ b
        → within window (drop (same_as key (next ∷ keys)) (next ∷ keys)) ≡ within window (next ∷ keys)
    same hyp false e = rw e refl
    same hyp true e = rw (e, add-one (same_as key keys), not-in e) hyp

-- the samples in front are in the track
pub same-within : (key : Key) (keys : List Key) → same_as key keys ≤ length keys
same-within key [] = omega arith
same-within key (next ∷ keys) = both (same-within key keys) ((next.window == key.window) && (next.entry == key.entry)) refl
  where
    both : same_as key keys ≤ length keys → (b : Bool) → ((next.window == key.window) && (next.entry == key.entry)) ≡ b → same_as key (next ∷ keys) ≤ suc (length keys)
    both h true e = rw e (omega (arith, h))
    both h false e = rw e (omega arith)

pub run-within : (keys : List Key) → run_len keys ≤ length keys
run-within [] = omega arith
run-within (key ∷ keys) = omega (arith, same-within key keys)

pub run-some : (keys : List Key) → 1 ≤ length keys → 1 ≤ run_len keys
run-some [] h = absurd (omega arith)
run-some (key ∷ keys) h = omega arith
