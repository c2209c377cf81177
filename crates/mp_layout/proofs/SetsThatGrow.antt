-- Sets of tracks that grow by one track at a time.
use Rattle.std.proofs.Common.{if◌then◌else◌, ◌≡◌, ℕ, zero, suc, ◌+◌, ◌-◌, ◌*◌, ◌^◌, ◌<◌, ◌≤◌, Bool, true, false, ◌||◌, All, add-one, List, [], ◌∷◌, drop, get_or, length, replicate, refl, sym, ◌∙◌, arith, rules, slice_set}
use Rattle.std.specs.List.{AllByRecursion, list_all, range_with_len}
use Rattle.std.proofs.lemmas.List.{length-replicate, length-set}
use Rattle.std.proofs.lemmas.List.Elements.{recursion_from_All}
use Rattle.mp_layout.specs.declared.wide.Reach.{Reach}
use Rattle.mp_layout.specs.File.{Within}
use Rattle.mp_layout.specs.Wide.{IsFar, IsShortReach, chunks_in, fits, is_near, outside, place_of, reach_at}
use Rattle.mp_layout.proofs.PlacesFit.{passes-at, same-flag}

-- ---- one set within another

-- the empty set is within each
none-within : (n : ℕ) (others : List Bool) → Within (replicate n false) others
none-within zero others position e = absurd (no e)
  where
    no : false ≡ true → ⊥
    no e = cc
none-within (suc n) others zero e = absurd (no e)
  where
    no : false ≡ true → ⊥
    no e = cc
none-within (suc n) [] (suc position) e = none-within n [] position e
none-within (suc n) (wide ∷ others) (suc position) e = none-within n others position e

chunks_in-none : (reaches : List Reach) (n : ℕ) → chunks_in reaches (replicate n false) ≡ 0
chunks_in-none [] n = refl
chunks_in-none (reach ∷ reaches) zero = refl
chunks_in-none (reach ∷ reaches) (suc n) = omega (arith, chunks_in-none reaches n)

-- a larger set has no fewer chunks
pub chunks_in-within : (reaches : List Reach) (set others : List Bool) → Within set others → chunks_in reaches set ≤ chunks_in reaches others
chunks_in-within [] set others h = search rules
chunks_in-within (reach ∷ reaches) [] others h = search rules
chunks_in-within (reach ∷ reaches) (false ∷ set) [] h = omega (arith, chunks_in-empty reaches set (λ position e. h (suc position) e))
  where
    chunks_in-empty : (reaches : List Reach) (set : List Bool) → Within set [] → chunks_in reaches set ≤ 0
    chunks_in-empty [] set h = omega arith
    chunks_in-empty (reach ∷ reaches) [] h = omega arith
    chunks_in-empty (reach ∷ reaches) (false ∷ set) h = omega (arith, chunks_in-empty reaches set (λ position e. h (suc position) e))
    chunks_in-empty (reach ∷ reaches) (true ∷ set) h = absurd (no (h zero refl))
      where
        no : false ≡ true → ⊥
        no e = cc
chunks_in-within (reach ∷ reaches) (true ∷ set) [] h = absurd (no (h zero refl))
  where
    no : false ≡ true → ⊥
    no e = cc
chunks_in-within (reach ∷ reaches) (false ∷ set) (wide ∷ others) h = omega (arith, chunks_in-within reaches set others (λ position e. h (suc position) e))
chunks_in-within (reach ∷ reaches) (true ∷ set) (wide ∷ others) h =
    let has : wide ≡ true = h zero refl in
    rw has (omega (arith, chunks_in-within reaches set others (λ position e. h (suc position) e)))

-- ---- one track more

-- what is far from a place is far from later ones
far-later : (place later : ℕ) (reach : Reach) → place ≤ later → is_near place reach ≡ false → is_near later reach ≡ false
far-later place later reach le far = grind (arith, le, far)

-- a track with a place above 32 bits is in each closed set whose payload stands no earlier
far-in : (place later : ℕ) (reaches : List Reach) (set : List Bool) (at : ℕ) → place ≤ later → at < length reaches → length set ≡ length reaches
    → is_near place (reach_at reaches at) ≡ false → fits later reaches set ≡ true → get_or set at false ≡ true
far-in place later reaches set at le lt len far closed =
    let is : (get_or set at true || is_near later (reach_at reaches at)) ≡ true = passes-at (λ position. get_or set position true || is_near later (reach_at reaches position)) 0 (length reaches) at at closed lt (omega arith) in
    sym (same-flag set at (omega (arith, lt, len))) ∙ first-of (get_or set at true) _ (far-later place later (reach_at reaches at) le far) is
  where
    first-of : (a b : Bool) → b ≡ false → (a || b) ≡ true → a ≡ true
    first-of true b none e = refl
    first-of false b none e = absurd (clash (sym none ∙ e))
      where
        clash : false ≡ true → ⊥
        clash e = cc

within-set : (set others : List Bool) (at : ℕ) → Within set others → get_or others at false ≡ true → Within (slice_set set at true) others
within-set [] others at h e position is = h position is
within-set (flag ∷ set) others zero h e zero is = e
within-set (flag ∷ set) others zero h e (suc position) is = h (suc position) is
within-set (flag ∷ set) others (suc at) h e zero is = h zero is
within-set (flag ∷ set) [] (suc at) h e (suc position) is = within-set set [] at (λ p q. h (suc p) q) e position is
within-set (flag ∷ set) (wide ∷ others) (suc at) h e (suc position) is = within-set set others at (λ p q. h (suc p) q) e position is

chunks_in-set : (reaches : List Reach) (set : List Bool) (at : ℕ) → at < length reaches → length set ≡ length reaches → get_or set at false ≡ false
    → chunks_in reaches (slice_set set at true) ≡ chunks_in reaches set + (reach_at reaches at).chunks
chunks_in-set [] set at lt len out = absurd (omega arith)
chunks_in-set (reach ∷ reaches) [] at lt len out = absurd (omega arith)
chunks_in-set (reach ∷ reaches) (false ∷ set) zero lt len out = omega arith
chunks_in-set (reach ∷ reaches) (true ∷ set) zero lt len out = absurd (search rules)
chunks_in-set (reach ∷ reaches) (wide ∷ set) (suc at) lt len out = omega (arith, chunks_in-set reaches set at (omega arith) (omega arith) out)

pub outside-set : (set : List Bool) (at : ℕ) → at < length set → get_or set at false ≡ false → outside (slice_set set at true) < outside set
outside-set [] at lt out = absurd (omega arith)
outside-set (false ∷ set) zero lt out = omega arith
outside-set (true ∷ set) zero lt out = absurd (search rules)
outside-set (wide ∷ set) (suc at) lt out = omega (arith, outside-set set at (omega arith) out)

-- how many chunks there are at most
pub chunks_in-bound : (reaches : List Reach) (set : List Bool) → All IsShortReach reaches → chunks_in reaches set ≤ length reaches * 2 ^ 32
chunks_in-bound reaches set short = bound reaches set (recursion_from_All IsShortReach reaches short)
  where
    bound : (reaches : List Reach) (set : List Bool) → AllByRecursion IsShortReach reaches → chunks_in reaches set ≤ length reaches * 2 ^ 32
    bound [] set h = omega arith
    bound (reach ∷ reaches) [] h = omega arith
    bound (reach ∷ reaches) (false ∷ set) h = omega (arith, bound reaches set h.1)
    bound (reach ∷ reaches) (true ∷ set) h = omega (arith, h.0, bound reaches set h.1)

-- ---- the loop

-- no closed set lacks a track of this one, and the place is its
pub record Grows (base place : ℕ) (reaches : List Reach) (set : List Bool) : Type 0 where
  pub flags : length set ≡ length reaches
  pub place_is : place ≡ place_of base reaches set
  pub least : (others : List Bool) → length others ≡ length reaches → fits (place_of base reaches others) reaches others ≡ true → Within set others

pub grows-start : (base : ℕ) (reaches : List Reach) → Grows base base reaches (replicate (length reaches) false)
grows-start base reaches = record {
  flags = length-replicate (length reaches) false;
  place_is = omega (arith, chunks_in-none reaches (length reaches));
  least = λ others len closed. none-within (length reaches) others;
}

pub grows-on : (base place : ℕ) (reaches : List Reach) (set : List Bool) (at : ℕ) → Grows base place reaches set → IsFar place reaches set at
    → Grows base (place + 4 * (reach_at reaches at).chunks) reaches (slice_set set at true)
grows-on base place reaches set at g far = record {
  flags = length-set set at true ∙ g.flags;
  place_is = omega (arith, g.place_is, chunks_in-set reaches set at far.inside g.flags far.outside);
  least = λ others len closed. within-set set others at (g.least others len closed)
      (far-in place (place_of base reaches others) reaches others at (omega (arith, g.place_is, chunks_in-within reaches set others (g.least others len closed))) far.inside len far.far closed);
}

pub place-bound : (base place : ℕ) (reaches : List Reach) (set : List Bool) → Grows base place reaches set → base < 2 ^ 62 → length reaches ≤ 64 → All IsShortReach reaches → place < 2 ^ 62 + 2 ^ 41
place-bound base place reaches set g low few short = omega (arith, g.place_is, chunks_in-bound reaches set short)

-- ---- the search for a far track

-- a track that is in the set, or near, is passed
pub fits-next : (place : ℕ) (reaches : List Reach) (set : List Bool) (at end : ℕ) → at < end → length set ≡ end → (get_or set at false || is_near place (reach_at reaches at)) ≡ true
    → list_all (λ position. get_or set position true || is_near place (reach_at reaches position)) (range_with_len at (end - at))
    ≡ list_all (λ position. get_or set position true || is_near place (reach_at reaches position)) (range_with_len (at + 1) (end - (at + 1)))
fits-next place reaches set at end lt len h =
    let left : end - at ≡ suc (end - (at + 1)) = omega arith in
    rw (left, same-flag set at (omega (arith, lt, len)), h) refl

-- ---- the chunks of a set

-- ---- loops over the set

pub chunks_in-next : (reaches : List Reach) (set : List Bool) (at : ℕ) → at < length reaches → length set ≡ length reaches
    → chunks_in (drop at reaches) (drop at set) ≡ (if get_or set at false then (reach_at reaches at).chunks else 0) + chunks_in (drop (at + 1) reaches) (drop (at + 1) set)
chunks_in-next reaches set at lt len = rw (add-one at) (next reaches set at lt len)
  where
    next : (reaches : List Reach) (set : List Bool) (at : ℕ) → at < length reaches → length set ≡ length reaches
        → chunks_in (drop at reaches) (drop at set) ≡ (if get_or set at false then (reach_at reaches at).chunks else 0) + chunks_in (drop (suc at) reaches) (drop (suc at) set)
    next [] set at lt len = absurd (omega arith)
    next (reach ∷ reaches) [] at lt len = absurd (omega arith)
    next (reach ∷ reaches) (wide ∷ set) zero lt len = refl
    next (reach ∷ reaches) (wide ∷ set) (suc at) lt len = next reaches set at (omega arith) (omega arith)
