-- The least of the sets with a property is what all of them have in common.
use Rattle.std.proofs.Common.{◌≡◌, ℕ, zero, suc, ◌<◌, Bool, true, false, not, ◌||◌, ◌&&◌, subst, List, [], ◌∷◌, ◌++◌, map, filter, get_or, length, refl, sym, ap, ◌∙◌, arith}
use Rattle.std.specs.List.{list_all, range_with_len}
use Rattle.std.proofs.lemmas.List.{same_lists}
use Rattle.std.proofs.lemmas.List.Elements.{filter-append}
use Rattle.std.proofs.lemmas.List.FromFn.{get_or-map-range_with_len, length-map-range_with_len}
use Rattle.std.proofs.lemmas.List.Folds.{list_all-append}
use Rattle.mp_timeline.specs.Movie.{MovieRecord}
use Rattle.mp_interleave.specs.Samples.{SampleChunk}
use Rattle.mp_layout.specs.File.{IsLeastClosed, Within, is_closed, sets_of, wide_tracks}
use Rattle.mp_layout.proofs.PlacesFit.{same-flag}

-- a test of the sets that have the property
abbrev passes : (List Bool → Bool) → (List Bool → Bool) → List (List Bool) → Bool
passes P test sets = list_all test (filter P sets)

passes-front : (P test : List Bool → Bool) (set : List Bool) (sets : List (List Bool)) (b : Bool) → P set ≡ b
    → passes P test (set ∷ sets) ≡ (not b || test set) && passes P test sets
passes-front P test set sets true e = rw e refl
passes-front P test set sets false e = rw e refl

passes-map : (P test : List Bool → Bool) (f : List Bool → List Bool) (sets : List (List Bool)) → passes P test (map f sets) ≡ passes (λ set. P (f set)) (λ set. test (f set)) sets
passes-map P test f [] = refl
passes-map P test f (set ∷ sets) =
    passes-front P test (f set) (map f sets) (P (f set)) refl
    ∙ (ap (λ b. (not (P (f set)) || test (f set)) && b) (passes-map P test f sets) ∙ sym (passes-front (λ set. P (f set)) (λ set. test (f set)) set sets (P (f set)) refl))

passes-append : (P test : List Bool → Bool) (sets others : List (List Bool)) → passes P test (sets ++ others) ≡ passes P test sets && passes P test others
passes-append P test sets others = ap (list_all test) (filter-append P sets others) ∙ list_all-append test (filter P sets) (filter P others)

-- of the sets of one track more, half lack it and half have it
passes-more : (P test : List Bool → Bool) (n : ℕ)
    → passes P test (sets_of (suc n)) ≡ passes (λ set. P (false ∷ set)) (λ set. test (false ∷ set)) (sets_of n) && passes (λ set. P (true ∷ set)) (λ set. test (true ∷ set)) (sets_of n)
passes-more P test n =
    passes-append P test (map (λ set. false ∷ set) (sets_of n)) (map (λ set. true ∷ set) (sets_of n))
    ∙ (ap (λ b. b && passes P test (map (λ set. true ∷ set) (sets_of n))) (passes-map P test (λ set. false ∷ set) (sets_of n))
    ∙ ap (λ b. passes (λ set. P (false ∷ set)) (λ set. test (false ∷ set)) (sets_of n) && b) (passes-map P test (λ set. true ∷ set) (sets_of n)))

-- each set of that many tracks is listed
passes-at : (P test : List Bool → Bool) (set : List Bool) → P set ≡ true → test set ≡ false → passes P test (sets_of (length set)) ≡ false
passes-at P test [] h e = rw (h, e) refl
passes-at P test (false ∷ set) h e = passes-more P test (length set) ∙ ap (λ b. b && passes (λ set. P (true ∷ set)) (λ set. test (true ∷ set)) (sets_of (length set))) (passes-at (λ set. P (false ∷ set)) (λ set. test (false ∷ set)) set h e)
passes-at P test (true ∷ set) h e =
    passes-more P test (length set) ∙ (ap (λ b. passes (λ set. P (false ∷ set)) (λ set. test (false ∷ set)) (sets_of (length set)) && b) (passes-at (λ set. P (true ∷ set)) (λ set. test (true ∷ set)) set h e)
    ∙ and_false (passes (λ set. P (false ∷ set)) (λ set. test (false ∷ set)) (sets_of (length set))))
  where
    and_false : (a : Bool) → (a && false) ≡ false
    and_false true = refl
    and_false false = refl

-- and no other
passes-all : (P test : List Bool → Bool) (n : ℕ) → ((set : List Bool) → length set ≡ n → P set ≡ true → test set ≡ true) → passes P test (sets_of n) ≡ true
passes-all P test zero h = passes-front P test [] [] (P []) refl ∙ or_true (P []) (test []) (h [] refl)
  where
    or_true : (a b : Bool) → (a ≡ true → b ≡ true) → ((not a || b) && true) ≡ true
    or_true true b f = rw (f refl) refl
    or_true false b f = refl
passes-all P test (suc n) h =
    passes-more P test n
    ∙ (ap (λ b. b && passes (λ set. P (true ∷ set)) (λ set. test (true ∷ set)) (sets_of n)) (passes-all (λ set. P (false ∷ set)) (λ set. test (false ∷ set)) n (λ set len. h (false ∷ set) (omega arith)))
    ∙ passes-all (λ set. P (true ∷ set)) (λ set. test (true ∷ set)) n (λ set len. h (true ∷ set) (omega arith)))

flag-within : (set other : List Bool) (at : ℕ) → at < length set → length other ≡ length set → Within set other → get_or set at true ≡ true → get_or other at true ≡ true
flag-within set other at lt len h e = same-flag other at (omega (arith, lt, len)) ∙ h at (sym (same-flag set at lt) ∙ e)

-- a set with the property that lies in each other is what they have in common
common-at : (P : List Bool → Bool) (set : List Bool) (at : ℕ) (wide : Bool) → at < length set → P set ≡ true → ((other : List Bool) → length other ≡ length set → P other ≡ true → Within set other)
    → get_or set at true ≡ wide → passes P (λ other. get_or other at true) (sets_of (length set)) ≡ wide
common-at P set at true lt h least e = passes-all P (λ other. get_or other at true) (length set) (λ other len p. flag-within set other at lt len (least other len p) e)
common-at P set at false lt h least e = passes-at P (λ other. get_or other at true) set h e

common : (P : List Bool → Bool) (set : List Bool) → P set ≡ true → ((other : List Bool) → length other ≡ length set → P other ≡ true → Within set other)
    → set ≡ map (λ at. passes P (λ other. get_or other at true) (sets_of (length set))) (range_with_len 0 (length set))
common P set h least = same_lists set _ (sym (length-map-range_with_len (λ at. passes P (λ other. get_or other at true) (sets_of (length set))) 0 (length set)))
    (λ k d lt. any-flag set k d lt ∙ (sym (common-at P set k (get_or set k true) lt h least refl)
    ∙ sym (get_or-map-range_with_len (λ at. passes P (λ other. get_or other at true) (sets_of (length set))) 0 (length set) k k d lt (omega arith))))
  where
    any-flag : (set : List Bool) (k : ℕ) (d : Bool) → k < length set → get_or set k d ≡ get_or set k true
    any-flag [] k d lt = absurd (omega arith)
    any-flag (wide ∷ set) zero d lt = refl
    any-flag (wide ∷ set) (suc k) d lt = any-flag set k d (omega arith)

pub least-is : (movie : MovieRecord) (chunks : List SampleChunk) (set : List Bool) → IsLeastClosed movie chunks set → set ≡ wide_tracks movie chunks
unfolding wide_tracks
least-is movie chunks set least =
    subst (λ (n : ℕ). set ≡ map (λ at. passes (is_closed movie chunks) (λ other. get_or other at true) (sets_of n)) (range_with_len 0 n)) least.flags
    (common (is_closed movie chunks) set least.closed (λ other l c. least.least other (l ∙ least.flags) c))
