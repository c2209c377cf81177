-- The order of showing: what is one for each picture is what the sequences say.
use Rattle.std.proofs.Common.{◌≡◌, ◌⊎◌, ℕ, ℤ, zero, suc, ◌+◌, ◌-◌, ◌<◌, ◌≤◌, nat_lt, nat_le, ◌&&◌, max, All, Bool, true, false, List, [], ◌∷◌, length, map, drop, refl, sym, ap, ◌∙◌, arith, inl, inr}
use Rattle.std.specs.Prelude.{slice_index_or, int_lt, if◌then◌else◌}
use Rattle.std.specs.List.{range_with_len}
use Rattle.std.proofs.lemmas.List.{get_or-drop, get_or_default, length-drop, length-take}
use Rattle.std.proofs.lemmas.Bool.{leb-true, leb-false, lt-ltb, ltb-true, ltb-false}
use Rattle.avc_order.specs.Sequence.{AreMarked, BeginsAt, IsSequence, is_sync}
use Rattle.avc_order.specs.Ranks.{AreRanks, count_at, counts_in, lower}
use Rattle.avc_order.specs.Delay.{IsDelay, IsLate}
use Rattle.avc_import.specs.Ranking.{begin_of, end_of, latest, others, rank_of, shown_at}

-- ---- where a sequence begins

pub begins_at : (n k : ℕ) (syncs : List Bool) → AreMarked n syncs → k < length syncs → BeginsAt syncs (begin_of syncs k) k
begins_at n zero syncs marked inside = record { before = omega arith; sync = marked.starts inside; alone = λ j after before. absurd (omega arith) }
begins_at n (suc k) syncs marked inside = by_sync (is_sync syncs (suc k)) refl (begins_at n k syncs marked (omega arith))
  where
    by_sync : (b : Bool) → is_sync syncs (suc k) ≡ b → BeginsAt syncs (begin_of syncs k) k → BeginsAt syncs (if b then suc k else begin_of syncs k) (suc k)
    by_sync true is before = record { before = omega arith; sync = is; alone = λ j after late. absurd (omega arith) }
    by_sync false is before = record { before = omega (arith, before.before); sync = before.sync; alone = later }
      where
        later : (j : ℕ) → begin_of syncs k < j → j ≤ suc k → is_sync syncs j ≡ false
        later j after late = by_last (nat_le j k) refl
          where
            by_last : (b : Bool) → nat_le j k ≡ b → is_sync syncs j ≡ false
            by_last true test = before.alone j after (leb-true j k test)
            by_last false test =
                let less = leb-false j k test in
                let last : j ≡ suc k = omega (arith, late, less) in
                ap (is_sync syncs) last ∙ is

-- there is one begin
pub one_begin : (syncs : List Bool) (first other k : ℕ) → BeginsAt syncs first k → BeginsAt syncs other k → first ≡ other
one_begin syncs first other k one two = by_order (nat_lt first other) refl (nat_lt other first) refl
  where
    never : is_sync syncs first ≡ true → is_sync syncs first ≡ false → first ≡ other
    never one_is other_is = absurd cc

    by_order : (a : Bool) → nat_lt first other ≡ a → (b : Bool) → nat_lt other first ≡ b → first ≡ other
    by_order true less b test = absurd (let plain = one.alone other (ltb-true first other less) two.before in let marked = two.sync in cc)
    by_order false test true less = never one.sync (two.alone first (ltb-true other first less) one.before)
    by_order false test false tests =
        let low = ltb-false first other test in
        let high = ltb-false other first tests in
        omega (arith, low, high)

-- ---- where it ends

others-alone : (syncs : List Bool) (i : ℕ) → i < others syncs → slice_index_or syncs i false ≡ false
others-alone [] i inside = absurd (omega arith)
others-alone (true ∷ syncs) i inside = absurd (omega arith)
others-alone (false ∷ syncs) zero inside = refl
others-alone (false ∷ syncs) (suc i) inside = others-alone syncs i (omega (arith, inside))

others-next : (syncs : List Bool) → (others syncs ≡ length syncs) ⊎ (slice_index_or syncs (others syncs) false ≡ true)
others-next [] = inl refl
others-next (true ∷ syncs) = inr refl
others-next (false ∷ syncs) = on (others-next syncs)
  where
    on : (others syncs ≡ length syncs) ⊎ (slice_index_or syncs (others syncs) false ≡ true) → (suc (others syncs) ≡ suc (length syncs)) ⊎ (slice_index_or syncs (others syncs) false ≡ true)
    on (inl is) = inl (ap suc is)
    on (inr is) = inr is

others-few : (syncs : List Bool) → others syncs ≤ length syncs
others-few [] = omega arith
others-few (true ∷ syncs) = omega arith
others-few (false ∷ syncs) = let few = others-few syncs in omega arith

pub is_sequence : (n k : ℕ) (syncs : List Bool) → AreMarked n syncs → k < length syncs → IsSequence syncs (begin_of syncs k) (end_of syncs k)
is_sequence n k syncs marked inside =
    let begins = begins_at n k syncs marked inside in
    let rest = drop (k + 1) syncs in
    record {
      some = omega (arith, begins.before);
      within = omega (arith, others-few rest, length-drop (k + 1) syncs, inside);
      sync = begins.sync;
      alone = alone_in begins;
      next = ends (others-next rest);
    }
  where
    alone_in : BeginsAt syncs (begin_of syncs k) k → (j : ℕ) → begin_of syncs k < j → j < end_of syncs k → is_sync syncs j ≡ false
    alone_in begins j after before = by_last (nat_le j k) refl
      where
        by_last : (b : Bool) → nat_le j k ≡ b → is_sync syncs j ≡ false
        by_last true test = begins.alone j after (leb-true j k test)
        by_last false test =
            let less = leb-false j k test in
            let i = j - (k + 1) in
            let place : k + 1 + i ≡ j = omega (arith, less) in
            let few : i < others (drop (k + 1) syncs) = omega (arith, less, before) in
            ap (is_sync syncs) (sym place) ∙ sym (get_or-drop (k + 1) syncs i false) ∙ others-alone (drop (k + 1) syncs) i few

    ends : (others (drop (k + 1) syncs) ≡ length (drop (k + 1) syncs)) ⊎ (slice_index_or (drop (k + 1) syncs) (others (drop (k + 1) syncs)) false ≡ true)
        → (end_of syncs k ≡ length syncs) ⊎ (is_sync syncs (end_of syncs k) ≡ true)
    ends (inl is) = inl (omega (arith, is, length-drop (k + 1) syncs, inside))
    ends (inr is) = inr (sym (get_or-drop (k + 1) syncs (others (drop (k + 1) syncs)) false) ∙ is)

-- ---- ranks and delay

pub rank_is : (counts : List ℤ) (syncs : List Bool) (ranks : List ℕ) (k : ℕ) → AreMarked (length counts) syncs → AreRanks counts syncs ranks → k < length syncs
    → slice_index_or ranks k 0 ≡ rank_of counts syncs k
unfolding rank_of
rank_is counts syncs ranks k marked are inside =
    let begins = begins_at (length counts) k syncs marked inside in
    are.rank (begin_of syncs k) (end_of syncs k) k (is_sequence (length counts) k syncs marked inside) begins.before (omega arith)

pub latest_ge : (counts : List ℤ) (syncs : List Bool) (n j : ℕ) → j < n → j - shown_at counts syncs j ≤ latest counts syncs n
latest_ge counts syncs zero j inside = absurd (omega arith)
latest_ge counts syncs (suc n) j inside = by_last (nat_lt j n) refl (λ before. latest_ge counts syncs n j before)
  where
    by_last : (b : Bool) → nat_lt j n ≡ b → (j < n → j - shown_at counts syncs j ≤ latest counts syncs n) → j - shown_at counts syncs j ≤ max (latest counts syncs n) (n - shown_at counts syncs n)
    by_last true test earlier = let before = earlier (ltb-true j n test) in omega (arith, before)
    by_last false test earlier =
        let least = ltb-false j n test in
        let last : j ≡ n = omega (arith, least, inside) in
        rw last (omega arith)

latest_le : (counts : List ℤ) (syncs : List Bool) (n most : ℕ) → ((j : ℕ) → j < n → j - shown_at counts syncs j ≤ most) → latest counts syncs n ≤ most
latest_le counts syncs zero most each = omega arith
latest_le counts syncs (suc n) most each =
    let before = latest_le counts syncs n most (λ j inside. each j (omega arith)) in
    let last = each n (omega arith) in
    omega (arith, before, last)

pub delay_is : (counts : List ℤ) (syncs : List Bool) (ranks : List ℕ) (delay : ℕ) → AreMarked (length counts) syncs → AreRanks counts syncs ranks → IsDelay ranks syncs delay
    → delay ≡ latest counts syncs (length counts)
unfolding shown_at
delay_is counts syncs ranks delay marked are is =
    let most = latest_le counts syncs (length counts) delay enough in
    let least = at_least is.least in
    omega (arith, most, least)
  where
    enough : (j : ℕ) → j < length counts → j - (begin_of syncs j + rank_of counts syncs j) ≤ delay
    enough j inside =
        let within : j < length syncs = omega (arith, inside, marked.same) in
        let e = is.enough (begin_of syncs j) j (begins_at (length counts) j syncs marked within) (omega (arith, inside, are.each)) in
        let r = rank_is counts syncs ranks j marked are within in
        omega (arith, e, r)

    at_least : (delay ≡ 0) ⊎ IsLate ranks syncs delay → delay ≤ latest counts syncs (length counts)
    at_least (inl none) = omega (arith, none)
    at_least (inr (first, k, begins, inside, late)) =
        let within : k < length syncs = omega (arith, inside, marked.same, are.each) in
        let same = one_begin syncs first (begin_of syncs k) k begins (begins_at (length counts) k syncs marked within) in
        let r = rank_is counts syncs ranks k marked are within in
        let ge = latest_ge counts syncs (length counts) k (omega (arith, within, marked.same)) in
        omega (arith, same, r, late, ge)

-- ---- the numbers of all pictures

map-range : {X : Type 0} (f g : ℕ → X) (a n : ℕ) → ((k : ℕ) → a ≤ k → k < a + n → f k ≡ g k) → map f (range_with_len a n) ≡ map g (range_with_len a n)
map-range f g a zero same = refl
map-range f g a (suc n) same =
    rw (same a (omega arith) (omega arith), map-range f g (a + 1) n (λ k from before. same k (omega (arith, from)) (omega (arith, before)))) refl

pub shown_is : (counts : List ℤ) (syncs : List Bool) (ranks shown : List ℕ) → AreMarked (length counts) syncs → AreRanks counts syncs ranks
    → shown ≡ map (λ k. begin_of syncs k + slice_index_or ranks k 0) (range_with_len 0 (length ranks)) → shown ≡ map (shown_at counts syncs) (range_with_len 0 (length counts))
unfolding shown_at
shown_is counts syncs ranks shown marked are is =
    is ∙ ap (λ (n : ℕ). map (λ k. begin_of syncs k + slice_index_or ranks k 0) (range_with_len 0 n)) are.each
    ∙ map-range _ _ 0 (length counts) (λ k from before. ap (λ (r : ℕ). begin_of syncs k + r) (rank_is counts syncs ranks k marked are (omega (arith, before, marked.same))))

pub begin_few : (syncs : List Bool) (k : ℕ) → begin_of syncs k ≤ k
begin_few syncs zero = omega arith
begin_few syncs (suc k) = by_sync (is_sync syncs (suc k)) (begin_few syncs k)
  where
    by_sync : (b : Bool) → begin_of syncs k ≤ k → (if b then suc k else begin_of syncs k) ≤ suc k
    by_sync true few = omega arith
    by_sync false few = omega (arith, few)

-- one picture further
pub begin_step : (syncs : List Bool) (k first : ℕ) → first ≡ begin_of syncs (k - 1) → (if nat_lt 0 k && is_sync syncs k then k else first) ≡ begin_of syncs k
begin_step syncs zero first is = is
begin_step syncs (suc k) first is =
    let before : suc k - 1 ≡ k = omega arith in
    let later : nat_lt 0 (suc k) ≡ true = lt-ltb 0 (suc k) (omega arith) in
    rw later (by_sync (is_sync syncs (suc k)) (is ∙ ap (begin_of syncs) before))
  where
    by_sync : (b : Bool) → first ≡ begin_of syncs k → (if b then suc k else first) ≡ (if b then suc k else begin_of syncs k)
    by_sync true same = refl
    by_sync false same = same

lower-few : (c : ℤ) (xs : List ℤ) → lower c xs ≤ length xs
unfolding lower
lower-few c [] = omega arith
lower-few c (x ∷ xs) = by_order (int_lt x c) (lower-few c xs)
  where
    by_order : (b : Bool) → lower c xs ≤ length xs → (if b then 1 else 0) + lower c xs ≤ suc (length xs)
    by_order true few = omega (arith, few)
    by_order false few = omega (arith, few)

-- a rank is at most the number of pictures
pub ranks_small : (counts : List ℤ) (syncs : List Bool) (ranks : List ℕ) → AreMarked (length counts) syncs → AreRanks counts syncs ranks → All (λ rank. rank ≤ 8388608) ranks
unfolding rank_of
ranks_small counts syncs ranks marked are = λ k d inside.
    let within : k < length syncs = omega (arith, inside, are.each, marked.same) in
    let part = counts_in counts (begin_of syncs k) (end_of syncs k) in
    let few = lower-few (count_at counts k) part in
    let short : length part ≤ length counts = omega (arith, length-take (end_of syncs k - begin_of syncs k) (drop (begin_of syncs k) counts), length-drop (begin_of syncs k) counts) in
    rw (get_or_default ranks k d 0 inside, rank_is counts syncs ranks k marked are within) (omega (arith, few, short, marked.few, marked.same))
