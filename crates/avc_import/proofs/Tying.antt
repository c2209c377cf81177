-- The first picture whose count an earlier one of its sequence has.
use Rattle.std.proofs.Common.{◌≡◌, ℕ, ℤ, zero, suc, pos, ◌+◌, ◌-◌, ◌<◌, ◌≤◌, nat_lt, min, Bool, true, false, List, length, drop, Some, None, refl, sym, ap, ◌∙◌, arith}
use Rattle.std.specs.Prelude.{slice_index_or}
use Rattle.std.specs.List.{Any}
use Rattle.std.specs.Ordering.{int_eq}
use Rattle.std.proofs.lemmas.Bool.{ltb-true, ltb-false}
use Rattle.std.proofs.lemmas.Bool.Decides.{Decides-int_eq}
use Rattle.std.proofs.lemmas.List.{get_or-drop, get_or-take, get_or_default, length-drop, length-take}
use Rattle.std.proofs.lemmas.List.Folds.{Any-from_list_any, list_any-from_Any}
use Rattle.avc_order.specs.Sequence.{AreMarked, BeginsAt}
use Rattle.avc_order.specs.Ranks.{AreDistinct, IsTie, count_at, counts_in}
use Rattle.avc_import.specs.Ranking.{begin_of, end_of, first_tie, is_tied, or_tie}
use Rattle.avc_import.proofs.Showing.{begins_at, is_sequence, one_begin}

-- one of the counts of the sequence that stand before
in_part : (counts : List ℤ) (begin k i : ℕ) → k ≤ length counts → begin + i < k → slice_index_or (counts_in counts begin k) i (count_at counts (begin + i)) ≡ count_at counts (begin + i)
in_part counts begin k i few inside =
    let c = count_at counts (begin + i) in
    get_or-take (k - begin) (drop begin counts) i c (omega (arith, inside)) ∙ get_or-drop begin counts i c ∙ get_or_default counts (begin + i) c (pos 0) (omega (arith, inside, few))

in_part_len : (counts : List ℤ) (begin k : ℕ) → k ≤ length counts → length (counts_in counts begin k) ≡ k - begin
in_part_len counts begin k few = length-take (k - begin) (drop begin counts) ∙ least
  where
    least : min (k - begin) (length (drop begin counts)) ≡ k - begin
    least = omega (arith, few, length-drop begin counts)

same_int : (x y : ℤ) → x ≡ y → int_eq x y ≡ true
same_int x y same = (Decides-int_eq x y).1 same

tied : (counts : List ℤ) (syncs : List Bool) (k j : ℕ) → k ≤ length counts → begin_of syncs k ≤ j → j < k → count_at counts j ≡ count_at counts k → is_tied counts syncs k ≡ true
tied counts syncs k j few from before same =
    let begin = begin_of syncs k in
    let i = j - begin in
    let place : begin + i ≡ j = omega (arith, from) in
    let here : count_at counts (begin + i) ≡ count_at counts k = ap (count_at counts) place ∙ same in
    list_any-from_Any (int_eq (count_at counts k)) (counts_in counts begin k)
    (i, count_at counts (begin + i), omega (arith, in_part_len counts begin k few, from, before), in_part counts begin k i few (omega (arith, place, before)), same_int _ _ (sym here))

none_upto : (counts : List ℤ) (syncs : List Bool) (n : ℕ) → ((k : ℕ) → k < n → is_tied counts syncs k ≡ false) → first_tie counts syncs n ≡ None
none_upto counts syncs zero none = refl
none_upto counts syncs (suc n) none = rw (none_upto counts syncs n (λ k before. none k (omega arith)), none n (omega arith)) refl

first_at : (counts : List ℤ) (syncs : List Bool) (n p : ℕ) → p < n → first_tie counts syncs p ≡ None → is_tied counts syncs p ≡ true → first_tie counts syncs n ≡ Some p
first_at counts syncs zero p inside none is = absurd (omega arith)
first_at counts syncs (suc n) p inside none is = by_last (nat_lt p n) refl (λ before. first_at counts syncs n p before none is)
  where
    by_last : (b : Bool) → nat_lt p n ≡ b → (p < n → first_tie counts syncs n ≡ Some p) → or_tie (first_tie counts syncs n) (is_tied counts syncs n) n ≡ Some p
    by_last true test earlier = rw (earlier (ltb-true p n test)) refl
    by_last false test earlier =
        let last : n ≡ p = let least = ltb-false p n test in omega (arith, least, inside) in
        rw (last, none, is) refl

-- an earlier picture of the sequence that has the count
record IsTied (counts : List ℤ) (syncs : List Bool) (k : ℕ) : Type 0 where
  earlier : ℕ
  from : begin_of syncs k ≤ earlier
  before : earlier < k
  same : count_at counts earlier ≡ count_at counts k

tied_so : (counts : List ℤ) (syncs : List Bool) (k : ℕ) → k ≤ length counts → is_tied counts syncs k ≡ true → IsTied counts syncs k
tied_so counts syncs k few is = found (Any-from_list_any (int_eq (count_at counts k)) (counts_in counts (begin_of syncs k) k) is)
  where
    begin : ℕ
    begin = begin_of syncs k

    found : Any (λ (x : ℤ). int_eq (count_at counts k) x ≡ true) (counts_in counts begin k) → IsTied counts syncs k
    found (i, x, inside, here, equal) =
        let many = in_part_len counts begin k few in
        let before : begin + i < k = omega (arith, inside, many) in
        let c = count_at counts (begin + i) in
        let there : x ≡ c = sym here ∙ get_or_default (counts_in counts begin k) i x c inside ∙ in_part counts begin k i few before in
        record { earlier = begin + i; from = omega arith; before = before; same = sym there ∙ sym ((Decides-int_eq (count_at counts k) x).0 equal) }

untied : (counts : List ℤ) (syncs : List Bool) (up_to k : ℕ) → AreMarked (length counts) syncs → AreDistinct counts syncs up_to → k < up_to → k < length counts
    → is_tied counts syncs k ≡ false
untied counts syncs up_to k marked distinct below inside = by_tie (is_tied counts syncs k) refl
  where
    by_tie : (b : Bool) → is_tied counts syncs k ≡ b → is_tied counts syncs k ≡ false
    by_tie false is = is
    by_tie true is =
        let t = tied_so counts syncs k (omega (arith, inside)) is in
        let within : k < length syncs = omega (arith, inside, marked.same) in
        absurd (distinct (begin_of syncs k) (end_of syncs k) t.earlier k (is_sequence (length counts) k syncs marked within) t.from t.before (omega arith) below t.same)

pub no_tie : (counts : List ℤ) (syncs : List Bool) → AreMarked (length counts) syncs → AreDistinct counts syncs (length counts) → first_tie counts syncs (length counts) ≡ None
no_tie counts syncs marked distinct = none_upto counts syncs (length counts) (λ k before. untied counts syncs (length counts) k marked distinct before before)

pub tie_is : (counts : List ℤ) (syncs : List Bool) (p : ℕ) → AreMarked (length counts) syncs → IsTie counts syncs p → first_tie counts syncs (length counts) ≡ Some p
tie_is counts syncs p marked t =
    let inside : p < length counts = omega (arith, t.inside, t.sequence.within, marked.same) in
    let begins : BeginsAt syncs t.first p = record {
      before = omega (arith, t.from, t.before);
      sync = t.sequence.sync;
      alone = λ j after late. t.sequence.alone j after (omega (arith, late, t.inside));
    } in
    let same = one_begin syncs t.first (begin_of syncs p) p begins (begins_at (length counts) p syncs marked (omega (arith, inside, marked.same))) in
    first_at counts syncs (length counts) p inside
    (none_upto counts syncs p (λ k before. untied counts syncs p k marked t.none_before before (omega (arith, before, inside))))
    (tied counts syncs p t.earlier (omega (arith, inside)) (omega (arith, same, t.from)) t.before t.same)
