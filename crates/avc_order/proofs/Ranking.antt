-- The ranks of one sequence more.
use Rattle.std.proofs.Common.{◌≡◌, inl, inr, ℕ, ◌+◌, ◌-◌, ◌<◌, ◌≤◌, ℤ, pos, Bool, List, ◌++◌, length, drop, map, get_or, sym, ap, subst, ◌∙◌, arith}
use Rattle.std.proofs.lemmas.Bool.{cases_lt}
use Rattle.std.proofs.lemmas.List.{get_or-append_right, get_or_append_left, get_or-map, get_or-take, get_or-drop, length-take-le, length-drop, length-append, length-map}
use Rattle.avc_order.specs.Sequence.{IsSequence}
use Rattle.avc_order.specs.Ranks.{lower, count_at, counts_in, AreDistinct, IsTie}
use Rattle.avc_order.specs.Rising.{AreAllDistinct, IsFirstTie}
use Rattle.avc_order.proofs.Sharing.{same_first, same_end}

pub length-counts_in : (counts : List ℤ) (first end : ℕ) → first ≤ end → end ≤ length counts → length (counts_in counts first end) ≡ end - first
length-counts_in counts first end le within = length-take-le (end - first) (drop first counts) (omega (arith, length-drop first counts))

-- a count of the sequence, by its place in it
pub count_in : (counts : List ℤ) (first end k : ℕ) → first ≤ k → k < end → count_at (counts_in counts first end) (k - first) ≡ count_at counts k
count_in counts first end k low high =
    let back : first + (k - first) ≡ k = omega arith in
    get_or-take (end - first) (drop first counts) (k - first) (pos 0) (omega arith) ∙ get_or-drop first counts (k - first) (pos 0) ∙ ap (count_at counts) back

pub length_on : (counts : List ℤ) (old new : List ℕ) (first end : ℕ) → first < end → end ≤ length counts → length old ≡ first
    → new ≡ old ++ map (λ c. lower c (counts_in counts first end)) (counts_in counts first end) → length new ≡ end
length_on counts old new first end some within l is =
    let seg = counts_in counts first end in
    omega (arith, ap length is, length-append old (map (λ c. lower c seg) seg), length-map seg (λ c. lower c seg), length-counts_in counts first end (omega arith) within)

-- the ranks of the pictures before `up_to` stand in the list
abbrev pub Ranked : List ℤ → List Bool → List ℕ → ℕ → Type 0
Ranked counts syncs ranks up_to =
    (first end k : ℕ) → IsSequence syncs first end → first ≤ k → k < end → k < up_to → get_or ranks k 0 ≡ lower (count_at counts k) (counts_in counts first end)

pub ranked_on : (counts : List ℤ) (syncs : List Bool) (old new : List ℕ) (first end : ℕ) → IsSequence syncs first end → end ≤ length counts → length old ≡ first
    → new ≡ old ++ map (λ c. lower c (counts_in counts first end)) (counts_in counts first end) → Ranked counts syncs old first → Ranked counts syncs new end
ranked_on counts syncs old new first end s within l is h a b k t low high up = elim (cases_lt k first) [
  | inl before ↦ ap (λ (xs : List ℕ). get_or xs k 0) is ∙ get_or_append_left old _ 0 k (omega arith) ∙ h a b k t low high before
  | inr behind ↦ (
      let ea : first ≡ a = same_first syncs first end a b k s t behind up low high in
      let eb : end ≡ b = same_end syncs first end a b k s t behind up low high in
      let seg = counts_in counts first end in
      let len : length seg ≡ end - first = length-counts_in counts first end (omega arith) within in
      let here : get_or new k 0 ≡ lower (count_at counts k) seg =
      ap (λ (xs : List ℕ). get_or xs k 0) is
      ∙ get_or-append_right old (map (λ c. lower c seg) seg) first k 0 l behind
      ∙ get_or-map (λ c. lower c seg) seg (k - first) (pos 0) 0 (omega arith)
      ∙ ap (λ c. lower c seg) (count_in counts first end k behind up)
      in
      subst (λ (f : ℕ). get_or new k 0 ≡ lower (count_at counts k) (counts_in counts f b)) ea (subst (λ (e : ℕ). get_or new k 0 ≡ lower (count_at counts k) (counts_in counts first e)) eb here))
]

pub distinct_on : (counts : List ℤ) (syncs : List Bool) (first end : ℕ) → IsSequence syncs first end → end ≤ length counts
    → AreAllDistinct (counts_in counts first end) (length (counts_in counts first end)) → AreDistinct counts syncs first → AreDistinct counts syncs end
distinct_on counts syncs first end s within d h a b j k t low order high up = elim (cases_lt k first) [
  | inl before ↦ h a b j k t low order high before
  | inr behind ↦ (
      let ea : first ≡ a = same_first syncs first end a b k s t behind up (omega arith) high in
      let len : length (counts_in counts first end) ≡ end - first = length-counts_in counts first end (omega arith) within in
      λ e. d (k - first) (j - first) (omega arith) (omega arith) (count_in counts first end j (omega arith) (omega arith) ∙ e ∙ sym (count_in counts first end k behind up)))
]

pub tie_on : (counts : List ℤ) (syncs : List Bool) (first end at : ℕ) → IsSequence syncs first end → end ≤ length counts
    → IsFirstTie (counts_in counts first end) at → AreDistinct counts syncs first → IsTie counts syncs (first + at)
tie_on counts syncs first end at s within t h =
    let len : length (counts_in counts first end) ≡ end - first = length-counts_in counts first end (let m = s.some in omega arith) within in
    let inside : first + at < end = let w = t.within in omega arith in
    let before = t.before in
    let ej : first + t.earlier - first ≡ t.earlier = omega arith in
    let ek : first + at - first ≡ at = omega arith in
    record {
      first = first;
      end = end;
      sequence = s;
      inside = inside;
      earlier = first + t.earlier;
      from = omega arith;
      before = omega arith;
      same =
          sym (count_in counts first end (first + t.earlier) (omega arith) (omega arith))
          ∙ ap (count_at (counts_in counts first end)) ej
          ∙ t.same
          ∙ sym (ap (count_at (counts_in counts first end)) ek)
          ∙ count_in counts first end (first + at) (omega arith) inside;
      none_before = λ a b j k q low order high up. elim (cases_lt k first) [
        | inl early ↦ h a b j k q low order high early
        | inr behind ↦ (
            let ea : first ≡ a = same_first syncs first end a b k s q behind (omega arith) (omega arith) high in
            λ e. t.first (k - first) (j - first) (omega arith) (omega arith) (count_in counts first end j (omega arith) (omega arith) ∙ e ∙ sym (count_in counts first end k behind (omega arith))))
      ];
    }
