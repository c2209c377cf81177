-- Two sequences that share a picture are one.
use Rattle.std.proofs.Common.{◌≡◌, inl, inr, ℕ, ◌<◌, ◌≤◌, Bool, true, false, List, sym, ◌∙◌, arith}
use Rattle.std.proofs.lemmas.Bool.{cases_order}
use Rattle.avc_order.specs.Sequence.{is_sync, IsSequence, BeginsAt}

clash : (b : Bool) → b ≡ true → b ≡ false → ⊥
clash b t f = no (sym t ∙ f)
  where
    no : true ≡ false → ⊥
    no e = absurd cc

-- one begins where the other does
pub same_first : (syncs : List Bool) (a b c d k : ℕ) → IsSequence syncs a b → IsSequence syncs c d → a ≤ k → k < b → c ≤ k → k < d → a ≡ c
same_first syncs a b c d k s t ak kb ck kd = elim (cases_order a c) [
  | inl e ↦ e
  | inr (inl h) ↦ absurd (clash (is_sync syncs c) t.sync (s.alone c h (omega arith)))
  | inr (inr h) ↦ absurd (clash (is_sync syncs a) s.sync (t.alone a h (omega arith)))
]

-- it doesn't go on behind where the other ends
not_behind : (syncs : List Bool) (a b c d k : ℕ) → IsSequence syncs a b → IsSequence syncs c d → k < b → c ≤ k → b < d → ⊥
not_behind syncs a b c d k s t kb ck bd = elim s.next [
  | inl e ↦ (let w = t.within in absurd (omega arith))
  | inr y ↦ clash (is_sync syncs b) y (t.alone b (omega arith) bd)
]

pub same_end : (syncs : List Bool) (a b c d k : ℕ) → IsSequence syncs a b → IsSequence syncs c d → a ≤ k → k < b → c ≤ k → k < d → b ≡ d
same_end syncs a b c d k s t ak kb ck kd = elim (cases_order b d) [
  | inl e ↦ e
  | inr (inl h) ↦ absurd (not_behind syncs a b c d k s t kb ck h)
  | inr (inr h) ↦ absurd (not_behind syncs c d a b k t s kd ak h)
]

-- a picture has one first picture of its sequence
pub same_begin : (syncs : List Bool) (a c k : ℕ) → BeginsAt syncs a k → BeginsAt syncs c k → a ≡ c
same_begin syncs a c k s t = elim (cases_order a c) [
  | inl e ↦ e
  | inr (inl h) ↦ absurd (clash (is_sync syncs c) t.sync (s.alone c h t.before))
  | inr (inr h) ↦ absurd (clash (is_sync syncs a) s.sync (t.alone a h s.before))
]
