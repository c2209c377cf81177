-- One picture further.
use Rattle.std.proofs.Common.{◌≡◌, inl, inr, ℕ, ◌+◌, ◌-◌, ◌<◌, ◌≤◌, Bool, List, get_or, arith}
use Rattle.std.proofs.lemmas.Bool.{cases_lt}
use Rattle.avc_order.specs.Sequence.{BeginsAt}
use Rattle.avc_order.proofs.Sharing.{same_begin}

-- the delay behind one picture more is enough for it too
pub enough_on : (ranks : List ℕ) (syncs : List Bool) (first i old new : ℕ) → BeginsAt syncs first i → old ≤ new → i - first - get_or ranks i 0 ≤ new
    → ((f k : ℕ) → BeginsAt syncs f k → k < i → k ≤ f + get_or ranks k 0 + old) → (f k : ℕ) → BeginsAt syncs f k → k < i + 1 → k ≤ f + get_or ranks k 0 + new
enough_on ranks syncs first i old new begins le late h f k b up = elim (cases_lt k i) [
  | inl before ↦ omega (arith, h f k b before, le)
  | inr behind ↦ (
      let e : k ≡ i = omega arith in
      let here : BeginsAt syncs f i = rw e at b in
      let same : first ≡ f = same_begin syncs first f i begins here in
      rw e (omega (arith, late, same)))
]
