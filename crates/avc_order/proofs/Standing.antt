-- Each picture stands in one sequence.
use Rattle.std.proofs.Common.{◌≡◌, inl, inr, ℕ, zero, suc, ◌+◌, ◌-◌, ◌<◌, ◌≤◌, Bool, true, false, List, length, arith}
use Rattle.std.proofs.lemmas.Bool.{cases_Bool, cases_lt}
use Rattle.avc_order.specs.Sequence.{is_sync, IsSequence, BeginsAt, StandsInOne, AreMarked}
use Rattle.avc_order.proofs.Sharing.{same_first, same_end}

-- the sequence of each picture begins somewhere
begins : (syncs : List Bool) (picture : ℕ) → is_sync syncs 0 ≡ true → (first : ℕ) × BeginsAt syncs first picture
begins syncs zero s = (0, record { before = omega arith; sync = s; alone = λ k low high. absurd (omega arith) })
begins syncs (suc n) s = elim (cases_Bool (is_sync syncs (suc n))) [
  | inl y ↦ (suc n, record { before = omega arith; sync = y; alone = λ k low high. absurd (omega arith) })
  | inr other ↦ further syncs n other (begins syncs n s)
]
  where
    further : (syncs : List Bool) (n : ℕ) → is_sync syncs (suc n) ≡ false → (first : ℕ) × BeginsAt syncs first n → (first : ℕ) × BeginsAt syncs first (suc n)
    further syncs n other (first, b) = (
      first,
      record {
        before = let l = b.before in omega arith;
        sync = b.sync;
        alone = λ k low high. elim (cases_lt k (suc n)) [
          | inl h ↦ b.alone k low (omega arith)
          | inr h ↦ (let e : k ≡ suc n = omega arith in rw e other)
        ];
      },
    )

-- it ends before the next sync picture, of which so many pictures at most stand in front
ends : (syncs : List Bool) (first left end : ℕ) → first < end → end + left ≡ length syncs → is_sync syncs first ≡ true → ((k : ℕ) → first < k → k < end → is_sync syncs k ≡ false)
    → (last : ℕ) × (end ≤ last) × IsSequence syncs first last
ends syncs first zero end some within sync alone = (end, omega arith, record { some = some; within = omega arith; sync = sync; alone = alone; next = inl (omega arith) })
ends syncs first (suc left) end some within sync alone = elim (cases_Bool (is_sync syncs end)) [
  | inl y ↦ (end, omega arith, record { some = some; within = omega arith; sync = sync; alone = alone; next = inr y })
  | inr other ↦ (
      let longer = ends syncs first left (end + 1) (omega arith) (omega arith) sync (λ k low high. elim (cases_lt k end) [
        | inl h ↦ alone k low h
        | inr h ↦ (let e : k ≡ end = omega arith in rw e other)
      ]) in
      (longer.0, omega (arith, longer.1), longer.2))
]

pub stands_in_one : (syncs : List Bool) (picture : ℕ) → AreMarked (length syncs) syncs → picture < length syncs → StandsInOne syncs picture
stands_in_one syncs picture marked within =
    let b = begins syncs picture (marked.starts (omega arith)) in
    let low : b.0 ≤ picture = b.1.before in
    let e = ends syncs b.0 (length syncs - (picture + 1)) (picture + 1) (omega arith) (omega arith) b.1.sync (λ k l h. b.1.alone k l (omega arith)) in
    let high : picture < e.0 = omega (arith, e.1) in
    record {
      first = b.0;
      end = e.0;
      sequence = e.2;
      from = low;
      before = high;
      no_other = λ a c s from before. (same_first syncs a c b.0 e.0 picture s e.2 from before low high, same_end syncs a c b.0 e.0 picture s e.2 from before low high);
    }
