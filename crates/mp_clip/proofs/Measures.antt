-- Starts, durations and totals of pieces, by their cuts.
use Rattle.std.proofs.Common.{◌≡◌, ℕ, ◌+◌, ◌*◌, ◌≤◌, min, max, List, [], ◌∷◌, ◌++◌, map, Option, Some, None, refl, sym, ap, subst, ◌∙◌, arith, inl, inr}
use Rattle.std.specs.Int.{◌∣◌}
use Rattle.std.specs.List.{AllByRecursion}
use Rattle.std.proofs.Math.Nat.{dvd-zero, dvd-add, add-mul}
use Rattle.std.proofs.lemmas.Bool.{cases_lt}
use Rattle.std.proofs.lemmas.List.Sums.{sum_by-cons}
use Rattle.mp_timeline.specs.declared.segment.Segment.{Segment}
use Rattle.mp_edits.specs.Segments.{duration, total}
use Rattle.mp_movie.specs.Durations.{greatest}
use Rattle.mp_clip.specs.declared.cut.Cut.{Cut}
use Rattle.mp_clip.specs.declared.cut.Scales.{Scales}
use Rattle.mp_clip.specs.Clipped.{starts}
use Rattle.mp_clip.specs.Cut.{segment_from, piece_of, listed, cut_starts, cut_lengths, cut_total}
use Rattle.mp_clip.specs.Shape.{least}

-- each number so many times
abbrev pub times_each : ℕ → List ℕ → List ℕ
times_each k numbers = map (λ number. number * k) numbers

module _ (scales : Scales) where
  pub starts_are : (cuts : List Cut) → starts (map (piece_of scales) cuts) ≡ times_each scales.to (cut_starts cuts)
  starts_are [] = refl
  starts_are (cut ∷ cuts) = by cut.start (map (piece_of scales) cuts) (cut_starts cuts) (starts_are cuts)
    where
      by : (start : Option ℕ) (segments : List Segment) (numbers : List ℕ) → starts segments ≡ times_each scales.to numbers
          → starts (segment_from scales.to start (cut.length * scales.media) ∷ segments) ≡ times_each scales.to (listed start ++ numbers)
      by None segments numbers h = h
      by (Some start) segments numbers h = ap (λ (xs : List ℕ). start * scales.to ∷ xs) h

  one_duration : (start : Option ℕ) (length : ℕ) → duration (segment_from scales.to start length) ≡ length
  one_duration None length = refl
  one_duration (Some start) length = refl

  pub durations_are : (cuts : List Cut) → map duration (map (piece_of scales) cuts) ≡ times_each scales.media (cut_lengths cuts)
  durations_are [] = refl
  durations_are (cut ∷ cuts) = rw (one_duration cut.start (cut.length * scales.media), durations_are cuts) refl

  pub total_is : (cuts : List Cut) → total (map (piece_of scales) cuts) ≡ cut_total cuts * scales.media
  total_is [] = omega arith
  total_is (cut ∷ cuts) =
      sum_by-cons duration (piece_of scales cut) (map (piece_of scales) cuts)
      ∙ (ap (λ (x : ℕ). x + total (map (piece_of scales) cuts)) (one_duration cut.start (cut.length * scales.media)) ∙ (ap (λ (x : ℕ). cut.length * scales.media + x) (total_is cuts)
      ∙ (sym (add-mul cut.length (cut_total cuts) scales.media) ∙ ap (λ (x : ℕ). x * scales.media) (sym (sum_by-cons (λ (cut : Cut). cut.length) cut cuts)))))

-- ---- the least and the greatest of numbers, so many times

le-times : (a b k : ℕ) → a ≤ b → a * k ≤ b * k
le-times a b k le = grind arith

min-times : (a b k : ℕ) → min (a * k) (b * k) ≡ min a b * k
min-times a b k = elim (cases_lt a b) [
  | inl lt ↦ let le = le-times a b k (omega (arith, lt)) in let m : min a b ≡ a = omega (arith, lt) in let e : min (a * k) (b * k) ≡ a * k = omega (arith, le) in e ∙ sym (ap (λ (x : ℕ). x * k) m)
  | inr ge ↦ let le = le-times b a k ge in let m : min a b ≡ b = omega (arith, ge) in let e : min (a * k) (b * k) ≡ b * k = omega (arith, le) in e ∙ sym (ap (λ (x : ℕ). x * k) m)
]

max-times : (a b k : ℕ) → max (a * k) (b * k) ≡ max a b * k
max-times a b k = elim (cases_lt a b) [
  | inl lt ↦ let le = le-times a b k (omega (arith, lt)) in let m : max a b ≡ b = omega (arith, lt) in let e : max (a * k) (b * k) ≡ b * k = omega (arith, le) in e ∙ sym (ap (λ (x : ℕ). x * k) m)
  | inr ge ↦ let le = le-times b a k ge in let m : max a b ≡ a = omega (arith, ge) in let e : max (a * k) (b * k) ≡ a * k = omega (arith, le) in e ∙ sym (ap (λ (x : ℕ). x * k) m)
]

pub least_times : (k : ℕ) (numbers : List ℕ) → least (times_each k numbers) ≡ least numbers * k
least_times k [] = omega arith
least_times k (number ∷ []) = refl
least_times k (number ∷ other ∷ numbers) = ap (min (number * k)) (least_times k (other ∷ numbers)) ∙ min-times number (least (other ∷ numbers)) k

pub greatest_times : (k : ℕ) (numbers : List ℕ) → greatest (times_each k numbers) ≡ greatest numbers * k
greatest_times k [] = omega arith
greatest_times k (number ∷ numbers) = ap (max (number * k)) (greatest_times k numbers) ∙ max-times number (greatest numbers) k

-- ---- what divides each number divides the least, the greatest and the sum

divides_min : (d a b : ℕ) → d ∣ a → d ∣ b → d ∣ min a b
divides_min d a b p q = elim (cases_lt a b) [
  | inl lt ↦ let m : a ≡ min a b = omega (arith, lt) in subst (λ (x : ℕ). d ∣ x) m p
  | inr ge ↦ let m : b ≡ min a b = omega (arith, ge) in subst (λ (x : ℕ). d ∣ x) m q
]

divides_max : (d a b : ℕ) → d ∣ a → d ∣ b → d ∣ max a b
divides_max d a b p q = elim (cases_lt a b) [
  | inl lt ↦ let m : b ≡ max a b = omega (arith, lt) in subst (λ (x : ℕ). d ∣ x) m q
  | inr ge ↦ let m : a ≡ max a b = omega (arith, ge) in subst (λ (x : ℕ). d ∣ x) m p
]

pub divides_least : (d : ℕ) (numbers : List ℕ) → AllByRecursion (λ number. d ∣ number) numbers → d ∣ least numbers
divides_least d [] all = dvd-zero d
divides_least d (number ∷ []) all = all.0
divides_least d (number ∷ other ∷ numbers) all = divides_min d number (least (other ∷ numbers)) all.0 (divides_least d (other ∷ numbers) all.1)

pub divides_greatest : (d : ℕ) (numbers : List ℕ) → AllByRecursion (λ number. d ∣ number) numbers → d ∣ greatest numbers
divides_greatest d [] all = dvd-zero d
divides_greatest d (number ∷ numbers) all = divides_max d number (greatest numbers) all.0 (divides_greatest d numbers all.1)

pub divides_total : (d : ℕ) (cuts : List Cut) → AllByRecursion (λ number. d ∣ number) (cut_lengths cuts) → d ∣ cut_total cuts
divides_total d [] all = dvd-zero d
divides_total d (cut ∷ cuts) all = subst (λ (x : ℕ). d ∣ x) (sym (sum_by-cons (λ (cut : Cut). cut.length) cut cuts)) (dvd-add d all.0 (divides_total d cuts all.1))
