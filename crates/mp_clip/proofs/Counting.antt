-- What is counted of a piece belongs to what is counted of all.
use Rattle.std.proofs.Common.{◌≡◌, ℕ, ◌+◌, ◌-◌, ◌*◌, ◌/◌, ◌%◌, ◌<◌, max, List, [], ◌∷◌, ◌++◌, Option, Some, None, refl, sym, ap, subst, ◌∙◌, arith}
use Rattle.std.specs.Int.{◌∣◌}
use Rattle.std.proofs.Math.Nat.{dvd_trans, dvd-mul_left_of_dvd, dvd-add, dvd-sub, mul_assoc, add-mul, div-add-mod', pos_of_dvd_of_pos}
use Rattle.std.proofs.lemmas.List.Sums.{sum_by-cons}
use Rattle.mp_frac.specs.Divisors.{IsGreatestCommon}
use Rattle.mp_movie.specs.Durations.{greatest}
use Rattle.mp_clip.specs.declared.cut.Cut.{Cut}
use Rattle.mp_clip.specs.declared.tally.Tally.{Tally}
use Rattle.mp_clip.specs.Cut.{cut_starts, cut_lengths, cut_total, listed}
use Rattle.mp_clip.specs.Shape.{least}
use Rattle.mp_clip.specs.Counted.{IsCounted, lower}

parts : (a b k : ℕ) → a * k ≡ (a / b) * (b * k) + (a % b) * k
parts a b k = ap (λ (x : ℕ). x * k) (sym (div-add-mod' a b)) ∙ (add-mul (a / b * b) (a % b) k ∙ ap (λ (x : ℕ). x + a % b * k) (mul_assoc (a / b) b k))

divides_rest : (a b k d : ℕ) → d ∣ a * k → d ∣ b * k → d ∣ (a % b) * k
divides_rest a b k d p q =
    let whole : d ∣ (a / b) * (b * k) + (a % b) * k = subst (λ (x : ℕ). d ∣ x) (parts a b k) p in
    let part : d ∣ (a / b) * (b * k) = dvd-mul_left_of_dvd d q (a / b) in
    let left : ((a / b) * (b * k) + (a % b) * k) - (a / b) * (b * k) ≡ (a % b) * k = omega arith in
    subst (λ (x : ℕ). d ∣ x) left (dvd-sub d whole part)

-- a common divisor with the rest is one with the number
pub common_of_rest : (divisor number rest found : ℕ) → rest ≡ number % divisor → IsGreatestCommon (divisor ∷ rest ∷ []) found → IsGreatestCommon (divisor ∷ number ∷ []) found
common_of_rest divisor number rest found is h =
    let of_rest : found ∣ number % divisor = subst (λ (x : ℕ). found ∣ x) is h.divides.1.0 in
    record {
      divides = (h.divides.0, (subst (λ (x : ℕ). found ∣ x) (div-add-mod' number divisor) (dvd-add found (dvd-mul_left_of_dvd found h.divides.0 (number / divisor)) of_rest), tt));
      divided = λ k d all. h.divided k d (all.0, (subst (λ (x : ℕ). d ∣ x * k) (sym is) (divides_rest number divisor k d all.1.0 all.0), tt));
    }

-- the divisor of two stands for them among all
pub common_of_more : (first number found : ℕ) (others : List ℕ) (divisor : ℕ) → IsGreatestCommon (first ∷ number ∷ []) found → IsGreatestCommon (found ∷ others) divisor → IsGreatestCommon (first ∷ number ∷ others) divisor
common_of_more first number found others divisor h g = record {
  divides = (dvd_trans divisor g.divides.0 h.divides.0, (dvd_trans divisor g.divides.0 h.divides.1.0, g.divides.1));
  divided = λ k d all. g.divided k d (h.divided k d (all.0, (all.1.0, tt)), all.1.1);
}

pub common_some : (first number found : ℕ) → 0 < first → IsGreatestCommon (first ∷ number ∷ []) found → 0 < found
common_some first number found some h = pos_of_dvd_of_pos h.divides.0 some

-- a lower number stands for two
least-lower : (low : Option ℕ) (start : ℕ) (others : List ℕ) → least (listed (lower low start) ++ others) ≡ least (listed low ++ (start ∷ others))
least-lower None start others = refl
least-lower (Some low) start [] = refl
least-lower (Some low) start (other ∷ others) = omega arith

plus : (a b c : ℕ) → a + b + c ≡ a + (b + c)
plus a b c = omega arith

max-more : (found start rest : ℕ) → max (max found start) rest ≡ max found (max start rest)
max-more found start rest = omega arith

-- a piece, whose start and length are counted
module _ (start_parts length_parts : ℕ) (all : List Cut) (tally : Tally) (cut : Cut) (left : List Cut) (h : IsCounted start_parts length_parts all tally (cut ∷ left)) where
  total_of : (total : ℕ) → total ≡ tally.total + cut.length → total + cut_total left ≡ cut_total all
  total_of total is = ap (λ (x : ℕ). x + cut_total left) is ∙ (plus tally.total cut.length (cut_total left) ∙ (ap (λ (x : ℕ). tally.total + x) (sym (sum_by-cons (λ (cut : Cut). cut.length) cut left)) ∙ h.total))

  pub counts_length : (after : Tally) → cut.start ≡ None → IsGreatestCommon (tally.lengths ∷ cut.length ∷ []) after.lengths → after ≡ record tally { lengths = after.lengths; total = tally.total + cut.length }
      → IsCounted start_parts length_parts all after left
  counts_length after none common is =
      let starts : cut_starts (cut ∷ left) ≡ cut_starts left = rw none refl in
      record {
        starts = λ divisor g. h.starts divisor (subst (λ (x : ℕ). IsGreatestCommon (x ∷ cut_starts (cut ∷ left)) divisor) (ap (λ (t : Tally). t.starts) is) (subst (λ (xs : List ℕ). IsGreatestCommon (after.starts ∷ xs) divisor) (sym starts) g));
        lengths = λ divisor g. h.lengths divisor (common_of_more tally.lengths cut.length after.lengths (cut_lengths left) divisor common g);
        some_starts = subst (λ (x : ℕ). 0 < x) (sym (ap (λ (t : Tally). t.starts) is)) h.some_starts;
        some_lengths = common_some tally.lengths cut.length after.lengths h.some_lengths common;
        total = total_of after.total (ap (λ (t : Tally). t.total) is);
        least = ap (λ (t : Tally). least (listed t.least ++ cut_starts left)) is ∙ (ap (λ (xs : List ℕ). least (listed tally.least ++ xs)) (sym starts) ∙ h.least);
        greatest = ap (λ (t : Tally). max t.greatest (greatest (cut_starts left))) is ∙ (ap (λ (xs : List ℕ). max tally.greatest (greatest xs)) (sym starts) ∙ h.greatest);
      }

  pub counts_both : (middle after : Tally) (start : ℕ) → cut.start ≡ Some start → IsGreatestCommon (tally.starts ∷ start ∷ []) middle.starts
      → middle ≡ record tally { starts = middle.starts; least = lower tally.least start; greatest = max tally.greatest start }
      → IsGreatestCommon (middle.lengths ∷ cut.length ∷ []) after.lengths → after ≡ record middle { lengths = after.lengths; total = middle.total + cut.length } → IsCounted start_parts length_parts all after left
  counts_both middle after start some common_starts middle_is common is =
      let starts : cut_starts (cut ∷ left) ≡ start ∷ cut_starts left = rw some refl in
      let lengths : middle.lengths ≡ tally.lengths = ap (λ (t : Tally). t.lengths) middle_is in
      let common_lengths : IsGreatestCommon (tally.lengths ∷ cut.length ∷ []) after.lengths = subst (λ (x : ℕ). IsGreatestCommon (x ∷ cut.length ∷ []) after.lengths) lengths common in
      let after_starts : after.starts ≡ middle.starts = ap (λ (t : Tally). t.starts) is in
      record {
        starts = λ divisor g.
            h.starts divisor
            (subst (λ (xs : List ℕ). IsGreatestCommon (tally.starts ∷ xs) divisor) (sym starts)
            (common_of_more tally.starts start middle.starts (cut_starts left) divisor common_starts (subst (λ (x : ℕ). IsGreatestCommon (x ∷ cut_starts left) divisor) after_starts g)));
        lengths = λ divisor g. h.lengths divisor (common_of_more tally.lengths cut.length after.lengths (cut_lengths left) divisor common_lengths g);
        some_starts = subst (λ (x : ℕ). 0 < x) (sym after_starts) (common_some tally.starts start middle.starts h.some_starts common_starts);
        some_lengths = common_some tally.lengths cut.length after.lengths h.some_lengths common_lengths;
        total = total_of after.total (ap (λ (t : Tally). t.total) is ∙ ap (λ (t : Tally). t.total + cut.length) middle_is);
        least =
            ap (λ (t : Tally). least (listed t.least ++ cut_starts left)) is ∙ (ap (λ (t : Tally). least (listed t.least ++ cut_starts left)) middle_is
            ∙ (least-lower tally.least start (cut_starts left) ∙ (ap (λ (xs : List ℕ). least (listed tally.least ++ xs)) (sym starts) ∙ h.least)));
        greatest =
            ap (λ (t : Tally). max t.greatest (greatest (cut_starts left))) is ∙ (ap (λ (t : Tally). max t.greatest (greatest (cut_starts left))) middle_is
            ∙ (max-more tally.greatest start (greatest (cut_starts left)) ∙ (ap (λ (xs : List ℕ). max tally.greatest (greatest xs)) (sym starts) ∙ h.greatest)));
      }
