-- The common divisor of segments in one unit, one after another.
use Rattle.std.proofs.Common.{◌≡◌, ℕ, ◌+◌, ◌<◌, ◌≤◌, List, [], ◌∷◌, ◌++◌, length, map, drop, get_or, refl, sym, ap, ◌∙◌, subst}
use Rattle.std.proofs.Math.Nat.{pos_of_dvd_of_pos}
use Rattle.std.proofs.lemmas.List.{drop_all, drop_more}
use Rattle.mp_frac.specs.Divisors.{IsGreatestCommon}
use Rattle.mp_timeline.specs.declared.segment.Segment.{Segment}
use Rattle.mp_timeline.specs.declared.segment.Segment.TheVariants.{Empty, Media}
use Rattle.mp_edits.specs.Segments.{duration}
use Rattle.mp_clip.specs.Clipped.{starts}
use Rattle.track_ops.specs.declared.wide.Wide.{Wide}
use Rattle.track_ops.specs.Wide.{as_segment, as_segments}
use Rattle.track_ops.proofs.Summaries.{divisor_alone, divisor_joined}
use Rattle.track_ops.proofs.WideSegments.{as_duration}

-- above 0, and with the numbers that are left it divides what all are divided by
pub record IsDivisorSoFar (number : ℕ) (all left : List ℕ) (divisor : ℕ) : Type 0 where
  pub some : 0 < divisor
  pub each : (common : ℕ) → IsGreatestCommon (divisor ∷ left) common → IsGreatestCommon (number ∷ all) common

pub divisor_first : (number : ℕ) (all : List ℕ) → 0 < number → IsDivisorSoFar number all all number
divisor_first number all some = record { some = some; each = λ common is. is }

divisor_last : (number : ℕ) (all left : List ℕ) (divisor : ℕ) → left ≡ [] → IsDivisorSoFar number all left divisor → IsGreatestCommon (number ∷ all) divisor
divisor_last number all left divisor none so = so.each divisor (subst (λ (ns : List ℕ). IsGreatestCommon (divisor ∷ ns) divisor) (sym none) (divisor_alone divisor))

pub some_divisor : (a b divisor : ℕ) → 0 < a → IsGreatestCommon (a ∷ b ∷ []) divisor → 0 < divisor
some_divisor a b divisor some common = pos_of_dvd_of_pos common.divides.0 some

starts_cons : (segment : Segment) (segments : List Segment) → starts (segment ∷ segments) ≡ starts (segment ∷ []) ++ starts segments
starts_cons (Empty dur) segments = refl
starts_cons (Media start dur) segments = refl

pub next_start : (number divisor next i : ℕ) (wides : List Wide) (d : Wide) → i < length wides → IsDivisorSoFar number (starts (as_segments wides)) (starts (as_segments (drop i wides))) divisor → 0 < next
    → ((more : List ℕ) (common : ℕ) → IsGreatestCommon (next ∷ more) common → IsGreatestCommon (divisor ∷ starts (as_segment (get_or wides i d) ∷ []) ++ more) common)
    → IsDivisorSoFar number (starts (as_segments wides)) (starts (as_segments (drop (i + 1) wides))) next
next_start number divisor next i wides d lt so some common = record {
  some = some;
  each = λ all is.
      so.each all (subst (λ (ns : List ℕ). IsGreatestCommon (divisor ∷ ns) all)
      (sym (ap (λ (ws : List Wide). starts (as_segments ws)) (drop_more wides i d lt) ∙ starts_cons (as_segment (get_or wides i d)) (as_segments (drop (i + 1) wides)))) (common (starts (as_segments (drop (i + 1) wides))) all is));
}

pub all_starts : (number divisor i : ℕ) (wides : List Wide) → length wides ≤ i → IsDivisorSoFar number (starts (as_segments wides)) (starts (as_segments (drop i wides))) divisor → IsGreatestCommon (number ∷ starts (as_segments wides)) divisor
all_starts number divisor i wides past so = divisor_last number (starts (as_segments wides)) _ divisor (ap (λ (ws : List Wide). starts (as_segments ws)) (drop_all i wides past)) so

pub next_length : (number divisor next i : ℕ) (wides : List Wide) (d : Wide) → i < length wides → IsDivisorSoFar number (map duration (as_segments wides)) (map duration (as_segments (drop i wides))) divisor
    → IsGreatestCommon (divisor ∷ (get_or wides i d).length ∷ []) next → IsDivisorSoFar number (map duration (as_segments wides)) (map duration (as_segments (drop (i + 1) wides))) next
next_length number divisor next i wides d lt so common = record {
  some = some_divisor divisor (get_or wides i d).length next so.some common;
  each = λ all is.
      so.each all (subst (λ (ns : List ℕ). IsGreatestCommon (divisor ∷ ns) all)
      (sym (ap (λ (ws : List Wide). map duration (as_segments ws)) (drop_more wides i d lt) ∙ ap (λ (n : ℕ). n ∷ map duration (as_segments (drop (i + 1) wides))) (as_duration (get_or wides i d))))
      (divisor_joined (divisor ∷ (get_or wides i d).length ∷ []) (map duration (as_segments (drop (i + 1) wides))) next all common is));
}

pub all_lengths : (number divisor i : ℕ) (wides : List Wide) → length wides ≤ i → IsDivisorSoFar number (map duration (as_segments wides)) (map duration (as_segments (drop i wides))) divisor
    → IsGreatestCommon (number ∷ map duration (as_segments wides)) divisor
all_lengths number divisor i wides past so = divisor_last number (map duration (as_segments wides)) _ divisor (ap (λ (ws : List Wide). map duration (as_segments ws)) (drop_all i wides past)) so
