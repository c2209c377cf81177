-- The starts of segments, one after another, and the common divisor of three lists.
use Rattle.std.proofs.Common.{◌≡◌, ℕ, ◌+◌, ◌*◌, ◌<◌, ◌≤◌, List, [], ◌∷◌, ◌++◌, length, drop, get_or, refl, ap, ◌∙◌, subst, map, ℤ}
use Rattle.std.specs.Prelude.{unsigned_abs}
use Rattle.std.specs.Int.{◌∣◌}
use Rattle.mp_frac.specs.Divisors.{IsGreatestCommon}
use Rattle.track_ops.proofs.JoinedScales.{all_joined}
use Rattle.track_ops.proofs.Summaries.{back_of, divisor_joined, each_divided, front_of}
use Rattle.std.proofs.lemmas.List.{drop_all, drop_more}
use Rattle.mp_timeline.specs.declared.segment.Segment.{Segment}
use Rattle.mp_timeline.specs.declared.segment.Segment.TheVariants.{Empty, Media}
use Rattle.mp_clip.specs.Clipped.{starts}

starts_cons : (segment : Segment) (segments : List Segment) → starts (segment ∷ segments) ≡ starts (segment ∷ []) ++ starts segments
starts_cons (Empty dur) segments = refl
starts_cons (Media start dur) segments = refl

pub starts_next : (segments : List Segment) (i : ℕ) (d : Segment) → i < length segments → starts (drop i segments) ≡ starts (get_or segments i d ∷ []) ++ starts (drop (i + 1) segments)
starts_next segments i d lt = ap starts (drop_more segments i d lt) ∙ starts_cons (get_or segments i d) (drop (i + 1) segments)

pub starts_end : (segments : List Segment) (i : ℕ) → length segments ≤ i → starts (drop i segments) ≡ []
starts_end segments i past = ap starts (drop_all i segments past)

divisor_of_two : (xs ys : List ℕ) (first second both : ℕ) → IsGreatestCommon xs first → IsGreatestCommon ys second → IsGreatestCommon (first ∷ second ∷ []) both → IsGreatestCommon (xs ++ ys) both
divisor_of_two xs ys first second both front behind common = record {
  divides = all_joined (λ number. both ∣ number) xs ys (each_divided both first xs common.divides.0 front.divides) (each_divided both second ys common.divides.1.0 behind.divides);
  divided = λ factor divisor each.
      common.divided factor divisor (
        front.divided factor divisor (front_of (λ number. divisor ∣ number * factor) xs ys each),
        (behind.divided factor divisor (back_of (λ number. divisor ∣ number * factor) xs ys each), tt),
      );
}

pub divisor_of_three : (xs ys zs : List ℕ) (first second both all : ℕ) → IsGreatestCommon xs first → IsGreatestCommon ys second → IsGreatestCommon (first ∷ second ∷ []) both → IsGreatestCommon (both ∷ zs) all
    → IsGreatestCommon (xs ++ ys ++ zs) all
divisor_of_three xs ys zs first second both all front behind common rest =
    divisor_joined (xs ++ ys) zs both all (divisor_of_two xs ys first second both front behind common) rest

-- of the same column
pub common_moved : (xs ys : List ℤ) (n : ℕ) → xs ≡ ys → IsGreatestCommon (map unsigned_abs xs) n → IsGreatestCommon (map unsigned_abs ys) n
common_moved xs ys n same is = subst (λ (zs : List ℤ). IsGreatestCommon (map unsigned_abs zs) n) same is
