-- How long edits last in another scale, and whether that is too long.
use Rattle.std.proofs.Common.{◌≡◌, ℕ, ◌*◌, ◌^◌, ◌<◌, ◌≤◌, ◌||◌, nat_le, max, Bool, true, false, List, [], ◌∷◌, map, Option, Some, None, refl, sym, ap, ◌∙◌, arith, inl, inr}
use Rattle.std.specs.List.{AllByRecursion, list_any}
use Rattle.std.specs.Int.{◌∣◌}
use Rattle.std.proofs.Math.Nat.{add-mul, div-mul_cancel, mul-le-mul_right, le_of_mul-le-mul_right}
use Rattle.std.proofs.lemmas.Bool.{cases_lt, le-leb, leb-false, leb-true, lt-leb}
use Rattle.std.proofs.lemmas.List.Sums.{sum_by-cons}
use Rattle.mp_timeline.specs.declared.segment.Segment.{Segment}
use Rattle.mp_timeline.specs.declared.segment.Segment.TheVariants.{Empty, Media}
use Rattle.mp_edits.specs.EditBox.{segments_in}
use Rattle.mp_edits.specs.Segments.{duration, total}
use Rattle.mp_movie.specs.Durations.{greatest}
use Rattle.mp_movie.specs.Placed.{PlacedTrack}
use Rattle.mp_movie.specs.PartsFit.{passes}
use Rattle.mp_ports.specs.declared.code.Code.TheVariants.{DurationLimit}
use Rattle.track_ops.specs.Scales.{in_scale, lasting}
use Rattle.track_ops.specs.Kept.{kept_in_scale, lasts}

-- the durations are whole in the new scale
abbrev pub AreWhole : ℕ → ℕ → List Segment → Type 0
AreWhole old new segments = AllByRecursion (λ segment. old ∣ duration segment * new) segments

pub lasting_duration : (old new : ℕ) (segment : Segment) → duration (lasting old new segment) ≡ in_scale old new (duration segment)
lasting_duration old new (Empty dur) = refl
lasting_duration old new (Media start dur) = refl

total_lasting : (old new : ℕ) (segments : List Segment) → AreWhole old new segments → total (map (lasting old new) segments) * old ≡ total segments * new
total_lasting old new [] whole = omega arith
total_lasting old new (segment ∷ segments) whole =
    let first : duration (lasting old new segment) * old ≡ duration segment * new = ap (λ (x : ℕ). x * old) (lasting_duration old new segment) ∙ div-mul_cancel old whole.0 in
    let rest = total_lasting old new segments whole.1 in
    ap (λ (x : ℕ). x * old) (sum_by-cons duration (lasting old new segment) (map (lasting old new) segments)) ∙ (add-mul (duration (lasting old new segment)) (total (map (lasting old new) segments)) old
    ∙ (omega (arith, first, rest) ∙ (sym (add-mul (duration segment) (total segments) new) ∙ ap (λ (x : ℕ). x * new) (sym (sum_by-cons duration segment segments)))))

-- tests that hold together are equal
pub same_le : (a b c d : ℕ) → (a ≤ b → c ≤ d) → (c ≤ d → a ≤ b) → nat_le a b ≡ nat_le c d
same_le a b c d to back =
    elim (cases_lt b a) [
      | inl less ↦
          elim (cases_lt d c) [
            | inl low ↦ lt-leb a b less ∙ sym (lt-leb c d low)
            | inr high ↦ let le = back high in absurd (omega (arith, le, less))
          ]
      | inr more ↦ le-leb a b more ∙ sym (le-leb c d (to more))
    ]

pub one_long : (old new : ℕ) (track : PlacedTrack) → 0 < old → AreWhole old new (segments_in track.edits) → passes DurationLimit (kept_in_scale old new track) ≡ nat_le (2 ^ 62 * old) (lasts track * new)
one_long old new track some whole = by track.edits whole
  where
    by : (edits : Option (List Segment)) → AreWhole old new (segments_in edits)
        → passes DurationLimit (kept_in_scale old new (record track { edits = edits })) ≡ nat_le (2 ^ 62 * old) (lasts (record track { edits = edits }) * new)
    by None all = same_le (2 ^ 62) 0 (2 ^ 62 * old) (0 * new) (λ le. absurd (omega (arith, le))) (λ le. absurd (omega (arith, le, some)))
    by (Some segments) all =
        let same = total_lasting old new segments all in
        same_le (2 ^ 62) (total (map (lasting old new) segments)) (2 ^ 62 * old) (total segments * new)
        (λ le. let more = mul-le-mul_right old le in omega (arith, more, same))
        (λ le. le_of_mul-le-mul_right (omega (arith, le, same)) some)

either_long : (k a b new : ℕ) → nat_le k (max a b * new) ≡ (nat_le k (a * new) || nat_le k (b * new))
either_long k a b new =
    elim (cases_lt a b) [
      | inl less ↦ let le = mul-le-mul_right new (le_of less) in rw (big less) (later (a * new) (b * new) le)
      | inr more ↦ let le = mul-le-mul_right new more in rw (small more) (sooner (a * new) (b * new) le)
    ]
  where
    le_of : a < b → a ≤ b
    le_of h = omega (arith, h)

    big : a < b → max a b ≡ b
    big h = omega (arith, h)

    small : b ≤ a → max a b ≡ a
    small h = omega (arith, h)

    later : (x y : ℕ) → x ≤ y → nat_le k y ≡ (nat_le k x || nat_le k y)
    later x y le = by (nat_le k x) refl
      where
        by : (b : Bool) → nat_le k x ≡ b → nat_le k y ≡ (b || nat_le k y)
        by true is = let first = leb-true k x is in le-leb k y (omega (arith, first, le))
        by false is = refl

    sooner : (x y : ℕ) → y ≤ x → nat_le k x ≡ (nat_le k x || nat_le k y)
    sooner x y le = by (nat_le k x) (nat_le k y) refl refl
      where
        by : (a b : Bool) → nat_le k x ≡ a → nat_le k y ≡ b → a ≡ (a || b)
        by true b is other = refl
        by false true is other = let none = leb-false k x is in let some = leb-true k y other in absurd (omega (arith, none, some, le))
        by false false is other = refl

-- one of the tracks lasts too long exactly where the longest does
pub some_long : (old new : ℕ) (tracks : List PlacedTrack) → 0 < old → AllByRecursion (λ track. AreWhole old new (segments_in track.edits)) tracks
    → list_any (passes DurationLimit) (map (kept_in_scale old new) tracks) ≡ nat_le (2 ^ 62 * old) (greatest (map lasts tracks) * new)
some_long old new [] some whole = sym (lt-leb (2 ^ 62 * old) (0 * new) (omega (arith, some)))
some_long old new (track ∷ tracks) some whole =
    rw (one_long old new track some whole.0, some_long old new tracks some whole.1) (sym (either_long (2 ^ 62 * old) (lasts track) (greatest (map lasts tracks)) new))
