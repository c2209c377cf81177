-- What is whole in a scale is whole in its multiples.
use Rattle.std.proofs.Common.{◌≡◌, ℕ, ◌+◌, ◌*◌, ◌^◌, ◌<◌, ◌≤◌, min, max, List, [], ◌∷◌, map, pos, sym, ap, subst, ◌∙◌, arith}
use Rattle.std.specs.Int.{◌∣◌}
use Rattle.std.specs.List.{AllByRecursion}
use Rattle.std.proofs.Math.Nat.{dvd-mul_right_of_dvd, mul_assoc}
use Rattle.std.proofs.lemmas.Int.{ints}
use Rattle.mp_frac.specs.Time.{IsWhole, in_ticks}
use Rattle.mp_frac.specs.Law.{WholenessIsDivision}
use Rattle.mp_timeline.specs.declared.segment.Segment.{Segment}
use Rattle.mp_edits.specs.Segments.{duration, total}
use Rattle.mp_movie.specs.Durations.{greatest}
use Rattle.mp_clip.specs.declared.shape.ClipShape.{ClipShape}
use Rattle.mp_clip.specs.Clipped.{as_times, starts, CanTell}
use Rattle.mp_clip.specs.Shape.{IsShape, least}

times_some : (a b : ℕ) → 0 < a → 0 < b → 0 < a * b
times_some a b p q = grind arith

le-times : (a b k : ℕ) → a ≤ b → a * k ≤ b * k
le-times a b k le = grind arith

lt-times : (a b k : ℕ) → 0 < k → a < b → a * k < b * k
lt-times a b k some lt = grind arith

pos_injective : (a b : ℕ) → pos a ≡ pos b → a ≡ b
pos_injective a b e = omega (arith, ints, e)

module _ (whole : WholenessIsDivision) (unit scale by : ℕ) (some_unit : 0 < unit) (some_by : 0 < by) where
  all_whole : (ns : List ℕ) → AllByRecursion (IsWhole scale) (as_times unit ns) → AllByRecursion (IsWhole (scale * by)) (as_times unit ns)
  all_whole [] all = tt
  all_whole (n ∷ ns) all =
      let some = all.0.1.positive in
      let divides : unit ∣ n * scale = (whole scale (in_ticks (pos n) unit) some some_unit).0 all.0 in
      let more : unit ∣ n * (scale * by) = subst (λ (x : ℕ). unit ∣ x) (mul_assoc n scale by) (dvd-mul_right_of_dvd unit divides by) in
      ((whole (scale * by) (in_ticks (pos n) unit) (times_some scale by some some_by) some_unit).1 more, all_whole ns all.1)

-- the greatest number, told in ticks below the limit, is at or above each
below : (limit unit scale by found n : ℕ) → 0 < unit → n * scale ≡ found * unit → found * by < limit → n * (scale * by) < limit * unit
below limit unit scale by found n some e small =
    let lt = lt-times (found * by) limit unit some small in
    let same : n * (scale * by) ≡ found * by * unit = sym (mul_assoc n scale by) ∙ (ap (λ (x : ℕ). x * by) e ∙ turn found unit by) in
    omega (arith, lt, same)
  where
    turn : (f u b : ℕ) → f * u * b ≡ f * b * u
    turn f u b = omega arith

-- the least number, told in ticks from `back` on, is at or below each
above : (unit scale by back found n : ℕ) → n * scale ≡ found * unit → back ≤ found * by → back * unit ≤ n * (scale * by)
above unit scale by back found n e le =
    let more = le-times back (found * by) unit le in
    let same : n * (scale * by) ≡ found * by * unit = sym (mul_assoc n scale by) ∙ (ap (λ (x : ℕ). x * by) e ∙ turn found unit by) in
    omega (arith, more, same)
  where
    turn : (f u b : ℕ) → f * u * b ≡ f * b * u
    turn f u b = omega arith

all_from : (low scale : ℕ) (ns : List ℕ) → low ≤ least ns * scale → AllByRecursion (λ n. low ≤ n * scale) ns
all_from low scale [] le = tt
all_from low scale (n ∷ []) le = (le, tt)
all_from low scale (n ∷ m ∷ ns) le =
    let first = le-times (min n (least (m ∷ ns))) n scale (omega arith) in
    let rest = le-times (min n (least (m ∷ ns))) (least (m ∷ ns)) scale (omega arith) in
    (omega (arith, first, le), all_from low scale (m ∷ ns) (omega (arith, rest, le)))

all_below : (limit scale : ℕ) (ns : List ℕ) → greatest ns * scale < limit → AllByRecursion (λ n. n * scale < limit) ns
all_below limit scale [] small = tt
all_below limit scale (n ∷ ns) small =
    let first = le-times n (max n (greatest ns)) scale (omega arith) in
    let rest = le-times (greatest ns) (max n (greatest ns)) scale (omega arith) in
    (omega (arith, first, small), all_below limit scale ns (omega (arith, rest, small)))

pub told_in_multiples : WholenessIsDivision → (media movie unit : ℕ) (pieces : List Segment) (shape : ClipShape) (by movie_by back : ℕ) → IsShape media movie unit pieces shape → 0 < by → 0 < movie_by
    → back ≤ shape.least * by → shape.greatest * by < 2 ^ 62 + back → shape.total * movie_by < 2 ^ 62 → CanTell unit (shape.media_scale * by) (shape.movie_scale * movie_by) back pieces
told_in_multiples whole media movie unit pieces shape by movie_by back is some_by some_movie_by late early short =
    let some = is.total.positive in
    record {
      whole_starts = all_whole whole unit shape.media_scale by some some_by (starts pieces) is.media_scale.0.serves.whole;
      late = all_from (back * unit) (shape.media_scale * by) (starts pieces) (above unit shape.media_scale by back shape.least (least (starts pieces)) (pos_injective _ _ is.least.crosswise) late);
      early = all_below ((2 ^ 62 + back) * unit) (shape.media_scale * by) (starts pieces) (below (2 ^ 62 + back) unit shape.media_scale by shape.greatest (greatest (starts pieces)) some (pos_injective _ _ is.greatest.crosswise) early);
      whole_durations = all_whole whole unit shape.movie_scale movie_by some some_movie_by (map duration pieces) is.movie_scale.0.serves.whole;
      short = below (2 ^ 62) unit shape.movie_scale movie_by shape.total (total pieces) some (pos_injective _ _ is.total.crosswise) short;
    }
