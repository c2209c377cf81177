-- The scale that serves the tracks of two movies, by the greatest common divisor of the durations that are added.
use Rattle.std.proofs.Common.{◌≡◌, ℕ, zero, suc, pos, ◌*◌, ◌<◌, List, [], ◌∷◌, ◌++◌, map, Option, Some, None, arith}
use Rattle.std.specs.List.{AllByRecursion}
use Rattle.std.specs.Int.{◌∣◌}
use Rattle.std.proofs.Math.Nat.{dvd-zero, dvd_trans, dvd-mul_left_of_dvd, mul-dvd-mul_right}
use Rattle.std.proofs.lemmas.Nat.Gcd.{le_of_dvd}
use Rattle.mp_frac.specs.declared.time.Frac.{Frac}
use Rattle.mp_frac.specs.Divisors.{IsGreatestCommon, LimitedBy, most}
use Rattle.mp_frac.specs.Law.{WholenessIsDivision}
use Rattle.mp_frac.specs.Time.{IsLeastWhole, IsWhole, in_ticks}
use Rattle.mp_movie.specs.Settling.{Serves}
use Rattle.track_ops.specs.Scales.{settled}
use Rattle.track_ops.proofs.LeastScales.{AreTimes, settles}

-- so many ticks of a scale, each
abbrev pub times_of : ℕ → List ℕ → List Frac
times_of scale ticks = map (λ t. in_ticks (pos t) scale) ticks

pub all_joined : {A : Type 0} (P : A → Type 0) (xs ys : List A) → AllByRecursion P xs → AllByRecursion P ys → AllByRecursion P (xs ++ ys)
all_joined P [] ys front behind = behind
all_joined P (x ∷ xs) ys front behind = (front.0, all_joined P xs ys front.1 behind)

all_behind : {A : Type 0} (P : A → Type 0) (xs ys : List A) → AllByRecursion P (xs ++ ys) → AllByRecursion P ys
all_behind P [] ys all = all
all_behind P (x ∷ xs) ys all = all_behind P xs ys all.1

are_times : (scale : ℕ) (ticks : List ℕ) → 0 < scale → AreTimes (times_of scale ticks)
are_times scale [] some = tt
are_times scale (t ∷ ticks) some = (some, are_times scale ticks some)

-- ticks of a scale are whole in its multiples
own_whole : WholenessIsDivision → (scale lead m : ℕ) (ticks : List ℕ) → 0 < scale → 0 < m → lead ∣ m → AllByRecursion (λ t. scale ∣ lead) ticks → AllByRecursion (IsWhole m) (times_of scale ticks)
own_whole law scale lead m [] some positive multiple all = tt
own_whole law scale lead m (t ∷ ticks) some positive multiple all =
    ((law m (in_ticks (pos t) scale) positive some).1 (dvd-mul_left_of_dvd scale (dvd_trans scale all.0 multiple) t), own_whole law scale lead m ticks some positive multiple all.1)

-- ticks that a divisor divides are whole where it is
chosen_whole : WholenessIsDivision → (scale m divisor : ℕ) (ticks : List ℕ) → 0 < scale → 0 < m → AllByRecursion (λ t. divisor ∣ t) ticks → scale ∣ divisor * m → AllByRecursion (IsWhole m) (times_of scale ticks)
chosen_whole law scale m divisor [] some positive divides whole = tt
chosen_whole law scale m divisor (t ∷ ticks) some positive divides whole =
    ((law m (in_ticks (pos t) scale) positive some).1 (dvd_trans scale whole (mul-dvd-mul_right divisor divides.0 m)), chosen_whole law scale m divisor ticks some positive divides.1 whole)

chosen_divided : WholenessIsDivision → (scale m : ℕ) (ticks : List ℕ) → 0 < scale → 0 < m → AllByRecursion (IsWhole m) (times_of scale ticks) → AllByRecursion (λ t. scale ∣ t * m) ticks
chosen_divided law scale m [] some positive whole = tt
chosen_divided law scale m (t ∷ ticks) some positive whole =
    ((law m (in_ticks (pos t) scale) positive some).0 whole.0, chosen_divided law scale m ticks some positive whole.1)

-- what serves all times is a multiple of the lead in which the divisor is whole
divisor_whole : WholenessIsDivision → (own scale lead divisor other : ℕ) (owned ticks : List ℕ) → 0 < scale → 0 < other → IsGreatestCommon ticks divisor → Serves lead (times_of own owned ++ times_of scale ticks) other
    → IsWhole other (in_ticks (pos divisor) scale)
divisor_whole law own scale lead divisor other owned ticks some positive common serves =
    (law other (in_ticks (pos divisor) scale) positive some).1
    (common.divided other scale (chosen_divided law scale other ticks some positive (all_behind (IsWhole other) (times_of own owned) (times_of scale ticks) serves.whole)))

pub scale_settles : WholenessIsDivision → (own scale lead divisor : ℕ) (owned ticks : List ℕ) (result : Option ℕ) → 0 < own → 0 < scale → 0 < lead → AllByRecursion (λ t. own ∣ lead) owned → IsGreatestCommon ticks divisor
    → LimitedBy most (IsLeastWhole lead (in_ticks (pos divisor) scale)) result → settled lead (times_of own owned ++ times_of scale ticks) ≡ result
scale_settles law own scale lead divisor owned ticks None some_own some some_lead owns common (m, is, above) =
    settles law lead (times_of own owned ++ times_of scale ticks) None some_lead (all_joined _ (times_of own owned) (times_of scale ticks) (are_times own owned some_own) (are_times scale ticks some))
    (λ other positive serves.
    let le = le_of_dvd positive (is.divides other serves.multiple (divisor_whole law own scale lead divisor other owned ticks some positive common serves)) in
    omega (arith, above, le))
scale_settles law own scale lead divisor owned ticks (Some m) some_own some some_lead owns common (is, below) =
    settles law lead (times_of own owned ++ times_of scale ticks) (Some m) some_lead (all_joined _ (times_of own owned) (times_of scale ticks) (are_times own owned some_own) (are_times scale ticks some)) (
      record {
        some = is.some;
        serves = record {
          multiple = is.multiple;
          whole =
              all_joined (IsWhole m) (times_of own owned) (times_of scale ticks) (own_whole law own lead m owned some_own is.some is.multiple owns)
              (chosen_whole law scale m divisor ticks some is.some common.divides ((law m (in_ticks (pos divisor) scale) is.some some).0 is.whole));
        };
        divides = divides;
      },
      below,
    )
  where
    divides : (other : ℕ) → Serves lead (times_of own owned ++ times_of scale ticks) other → m ∣ other
    divides zero serves = dvd-zero m
    divides (suc n) serves = is.divides (suc n) serves.multiple (divisor_whole law own scale lead divisor (suc n) owned ticks some (omega arith) common serves)
