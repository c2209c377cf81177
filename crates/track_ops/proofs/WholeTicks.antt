-- Ticks that are whole in another scale.
use Rattle.std.proofs.Common.{◌≡◌, ℕ, ◌*◌, ◌%◌, ◌==◌, ◌&&◌, Bool, true, List, [], ◌∷◌, refl, sym, ap, ◌∙◌, inl, inr}
use Rattle.std.specs.List.{AllByRecursion, list_all}
use Rattle.std.specs.Int.{◌∣◌}
use Rattle.std.proofs.Math.Nat.{dvd_trans, mul-dvd-mul_right}
use Rattle.std.proofs.lemmas.Nat.Gcd.{dvd_of_mod-eq-zero, mod-eq-zero_of_dvd}
use Rattle.std.proofs.lemmas.Bool.{cases_Bool, eq-eqb, eqb-true}
use Rattle.mp_frac.specs.Divisors.{IsGreatestCommon}
use Rattle.track_ops.specs.KeptTimes.{are_whole}
use Rattle.track_ops.specs.Scales.{is_whole}
use Rattle.track_ops.proofs.JoinedScales.{times_of}
use Rattle.track_ops.proofs.LeastScales.{both}

pub tested : (old new number : ℕ) → old ∣ number * new → (number * new % old == 0) ≡ true
tested old new number whole = eq-eqb _ 0 (mod-eq-zero_of_dvd old whole)

pub by_test : (old new number : ℕ) → (number * new % old == 0) ≡ true → old ∣ number * new
by_test old new number test = dvd_of_mod-eq-zero old (eqb-true _ 0 test)

pub all_divided : (old new : ℕ) (ticks : List ℕ) → are_whole old new ticks ≡ true → AllByRecursion (λ number. old ∣ number * new) ticks
all_divided old new [] whole = tt
all_divided old new (number ∷ ticks) whole =
    let each = both (number * new % old == 0) (are_whole old new ticks) whole in
    (by_test old new number each.0, all_divided old new ticks each.1)

pub all_tested : (old new : ℕ) (ticks : List ℕ) → AllByRecursion (λ number. old ∣ number * new) ticks → are_whole old new ticks ≡ true
all_tested old new [] all = refl
all_tested old new (number ∷ ticks) all = rw (tested old new number all.0) (all_tested old new ticks all.1)

each_divided : (old new divisor : ℕ) (ticks : List ℕ) → old ∣ divisor * new → AllByRecursion (λ number. divisor ∣ number) ticks → AllByRecursion (λ number. old ∣ number * new) ticks
each_divided old new divisor [] h all = tt
each_divided old new divisor (number ∷ ticks) h all = (dvd_trans old h (mul-dvd-mul_right divisor all.0 new), each_divided old new divisor ticks h all.1)

-- ticks are whole where their common divisor is
pub by_divisor : (old new divisor : ℕ) (ticks : List ℕ) → IsGreatestCommon ticks divisor → (divisor * new % old == 0) ≡ are_whole old new ticks
by_divisor old new divisor ticks common =
    elim (cases_Bool (divisor * new % old == 0)) [
      | inl whole ↦ whole ∙ sym (all_tested old new ticks (each_divided old new divisor ticks (by_test old new divisor whole) common.divides))
      | inr none ↦
          elim (cases_Bool (are_whole old new ticks)) [
            | inl all ↦ let whole = tested old new divisor (common.divided new old (all_divided old new ticks all)) in cc
            | inr other ↦ none ∙ sym other
          ]
    ]

-- the test of times is that of ticks
pub times_whole : (old new : ℕ) (ticks : List ℕ) → list_all (is_whole new) (times_of old ticks) ≡ are_whole old new ticks
times_whole old new [] = refl
times_whole old new (number ∷ ticks) = ap (λ (more : Bool). (number * new % old == 0) && more) (times_whole old new ticks)
