-- A scale that serves the times so far grows to one that serves the next one too.
use Rattle.std.proofs.Common.{◌≡◌, ℕ, ◌*◌, ◌<◌, ◌≤◌, List, [], ◌∷◌, arith, None}
use Rattle.std.specs.Prelude.{unsigned_abs}
use Rattle.std.specs.List.{AllByRecursion}
use Rattle.std.specs.Int.{◌∣◌}
use Rattle.std.proofs.Math.Nat.{dvd_refl, dvd_trans, mul-dvd-mul_left}
use Rattle.std.proofs.lemmas.Nat.Gcd.{le_of_dvd}
use Rattle.mp_frac.specs.declared.time.Frac.{Frac}
use Rattle.mp_frac.specs.Divisors.{LimitedBy, most}
use Rattle.mp_frac.specs.Law.{WholenessIsDivision}
use Rattle.mp_frac.specs.Time.{IsLeastWhole, IsWhole}
use Rattle.mp_movie.specs.Settling.{IsLeastServing, Serves, Settles}

-- what serves for all times is what serves, from the settled scale on, for those that are left
pub record AreLeft (scale : ℕ) (times : List Frac) (settled : ℕ) (rest : List Frac) : Type 0 where
  pub some : 0 < settled
  pub to : (other : ℕ) → Serves scale times other → Serves settled rest other
  pub back : (other : ℕ) → 0 < other → Serves settled rest other → Serves scale times other

pub all_left : (scale settled : ℕ) (times : List Frac) → 0 < scale → settled ≡ scale → AreLeft scale times settled times
all_left scale settled times some same = rw same (record { some = some; to = λ other h. h; back = λ other positive h. h })

-- what is whole in a scale is whole in its multiples
whole_in_multiple : WholenessIsDivision → (scale other : ℕ) (time : Frac) → 0 < scale → 0 < other → scale ∣ other → IsWhole scale time → IsWhole other time
whole_in_multiple law scale other time some positive multiple whole =
    let some_d = whole.1.other_positive in
    (law other time positive some_d).1 (dvd_trans time.d ((law scale time some some_d).0 whole) (mul-dvd-mul_left scale (unsigned_abs time.n) multiple))

pub one_less : WholenessIsDivision → (scale settled next : ℕ) (times rest : List Frac) (time : Frac) → AreLeft scale times settled (time ∷ rest) → IsLeastWhole settled time next → AreLeft scale times next rest
one_less law scale settled next times rest time l w = record {
  some = w.some;
  to = λ other h.
      let s = l.to other h in
      record { multiple = w.divides other s.multiple s.whole.0; whole = s.whole.1 };
  back = λ other positive h. l.back other positive (record {
    multiple = dvd_trans settled w.multiple h.multiple;
    whole = (whole_in_multiple law next other time w.some positive h.multiple w.whole, h.whole);
  });
}

pub none_serves : (scale settled : ℕ) (times rest : List Frac) (time : Frac) → AreLeft scale times settled (time ∷ rest) → LimitedBy most (IsLeastWhole settled time) None → Settles scale times None
none_serves scale settled times rest time l (next, w, above) = λ other positive h.
    let s = l.to other h in
    let le = le_of_dvd positive (w.divides other s.multiple s.whole.0) in
    omega (arith, above, le)

pub none_left : (scale settled : ℕ) (times : List Frac) → AreLeft scale times settled [] → IsLeastServing scale times settled
none_left scale settled times l = record {
  some = l.some;
  serves = l.back settled l.some (record { multiple = dvd_refl settled; whole = tt });
  divides = λ other h. (l.to other h).multiple;
}
