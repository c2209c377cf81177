-- Times in lowest terms, as fractions.
use Rattle.std.proofs.Common.{◌≡◌, ℕ, ℤ, zero, suc, pos, negsuc, ◌+◌, ◌-◌, ◌*◌, ◌/◌, ◌%◌, ◌^◌, ◌<◌, ◌≤◌, ◌*ℤ◌, ◌-ℤ◌, ◌≤ℤ◌, List, [], ◌∷◌, refl, sym, ap, subst, ◌∙◌, arith}
use Rattle.std.specs.Prelude.{unsigned_abs}
use Rattle.std.specs.Int.{◌∣◌}
use Rattle.std.proofs.lemmas.Int.{ints}
use Rattle.std.proofs.Math.Nat.{mul_assoc}
use Rattle.mp_frac.specs.declared.time.Frac.{Frac}
use Rattle.mp_frac.specs.Divisors.{IsGreatestCommon, most}
use Rattle.mp_frac.specs.Law.{WholenessIsDivision}
use Rattle.mp_frac.specs.Time.{IsInRange, IsSameTime, IsWhole}
use Rattle.cut_op.specs.Between.{between}
use Rattle.cut_op.proofs.LowestTerms.{lowest_least, lowest_same, lowest_short, some_lowest}

le-times : (a b k : ℕ) → a ≤ b → a * k ≤ b * k
le-times a b k le = grind arith

times_some : (a b : ℕ) → 0 < a → 0 < b → 0 < a * b
times_some a b p q = grind arith

module _ (time later : Frac) (n g : ℕ) (some_time : 0 < time.d) (some_later : 0 < later.d) (is : pos n ≡ later.n *ℤ pos time.d -ℤ time.n *ℤ pos later.d) (common : IsGreatestCommon (later.d * time.d ∷ n % (later.d * time.d) ∷ []) g) where
  some : 0 < later.d * time.d
  some = times_some later.d time.d some_later some_time

  pub difference_same : (length : Frac) → length.n ≡ pos (n / g) → length.d ≡ later.d * time.d / g → IsSameTime length (between time later)
  difference_same length n_is d_is = record {
    positive = subst (λ (x : ℕ). 0 < x) (sym d_is) (some_lowest n (later.d * time.d) g some common);
    other_positive = some;
    crosswise = rw (n_is, d_is, sym is) (ap pos (lowest_same n (later.d * time.d) g some common));
  }

  pub difference_range : (length : Frac) → length.n ≡ pos (n / g) → length.d ≡ later.d * time.d / g → length.d < 2 ^ 32 → n ≤ unsigned_abs later.n * time.d → unsigned_abs later.n ≤ 2 ^ 57 * later.d → IsInRange length
  difference_range length n_is d_is small within short =
      let product : unsigned_abs later.n * time.d ≤ 2 ^ 57 * later.d * time.d = le-times (unsigned_abs later.n) (2 ^ 57 * later.d) time.d short in
      let bound : n ≤ 2 ^ 57 * (later.d * time.d) = omega (arith, within, product, mul_assoc (2 ^ 57) later.d time.d) in
      let lowest = lowest_short n (later.d * time.d) g some common (2 ^ 57) bound in
      record {
        some = subst (λ (x : ℕ). 0 < x) (sym d_is) (some_lowest n (later.d * time.d) g some common);
        small = rw (n_is) (omega (arith, lowest, d_is, small));
      }

  pub difference_none : WholenessIsDivision → most < later.d * time.d / g → (scale : ℕ) → 0 < scale → IsWhole scale (between time later) → most < scale
  difference_none whole above scale some_scale is_whole =
      let divides : later.d * time.d ∣ n * scale = subst (λ (z : ℤ). later.d * time.d ∣ unsigned_abs z * scale) (sym is) ((whole scale (between time later) some_scale some).0 is_whole) in
      let least = lowest_least n (later.d * time.d) g some common scale some_scale divides in
      omega (arith, above, least)

-- ---- the difference of two products

natural_times : (z : ℤ) (k : ℕ) → pos 0 ≤ℤ z → z *ℤ pos k ≡ pos (unsigned_abs z * k)
natural_times (pos n) k le = refl
natural_times (negsuc n) k le = absurd (omega (arith, ints, le))

pub product_order : (a b : ℤ) (j k : ℕ) → 0 < j → pos 0 ≤ℤ b → (b *ℤ pos k) ≤ℤ (a *ℤ pos j) → unsigned_abs b * k ≤ unsigned_abs a * j
product_order (pos n) b j k some begin order = let product = natural_times b k begin in omega (arith, ints, order, product)
product_order (negsuc n) b zero k some begin order = absurd (omega (arith, some))
product_order (negsuc n) b (suc j) k some begin order = let product = natural_times b k begin in absurd (omega (arith, ints, order, product))

pub product_difference : (a b : ℤ) (j k : ℕ) → 0 < j → pos 0 ≤ℤ b → (b *ℤ pos k) ≤ℤ (a *ℤ pos j) → pos (unsigned_abs a * j - unsigned_abs b * k) ≡ a *ℤ pos j -ℤ b *ℤ pos k
product_difference (pos n) b j k some begin order = let product = natural_times b k begin in omega (arith, ints, order, product)
product_difference (negsuc n) b zero k some begin order = absurd (omega (arith, some))
product_difference (negsuc n) b (suc j) k some begin order = let product = natural_times b k begin in absurd (omega (arith, ints, order, product))

-- a number of 94 bits times one of 32
pub product_few : (n k : ℕ) → n < 2 ^ 94 → k < 2 ^ 32 → n * k < 2 ^ 127
product_few n k small short = let product = le-times n (2 ^ 94) k (omega (arith, small)) in omega (arith, product, short)
