-- Ticks with a sign, in ticks of another scale.
use Rattle.std.proofs.Common.{◌≡◌, ℕ, zero, suc, ◌-◌, ◌*◌, ◌/◌, ◌^◌, ◌<◌, ◌≤◌, max, nat_lt, Bool, ℤ, pos, negsuc, neg_ℤ, ◌*ℤ◌, int_div, int_rem, All, List, [], ◌∷◌, map, get_or, refl, sym, ap, ◌∙◌, subst, arith, inl, inr, FitsSigned, w64}
use Rattle.std.specs.Prelude.{fold, unsigned_abs}
use Rattle.std.specs.Int.{◌∣◌}
use Rattle.std.proofs.Math.Nat.{div-mul_cancel, mul-div_cancel, zero-div, mul-le-mul_right, mul-div-le, dvd_of_mul-dvd-mul_left, dvd-mul_right, mul_comm, mul-div_cancel', pos_of_dvd_of_pos}
use Rattle.std.proofs.lemmas.Bool.{cases_lt}
use Rattle.std.proofs.lemmas.Int.{ints}
use Rattle.std.proofs.Math.IntN.{pos-*ℤ-pos, negsuc-*ℤ-pos}
use Rattle.std.proofs.lemmas.Nat.{le-div}
use Rattle.std.proofs.lemmas.Nat.Gcd.{mod-eq-zero_of_dvd}
use Rattle.std.proofs.lemmas.List.Elements.{All-cons, All-nil}
use Rattle.mp_columns.specs.Numbers.{largest}
use Rattle.mp_movie.specs.PartsFit.{is_long}
use Rattle.mp_frac.specs.Divisors.{IsGreatestCommon}
use Rattle.track_ops.specs.declared.ticks.Ratio.{Ratio}
use Rattle.track_ops.specs.KeptTimes.{FitsIn, IsRatio, IsWholeIn, column_in_scale}
use Rattle.track_ops.specs.Scales.{in_scale}
use Rattle.track_ops.specs.Ticks.{signed_in_scale}

neg_quotient : (m k : ℕ) → int_div (neg_ℤ (pos m)) (pos k) ≡ neg_ℤ (pos (m / k))
neg_quotient zero k = rw (zero-div k) refl
neg_quotient (suc m) k = refl

pub signed_pos : (old new n : ℕ) → signed_in_scale old new (pos n) ≡ pos (in_scale old new n)
signed_pos old new n = ap (λ (x : ℤ). int_div x (pos old)) (pos-*ℤ-pos n new)

pub signed_neg : (old new n : ℕ) → signed_in_scale old new (negsuc n) ≡ neg_ℤ (pos (in_scale old new (suc n)))
signed_neg old new n = ap (λ (x : ℤ). int_div x (pos old)) (negsuc-*ℤ-pos n new) ∙ neg_quotient (suc n * new) old

abs_neg : (n : ℕ) → unsigned_abs (neg_ℤ (pos n)) ≡ n
abs_neg zero = refl
abs_neg (suc n) = refl

pub signed_abs : (old new : ℕ) (x : ℤ) → unsigned_abs (signed_in_scale old new x) ≡ in_scale old new (unsigned_abs x)
signed_abs old new (pos n) = ap unsigned_abs (signed_pos old new n)
signed_abs old new (negsuc n) = ap unsigned_abs (signed_neg old new n) ∙ abs_neg (in_scale old new (suc n))

-- ---- the greatest number of a column

scale_le : (old new a b : ℕ) → 0 < old → a ≤ b → in_scale old new a ≤ in_scale old new b
scale_le old new a b some le = let less = mul-le-mul_right new le in let low = mul-div-le (a * new) old in le-div (in_scale old new a) (b * new) old some (omega (arith, less, low))

scale_max : (old new a b : ℕ) → 0 < old → max (in_scale old new a) (in_scale old new b) ≡ in_scale old new (max a b)
scale_max old new a b some = elim (cases_lt a b) [
  | inl less ↦ let le = scale_le old new a b some (omega (arith, less)) in let m : max a b ≡ b = omega (arith, less) in omega (arith, le) ∙ ap (in_scale old new) (sym m)
  | inr more ↦ let le = scale_le old new b a some more in let m : max a b ≡ a = omega (arith, more) in omega (arith, le) ∙ ap (in_scale old new) (sym m)
]

largest_so_far : (old new most : ℕ) (xs : List ℤ) → 0 < old
    → fold (λ (m : ℕ) (x : ℤ). max m (unsigned_abs x)) (in_scale old new most) (column_in_scale old new xs) ≡ in_scale old new (fold (λ (m : ℕ) (x : ℤ). max m (unsigned_abs x)) most xs)
largest_so_far old new most [] some = refl
largest_so_far old new most (x ∷ xs) some =
    ap (λ (m : ℕ). fold (λ (m : ℕ) (x : ℤ). max m (unsigned_abs x)) m (column_in_scale old new xs))
    (ap (λ (n : ℕ). max (in_scale old new most) n) (signed_abs old new x) ∙ scale_max old new most (unsigned_abs x) some)
    ∙ largest_so_far old new (max most (unsigned_abs x)) xs some

pub largest_in_scale : (old new : ℕ) (xs : List ℤ) → 0 < old → largest (column_in_scale old new xs) ≡ in_scale old new (largest xs)
largest_in_scale old new xs some =
    ap (λ (m : ℕ). fold (λ (m : ℕ) (x : ℤ). max m (unsigned_abs x)) m (column_in_scale old new xs)) (sym (ap (λ (n : ℕ). n / old) zeros ∙ zero-div old))
    ∙ largest_so_far old new 0 xs some
  where
    zeros : 0 * new ≡ 0
    zeros = omega arith

-- ---- divided and multiplied

quotient : (n g p q : ℕ) → 0 < g * p → p ∣ n → n / p * q ≡ n * (g * q) / (g * p)
quotient n g p q some h = sym (ap (λ (x : ℕ). x / (g * p)) whole ∙ mul-div_cancel (n / p * q) some)
  where
    turn : (m : ℕ) → m * p * (g * q) ≡ m * q * (g * p)
    turn m = omega arith

    whole : n * (g * q) ≡ n / p * q * (g * p)
    whole = ap (λ (x : ℕ). x * (g * q)) (sym (div-mul_cancel p h)) ∙ turn (n / p)

pub neg_times : (a q : ℕ) → neg_ℤ (pos a) *ℤ pos q ≡ neg_ℤ (pos (a * q))
neg_times zero q = omega (arith, ints)
neg_times (suc a) q = negsuc-*ℤ-pos a q

pub one_retimed : (g p q : ℕ) (x : ℤ) → 0 < g * p → p ∣ unsigned_abs x → int_div x (pos p) *ℤ pos q ≡ signed_in_scale (g * p) (g * q) x
one_retimed g p q (pos n) some h = pos-*ℤ-pos (n / p) q ∙ (ap pos (quotient n g p q some h) ∙ sym (signed_pos (g * p) (g * q) n))
one_retimed g p q (negsuc n) some h =
    neg_times (suc n / p) q ∙ (ap (λ (m : ℕ). neg_ℤ (pos m)) (quotient (suc n) g p q some h) ∙ sym (signed_neg (g * p) (g * q) n))

no_rest : (p : ℕ) (x : ℤ) → p ∣ unsigned_abs x → int_rem x (pos p) ≡ pos 0
no_rest p (pos n) h = ap pos (mod-eq-zero_of_dvd p h)
no_rest p (negsuc n) h = ap (λ (m : ℕ). neg_ℤ (pos m)) (mod-eq-zero_of_dvd p h)

-- ---- a column, by what the two scales have in common

module _ (old new g p q : ℕ) (some : 0 < old) (common : IsGreatestCommon (old ∷ new ∷ []) g) (down : old ≡ g * p) (up : new ≡ g * q) where
  some_product : 0 < g * p
  some_product = subst (λ (x : ℕ). 0 < x) down some

  some_g : (g p : ℕ) → 0 < g * p → 0 < g
  some_g zero p h = absurd (omega (arith, h))
  some_g (suc g) p h = omega arith

  -- what is whole in the new scale is divided by what the old one has alone
  pub divided : (n : ℕ) → old ∣ n * new → p ∣ n
  divided n h =
      let both : old ∣ g * n = common.divided n old (dvd-mul_right old n, (subst (λ (x : ℕ). old ∣ x) (mul_comm n new) h, tt)) in
      dvd_of_mul-dvd-mul_left p (some_g g p some_product) (subst (λ (x : ℕ). x ∣ g * n) down both)

  pub all_divided : (column : List ℤ) → All (IsWholeIn old new) column → All (λ x. int_rem x (pos p) ≡ pos 0) column
  all_divided column whole = λ i d lt. no_rest p (get_or column i d) (divided (unsigned_abs (get_or column i d)) (whole i d lt))

  pub one_is : (x : ℤ) → IsWholeIn old new x → int_div x (pos p) *ℤ pos q ≡ signed_in_scale old new x
  one_is x whole =
      one_retimed g p q x some_product (divided (unsigned_abs x) whole)
      ∙ (ap (λ (a : ℕ). signed_in_scale a (g * q) x) (sym down) ∙ ap (λ (b : ℕ). signed_in_scale old b x) (sym up))

  pub column_is : (column : List ℤ) → All (IsWholeIn old new) column → map (λ x. x *ℤ pos q) (map (λ x. int_div x (pos p)) column) ≡ column_in_scale old new column
  column_is [] whole = refl
  column_is (x ∷ column) whole = cons (one_is x (whole 0 x (omega arith))) (column_is column (λ i d lt. whole (suc i) d (omega (arith, lt))))
    where
      cons : {a b : ℤ} {xs ys : List ℤ} → a ≡ b → xs ≡ ys → a ∷ xs ≡ b ∷ ys
      cons p q = λ i. p i ∷ q i

  pub all_fit : (column : List ℤ) → All (IsWholeIn old new) column → All (FitsIn old new) column → All (λ x. FitsSigned w64 (x *ℤ pos q)) (map (λ x. int_div x (pos p)) column)
  all_fit [] whole fits = All-nil (λ (x : ℤ). FitsSigned w64 (x *ℤ pos q))
  all_fit (x ∷ column) whole fits =
      All-cons (λ (x : ℤ). FitsSigned w64 (x *ℤ pos q)) (int_div x (pos p)) (map (λ x. int_div x (pos p)) column)
      (subst (FitsSigned w64) (sym (one_is x (whole 0 x (omega arith)))) (fits 0 x (omega arith)))
      (all_fit column (λ i d lt. whole (suc i) d (omega (arith, lt))) (λ i d lt. fits (suc i) d (omega (arith, lt))))

pub some_common : (old new g : ℕ) → 0 < old → IsGreatestCommon (old ∷ new ∷ []) g → 0 < g
some_common old new g some common = pos_of_dvd_of_pos common.divides.0 some

pub some_down : (old g p : ℕ) → 0 < old → old ≡ g * p → 1 ≤ p
some_down old g zero some is = let none : g * 0 ≡ 0 = omega arith in absurd (omega (arith, some, is, none))
some_down old g (suc p) some is = omega arith

pub is_ratio : (old new g : ℕ) (ratio : Ratio) → IsGreatestCommon (old ∷ new ∷ []) g → ratio.down ≡ old / g → ratio.up ≡ new / g → IsRatio old new ratio
is_ratio old new g ratio common down up = record {
  common = g;
  greatest = common;
  down = sym (mul-div_cancel' g common.divides.0) ∙ ap (λ (x : ℕ). g * x) (sym down);
  up = sym (mul-div_cancel' g common.divides.1.0) ∙ ap (λ (x : ℕ). g * x) (sym up);
}

-- whether the greatest number is above 32 bits
pub long_told : (old new : ℕ) (column : List ℤ) (longest : ℕ) (result : Bool) → 0 < old → longest ≡ in_scale old new (largest column) → result ≡ nat_lt (2 ^ 32 - 1) longest → result ≡ is_long (column_in_scale old new column)
long_told old new column longest result some is test = test ∙ ap (λ (n : ℕ). nat_lt (2 ^ 32 - 1) n) (is ∙ sym (largest_in_scale old new column some))

-- of the same ticks and the same scale
pub whole_moved : (old other new : ℕ) (xs ys : List ℤ) → old ≡ other → xs ≡ ys → All (IsWholeIn old new) xs → All (IsWholeIn other new) ys
whole_moved old other new xs ys same alike whole = subst (λ (zs : List ℤ). All (IsWholeIn other new) zs) alike (subst (λ (s : ℕ). All (IsWholeIn s new) xs) same whole)
