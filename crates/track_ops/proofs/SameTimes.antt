-- Times that are the same, one after another.
use Rattle.std.proofs.Common.{◌≡◌, ℕ, zero, suc, ◌*◌, ◌<◌, ℤ, pos, negsuc, neg_ℤ, ◌+ℤ◌, ◌*ℤ◌, sym, ap, ◌∙◌, arith}
use Rattle.std.proofs.Math.IntN.{pos-*ℤ-pos, negsuc-*ℤ-pos}
use Rattle.std.proofs.Math.Nat.{eq_of_mul-eq-mul_right, mul_comm}
use Rattle.std.proofs.lemmas.Int.{ints}
use Rattle.mp_frac.specs.declared.time.Frac.{Frac}
use Rattle.mp_frac.specs.Time.{IsSameTime}

pos_injective : (m n : ℕ) → pos m ≡ pos n → m ≡ n
pos_injective m n e = cc

apart : (m n : ℕ) → 0 < n → pos m ≡ neg_ℤ (pos n) → ⊥
apart m n some e = omega (arith, ints, e)

some_product : (n s : ℕ) → 0 < s → 0 < suc n * s
some_product n s some = grind arith

cancel : (x y : ℤ) (s : ℕ) → 0 < s → x *ℤ pos s ≡ y *ℤ pos s → x ≡ y
cancel (pos m) (pos n) s some e = ap pos (eq_of_mul-eq-mul_right s some m n (pos_injective _ _ (sym (pos-*ℤ-pos m s) ∙ (e ∙ pos-*ℤ-pos n s))))
cancel (pos m) (negsuc n) s some e = absurd (apart (m * s) (suc n * s) (some_product n s some) (sym (pos-*ℤ-pos m s) ∙ (e ∙ negsuc-*ℤ-pos n s)))
cancel (negsuc m) (pos n) s some e = absurd (apart (n * s) (suc m * s) (some_product m s some) (sym (pos-*ℤ-pos n s) ∙ (sym e ∙ negsuc-*ℤ-pos m s)))
cancel (negsuc m) (negsuc n) s some e =
    let same : neg_ℤ (pos (suc m * s)) ≡ neg_ℤ (pos (suc n * s)) = sym (negsuc-*ℤ-pos m s) ∙ (e ∙ negsuc-*ℤ-pos n s) in
    let both : suc m * s ≡ suc n * s = omega (arith, ints, same) in
    let equal : suc m ≡ suc n = eq_of_mul-eq-mul_right s some (suc m) (suc n) both in
    ap negsuc (omega arith)

mul_suc : (v : ℤ) (n : ℕ) → v *ℤ pos (suc n) ≡ v *ℤ pos n +ℤ v
mul_suc v n = omega (arith, ints)

times_add : (a : ℤ) (j k : ℕ) → a *ℤ pos (j * suc k) ≡ a *ℤ pos (j * k) +ℤ a *ℤ pos j
times_add a j k = omega (arith, ints)

pub times_times : (a : ℤ) (j k : ℕ) → a *ℤ pos j *ℤ pos k ≡ a *ℤ pos (j * k)
times_times a j zero = omega (arith, ints)
times_times a j (suc k) =
    let h = times_times a j k in
    let p = mul_suc (a *ℤ pos j) k in
    let q = times_add a j k in
    omega (arith, ints)

pub plus_times : (x y : ℤ) (k : ℕ) → (x +ℤ y) *ℤ pos k ≡ x *ℤ pos k +ℤ y *ℤ pos k
plus_times x y zero = omega (arith, ints)
plus_times x y (suc k) =
    let h = plus_times x y k in
    let all = mul_suc (x +ℤ y) k in
    let first = mul_suc x k in
    let second = mul_suc y k in
    omega (arith, ints)

turned : (a : ℤ) (j k : ℕ) → a *ℤ pos j *ℤ pos k ≡ a *ℤ pos k *ℤ pos j
turned a j k = times_times a j k ∙ (ap (λ (n : ℕ). a *ℤ pos n) (mul_comm j k) ∙ sym (times_times a k j))

pub same_back : (a b : Frac) → IsSameTime a b → IsSameTime b a
same_back a b is = record { positive = is.other_positive; other_positive = is.positive; crosswise = sym is.crosswise }

pub same_onward : (a b c : Frac) → IsSameTime a b → IsSameTime b c → IsSameTime a c
same_onward a b c first second = record {
  positive = first.positive;
  other_positive = second.other_positive;
  crosswise = cancel (a.n *ℤ pos c.d) (c.n *ℤ pos a.d) b.d first.other_positive both;
}
  where
    both : a.n *ℤ pos c.d *ℤ pos b.d ≡ c.n *ℤ pos a.d *ℤ pos b.d
    both =
        turned a.n c.d b.d
        ∙ (ap (λ (z : ℤ). z *ℤ pos c.d) first.crosswise
        ∙ (turned b.n a.d c.d
        ∙ (ap (λ (z : ℤ). z *ℤ pos a.d) second.crosswise ∙ turned c.n b.d a.d)))

pub some_left : (a b : ℕ) → 0 < a * b → 0 < a
some_left zero b some = absurd (omega (arith, some))
some_left (suc a) b some = omega arith

pub some_right : (a b : ℕ) → 0 < a * b → 0 < b
some_right a zero some = let none : a * 0 ≡ 0 = omega arith in absurd (omega (arith, some, none))
some_right a (suc b) some = omega arith
