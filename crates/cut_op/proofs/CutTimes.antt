-- The times of a cut: how long a track lasts of which a part is left, and moments in that part, in whole numbers.
use Rattle.std.proofs.Common.{◌≡◌, ℕ, suc, ◌+◌, ◌-◌, ◌*◌, ◌<◌, ◌≤◌, min, ltb, ℤ, pos, negsuc, neg_ℤ, ◌+ℤ◌, ◌-ℤ◌, ◌*ℤ◌, refl, sym, ap, subst, ◌∙◌, arith}
use Rattle.std.specs.Prelude.{int_lt, unsigned_abs}
use Rattle.std.proofs.lemmas.Int.{ints}
use Rattle.std.proofs.Math.IntN.{pos-*ℤ-pos, negsuc-*ℤ-pos}
use Rattle.std.proofs.Math.Nat.{eq_of_mul-eq-mul_right, le_of_mul-le-mul_right}
use Rattle.cut_op.proofs.Units.{add-times, le-times, sub-times, times_some}

-- ---- how long a track lasts of which a part is left

-- it lasted `lasts` of `scale` a second, which is l / k seconds, and now lasts `new` of `scales`
module _ (s c e g l k lasts scale new scales : ℕ) (some_k : 0 < k) (some_scale : 0 < scale) (some_c : 0 < c) (some_g : 0 < g)
    (same : lasts * k ≡ l * scale) (is : new * (scale * (c * g)) ≡ (min (lasts * (c * g)) (e * c * scale) - s * g * scale) * scales) where
  whole : lasts * (c * g) * k ≡ l * (scale * (c * g))
  whole = turn lasts c g k ∙ (ap (λ (x : ℕ). x * (c * g)) same ∙ turn_back l scale c g)
    where
      turn : (t c g k : ℕ) → t * (c * g) * k ≡ t * k * (c * g)
      turn t c g k = omega arith

      turn_back : (l s c g : ℕ) → l * s * (c * g) ≡ l * (s * (c * g))
      turn_back l s c g = omega arith

  -- nothing is left of it
  pub lasts_none : l * c ≤ s * k → new ≡ 0
  lasts_none le =
      let behind : lasts * (c * g) ≤ s * g * scale = le_of_mul-le-mul_right (subst (λ (x : ℕ). x ≤ s * g * scale * k) (sym whole) (product le)) some_k in
      let none : min (lasts * (c * g)) (e * c * scale) - s * g * scale ≡ 0 = omega (arith, behind) in
      zero_of new (scale * (c * g)) (times_some scale (c * g) some_scale (times_some c g some_c some_g)) (is ∙ ap (λ (x : ℕ). x * scales) none)
    where
      product : l * c ≤ s * k → l * (scale * (c * g)) ≤ s * g * scale * k
      product le = let h = le-times (l * c) (s * k) (scale * g) le in omega (arith, h)

      zero_of : (n m : ℕ) → 0 < m → n * m ≡ 0 * scales → n ≡ 0
      zero_of n m some e = grind (arith, e)

  -- it lasts up to the end
  pub lasts_to_end : e * k ≤ l * g → new * (g * c) ≡ (e * c - s * g) * scales
  lasts_to_end le =
      let before : e * c * scale ≤ lasts * (c * g) = le_of_mul-le-mul_right (subst (λ (x : ℕ). e * c * scale * k ≤ x) (sym whole) (product le)) some_k in
      let least : min (lasts * (c * g)) (e * c * scale) ≡ e * c * scale = omega (arith, before) in
      eq_of_mul-eq-mul_right scale some_scale (new * (g * c)) ((e * c - s * g) * scales)
      (turn new g c scale ∙ (is ∙ (ap (λ (x : ℕ). (x - s * g * scale) * scales) least ∙ (ap (λ (x : ℕ). x * scales) (sub-times (e * c) (s * g) scale) ∙ swap (e * c - s * g) scale scales))))
    where
      product : e * k ≤ l * g → e * c * scale * k ≤ l * (scale * (c * g))
      product le = let h = le-times (e * k) (l * g) (scale * c) le in omega (arith, h)

      turn : (n g c s : ℕ) → n * (g * c) * s ≡ n * (s * (c * g))
      turn n g c s = omega arith

      swap : (d a b : ℕ) → d * a * b ≡ d * b * a
      swap d a b = omega arith

  -- it ends before
  pub lasts_before_end : l * g ≤ e * k → new * (k * c) ≡ (l * c - s * k) * scales
  lasts_before_end le =
      let before : lasts * (c * g) ≤ e * c * scale = le_of_mul-le-mul_right (subst (λ (x : ℕ). x ≤ e * c * scale * k) (sym whole) (product le)) some_k in
      let least : min (lasts * (c * g)) (e * c * scale) ≡ lasts * (c * g) = omega (arith, before) in
      let told : new * (scale * (c * g)) ≡ (lasts * (c * g) - s * g * scale) * scales = is ∙ ap (λ (x : ℕ). (x - s * g * scale) * scales) least in
      let finer : (lasts * (c * g) - s * g * scale) * k ≡ (l * c - s * k) * (scale * g) =
      sym (sub-times (lasts * (c * g)) (s * g * scale) k) ∙ (ap (λ (x : ℕ). x - s * g * scale * k) (whole ∙ left l scale c g) ∙ (ap (λ (x : ℕ). l * c * (scale * g) - x) (right s g scale k) ∙ sub-times (l * c) (s * k) (scale * g))) in
      eq_of_mul-eq-mul_right (scale * g) (times_some scale g some_scale some_g) (new * (k * c)) ((l * c - s * k) * scales)
      (turn new k c scale g ∙ (ap (λ (x : ℕ). x * k) told ∙ (swap (lasts * (c * g) - s * g * scale) scales k ∙ (ap (λ (x : ℕ). x * scales) finer ∙ swap (l * c - s * k) (scale * g) scales))))
    where
      product : l * g ≤ e * k → l * (scale * (c * g)) ≤ e * c * scale * k
      product le = let h = le-times (l * g) (e * k) (scale * c) le in omega (arith, h)

      left : (l s c g : ℕ) → l * (s * (c * g)) ≡ l * c * (s * g)
      left l s c g = omega arith

      right : (s g a k : ℕ) → s * g * a * k ≡ s * k * (a * g)
      right s g a k = omega arith

      turn : (n k c s g : ℕ) → n * (k * c) * (s * g) ≡ n * (s * (c * g)) * k
      turn n k c s g = omega arith

      swap : (d a b : ℕ) → d * a * b ≡ d * b * a
      swap d a b = omega arith

-- ---- whole numbers with a sign

-- what has a product that is not below 0 is not below 0
pub natural_of : (z : ℤ) (k n : ℕ) → 0 < k → z *ℤ pos k ≡ pos n → z ≡ pos (unsigned_abs z)
natural_of (pos m) k n some e = refl
natural_of (negsuc m) k n some e = absurd (below (suc m * k) (times_some (suc m) k (omega arith) some) (sym (negsuc-*ℤ-pos m k) ∙ e))
  where
    below : (x : ℕ) → 0 < x → neg_ℤ (pos x) ≡ pos n → ⊥
    below x some e = omega (arith, ints, some, e)

pub minus-times : (a b k : ℕ) → (pos a -ℤ pos b) *ℤ pos k ≡ pos (a * k) -ℤ pos (b * k)
minus-times a b k =
    let h = add-times (pos a -ℤ pos b) (pos b) k in
    let back : (pos a -ℤ pos b) +ℤ pos b ≡ pos a = omega (arith, ints) in
    let all : pos (a * k) ≡ (pos a -ℤ pos b) *ℤ pos k +ℤ pos (b * k) =
    sym (pos-*ℤ-pos a k) ∙ (ap (λ (z : ℤ). z *ℤ pos k) (sym back) ∙ (h ∙ ap (λ (z : ℤ). (pos a -ℤ pos b) *ℤ pos k +ℤ z) (pos-*ℤ-pos b k))) in
    omega (arith, ints, all)

-- a difference times a number
pub difference_of : (a b k y : ℕ) → b ≤ a → y ≡ (a - b) * k → pos y ≡ (pos a -ℤ pos b) *ℤ pos k
difference_of a b k y le is =
    let less = sub-times a b k in
    let short = le-times b a k le in
    ap pos (is ∙ sym less) ∙ (apart (a * k) (b * k) short ∙ sym (minus-times a b k))
  where
    apart : (x y : ℕ) → y ≤ x → pos (x - y) ≡ pos x -ℤ pos y
    apart x y le = omega (arith, ints, le)

-- ---- moments

lt-moved : (x a b : ℕ) → int_lt (pos x) (pos a -ℤ pos b) ≡ ltb (x + b) a
lt-moved x a b = grind (arith, ints)

-- n / d is before e / g less s / c exactly where s / c and n / d are before e / g
pub before_less : (s c e g n d : ℕ) → int_lt (pos (s * d + n * c) *ℤ pos g) (pos e *ℤ pos (c * d)) ≡ int_lt (pos n *ℤ pos (g * c)) ((pos e *ℤ pos c -ℤ pos s *ℤ pos g) *ℤ pos d)
before_less s c e g n d = tests (pos-*ℤ-pos (s * d + n * c) g) (pos-*ℤ-pos e (c * d)) ∙ (same ∙ (sym (lt-moved (n * (g * c)) (e * c * d) (s * g * d)) ∙ sym (tests (pos-*ℤ-pos n (g * c)) moved)))
  where
    tests : {a b x y : ℤ} → a ≡ x → b ≡ y → int_lt a b ≡ int_lt x y
    tests {a} {b} {x} {y} p q = ap (λ (z : ℤ). int_lt z b) p ∙ ap (λ (z : ℤ). int_lt x z) q

    moved : (pos e *ℤ pos c -ℤ pos s *ℤ pos g) *ℤ pos d ≡ pos (e * c * d) -ℤ pos (s * g * d)
    moved =
        ap (λ (z : ℤ). (z -ℤ pos s *ℤ pos g) *ℤ pos d) (pos-*ℤ-pos e c)
        ∙ (ap (λ (z : ℤ). (pos (e * c) -ℤ z) *ℤ pos d) (pos-*ℤ-pos s g) ∙ minus-times (e * c) (s * g) d)

    same : ltb ((s * d + n * c) * g) (e * (c * d)) ≡ ltb (n * (g * c) + s * g * d) (e * c * d)
    same = let left : (s * d + n * c) * g ≡ n * (g * c) + s * g * d = omega arith in let right : e * (c * d) ≡ e * c * d = omega arith in rw (left, right) refl

-- s / c and n / d together
pub plus_is : (s c n d : ℕ) → pos s *ℤ pos d +ℤ pos n *ℤ pos c ≡ pos (s * d + n * c)
plus_is s c n d = ap (λ (z : ℤ). z +ℤ pos n *ℤ pos c) (pos-*ℤ-pos s d) ∙ (ap (λ (z : ℤ). pos (s * d) +ℤ z) (pos-*ℤ-pos n c) ∙ sum (s * d) (n * c))
  where
    sum : (a b : ℕ) → pos a +ℤ pos b ≡ pos (a + b)
    sum a b = omega (arith, ints)
