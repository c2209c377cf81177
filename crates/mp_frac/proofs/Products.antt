-- Products of 128 bits.
use Rattle.std.proofs.Common.{◌≡◌, ℕ, ◌^◌, ◌<◌, ℤ, pos, ◌*ℤ◌, ◌<ℤ◌, int_div, int_rem, to_z, of_z, FitsSigned, refl, sym, ap, subst, ◌∙◌, arith}
use Rattle.std.specs.Int.{w128}
use Rattle.std.specs.Int.RustNames.{unsigned_abs}
use Rattle.std.proofs.lemmas.Int.{ints, to_z-of_z, fits_signed_mul, fits_signed_from_abs, quot_is, quot_fits, rem_is}

-- the code's product is the product
pub product_kept : (y r : ℤ) (k : ℕ) → r ≡ pos k → FitsSigned w128 y → FitsSigned w128 (y *ℤ pos k) → FitsSigned w128 (pos k)
    → to_z w128 (of_z w128 (to_z w128 (of_z w128 y) *ℤ to_z w128 (of_z w128 r))) ≡ y *ℤ pos k
product_kept y r k e fy fp fk = rw (e, to_z-of_z w128 y fy, to_z-of_z w128 (pos k) fk, to_z-of_z w128 (y *ℤ pos k) fp) refl

pub small_fits : (y : ℤ) → unsigned_abs y < 2 ^ 94 → FitsSigned w128 y
small_fits y h = fits_signed_from_abs w128 y (omega arith)

pub product_fits : (y : ℤ) (k : ℕ) → unsigned_abs y < 2 ^ 94 → k < 2 ^ 32 → FitsSigned w128 (y *ℤ pos k)
product_fits y k h q = fits_signed_mul w128 y (pos k) (2 ^ 94) (2 ^ 32) (omega arith) (omega arith) (omega arith)

-- the code's rest and quotient are the rest and the quotient
module _ (ticks divisor product : ℤ) (d : ℕ) (is : ticks ≡ product) (d_is : divisor ≡ pos d) (fits : FitsSigned w128 ticks) (d_fits : FitsSigned w128 divisor) where
  pub same_rest : of_z w128 (int_rem (to_z w128 (of_z w128 ticks)) (to_z w128 (of_z w128 divisor))) ≡ of_z w128 (int_rem product (pos d))
  same_rest = rw (to_z-of_z w128 ticks fits, to_z-of_z w128 divisor d_fits, is, d_is) refl

  pub rest_of : of_z w128 (int_rem (to_z w128 (of_z w128 ticks)) (to_z w128 (of_z w128 divisor))) ≡ 0 → int_rem product (pos d) ≡ pos 0
  rest_of e = sym (ap (λ (t : ℤ). int_rem t (pos d)) is) ∙ (sym (ap (int_rem ticks) d_is) ∙ (sym (rem_is w128 ticks divisor fits d_fits) ∙ ap (to_z w128) e))

  pub same_quotient : 0 < d → to_z w128 (of_z w128 (int_div (to_z w128 (of_z w128 ticks)) (to_z w128 (of_z w128 divisor)))) ≡ int_div product (pos d)
  same_quotient some = quot_is w128 ticks divisor fits d_fits (quot_fits w128 ticks divisor fits (subst (λ (x : ℤ). pos 0 <ℤ x) (sym d_is) (omega (arith, ints)))) ∙ rw (is, d_is) refl
