-- A walk that replaces each item by a function of it.
use Rattle.std.proofs.Common.{◌≡◌, ℕ, suc, ◌+◌, ◌<◌, ◌≤◌, FitsSigned, w64, to_z, of_z, List, [], ◌∷◌, ◌++◌, length, take, drop, map, get_or, set, All, ℤ, pos, ◌+ℤ◌, ◌*ℤ◌, int_div, int_rem, sym, ap, ◌∙◌, append_assoc, arith, refl}
use mir.Syntax.{Width}
use Rattle.std.specs.Prelude.{Vec}
use Rattle.std.specs.Vec.{with_items}
use Rattle.std.proofs.lemmas.Int.{quot-rem, quot_is, quot_fits, to_z-of_z, ints}
use Rattle.std.proofs.lemmas.List.{map_more, drop_more, set_at, length-map, length-take, with_items_is, get_or_at, take_all, drop_all, append-nil}

module _ {X : Type 0} (f : X → X) (xs : List X) (i : ℕ) (d : X) (lt : i < length xs) where
  front : length (map f (take i xs)) ≡ i
  front = length-map (take i xs) f ∙ omega (arith, length-take i xs)

  -- the items that are left begin with the one that comes
  left : map f (take i xs) ++ drop i xs ≡ map f (take i xs) ++ (get_or xs i d ∷ drop (i + 1) xs)
  left = ap (λ (ys : List X). map f (take i xs) ++ ys) (drop_more xs i d lt)

  -- the item that comes is still the old one
  pub comes_unchanged : (now : List X) → now ≡ map f (take i xs) ++ drop i xs → get_or now i d ≡ get_or xs i d
  comes_unchanged now e = ap (λ (ys : List X). get_or ys i d) (e ∙ left) ∙ get_or_at (map f (take i xs)) (get_or xs i d) (drop (i + 1) xs) d i front

  -- writing its image takes the walk one item on
  pub one_more : (now : List X) (image : X) → now ≡ map f (take i xs) ++ drop i xs → image ≡ f (get_or xs i d) → set now i image ≡ map f (take (i + 1) xs) ++ drop (i + 1) xs
  one_more now image e is =
      ap (λ (ys : List X). set ys i image) (e ∙ left)
      ∙ (set_at (map f (take i xs)) (get_or xs i d) (drop (i + 1) xs) image i front
      ∙ (ap (λ (y : X). map f (take i xs) ++ (y ∷ drop (i + 1) xs)) is
      ∙ (sym (append_assoc (map f (take i xs)) (f (get_or xs i d) ∷ []) (drop (i + 1) xs))
      ∙ ap (λ (ys : List X). ys ++ drop (i + 1) xs) (sym (map_more f xs i d lt)))))

-- a walk past the last item has replaced them all
pub all_done : {X : Type 0} (f : X → X) (xs now : List X) (i : ℕ) → now ≡ map f (take i xs) ++ drop i xs → length xs ≤ i → now ≡ map f xs
all_done f xs now i e past = e ∙ rw (take_all i xs past, drop_all i xs past) (append-nil (map f xs))

-- what stands in a vector when its elements were replaced
pub written_back : {X Z : Type 0} (f : X → X) (old : Vec X Z) (was now : List X) → was ≡ old.items → now ≡ map f was → (with_items old now).items ≡ map f old.items
written_back f old was now same is = with_items_is old now (omega (arith, ap length is, length-map was f, ap length same, old.ok.0)) ∙ (is ∙ ap (map f) same)

-- an exact quotient, times the divisor, is the number
pub exact_quotient : (x d : ℤ) → int_rem x d ≡ pos 0 → int_div x d *ℤ d ≡ x
exact_quotient x d e = let whole = quot-rem x d in omega (arith, ints)

-- so exact quotients, times the divisor, are the list
pub quotients_times : (k : ℕ) (xs : List ℤ) → All (λ x. int_rem x (pos k) ≡ pos 0) xs → map (λ x. x *ℤ pos k) (map (λ x. int_div x (pos k)) xs) ≡ xs
quotients_times k [] whole = refl
quotients_times k (x ∷ xs) whole =
    ap (λ (y : ℤ). y ∷ map (λ x. x *ℤ pos k) (map (λ x. int_div x (pos k)) xs)) (exact_quotient x (pos k) (whole 0 x (omega arith)))
    ∙ ap (λ (ys : List ℤ). x ∷ ys) (quotients_times k xs (λ i d lt. whole (suc i) d (omega arith)))

-- the code's product is the product
pub product_is : (w : Width) (x r : ℤ) (k : ℕ) → r ≡ pos k → FitsSigned w x → FitsSigned w (pos k) → FitsSigned w (x *ℤ pos k) → to_z w (of_z w (to_z w (of_z w x) *ℤ to_z w (of_z w r))) ≡ x *ℤ pos k
product_is w x r k e fits by_fits product_fits = rw (e, to_z-of_z w x fits, to_z-of_z w (pos k) by_fits, to_z-of_z w (x *ℤ pos k) product_fits) refl

-- the code's sum is the sum
pub sum_is : (x by : ℤ) → FitsSigned w64 x → FitsSigned w64 by → FitsSigned w64 (x +ℤ by) → to_z w64 (of_z w64 (to_z w64 (of_z w64 x) +ℤ to_z w64 (of_z w64 by))) ≡ x +ℤ to_z w64 (of_z w64 by)
sum_is x by fits by_fits sum_fits = rw (to_z-of_z w64 x fits, to_z-of_z w64 by by_fits, to_z-of_z w64 (x +ℤ by) sum_fits) refl

-- the code's quotient is the quotient
pub quotient_is : (w : Width) (x r : ℤ) (k : ℕ) → r ≡ pos k → 1 ≤ k → FitsSigned w x → FitsSigned w (pos k) → to_z w (of_z w (int_div (to_z w (of_z w x)) (to_z w (of_z w r)))) ≡ int_div x (pos k)
quotient_is w x r k e some fits by_fits = rw e (quot_is w x (pos k) fits by_fits (quot_fits w x (pos k) fits (omega (arith, ints))))
