-- A text is compared with two joined ones.
use Rattle.std.proofs.Common.{◌≡◌, ℕ, List, [], ◌∷◌, ◌++◌, Bool, true, false, ◌&&◌, take, drop, length, bytes_eq, nat_eq, refl, ap, ◌∙◌}

grouped : (a b c : Bool) → a && (b && c) ≡ a && b && c
grouped true b c = refl
grouped false b c = refl

-- with the first, and with the second behind it
pub apart : (text first second : List ℕ) → bytes_eq text (first ++ second) ≡ bytes_eq (take (length first) text) first && bytes_eq (drop (length first) text) second
apart text [] second = refl
apart [] (y ∷ first) second = refl
apart (x ∷ text) (y ∷ first) second = ap (λ (b : Bool). nat_eq x y && b) (apart text first second) ∙ grouped (nat_eq x y) _ _

pub begins : (text first second : List ℕ) → bytes_eq (take (length first) text) first ≡ true → bytes_eq text (first ++ second) ≡ bytes_eq (drop (length first) text) second
begins text first second e = apart text first second ∙ rw e refl

pub begins_otherwise : (text first second : List ℕ) → bytes_eq (take (length first) text) first ≡ false → bytes_eq text (first ++ second) ≡ false
begins_otherwise text first second e = apart text first second ∙ rw e refl
