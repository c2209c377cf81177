-- Items of an array, with a comma before each but the first.
use Rattle.std.proofs.Common.{◌≡◌, ℕ, ◌+◌, true, List, ◌∷◌, ◌++◌, nat_lt, rules, sym, append_assoc}
use Rattle.serde_json.specs.Data.{Data}
use Rattle.serde_json.specs.Written.{comma_if, compact_text, items_text}
use Rattle.mp_dump.specs.Json.{items}

-- the items behind so many, with the closing bracket
abbrev pub left : {A : Type 0} → (A → Data) → ℕ → List A → List ℕ
left value before xs = items_text (nat_lt 0 before) (items value xs)

-- the item behind so many
abbrev pub one : {A : Type 0} → (A → Data) → ℕ → A → List ℕ
one value before x = comma_if (nat_lt 0 before) ++ compact_text (value x)

pub is_later : (before : ℕ) → nat_lt 0 (before + 1) ≡ true
is_later before = search rules

pub next_item : {A : Type 0} (value : A → Data) (before : ℕ) (x : A) (xs : List A) → left value before (x ∷ xs) ≡ one value before x ++ left value (before + 1) xs
next_item value before x xs = rw (is_later before) (sym (append_assoc (comma_if (nat_lt 0 before)) (compact_text (value x)) (items_text true (items value xs))))
