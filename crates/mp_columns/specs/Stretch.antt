-- Lists cut into the longest stretches of items that are alike.
use Rattle.std.specs.Prelude.{ℕ, Bool, List, [], ◌∷◌, length, if◌then◌else◌}

-- items in a row, at least one
pub record Stretch (A : Type 0) : Type 0 where
  pub first : A
  pub others : List A

-- its items
abbrev pub items_of : {A : Type 0} → Stretch A → List A
items_of stretch = stretch.first ∷ stretch.others

-- how many they are
abbrev pub count_of : {A : Type 0} → Stretch A → ℕ
count_of stretch = length (items_of stretch)

-- an item in front of stretches: it joins the first one where they are alike
abbrev pub in_front : {A : Type 0} → (A → A → Bool) → A → List (Stretch A) → List (Stretch A)
in_front alike item [] = record { first = item; others = [] } ∷ []
in_front alike item (next ∷ rest) =
    if alike item next.first then record { first = item; others = items_of next } ∷ rest
    else record { first = item; others = [] } ∷ next ∷ rest

-- the longest stretches of a list
abbrev pub stretches : {A : Type 0} → (A → A → Bool) → List A → List (Stretch A)
stretches alike [] = []
stretches alike (item ∷ items) = in_front alike item (stretches alike items)
