-- Texts that a mark divides. Places in a text are counted from 0.
use Rattle.std.specs.Prelude.{ℕ, ◌+◌, ◌==◌, List, [], ◌∷◌, take, drop, length, nat_eq, Option, Some, None, option_map}
use Rattle.std.specs.Bool.{then_some}
use Rattle.std.specs.List.{position, starts_with}
use Rattle.std.specs.Option.{option_and_then}

-- the first place of a byte
abbrev pub first_place : ℕ → List ℕ → Option ℕ
first_place mark text = position (λ c. c == mark) text

-- what is read of the two texts around the first such byte
abbrev pub around : {A : Type 0} → ℕ → List ℕ → (List ℕ → List ℕ → Option A) → Option A
around mark text read = option_and_then (λ at. read (take at text) (drop (at + 1) text)) (first_place mark text)

-- one place further on, or else this one
abbrev pub further : Option ℕ → Option ℕ → Option ℕ
further (Some at) here = Some (at + 1)
further None here = here

-- the last place at which the text goes on with the mark
abbrev pub last_place : List ℕ → List ℕ → Option ℕ
last_place mark [] = None
last_place mark (c ∷ text) = further (last_place mark text) (then_some (starts_with nat_eq (c ∷ text) mark) 0)

-- the text up to a place, or all of it
abbrev pub up_to : Option ℕ → List ℕ → List ℕ
up_to None text = text
up_to (Some at) text = take at text

-- the text before the last place of the mark, or all of it
abbrev pub before_last : List ℕ → List ℕ → List ℕ
before_last mark text = up_to (last_place mark text) text

-- the text behind the last place of the mark, if it has one
abbrev pub behind_last : List ℕ → List ℕ → Option (List ℕ)
behind_last mark text = option_map (λ at. drop (at + length mark) text) (last_place mark text)
