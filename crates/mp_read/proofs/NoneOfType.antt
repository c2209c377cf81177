-- None of the boxes has a type, or the first that has it is refused.
use Rattle.std.proofs.Common.{◌≡◌, ℕ, List, [], ◌∷◌, Option, Some, None, Result, Ok, Err, refl, ap}
use Rattle.mp_ports.specs.declared.code.Code.{Code}
use Rattle.mp_ports.specs.declared.fault.Bad.{Bad}
use Rattle.mp_ports.specs.Checks.{bad_at, ◌>>=◌}
use Rattle.mp_boxes.specs.Boxes.{Box}
use Rattle.mp_boxes.specs.Child.{first_of, of_kind}
use Rattle.mp_boxes.specs.Reading.{value_or}
use Rattle.mp_movie.specs.Children.{first_refused, has_none}

pub first_some_refused : (code : Code) (r : Result (List Box) Bad) (kind : List ℕ) (box : Box) → (r >>= λ children. Ok (first_of (of_kind kind children))) ≡ Ok (Some box) → has_none code kind (value_or [] r) ≡ Some (bad_at code box.place)
first_some_refused code (Ok children) kind box e = by (of_kind kind children) e
  where
    by : (found : List Box) → let f : Option Box → Result (Option Box) Bad = λ v. Ok v in f (first_of found) ≡ f (Some box) → first_refused code found ≡ Some (bad_at code box.place)
    by [] e = absurd cc
    by (b ∷ others) e = let same : b ≡ box = cc in ap (λ (v : Box). Some (bad_at code v.place)) same
first_some_refused code (Err bad) kind box e = absurd cc

pub first_none_refused : (code : Code) (r : Result (List Box) Bad) (kind : List ℕ) → (r >>= λ children. Ok (first_of (of_kind kind children))) ≡ Ok None → has_none code kind (value_or [] r) ≡ None
first_none_refused code (Ok children) kind e = by (of_kind kind children) e
  where
    by : (found : List Box) → let f : Option Box → Result (Option Box) Bad = λ v. Ok v in f (first_of found) ≡ f None → first_refused code found ≡ None
    by [] e = refl
    by (b ∷ others) e = absurd cc
first_none_refused code (Err bad) kind e = refl
