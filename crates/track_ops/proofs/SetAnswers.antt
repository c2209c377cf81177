-- What a command that sets a scale answers, by what was found of the movie.
use Rattle.std.proofs.Common.{◌≡◌, ℕ, Bool, true, false, not, List, ◌∷◌, length, map, Option, Some, None, refl, sym, ap, ◌∙◌, inl, inr}
use Rattle.std.specs.Prelude.{Result, Ok, Err, if◌then◌else◌}
use Rattle.std.proofs.lemmas.Bool.{cases_Bool}
use Rattle.std.proofs.lemmas.Option.{same_Some}
use Rattle.mp_ports.specs.declared.code.Code.{Code}
use Rattle.mp_ports.specs.declared.code.Code.TheVariants.{NotWhole}
use Rattle.mp_ports.specs.declared.fault.Bad.{Bad}
use Rattle.mp_ports.specs.Checks.{bad_at, first_code, unless}
use Rattle.mp_timeline.specs.Movie.{MovieRecord}
use Rattle.mp_movie.specs.Placed.{PlacedMovie}
use Rattle.mp_movie.specs.PartsFit.{first_limit}
use Rattle.mp_movie.specs.StandsFor.{Hold, stands_for}
use Rattle.track_ops.specs.Does.{Does}

-- the movie, where all is whole and no limit is passed
abbrev pub answer : Bool → Option Code → MovieRecord → Result MovieRecord Code
answer whole limit movie = if whole then unless limit movie else Err NotWhole

-- the command on a movie, whatever its files, answers so
abbrev pub Answers : (MovieRecord → Result MovieRecord Code) → PlacedMovie → Bool → Option Code → PlacedMovie → Type 0
Answers command movie whole limit kept = (files : List (List ℕ)) → Hold (map length files) movie → command (stands_for files movie) ≡ answer whole limit (stands_for files kept)

pub refused_whole : (command : MovieRecord → Result MovieRecord Code) (movie kept : PlacedMovie) (whole : Bool) (limit : Option Code) (bad : Bad) → Answers command movie whole limit kept
    → whole ≡ false → bad ≡ bad_at NotWhole 0 → Does {A = Unit {0}} Some command movie movie (Err bad)
refused_whole command movie kept whole limit bad answers none is =
    rw is (record { gives = λ files hold. rw (answers files hold, none) refl; held = λ sizes hold. hold; same = refl })

pub refused_limit : (command : MovieRecord → Result MovieRecord Code) (movie kept : PlacedMovie) (whole : Bool) (limit : Option Code) (code : Code) (bad : Bad) → Answers command movie whole limit kept
    → whole ≡ true → limit ≡ Some code → bad ≡ bad_at code 0 → Does {A = Unit {0}} Some command movie movie (Err bad)
refused_limit command movie kept whole limit code bad answers all passed is =
    rw is (record { gives = λ files hold. rw (answers files hold, all, passed) refl; held = λ sizes hold. hold; same = refl })

pub done_so : (command : MovieRecord → Result MovieRecord Code) (movie kept new : PlacedMovie) (whole : Bool) (limit : Option Code) → Answers command movie whole limit kept
    → ((sizes : List ℕ) → Hold sizes movie → Hold sizes kept) → whole ≡ true → limit ≡ None → new ≡ kept → Does {A = Unit {0}} Some command movie new (Ok tt)
done_so command movie kept new whole limit answers held all fits is =
    rw is (record { gives = λ files hold. rw (answers files hold, all, fits) refl; held = held; same = tt })

-- the first fault is that something isn't whole, or the first limit
pub refused_by : (command : MovieRecord → Result MovieRecord Code) (movie kept : PlacedMovie) (whole : Bool) (checks : List (Bool × Code)) (code : Code) (bad : Bad) → Answers command movie whole (first_limit kept) kept
    → (whole ≡ true → first_limit kept ≡ first_code checks) → first_code ((not whole, NotWhole) ∷ checks) ≡ Some code → bad ≡ bad_at code 0 → Does {A = Unit {0}} Some command movie movie (Err bad)
refused_by command movie kept whole checks code bad answers limits fault is =
    elim (cases_Bool whole) [
      | inl all ↦ refused_limit command movie kept whole (first_limit kept) code bad answers all (limits all ∙ behind whole all fault) is
      | inr none ↦ refused_whole command movie kept whole (first_limit kept) bad answers none (is ∙ ap (λ (c : Code). bad_at c 0) (not_whole whole none fault))
    ]
  where
    behind : (b : Bool) → b ≡ true → first_code ((not b, NotWhole) ∷ checks) ≡ Some code → first_code checks ≡ Some code
    behind true e fault = fault
    behind false e fault = cc

    not_whole : (b : Bool) → b ≡ false → first_code ((not b, NotWhole) ∷ checks) ≡ Some code → code ≡ NotWhole
    not_whole true e fault = cc
    not_whole false e fault = sym (same_Some NotWhole code fault)

pub none_found : (whole : Bool) (checks : List (Bool × Code)) → first_code ((not whole, NotWhole) ∷ checks) ≡ None → (whole ≡ true) × (first_code checks ≡ None)
none_found true checks none = (refl, none)
none_found false checks none = cc
