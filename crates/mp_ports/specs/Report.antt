-- A report to the user, and what its call does to it.
use Rattle.std.specs.Prelude.{◌≡◌, ℕ, List, take, Option}
use Rattle.mp_ports.specs.Count.{after_fault}
use Rattle.mp_ports.specs.Told.{followed_by}

-- all that can be said of a report
pub record ReportState : Type 0 where
  -- the bytes said, where it tells
  pub said : Option (List ℕ)
  -- how often it failed
  pub faults : ℕ

-- the piece follows what was said, and the count stays
abbrev pub Says : ReportState → ReportState → List ℕ → Type 0
Says old new piece = new ≡ record old { said = followed_by old.said piece }

-- a front of the piece follows what was said, and the count rose
pub record FailsToSay (old new : ReportState) (piece : List ℕ) : Type 0 where
  pub part : ℕ
  pub state : new ≡ record old {
    said = followed_by old.said (take part piece);
    faults = after_fault old.faults;
  }
