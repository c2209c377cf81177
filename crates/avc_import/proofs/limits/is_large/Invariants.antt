use Rattle.std.proofs.Common.{◌≡◌, ℕ, List, drop}
use Rattle.std.specs.List.{list_any}
use Rattle.avc_units.specs.declared.reader.UnitSpan.{UnitSpan}
use Rattle.avc_import.specs.Film.{is_long}
use Rattle.avc_import.specs.Pictures.{AreCut}
use Rattle.avc_import.proofs.limits.is_large.Given as goal

-- what is left says what all say
abbrev pub invariant-loop-k : goal.invariant-loop-k
invariant-loop-k l =
    (file : ℕ) (parts : List (List UnitSpan)) → AreCut file parts l.pictures.pieces.items l.pictures.ends.items → list_any is_long (drop l.k parts) ≡ list_any is_long parts
