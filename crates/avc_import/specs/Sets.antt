-- The parameter sets of a stream, as this project reads them: one sequence parameter set, and picture parameter sets of different numbers,
-- none of which changes (H.264, 7.4.1.2.1, lets them change).
use Rattle.std.specs.Prelude.{◌≡◌, ℕ, ◌<◌, ◌≤◌, ◌==◌, nat_lt, bytes_eq, if◌then◌else◌, List, [], ◌∷◌, ◌++◌, length, drop, Option, Some, None, option_map, All, IfSome, IsSome, Result, Ok, Err}
use Rattle.mp_ports.specs.Checks.{bad_at, placed, ◌>>=◌}
use Rattle.mp_ports.specs.declared.code.Code.{Code}
use Rattle.mp_ports.specs.declared.code.Code.TheVariants.{UnitLimit, SetSyntax, SetChange}
use Rattle.mp_ports.specs.declared.fault.Bad.{Bad}
use Rattle.avc_units.specs.declared.elements.ElementFail.{ElementFail}
use Rattle.avc_units.specs.Bits.{bits_of}
use Rattle.avc_units.specs.Emulation.{clean}
use Rattle.avc_units.specs.Table.{Table, code_of, said, walk}
use Rattle.avc_sets.specs.Set.{SequenceSet, PictureSet}
use Rattle.avc_sets.specs.Sequence.{sequence}
use Rattle.avc_sets.specs.Picture.{picture}

-- the bits of a unit behind its first byte, without the bytes that prevent emulation
abbrev pub bits_in : List ℕ → List ℕ
bits_in unit = bits_of (drop 1 (clean unit))

-- an answer, where an element that fails has this code
abbrev pub coded : {A : Type 0} → Code → Result A ElementFail → Result A Code
coded syntax (Ok x) = Ok x
coded syntax (Err fail) = Err (code_of syntax fail)

-- what a table says of bits, or the code of the first element that fails
unfoldable pub says : {A : Type 0} → Code → Table A → List ℕ → Result A Code
says syntax table bits = coded syntax (said (walk table bits))

-- a sequence parameter set: its unit as it stands in the file, and its values
pub record SequenceUnit : Type 0 where
  pub bytes : List ℕ
  pub fields : SequenceSet

-- the sequence parameter set, and the picture parameter sets in the order in which they first stand: their values and their units
pub record ParameterSets : Type 0 where
  pub sequence : Option SequenceUnit
  pub pictures : List PictureSet
  pub units : List (List ℕ)

-- no set
abbrev pub no_sets : ParameterSets
no_sets = record { sequence = None; pictures = []; units = [] }

-- the most picture parameter sets that a configuration counts
abbrev pub most_pictures : ℕ
most_pictures = 255

-- a sequence parameter set behind these: the first, or the same unit again; another number is a change, too
abbrev pub sequence_behind : ParameterSets → ℕ → List ℕ → SequenceSet → Option SequenceUnit → Result ParameterSets Bad
sequence_behind sets place unit fields None = Ok (record sets { sequence = Some (record { bytes = unit; fields = fields }) })
sequence_behind sets place unit fields (Some first) = if bytes_eq first.bytes unit then Ok sets else Err (bad_at SetChange place)

-- the sets with a sequence parameter set, whose unit stands at that place
unfoldable pub with_sequence : ParameterSets → ℕ → List ℕ → Result ParameterSets Bad
with_sequence sets place unit = do
  fields ← placed place (says SetSyntax sequence (bits_in unit))
  sequence_behind sets place unit fields sets.sequence

-- the unit of the picture parameter set of that number
abbrev pub unit_of : ℕ → List PictureSet → List (List ℕ) → Option (List ℕ)
unit_of number (p ∷ ps) (u ∷ us) = if p.number == number then Some u else unit_of number ps us
unit_of number ps us = None

-- a picture parameter set behind these: a further number, or the same unit again
abbrev pub picture_behind : ParameterSets → ℕ → List ℕ → PictureSet → Option (List ℕ) → Result ParameterSets Bad
picture_behind sets place unit fields None =
    if nat_lt (length sets.pictures) most_pictures
    then Ok (record sets { pictures = sets.pictures ++ fields ∷ []; units = sets.units ++ unit ∷ [] })
    else Err (bad_at UnitLimit place)
picture_behind sets place unit fields (Some earlier) = if bytes_eq earlier unit then Ok sets else Err (bad_at SetChange place)

-- the sets with a picture parameter set, whose unit stands at that place
unfoldable pub with_picture : ParameterSets → ℕ → List ℕ → Result ParameterSets Bad
with_picture sets place unit = do
  fields ← placed place (says SetSyntax picture (bits_in unit))
  picture_behind sets place unit fields (unit_of fields.number sets.pictures sets.units)

-- the values of the sequence parameter set
abbrev pub sequence_of : ParameterSets → Option SequenceSet
sequence_of sets = option_map (λ (s : SequenceUnit). s.fields) sets.sequence

-- the longest parameter set, which a configuration has behind 16 bits
abbrev pub longest_set : ℕ
longest_set = 65535

-- the sets as they are kept: none is too long, and there are as many units as values, and not too many
pub record AreKept (sets : ParameterSets) : Type 0 where
  pub sequence : IfSome sets.sequence (λ (s : SequenceUnit). length s.bytes ≤ longest_set)
  pub each : length sets.pictures ≡ length sets.units
  pub few : length sets.units ≤ most_pictures
  pub short : All (λ unit. length unit ≤ longest_set) sets.units

-- a sequence parameter set and a picture parameter set stand there
pub record HaveSets (sets : ParameterSets) : Type 0 where
  pub sequence : IsSome sets.sequence
  pub picture : 0 < length sets.pictures
