-- A byte stream read from left to right: the next unit of a text, and what a scan knows of it piece by piece.
use Rattle.std.specs.Prelude.{◌≡◌, ◌⊎◌, ℕ, zero, suc, ◌+◌, ◌<◌, ◌≤◌, List, [], ◌∷◌, ◌++◌, length, drop, take, replicate, if◌then◌else◌, Option, Some, None, IfSome, Result, Ok, Err}
use Rattle.mp_ports.specs.Checks.{bad_at}
use Rattle.mp_ports.specs.declared.code.Code.TheVariants.{UnitFraming, UnitLimit}
use Rattle.mp_ports.specs.Folder.{OpenedFile}
use Rattle.avc_units.specs.declared.piece.First.{First}
use Rattle.avc_units.specs.declared.piece.Piece.{Piece}
use Rattle.avc_units.specs.declared.reader.UnitSpan.{UnitSpan}
use Rattle.avc_units.specs.declared.reader.UnitFail.{UnitFail}
use Rattle.avc_units.specs.declared.reader.UnitFail.TheVariants.{Bad as Refused, ReadFault}
use Rattle.avc_units.specs.Reading.{zeros_of}
use Rattle.avc_units.specs.Units.{ends}

-- the length of the unit that stands in front
unfoldable pub unit_len : List ℕ → ℕ
unit_len [] = 0
unit_len (x ∷ rest) = if ends (x ∷ rest) then 0 else suc (unit_len rest)

-- what comes next
pub data Step : Type 0 where
  NoUnit : Step
  OneUnit : (from len : ℕ) → Step
  Fault : (place : ℕ) → Step

-- a unit of this length
abbrev pub found : ℕ → ℕ → Step
found from zero = Fault from
found from (suc n) = OneUnit from (suc n)

-- what the first byte that isn't 0 says, behind so many zeros
abbrev pub step_from : ℕ → List ℕ → Step
step_from z [] = NoUnit
step_from (suc (suc z)) (suc zero ∷ rest) = found (suc (suc (suc z))) (unit_len rest)
step_from z (x ∷ rest) = Fault z

-- what comes next in a text
abbrev pub step : List ℕ → Step
step text = step_from (zeros_of text) (drop (zeros_of text) text)

-- how long a unit is still, of which so many zeros were the last bytes
abbrev pub left_of : ℕ → List ℕ → ℕ
left_of z text = unit_len (replicate z 0 ++ text)

-- a text in which a unit and what ends it stand: whatever comes behind the text, that unit is next
pub record HoldsUnit (text : List ℕ) (from len : ℕ) : Type 0 where
  pub code : 3 ≤ from
  pub some : 0 < len
  pub within : from + len ≤ length text
  pub next : (rest : List ℕ) → step (text ++ rest) ≡ OneUnit from len

-- ---- where the file is told

-- n bytes from that place in the window are those of the file
abbrev pub Holds : Option (List ℕ) → ℕ → ℕ → List ℕ → Type 0
Holds bytes from n window = IfSome bytes (λ b. take n window ≡ take n (drop from b))

-- from here on so many zeros were seen
abbrev pub HasZeros : Option (List ℕ) → ℕ → ℕ → Type 0
HasZeros bytes from z = IfSome bytes (λ b. zeros_of (drop from b) ≡ z + zeros_of (drop (from + z) b))

-- the first byte that isn't 0, at its place
abbrev pub IsFirst : List ℕ → ℕ → Option First → Type 0
IsFirst b from None = drop (from + zeros_of (drop from b)) b ≡ []
IsFirst b from (Some first) = (first.place ≡ from + zeros_of (drop from b)) × (drop first.place b ≡ first.byte ∷ drop (first.place + 1) b)

-- what was read of an opened file is what stands in it
pub record Keeps (file : OpenedFile) (piece : Piece) : Type 0 where
  pub few : piece.len ≤ 16384
  pub within : piece.place + piece.len ≤ file.size
  pub holds : Holds file.bytes piece.place piece.len piece.bytes

-- the byte stands behind that place, and was read
pub record IsKept (from : ℕ) (piece : Piece) (first : First) : Type 0 where
  pub low : from ≤ first.place
  pub behind : piece.place ≤ first.place
  pub inside : first.place < piece.place + piece.len

-- n bytes of the unit were passed, of which so many zeros were the last
abbrev pub HasPassed : Option (List ℕ) → ℕ → ℕ → ℕ → Type 0
HasPassed bytes from n zeros = IfSome bytes (λ b. left_of 0 (drop from b) + zeros ≡ n + left_of zeros (drop (from + n) b))

-- the answer of a reader that stands at that place
abbrev pub Gives : List ℕ → ℕ → Result (Option UnitSpan) UnitFail → Type 0
Gives b at (Ok None) = step (drop at b) ≡ NoUnit
Gives b at (Ok (Some s)) = (f : ℕ) × (step (drop at b) ≡ OneUnit f s.len) × (s.from ≡ at + f)
Gives b at (Err (Refused bad)) =
    ((f : ℕ) × (step (drop at b) ≡ Fault f) × (bad ≡ bad_at UnitFraming (at + f)))
    ⊎ ((f n : ℕ) × (step (drop at b) ≡ OneUnit f n) × (16777216 < n) × (bad ≡ bad_at UnitLimit (at + f)))
Gives b at (Err ReadFault) = Unit {0}
