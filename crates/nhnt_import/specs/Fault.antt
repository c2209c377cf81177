-- The first fault of an NHNT pair.
use Rattle.std.specs.Prelude.{◌≡◌, ℕ, ◌+◌, ◌*◌, ◌==◌, ◌&&◌, ◌||◌, nat_lt, nat_le, true, Bool, List, [], ◌∷◌, length, Option, Some, None, if◌then◌else◌}
use Rattle.mp_ports.specs.Checks.{bad_at, fault_at, first_some}
use Rattle.mp_ports.specs.Code.{number}
use Rattle.mp_ports.specs.declared.code.Code.{Code}
use Rattle.mp_ports.specs.declared.code.Code.TheVariants.{NhntHead, NhntCut, SampleLimit}
use Rattle.mp_ports.specs.declared.fault.Bad.{Bad}
use Rattle.mp_columns.specs.declared.columns.TheConstants.{MOST_ITEMS}
use Rattle.nhnt_import.specs.declared.unit.AccessUnit.{AccessUnit}
use Rattle.nhnt_import.specs.Head.{head_fault, head_len, is_wide}
use Rattle.nhnt_import.specs.Unit.{record_count, record_len, unit_fault, units_in}
use Rattle.nhnt_import.specs.Times.{limit_fault}

-- the most bytes of an `.info` file
abbrev pub most_info : ℕ
most_info = 65536

-- an `.info` file that is too long; it is the third file of the pair
abbrev pub info_fault : List ℕ → Option Bad
info_fault info = if nat_lt most_info (length info) then Some (record (bad_at NhntHead 0) { file = 2 }) else None

-- more whole records than a movie keeps samples
abbrev pub count_fault : List ℕ → Option Bad
count_fault table = if nat_lt MOST_ITEMS (record_count table) then Some (bad_at SampleLimit 0) else None

-- the first fault of records of that length, the first of which stands at `place` behind a unit that is decoded at the time `before`
unfoldable pub units_fault : ℕ → ℕ → ℕ → ℕ → List AccessUnit → Option Bad
units_fault len size place before [] = None
units_fault len size place before (unit ∷ units) =
    first_some (fault_at place (unit_fault size before unit) ∷ units_fault len size (place + len) unit.decode units ∷ [])

-- where the record behind the whole ones stands
abbrev pub end_place : List ℕ → ℕ
end_place table = head_len + record_count table * record_len (is_wide table)

-- the table ends within a record
abbrev pub cut_fault : List ℕ → Option Bad
cut_fault table = if end_place table == length table then None else Some (bad_at NhntCut (end_place table))

-- the faults of records, in order: those of whole ones, then one that is cut
unfoldable pub records_fault : ℕ → List ℕ → Option Bad
records_fault size table =
    first_some (units_fault (record_len (is_wide table)) size head_len 0 (units_in table) ∷ cut_fault table ∷ [])

-- the checks of a pair, in order, where the `.media` file has so many bytes; `info` has none where there is no `.info` file
unfoldable pub pair_fault : ℕ → List ℕ → List ℕ → Option Bad
pair_fault size table info =
    first_some
    (fault_at 0 (head_fault table)
    ∷ info_fault info
    ∷ count_fault table
    ∷ records_fault size table
    ∷ fault_at 0 (limit_fault (units_in table))
    ∷ [])

-- one of the codes for what can be wrong with a pair: those of NHNT, and the limits of durations, offsets and samples
abbrev pub is_pair_code : Code → Bool
is_pair_code code = (nat_le 70 (number code) && nat_le (number code) 75) || ((number code == 85) || ((number code == 86) || (number code == 90)))

-- a refusal of the pair, whatever its bytes are: of the table, or of an `.info` file that is too long
pub record IsPairRefusal (bad : Bad) : Type 0 where
  pub code : is_pair_code bad.code ≡ true
  pub command : bad.command ≡ 0
  pub named : ((bad.file == 0) || ((bad.file == 2) && (number bad.code == 70))) ≡ true
