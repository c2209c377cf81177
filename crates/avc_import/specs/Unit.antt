-- The units of a stream, one after another: what each is by the units before it, or why it is refused (H.264, 7.3.1, 7.4.1.2 and table
-- 7-1).
use Rattle.std.specs.Prelude.{ℕ, ◌%◌, ◌==◌, ◌&&◌, ◌||◌, not, nat_le, nat_lt, Bool, false, if◌then◌else◌, List, [], ◌∷◌, ◌++◌, length, slice_index, Option, Some, None, Result, Ok, Err}
use Rattle.mp_ports.specs.Checks.{bad_at, fault_at, placed, first_code, first_some, unless, ◌>>=◌}
use Rattle.mp_ports.specs.declared.code.Code.{Code}
use Rattle.mp_ports.specs.declared.code.Code.TheVariants.{UnitLimit, UnitType, FirstNotIdr, SampleLimit}
use Rattle.mp_ports.specs.declared.fault.Bad.{Bad}
use Rattle.mp_columns.specs.declared.columns.TheConstants.{MOST_ITEMS}
use Rattle.avc_units.specs.declared.reader.UnitSpan.{UnitSpan}
use Rattle.avc_units.specs.Reader.{longest_unit}
use Rattle.avc_units.specs.Units.{Placed}
use Rattle.avc_slices.specs.declared.slice.Slice.{Slice}
use Rattle.avc_order.specs.declared.access.NalUnit.{NalUnit}
use Rattle.avc_order.specs.declared.access.NalUnit.TheVariants.{Coded, Sei, Set, Delimiter, End, Filler}
use Rattle.avc_order.specs.Access.{first_slices, is_first_slice, last_slice}
use Rattle.avc_import.specs.Sets.{ParameterSets, HaveSets, longest_set, no_sets, sequence_of, with_picture, with_sequence}
use Rattle.avc_import.specs.SliceHeader.{count_type, slice_in}

-- nal_unit_type
abbrev pub type_of : ℕ → ℕ
type_of byte = byte % 32

-- a parameter set
abbrev pub is_set : ℕ → Bool
is_set kind = (kind == 7) || (kind == 8)

-- a type that a stream may have: a slice of another picture or of an IDR picture, and from supplemental information to filler data
abbrev pub is_known : ℕ → Bool
is_known kind = (kind == 1) || (nat_le 5 kind && nat_le kind 12)

-- the checks of a unit of that length by its first byte: how long it is, and of which type; forbidden_zero_bit is 0
abbrev pub kind_checks : ℕ → ℕ → List (Bool × Code)
kind_checks byte len =
    (nat_lt longest_unit len, UnitLimit)
    ∷ (is_set (type_of byte) && nat_lt longest_set len, UnitLimit)
    ∷ (nat_le 128 byte || not (is_known (type_of byte)), UnitType)
    ∷ []

-- what a unit is, and the sets behind it
pub record Identified : Type 0 where
  pub unit : NalUnit
  pub sets : ParameterSets

-- a unit that says nothing of sets
abbrev pub plain : ParameterSets → NalUnit → Identified
plain sets unit = record { unit = unit; sets = sets }

-- a unit of a set, where it belongs to the others
abbrev pub set_unit : Result ParameterSets Bad → Result Identified Bad
set_unit found = do
  sets ← found
  Ok (plain sets Set)

-- a slice, where its header is one
abbrev pub slice_unit : ParameterSets → ℕ → Result Slice Code → Result Identified Bad
slice_unit sets place found = do
  slice ← placed place found
  Ok (plain sets (Coded slice (count_type (sequence_of sets))))

-- a unit of a known type: 1 and 5 are slices, 6 is supplemental information, 7 and 8 are sets, 9 is a delimiter, 10 and 11 are ends, 12 is
-- filler data
abbrev pub of_type : ParameterSets → Placed → ℕ → Result Identified Bad
of_type sets u kind =
    if kind == 6 then Ok (plain sets Sei) else
    (if kind == 7 then set_unit (with_sequence sets u.from u.bytes) else
    (if kind == 8 then set_unit (with_picture sets u.from u.bytes) else
    (if kind == 9 then Ok (plain sets Delimiter) else
    (if (kind == 10) || (kind == 11) then Ok (plain sets End) else
    (if kind == 12 then Ok (plain sets Filler) else
    slice_unit sets u.from (slice_in sets u.bytes))))))

-- what a unit is by the sets before it, or the first of its checks that fails
unfoldable pub identified : ParameterSets → Placed → Result Identified Bad
identified sets u = do
  kind ← unless (fault_at u.from (first_code (kind_checks (slice_index u.bytes 0) (length u.bytes)))) (type_of (slice_index u.bytes 0))
  of_type sets u kind

-- a slice has both sets before it, and counts of their type
abbrev pub IsCodedBy : ParameterSets → NalUnit → Type 0
IsCodedBy sets (Coded slice poc_type) = HaveSets sets
IsCodedBy sets unit = Unit {0}

-- ---- behind other units

-- what a stream is known to have: its sets, and its units in order, each with its place and its length
pub record Known : Type 0 where
  pub sets : ParameterSets
  pub units : List (NalUnit × UnitSpan)

-- no unit
abbrev pub nothing_known : Known
nothing_known = record { sets = no_sets; units = [] }

-- the most pictures that are read: the most samples that a movie keeps
abbrev pub most_frames : ℕ
most_frames = MOST_ITEMS

-- the first slice of a stream is one of an IDR picture
abbrev pub begins_wrongly : List (NalUnit × UnitSpan) → NalUnit → Bool
begins_wrongly before (Coded slice poc_type) = (length (first_slices before) == 0) && not slice.idr
begins_wrongly before unit = false

-- one picture too many begins
abbrev pub is_past_limit : List (NalUnit × UnitSpan) → NalUnit → Bool
is_past_limit before unit = is_first_slice (last_slice before) unit && nat_le most_frames (length (first_slices before))

-- the checks of a unit behind these
abbrev pub order_checks : List (NalUnit × UnitSpan) → NalUnit → ℕ → List (Option Bad)
order_checks before unit place =
    (if begins_wrongly before unit then Some (bad_at FirstNotIdr place) else None)
    ∷ (if is_past_limit before unit then Some (bad_at SampleLimit 0) else None)
    ∷ []

-- what is known behind one unit more, or why it is refused
unfoldable pub behind : Known → Placed → Result Known Bad
behind known u = do
  found ← identified known.sets u
  unless (first_some (order_checks known.units found.unit u.from)) (record {
    sets = found.sets;
    units = known.units ++ (found.unit, record { from = u.from; len = length u.bytes }) ∷ [];
  })

-- what is known behind units, at whose end there may be a fault
abbrev pub behind_all : Known → List Placed → Option Bad → Result Known Bad
behind_all known [] None = Ok known
behind_all known [] (Some fault) = Err fault
behind_all known (u ∷ us) fault = do
  next ← behind known u
  behind_all next us fault
