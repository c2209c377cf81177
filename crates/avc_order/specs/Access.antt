-- Access units: a list of units is cut in front of each unit that starts one (H.264, 7.4.1.2.3).
use Rattle.std.specs.Prelude.{◌≡◌, ◌-◌, Bool, true, false, if◌then◌else◌, List, [], ◌∷◌, ◌++◌, length, take, Option, Some, None, is_some}
use Rattle.std.specs.List.{filter, flat_map}
use Rattle.avc_slices.specs.declared.slice.Slice.{Slice}
use Rattle.avc_order.specs.declared.access.NalUnit.{NalUnit}
use Rattle.avc_order.specs.declared.access.NalUnit.TheVariants.{Coded, Sei, Set, Delimiter}
use Rattle.avc_order.specs.Picture.{starts_picture}

-- a unit that stands in front of the slices of its access unit
abbrev pub is_front : NalUnit → Bool
is_front Sei = true
is_front Set = true
is_front Delimiter = true
is_front unit = false

-- a unit that is kept in the sample of its picture
abbrev pub is_kept : NalUnit → Bool
is_kept (Coded slice poc_type) = true
is_kept Sei = true
is_kept unit = false

-- whether a unit starts another access unit than that whose last slice is known; one that has no slice yet goes on
abbrev pub starts : Option Slice → NalUnit → Bool
starts None unit = false
starts (Some last) (Coded this poc_type) = starts_picture last this poc_type
starts (Some last) unit = is_front unit

-- the last slice of the access unit that a unit stands in, where that of the unit before is known
abbrev pub slice_behind : Option Slice → NalUnit → Option Slice
slice_behind last (Coded this poc_type) = Some this
slice_behind last unit = if is_front unit then None else last

-- whether a unit is the first slice of its access unit
abbrev pub is_first_slice : Option Slice → NalUnit → Bool
is_first_slice None (Coded this poc_type) = true
is_first_slice (Some last) (Coded this poc_type) = starts_picture last this poc_type
is_first_slice last unit = false

-- ---- lists of units, each with what else is said of it

-- the access unit so far with its last slice, and the access units of the units behind it
unfoldable pub cut : {A : Type 0} → List (NalUnit × A) → Option Slice → List (NalUnit × A) → List (List (NalUnit × A))
cut part last [] = part ∷ []
cut part last (u ∷ us) =
    if starts last u.0
    then part ∷ cut (u ∷ []) (slice_behind last u.0) us
    else cut (part ++ u ∷ []) (slice_behind last u.0) us

-- the access units of a list of units
abbrev pub access_units : {A : Type 0} → List (NalUnit × A) → List (List (NalUnit × A))
access_units [] = []
access_units (u ∷ us) = cut (u ∷ []) (slice_behind None u.0) us

-- the slices of units
abbrev pub slice_of : {A : Type 0} → NalUnit × A → List (Slice × A)
slice_of (Coded slice poc_type, more) = (slice, more) ∷ []
slice_of (unit, more) = []

abbrev pub slices_of : {A : Type 0} → List (NalUnit × A) → List (Slice × A)
slices_of part = flat_map slice_of part

-- whether there is one
abbrev pub is_any : {X : Type 0} → List X → Bool
is_any [] = false
is_any (x ∷ xs) = true

-- the access units that have a slice: units behind the last picture are dropped
abbrev pub has_picture : {A : Type 0} → List (NalUnit × A) → Bool
has_picture part = is_any (slices_of part)

abbrev pub pictures : {A : Type 0} → List (NalUnit × A) → List (List (NalUnit × A))
pictures units = filter has_picture (access_units units)

-- the first slice of each picture
abbrev pub first_slices : {A : Type 0} → List (NalUnit × A) → List (Slice × A)
first_slices units = flat_map (λ part. take 1 (slices_of part)) (access_units units)

-- the units of a picture that are kept
abbrev pub kept : {A : Type 0} → List (NalUnit × A) → List (NalUnit × A)
kept part = filter (λ u. is_kept u.0) part

-- ---- laws

-- the last slice of the access unit in which the last unit stands
abbrev pub slice_from : {A : Type 0} → Option Slice → List (NalUnit × A) → Option Slice
slice_from last [] = last
slice_from last (u ∷ us) = slice_from (slice_behind last u.0) us

abbrev pub last_slice : {A : Type 0} → List (NalUnit × A) → Option Slice
last_slice units = slice_from None units

-- the unit stands at the end of the last access unit
abbrev pub in_last : {A : Type 0} → A → List (List A) → List (List A)
in_last unit [] = (unit ∷ []) ∷ []
in_last unit (part ∷ []) = (part ++ unit ∷ []) ∷ []
in_last unit (part ∷ next ∷ parts) = part ∷ in_last unit (next ∷ parts)

-- the access units joined are the units, also of those that are kept; each but the last has a picture, and each picture a first slice
pub record AreAccessUnits {A : Type 0} (units : List (NalUnit × A)) : Type 0 where
  pub joined : flat_map (λ part. part) (access_units units) ≡ units
  pub kept_joined : flat_map kept (access_units units) ≡ kept units
  pub dropped : pictures units ≡ take (length (access_units units) - (if is_some (last_slice units) then 0 else 1)) (access_units units)
  pub number : length (first_slices units) ≡ length (pictures units)

-- units are cut in front of one that starts an access unit, and in front of no other
pub record AreCutAt {A : Type 0} (before : List (NalUnit × A)) (unit : NalUnit × A) (behind : List (NalUnit × A)) : Type 0 where
  pub last : last_slice (before ++ unit ∷ []) ≡ slice_behind (last_slice before) unit.0
  pub cut : starts (last_slice before) unit.0 ≡ true → access_units (before ++ unit ∷ behind) ≡ access_units before ++ access_units (unit ∷ behind)
  pub whole : starts (last_slice before) unit.0 ≡ false → access_units (before ++ unit ∷ []) ≡ in_last unit (access_units before)
  pub first : first_slices (before ++ unit ∷ []) ≡ first_slices before ++ (if is_first_slice (last_slice before) unit.0 then slice_of unit else [])
