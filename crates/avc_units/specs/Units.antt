-- Byte streams (H.264, Annex B): zeros, and then units, each behind a start code and in front of zeros.
use Rattle.std.specs.Prelude.{◌≡◌, ◌≢◌, ◌⊎◌, ℕ, zero, suc, ◌+◌, ◌<◌, Bool, true, false, ◌||◌, List, [], ◌∷◌, ◌++◌, length, drop, replicate}

-- no byte but zeros
abbrev pub only_zeros : List ℕ → Bool
only_zeros [] = true
only_zeros (zero ∷ rest) = only_zeros rest
only_zeros (suc n ∷ rest) = false

-- 00 00 00 or 00 00 01 stands in front
abbrev pub is_break : List ℕ → Bool
is_break (zero ∷ zero ∷ zero ∷ rest) = true
is_break (zero ∷ zero ∷ suc zero ∷ rest) = true
is_break text = false

-- a unit ends in front of this text
abbrev pub ends : List ℕ → Bool
ends text = is_break text || only_zeros text

-- the last byte
abbrev pub last_of : List ℕ → ℕ
last_of [] = 0
last_of (x ∷ []) = x
last_of (x ∷ y ∷ rest) = last_of (y ∷ rest)

-- a unit: it isn't empty, its last byte isn't 0, and neither 00 00 00 nor 00 00 01 stands in it (7.4.1)
pub record IsUnit (unit : List ℕ) : Type 0 where
  pub last : last_of unit ≢ 0
  pub whole : (n : ℕ) → is_break (drop n unit) ≡ false

-- a unit, and its place in the file
pub record Placed : Type 0 where
  pub from : ℕ
  pub bytes : List ℕ

-- from `place` on the file has these units, each behind zeros and 00 00 01; the last ends at `end`
abbrev pub HasUnitsFrom : ℕ → List ℕ → List Placed → ℕ → Type 0
HasUnitsFrom place file [] end = place ≡ end
HasUnitsFrom place file (u ∷ us) end =
    (n : ℕ) × (after : List ℕ) × (drop place file ≡ replicate n 0 ++ (0 ∷ 0 ∷ 1 ∷ (u.bytes ++ after))) × (u.from ≡ place + n + 3)
    × IsUnit u.bytes × (ends after ≡ true) × HasUnitsFrom (u.from + length u.bytes) file us end

-- the first units of the file are these, and the last of them ends at `end`
abbrev pub HasUnits : List ℕ → List Placed → ℕ → Type 0
HasUnits file us end = HasUnitsFrom 0 file us end

-- the units of the file: behind the last there are only zeros
abbrev pub AreUnits : List ℕ → List Placed → Type 0
AreUnits file us = (end : ℕ) × HasUnits file us end × (only_zeros (drop end file) ≡ true)

-- ---- faults

-- the first byte that isn't 0 ends no start code: it isn't 1, or has fewer than two zeros in front
pub record IsNoStart (text : List ℕ) (place : ℕ) : Type 0 where
  pub byte : ℕ
  pub after : List ℕ
  pub text_is : text ≡ replicate place 0 ++ (byte ∷ after)
  pub some : byte ≢ 0
  pub no_start : byte ≡ 1 → place < 2

-- there is a start code, and no unit behind it
pub record IsEmptyUnit (text : List ℕ) (place : ℕ) : Type 0 where
  pub zeros : ℕ
  pub after : List ℕ
  pub text_is : text ≡ replicate zeros 0 ++ (0 ∷ 0 ∷ 1 ∷ after)
  pub none : ends after ≡ true
  pub place_is : place ≡ zeros + 3

-- neither a unit nor the end comes next: what is wrong stands at this place
abbrev pub IsFault : List ℕ → ℕ → Type 0
IsFault text place = IsNoStart text place ⊎ IsEmptyUnit text place

-- behind its first units the file has a fault at this place
pub record HasFault (file : List ℕ) (place : ℕ) : Type 0 where
  pub units : List Placed
  pub end : ℕ
  pub behind : HasUnits file units end
  pub at : ℕ
  pub fault : IsFault (drop end file) at
  pub place_is : place ≡ end + at

-- a file has one list of units, or a fault at one place, and never both
pub record HasUnitsOrFault (file : List ℕ) : Type 0 where
  pub some : ((us : List Placed) × AreUnits file us) ⊎ ((place : ℕ) × HasFault file place)
  pub one_list : (us vs : List Placed) → AreUnits file us → AreUnits file vs → us ≡ vs
  pub one_place : (place other : ℕ) → HasFault file place → HasFault file other → place ≡ other
  pub not_both : (us : List Placed) (place : ℕ) → AreUnits file us → HasFault file place → ⊥
