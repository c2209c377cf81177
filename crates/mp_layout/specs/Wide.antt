-- Which tracks need places of 64 bits (ISO/IEC 14496-12, 8.7.5), from a few numbers of each track. A set of tracks is a list of
-- flags, one for each track.
use Rattle.std.specs.Prelude.{◌≡◌, ℕ, ◌+◌, ◌*◌, ◌-◌, ◌^◌, ◌<◌, Bool, true, false, ◌||◌, ◌==◌, nat_le, List, [], ◌∷◌, length, get_or, if◌then◌else◌}
use Rattle.std.specs.List.{list_all, range_with_len}
use Rattle.mp_layout.specs.declared.wide.Reach.{Reach}
use Rattle.mp_layout.specs.File.{Within}

-- its number of chunks fits 32 bits
abbrev pub IsShortReach : Reach → Type 0
IsShortReach reach = reach.chunks < 2 ^ 32

-- of the track at a position
abbrev pub reach_at : List Reach → ℕ → Reach
reach_at reaches position = get_or reaches position record { trak = 0; chunks = 0; furthest = 0 }

-- how many chunks the tracks of the set have
abbrev pub chunks_in : List Reach → List Bool → ℕ
chunks_in (reach ∷ reaches) (wide ∷ set) = (if wide then reach.chunks else 0) + chunks_in reaches set
chunks_in _ _ = 0

-- each place of the track fits 32 bits, where the payload stands there
abbrev pub is_near : ℕ → Reach → Bool
is_near place reach = (reach.chunks == 0) || nat_le (place + reach.furthest) (2 ^ 32 - 1)

-- and so does each of every track outside the set
abbrev pub fits : ℕ → List Reach → List Bool → Bool
fits place reaches set =
    list_all (λ position. get_or set position true || is_near place (reach_at reaches position)) (range_with_len 0 (length reaches))

-- the place of the payload: each place of 64 bits is 4 bytes longer than one of 32
abbrev pub place_of : ℕ → List Reach → List Bool → ℕ
place_of base reaches set = base + 4 * chunks_in reaches set

-- with places of 64 bits for just these tracks, each place of every other track fits 32 bits; and no such set lacks one of them
pub record IsLeastSet (base : ℕ) (reaches : List Reach) (set : List Bool) : Type 0 where
  pub flags : length set ≡ length reaches
  pub closed : fits (place_of base reaches set) reaches set ≡ true
  pub least : (others : List Bool) → length others ≡ length reaches → fits (place_of base reaches others) reaches others ≡ true → Within set others

-- a track outside the set with a place above 32 bits
pub record IsFar (place : ℕ) (reaches : List Reach) (set : List Bool) (at : ℕ) : Type 0 where
  pub inside : at < length reaches
  pub outside : get_or set at false ≡ false
  pub far : is_near place (reach_at reaches at) ≡ false

-- the tracks outside the set
abbrev pub outside : List Bool → ℕ
outside (wide ∷ set) = (if wide then 0 else 1) + outside set
outside [] = 0
