-- What is kept of parameter sets, and the ranges of its values (H.264, 7.4.2.1.1 and 7.4.2.2).
use Rattle.std.specs.Prelude.{◌≡◌, ◌⊎◌, ℕ, ◌≤◌, Bool, Option}

-- a sequence parameter set: the depths are bits a sample, `frame_bits` and `poc_bits` those of a frame number and of the low part of an
-- order count, `width` and `height` are in samples, `tick` is the two numbers of the timing
pub record SequenceSet : Type 0 where
  pub profile : ℕ
  pub compat : ℕ
  pub level : ℕ
  pub number : ℕ
  pub chroma : ℕ
  pub luma_depth : ℕ
  pub chroma_depth : ℕ
  pub frame_bits : ℕ
  pub poc_type : ℕ
  pub poc_bits : ℕ
  pub frames_only : Bool
  pub width : ℕ
  pub height : ℕ
  pub tick : Option (ℕ × ℕ)

-- from one number to another
pub record IsWithin (low high number : ℕ) : Type 0 where
  pub above : low ≤ number
  pub below : number ≤ high

-- order counts of type 0 have low parts, those of type 2 have none
abbrev pub IsOrder : ℕ → ℕ → Type 0
IsOrder poc_type poc_bits = ((poc_type ≡ 0) × IsWithin 4 16 poc_bits) ⊎ ((poc_type ≡ 2) × (poc_bits ≡ 0))

-- its values are in their ranges
pub record IsSequenceSet (s : SequenceSet) : Type 0 where
  pub number : s.number ≤ 31
  pub chroma : s.chroma ≤ 2
  pub luma_depth : IsWithin 8 14 s.luma_depth
  pub chroma_depth : IsWithin 8 14 s.chroma_depth
  pub frame_bits : IsWithin 4 16 s.frame_bits
  pub order : IsOrder s.poc_type s.poc_bits
  pub width : 1 ≤ s.width
  pub height : 1 ≤ s.height

-- a picture parameter set: the number of its sequence parameter set, and the numbers of references that a slice has unless it says others
pub record PictureSet : Type 0 where
  pub number : ℕ
  pub sps : ℕ
  pub bottom_order : Bool
  pub refs0 : ℕ
  pub refs1 : ℕ
  pub weighted : Bool
  pub bipred : ℕ
  pub redundant : Bool

-- its values are in their ranges
pub record IsPictureSet (p : PictureSet) : Type 0 where
  pub sps : p.sps ≤ 31
  pub refs0 : IsWithin 1 32 p.refs0
  pub refs1 : IsWithin 1 32 p.refs1
  pub bipred : p.bipred ≤ 3
