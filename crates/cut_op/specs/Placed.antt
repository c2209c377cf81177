-- A track as it is kept, that is cut.
use Rattle.std.specs.Prelude.{ℕ, ℤ, pos, negsuc, ◌+ℤ◌, ◌*ℤ◌, ◌≤ℤ◌, ◌<ℤ◌, ◌^◌, neg_ℤ, nat_eq, if◌then◌else◌, List, map, take, slice_range, sum, Some}
use Rattle.mp_timeline.specs.declared.segment.Segment.{Segment}
use Rattle.mp_pieces.specs.declared.piece.Piece.{Piece}
use Rattle.mp_movie.specs.Placed.{PlacedTrack, naturals}

-- offsets in ticks of a scale that is greater by a factor, and so many of these ticks more
abbrev pub moved_offset : (factor ahead : ℕ) → ℤ → ℤ
moved_offset factor ahead offset = offset *ℤ pos factor +ℤ pos ahead

-- a composition offset that 32 bits hold, with a sign or without one
pub record FitsOffset (offset : ℤ) : Type 0 where
  pub low : neg_ℤ (pos (2 ^ 31)) ≤ℤ offset
  pub high : offset <ℤ pos (2 ^ 32)

-- when the first of the samples from one place up to another is decoded; 0 where there is none
abbrev pub first_ticks : (from to : ℕ) → PlacedTrack → ℕ
first_ticks from to track = if nat_eq from to then 0 else sum (take from (naturals track.deltas))

-- the pieces of the samples from one place up to another, by how many each sample has
abbrev pub kept_pieces : (counts : List ℤ) → (from to : ℕ) → List Piece → List Piece
kept_pieces counts from to pieces = slice_range pieces (sum (take from (naturals counts))) (sum (take to (naturals counts)))

-- a track with the samples from one place up to another alone
abbrev pub with_range : (from to : ℕ) → PlacedTrack → PlacedTrack
with_range from to track = record track {
  deltas = slice_range track.deltas from to;
  offsets = slice_range track.offsets from to;
  syncs = slice_range track.syncs from to;
  kinds = slice_range track.kinds from to;
  sizes = slice_range track.sizes from to;
  counts = slice_range track.counts from to;
}

-- the track cut so: these samples and their pieces, times in ticks of a new scale, offsets and edits as they are moved
abbrev pub placed_cut : (from to scale factor ahead : ℕ) → List Segment → PlacedTrack → PlacedTrack
placed_cut from to scale factor ahead edits track = record track {
  scale = scale;
  deltas = map (λ delta. delta *ℤ pos factor) (slice_range track.deltas from to);
  offsets = map (moved_offset factor ahead) (slice_range track.offsets from to);
  syncs = slice_range track.syncs from to;
  kinds = slice_range track.kinds from to;
  sizes = slice_range track.sizes from to;
  counts = slice_range track.counts from to;
  pieces = kept_pieces track.counts from to track.pieces;
  edits = Some edits;
}
