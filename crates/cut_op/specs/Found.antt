-- Which samples of a track as it is kept a cut keeps, by the spans of the media that its pieces touch.
use Rattle.std.specs.Prelude.{◌≡◌, ℕ, ◌+◌, ◌≤◌, ℤ, pos, ◌+ℤ◌, min, Bool, not, ◌&&◌, ◌||◌, if◌then◌else◌, List, length, slice_index, slice_index_or}
use Rattle.std.specs.List.{range_with_len}
use Rattle.mp_times.specs.Sync.{is_sync}
use Rattle.mp_times.specs.Times.{composition_time}
use Rattle.mp_movie.specs.Durations.{not_before_start}
use Rattle.mp_movie.specs.Placed.{PlacedTrack, naturals}
use Rattle.cut_op.specs.declared.kept.Found.{Found}
use Rattle.mp_clip.specs.declared.touching.Span.{Span}
use Rattle.cut_op.specs.Needed.{first_kept, through_last}
use Rattle.cut_op.specs.Reach.{touches_any}

-- when the sample is composed before which there are so many, and when it ends
abbrev pub begin_of : PlacedTrack → ℕ → ℤ
begin_of track before = composition_time (naturals track.deltas) track.offsets before

abbrev pub end_of : PlacedTrack → ℕ → ℤ
end_of track before = begin_of track before +ℤ pos (slice_index (naturals track.deltas) before)

-- one of the spans has a tick in common with it
abbrev pub is_touched : List Span → PlacedTrack → ℕ → Bool
is_touched spans track before = touches_any (not_before_start (begin_of track before)) (not_before_start (end_of track before)) spans

-- it is a sync sample
abbrev pub is_marked : PlacedTrack → ℕ → Bool
is_marked track before = is_sync (slice_index_or track.syncs before (pos 0))

-- the places of the samples of a track
abbrev pub places : PlacedTrack → List ℕ
places track = range_with_len 0 (length track.deltas)

-- the samples that are kept for spans are those from one place up to another
pub record AreKept (spans : List Span) (track : PlacedTrack) (from to : ℕ) : Type 0 where
  pub to_is : to ≡ through_last (is_touched spans track) (places track)
  pub from_is : from ≡ min (first_kept (is_marked track) (is_touched spans track) (places track)) to
  pub inside : to ≤ length track.deltas

-- what is found with one sample more, which is a sync sample and needed or not
abbrev pub found_next : Found → ℕ → (sync needed : Bool) → Found
found_next found before sync needed = record {
  needed = found.needed || needed;
  from = if sync && not found.needed then before else found.from;
  to = if needed then before + 1 else found.to;
}
