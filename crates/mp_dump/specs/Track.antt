-- A track that is told of, and the numbers of its samples by its columns.
use Rattle.std.specs.Prelude.{ℕ, pos, ◌≤◌, All, List, length, map, slice_index, slice_index_or}
use Rattle.std.specs.List.{range_with_len}
use Rattle.mp_times.specs.Sync.{is_sync}
use Rattle.mp_times.specs.Times.{composition_time, decode_time}
use Rattle.mp_movie.specs.Placed.{PlacedTrack, naturals}
use Rattle.mp_movie.specs.WholeParts.{AreColumns}
use Rattle.mp_dump.specs.declared.row.Row.{Row}

-- its columns agree, and its entries have the type of a box: each track of a movie is such
pub record IsTold (track : PlacedTrack) : Type 0 where
  pub columns : AreColumns track
  pub entries : All (λ entry. 8 ≤ length entry) track.entries

-- the numbers of the sample before which there are so many
unfoldable pub row_in : PlacedTrack → ℕ → Row
row_in track before =
    let durations = naturals track.deltas in
    record {
      size = slice_index (naturals track.sizes) before;
      decode = decode_time durations before;
      dur = slice_index durations before;
      comp = composition_time durations track.offsets before;
      sync = is_sync (slice_index_or track.syncs before (pos 0));
      entry = slice_index (naturals track.kinds) before;
    }

-- those of all its samples
unfoldable pub rows_in : PlacedTrack → List Row
rows_in track = map (row_in track) (range_with_len 0 (length track.deltas))
