-- The sample table box that is written (ISO/IEC 14496-12, 8.5.1); its tables are defined in the crates that read them.
use Rattle.std.specs.Prelude.{Bool, List, [], ◌∷◌, ◌++◌, map, codes}
use Rattle.mp_boxes.specs.Field.{Part, container, optional}
use Rattle.mp_timeline.specs.Movie.{TrackRecord}
use Rattle.mp_entries.specs.Description.{stsd}
use Rattle.mp_times.specs.Written.{stts, ctts, stss}
use Rattle.mp_chunks.specs.Written.{PlacedChunk, chunk_offsets, head_of, stsc, stsz}
use Rattle.mp_movie.specs.Columns.{composition_offsets, durations, sizes, sync_marks}

-- where the samples of a track stand: its chunks in the file, and whether their places are written in 64 bits
pub record Placing : Type 0 where
  pub chunks : List PlacedChunk
  pub wide : Bool

-- the sample table box; those of composition times and of sync samples stand only where they say something
abbrev pub stbl : TrackRecord → Placing → Part
stbl track placing =
    container (codes "stbl")
    (stsd track.entries
    ∷ stts (durations track.samples)
    ∷ optional (ctts (composition_offsets track.samples))
    ++ optional (stss (sync_marks track.samples))
    ++ stsc (map head_of placing.chunks)
    ∷ stsz (sizes track.samples)
    ∷ chunk_offsets placing.wide (map head_of placing.chunks)
    ∷ [])
