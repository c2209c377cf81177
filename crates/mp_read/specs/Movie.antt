-- What is read of a movie box: the movie, tables in place of its samples (ISO/IEC 14496-12, 8.2).
use Rattle.std.specs.Prelude.{◌≡◌, ℕ, List, map, None, codes}
use Rattle.mp_boxes.specs.Boxes.{Box, IsBytes}
use Rattle.mp_headers.specs.MovieHeader.{mvhd_fields}
use Rattle.mp_timeline.specs.Movie.{MovieHeadRecord}
use Rattle.mp_movie.specs.Children.{the, user_data}
use Rattle.mp_movie.specs.Heads.{movie_head}
use Rattle.mp_movie.specs.Present.{movie_fault, traks_in}
use Rattle.mp_read.specs.Track.{TrackTablesRecord, tables_of}

pub record MovieTablesRecord : Type 0 where
  pub scale : ℕ
  pub head : MovieHeadRecord
  pub tracks : List TrackTablesRecord

-- the movie by its movie box
unfoldable pub movie_tables : Box → MovieTablesRecord
movie_tables moov =
    let header = mvhd_fields (the (codes "mvhd") moov).body in
    record { scale = header.timescale; head = movie_head header (user_data moov); tracks = map tables_of (traks_in moov) }

-- it is that of a movie box of which no check fails, in a file of so many bytes
pub record IsRead (size : ℕ) (movie : MovieTablesRecord) : Type 0 where
  pub moov : Box
  pub bytes : IsBytes moov.body
  pub passes : movie_fault size moov ≡ None
  pub is : movie ≡ movie_tables moov
