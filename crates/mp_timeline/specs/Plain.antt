-- The heads of a movie and a track whose source says nothing of them (ISO/IEC 14496-12, 8.2.2, 8.3.2, 8.4.2 and 8.4.3).
use Rattle.std.specs.Prelude.{ℕ, List, [], ◌∷◌, codes, bytes_eq, if◌then◌else◌}
use Rattle.std.specs.List.{flat_map}
use Rattle.std.specs.Int.{w32, to_be_bytes}
use Rattle.mp_timeline.specs.Movie.{MovieHeadRecord, TrackHeadRecord}

-- the matrix that leaves a picture as it is: 1, 0, 0, 0, 1, 0, 0, 0, 1 in 16.16 and 2.30
abbrev pub unit_matrix : List ℕ
unit_matrix = flat_map (to_be_bytes w32) (0x10000 ∷ 0 ∷ 0 ∷ 0 ∷ 0x10000 ∷ 0 ∷ 0 ∷ 0 ∷ 0x40000000 ∷ [])

-- full volume, in 8.8
abbrev pub full_volume : ℕ
full_volume = 0x100

-- the language `und`: three letters of 5 bits
abbrev pub undetermined : ℕ
undetermined = 0x55C4

-- no times, the usual rate (16.16) and volume, the unit matrix, no user data
abbrev pub plain_movie_head : MovieHeadRecord
plain_movie_head = record {
  created = 0;
  modified = 0;
  rate = 0x10000;
  volume = full_volume;
  matrix = unit_matrix;
  udta = [];
}

-- enabled and in the movie (flags 1 and 2), no times, sound at full volume, no picture size, an empty name and its closing 0
abbrev pub plain_track_head : List ℕ → TrackHeadRecord
plain_track_head handler = record {
  flags = 3;
  created = 0;
  modified = 0;
  layer = 0;
  group = 0;
  volume = if bytes_eq handler (codes "soun") then full_volume else 0;
  matrix = unit_matrix;
  width = 0;
  height = 0;
  media_created = 0;
  media_modified = 0;
  language = undetermined;
  handler = handler;
  name = 0 ∷ [];
  udta = [];
}
