-- The heads of a movie and of its tracks, and the header boxes that state them: each as it is written and as it is read
-- (ISO/IEC 14496-12, 8.2.2, 8.3.2, 8.4.2 and 8.4.3).
use Rattle.std.specs.Prelude.{ℕ, List}
use Rattle.mp_headers.specs.declared.movie_header.Mvhd.{Mvhd}
use Rattle.mp_headers.specs.declared.track_header.Tkhd.{Tkhd}
use Rattle.mp_headers.specs.declared.media_header.Mdhd.{Mdhd}
use Rattle.mp_timeline.specs.Movie.{MovieHeadRecord, TrackHeadRecord, TrackRecord, MovieRecord}
use Rattle.mp_movie.specs.Durations.{movie_duration, track_duration, media_duration, next_track}

-- the fields of the movie header
abbrev pub movie_fields : MovieRecord → Mvhd
movie_fields movie = record {
  created = movie.head.created;
  modified = movie.head.modified;
  timescale = movie.scale;
  duration = movie_duration movie;
  rate = movie.head.rate;
  volume = movie.head.volume;
  matrix = movie.head.matrix;
  next_track = next_track movie;
}

-- the head of a movie, by its movie header and its user data
abbrev pub movie_head : Mvhd → List ℕ → MovieHeadRecord
movie_head header udta = record {
  created = header.created;
  modified = header.modified;
  rate = header.rate;
  volume = header.volume;
  matrix = header.matrix;
  udta = udta;
}

-- the fields of a track header, in a movie of this scale
abbrev pub track_fields : ℕ → TrackRecord → Tkhd
track_fields movie_scale track = record {
  flags = track.head.flags;
  created = track.head.created;
  modified = track.head.modified;
  number = track.number;
  duration = track_duration movie_scale track;
  layer = track.head.layer;
  group = track.head.group;
  volume = track.head.volume;
  matrix = track.head.matrix;
  width = track.head.width;
  height = track.head.height;
}

-- the fields of a media header
abbrev pub media_fields : TrackRecord → Mdhd
media_fields track = record {
  created = track.head.media_created;
  modified = track.head.media_modified;
  timescale = track.scale;
  duration = media_duration track;
  language = track.head.language;
}

-- the head of a track, by its track header, its media header, its handler and name, and its user data
abbrev pub track_head : Tkhd → Mdhd → List ℕ → List ℕ → List ℕ → TrackHeadRecord
track_head header media handler name udta = record {
  flags = header.flags;
  created = header.created;
  modified = header.modified;
  layer = header.layer;
  group = header.group;
  volume = header.volume;
  matrix = header.matrix;
  width = header.width;
  height = header.height;
  media_created = media.created;
  media_modified = media.modified;
  language = media.language;
  handler = handler;
  name = name;
  udta = udta;
}
