-- The durations and numbers that the headers of a movie state (ISO/IEC 14496-12, 8.2.2, 8.3.2 and 8.4.2).
use Rattle.std.specs.Prelude.{ℕ, ℤ, pos, negsuc, ◌+ℤ◌, ◌+◌, ◌-◌, ◌*◌, ◌^◌, min, max, List, [], ◌∷◌, map, Option, Some, None}
use Rattle.std.specs.List.{sum_by}
use Rattle.std.specs.Int.{div_ceil}
use Rattle.mp_boxes.specs.Table.{capped}
use Rattle.mp_timeline.specs.declared.segment.Segment.{Segment}
use Rattle.mp_timeline.specs.Movie.{SampleRecord, TrackRecord, MovieRecord}
use Rattle.mp_edits.specs.Segments.{total}

-- the greatest number, 0 where there is none
abbrev pub greatest : List ℕ → ℕ
greatest [] = 0
greatest (number ∷ numbers) = max number (greatest numbers)

-- a time on the track's own timeline, 0 where it is before the start
abbrev pub not_before_start : ℤ → ℕ
not_before_start (pos ticks) = ticks
not_before_start (negsuc ticks) = 0

-- the latest end of a sample, its composition time and its duration; 0 where none is behind the start
abbrev pub extent : List SampleRecord → ℕ
extent samples = greatest (map (λ sample. not_before_start (sample.comp +ℤ pos sample.dur)) samples)

-- how long a track is shown, in ticks of the movie, rounded up
abbrev pub shown_duration : ℕ → ℕ → List SampleRecord → Option (List Segment) → ℕ
shown_duration movie_scale scale samples None = div_ceil (extent samples * movie_scale) scale
shown_duration movie_scale scale samples (Some edits) = total edits

-- the duration of a track header, in 64 bits
abbrev pub track_duration : ℕ → TrackRecord → ℕ
track_duration movie_scale track = capped (shown_duration movie_scale track.scale track.samples track.edits)

-- the duration of the movie header: that of the longest track
abbrev pub movie_duration : MovieRecord → ℕ
movie_duration movie = greatest (map (track_duration movie.scale) movie.tracks)

-- the duration of a media header, in ticks of the track, in 64 bits
abbrev pub media_duration : TrackRecord → ℕ
media_duration track = capped (sum_by (λ sample. sample.dur) track.samples)

-- a number above those of all tracks, as far as there is one
abbrev pub next_track : MovieRecord → ℕ
next_track movie = min (greatest (map (λ track. track.number) movie.tracks) + 1) (2 ^ 32 - 1)
