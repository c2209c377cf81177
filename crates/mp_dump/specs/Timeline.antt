-- What a movie presents, line by line: each track, the segments of its edit list, and its samples.
use Rattle.std.specs.Prelude.{ℕ, ◌+◌, List, [], ◌∷◌, ◌++◌, codes, map, if◌then◌else◌}
use Rattle.std.specs.Fmt.{signed_decimal}
use Rattle.std.specs.List.{flat_map}
use Rattle.mp_timeline.specs.declared.segment.Segment.{Segment}
use Rattle.mp_timeline.specs.declared.segment.Segment.TheVariants.{Empty, Media}
use Rattle.mp_timeline.specs.Movie.{TrackRecord, MovieRecord}
use Rattle.mp_edits.specs.EditBox.{segments_in}
use Rattle.mp_dump.specs.declared.row.Row.{Row}
use Rattle.mp_dump.specs.Row.{row_of}
use Rattle.mp_dump.specs.Info.{movie_line, track_line}
use Rattle.mp_dump.specs.Words.{field}

-- a segment: its duration in ticks of the movie, behind its start in ticks of the track
unfoldable pub segment_line : Segment → List ℕ
segment_line (Empty dur) = field (codes "edit empty ") dur ++ codes "\n"
segment_line (Media start dur) = field (codes "edit media ") start ++ field (codes " ") dur ++ codes "\n"

-- the sample of that number, its times in ticks of the track
unfoldable pub row_line : ℕ → Row → List ℕ
row_line number row =
    field (codes "sample ") number ++ field (codes " size ") row.size ++ field (codes " decode ") row.decode
    ++ field (codes " duration ") row.dur ++ (codes " composition " ++ signed_decimal row.comp)
    ++ (if row.sync then codes " sync" else codes " plain") ++ field (codes " entry ") row.entry ++ codes "\n"

-- the samples behind so many
abbrev pub row_lines : ℕ → List Row → List ℕ
row_lines before [] = []
row_lines before (row ∷ rows) = row_line (before + 1) row ++ row_lines (before + 1) rows

-- a track
unfoldable pub track_lines : TrackRecord → List ℕ
track_lines track = track_line track ++ flat_map segment_line (segments_in track.edits) ++ row_lines 0 (map row_of track.samples)

-- all of it
abbrev pub timeline : MovieRecord → List ℕ
timeline movie = movie_line movie ++ flat_map track_lines movie.tracks
