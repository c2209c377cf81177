-- What is said: the line of a file that was written, and the text of a dump.
use Rattle.std.specs.Prelude.{ℕ, List, ◌++◌, length, sum_by, codes, decimal}
use Rattle.mp_timeline.specs.Movie.{TrackRecord, MovieRecord}
use Rattle.mp_layout.specs.File.{file_bytes}
use Rattle.mp_words.specs.declared.job.DumpKind.{DumpKind}
use Rattle.mp_words.specs.declared.job.DumpKind.TheVariants.{Info, Timeline, Json}
use Rattle.mp_dump.specs.Info.{info}
use Rattle.mp_dump.specs.Timeline.{timeline}
use Rattle.mp_dump.specs.Json.{json}

-- the samples of all tracks
abbrev pub sample_count : MovieRecord → ℕ
sample_count movie = sum_by (λ (track : TrackRecord). length track.samples) movie.tracks

-- the words of the line: the file's name, the tracks, the samples and the bytes of the file
unfoldable pub wrote : List ℕ → ℕ → ℕ → ℕ → List ℕ
wrote name tracks samples bytes =
    codes "wrote " ++ name ++ codes " tracks " ++ decimal tracks ++ codes " samples " ++ decimal samples
    ++ codes " bytes " ++ decimal bytes ++ codes "\n"

-- the line of a movie that was written under the name, in chunks of the window
abbrev pub line : List ℕ → MovieRecord → ℕ → List ℕ
line name movie window = wrote name (length movie.tracks) (sample_count movie) (length (file_bytes movie window))

-- what a dump of that kind says of the movie that a file presents
abbrev pub text_of : DumpKind → MovieRecord → List ℕ
text_of Info movie = info movie
text_of Timeline movie = timeline movie
text_of Json movie = json movie
