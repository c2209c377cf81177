-- What a job comes to, given the files that are held: its options, applied in their order.
use Rattle.std.specs.Prelude.{ℕ, List, [], ◌∷◌, ◌==◌, codes, length, unwrap_or, Option, Some, None, Result, Ok, Err}
use Rattle.mp_ports.specs.declared.code.Code.{Code}
use Rattle.mp_ports.specs.declared.code.Code.TheVariants.{EmptyMovie}
use Rattle.mp_ports.specs.declared.fault.Bad.{Bad}
use Rattle.mp_ports.specs.Checks.{fault_at, first_code, first_some, placed, unless}
use Rattle.mp_ports.specs.Folder.{HeldFile, bytes_under}
use Rattle.mp_timeline.specs.Movie.{MovieRecord}
use Rattle.mp_timeline.specs.Plain.{plain_movie_head}
use Rattle.mp_movie.specs.Placed.{plain_scale}
use Rattle.mp_movie.specs.Present.{reading}
use Rattle.adts_import.specs.Stream.{stream_movie}
use Rattle.avc_import.specs.declared.rate.Rate.{Rate as PictureRate}
use Rattle.avc_import.specs.Stream.{stream_movie as pictures_movie}
use Rattle.nhnt_import.specs.Pair.{pair_movie}
use Rattle.track_ops.specs.declared.chosen.Choice.{Choice}
use Rattle.track_ops.specs.Adding.{add}
use Rattle.track_ops.specs.Delay.{delay}
use Rattle.track_ops.specs.SetScales.{set_movie_scale, set_track_scale}
use Rattle.track_ops.specs.Tracks.{remove, set_enabled, set_language}
use Rattle.cut_op.specs.Cut.{cut}
use Rattle.mp_layout.specs.File.{moov_fault}
use Rattle.mp_words.specs.declared.name.FileKind.{FileKind}
use Rattle.mp_words.specs.declared.name.FileKind.TheVariants.{Adts, Avc, Nhnt}
use Rattle.mp_words.specs.declared.job.Rate.{Rate}
use Rattle.mp_words.specs.Jobs.{Asked, Adds, Removes, Delays, Cuts, ScalesTrack, ScalesMovie, SetsLanguage, Enables, CommandRecord, EditRecord}
use Rattle.mp_words.specs.Names.{beside, kind_of}

-- a movie to be written, a refusal, or an option whose file is missing
pub data Outcome : Type 0 where
  Movie : MovieRecord → Outcome
  Refusal : Bad → Outcome
  Absent : ℕ → Outcome

-- what is made of the movie, if the outcome is one
abbrev pub and_then : Outcome → (MovieRecord → Outcome) → Outcome
and_then (Movie movie) next = next movie
and_then (Refusal bad) next = Refusal bad
and_then (Absent command) next = Absent command

-- a movie, or its refusal under that option's number
abbrev pub outcome_of : ℕ → Result MovieRecord Bad → Outcome
outcome_of command (Ok movie) = Movie movie
outcome_of command (Err bad) = Refusal (record bad { command = command })

-- the rate of the pictures of a stream of H.264
abbrev pub picture_rate : Option Rate → Option PictureRate
picture_rate None = None
picture_rate (Some rate) = Some (record { num = rate.num; den = rate.den })

-- the movie of a file of that kind; the rate is that of a stream of H.264
abbrev pub read_as : Option FileKind → Option Rate → List ℕ → Result MovieRecord Bad
read_as (Some Adts) rate bytes = stream_movie bytes
read_as (Some Avc) rate bytes = pictures_movie (picture_rate rate) bytes
read_as _ rate bytes = reading bytes

-- what an option's file comes to, where one of its name is held
abbrev pub input_outcome : Option FileKind → Option Rate → ℕ → Option (List ℕ) → Outcome
input_outcome kind rate command None = Absent command
input_outcome kind rate command (Some bytes) = outcome_of command (read_as kind rate bytes)

-- the one file of that name, which is no NHNT table
abbrev pub file_input : List HeldFile → ℕ → List ℕ → Option Rate → Outcome
file_input files command name rate = input_outcome (kind_of name) rate command (bytes_under name files)

-- what an NHNT pair comes to, where its table and its `.media` file are held; without an `.info` file, `info` has no bytes
abbrev pub pair_outcome : ℕ → Option (List ℕ) → Option (List ℕ) → List ℕ → Outcome
pair_outcome command (Some table) (Some media) info = outcome_of command (pair_movie table media info)
pair_outcome command table media info = Absent command

-- the pair whose table has that name
abbrev pub pair_input : List HeldFile → ℕ → List ℕ → Outcome
pair_input files command name =
    pair_outcome command (bytes_under name files) (bytes_under (beside name (codes ".media")) files)
    (unwrap_or (bytes_under (beside name (codes ".info")) files) [])

-- the pair, or the one file
abbrev pub input_as : Option FileKind → List HeldFile → ℕ → List ℕ → Option Rate → Outcome
input_as (Some Nhnt) files command name rate = pair_input files command name
input_as kind files command name rate = file_input files command name rate

-- the input of that name, whose pictures have that rate where it is a stream of H.264
abbrev pub input : List HeldFile → ℕ → List ℕ → Option Rate → Outcome
input files command name rate = input_as (kind_of name) files command name rate

-- what the option's command makes of the movie
abbrev pub applied : ℕ → Result MovieRecord Code → Outcome
applied command made = outcome_of command (placed 0 made)

-- the chosen tracks of the input of that name are added
abbrev pub add_outcome : List HeldFile → ℕ → List ℕ → Choice → Option Rate → MovieRecord → Outcome
add_outcome files command name choice rate movie = and_then (input files command name rate) (λ other. applied command (add choice other movie))

-- an option: its input is read, and then its command is applied. No job that is built has another one than these
abbrev pub step : List HeldFile → ℕ → Asked → MovieRecord → Outcome
step files command (Adds name choice rate) movie = add_outcome files command name choice rate movie
step files command (Removes number) movie = applied command (remove number movie)
step files command (Delays number ms) movie = applied command (delay number ms movie)
step files command (Cuts from to) movie = applied command (cut from to movie)
step files command (ScalesTrack number scale) movie = applied command (set_track_scale number scale movie)
step files command (ScalesMovie scale) movie = applied command (set_movie_scale scale movie)
step files command (SetsLanguage number letters) movie = applied command (set_language number letters movie)
step files command (Enables number on) movie = applied command (set_enabled number on movie)
step files command _ movie = Movie movie

-- the options, one after another
abbrev pub folded : List HeldFile → List CommandRecord → MovieRecord → Outcome
folded files [] movie = Movie movie
folded files (command ∷ commands) movie = and_then (step files command.place command.what movie) (folded files commands)

-- the movie before the first option: no tracks, a plain head, milliseconds
abbrev pub no_movie : MovieRecord
no_movie = record { scale = plain_scale; head = plain_movie_head; tracks = [] }

-- why a movie can't be written: it has no track, or its `moov` would be too long
abbrev pub output_fault : ℕ → MovieRecord → Option Bad
output_fault window movie = first_some (fault_at 0 (first_code ((length movie.tracks == 0, EmptyMovie) ∷ [])) ∷ moov_fault movie window ∷ [])

-- a movie that can't be written is refused under the number of the option that writes it
abbrev pub written : ℕ → ℕ → MovieRecord → Outcome
written command window movie = outcome_of command (unless (output_fault window movie) movie)

-- what an edit comes to
unfoldable pub outcome : EditRecord → List HeldFile → Outcome
outcome edit files = and_then (folded files edit.commands no_movie) (written edit.out_command edit.window)

-- what a dump comes to: what its file presents, as the input of the line's one option
abbrev pub dump_outcome : List ℕ → List HeldFile → Outcome
dump_outcome name files = file_input files 1 name None

-- it is a movie, of which this holds
abbrev pub IsMovieAnd : Outcome → (MovieRecord → Type 0) → Type 0
IsMovieAnd (Movie movie) P = P movie
IsMovieAnd (Refusal bad) P = ⊥
IsMovieAnd (Absent command) P = ⊥
