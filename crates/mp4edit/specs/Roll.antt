-- What the options of a line say of the tracks of the written file, and of each moment, given the files that are held. No
-- movie that an option makes is looked at.
use Rattle.std.specs.Prelude.{ℕ, List, [], ◌∷◌, None, IfSome, IsSomeAnd}
use Rattle.mp_ports.specs.Folder.{FolderState, HeldFile}
use Rattle.mp_timeline.specs.Movie.{MovieRecord}
use Rattle.mp_movie.specs.Present.{present}
use Rattle.track_ops.specs.CutAndJoined.{with_cut, with_joined}
use Rattle.track_ops.specs.Moments.{AreSeenAs, View, with_added, with_delayed, with_removed}
use Rattle.mp_words.specs.Jobs.{Asked, Adds, Joins, Removes, Delays, Cuts, ScalesTrack, ScalesMovie, SetsLanguage, Enables, CommandRecord}
use Rattle.mp4edit.specs.declared.ending.Ending.{Ending}
use Rattle.mp4edit.specs.declared.ending.Ending.TheVariants.{Done, ReportFault}
use Rattle.mp4edit.specs.Outcome.{Outcome, Movie, input}

-- what an option's file makes of the tracks, where it is a movie
abbrev pub with_input : Outcome → (MovieRecord → List View → List View) → List View → List View
with_input (Movie other) change views = change other views
with_input _ change views = views

-- the tracks behind an option, by those before it; a language, a mark and a scale change nothing that is seen
abbrev pub seen_behind : List HeldFile → ℕ → Asked → List View → List View
seen_behind files command (Adds name choice rate) views = with_input (input files command name rate) (with_added choice) views
seen_behind files command (Joins name) views = with_input (input files command name None) with_joined views
seen_behind files command (Removes number) views = with_removed number views
seen_behind files command (Delays number ms) views = with_delayed number ms views
seen_behind files command (Cuts from to) views = with_cut from to views
seen_behind files command (ScalesTrack number scale) views = views
seen_behind files command (ScalesMovie scale) views = views
seen_behind files command (SetsLanguage number letters) views = views
seen_behind files command (Enables number on) views = views

-- behind all of them, one after another
abbrev pub seen_behind_all : List HeldFile → List CommandRecord → List View → List View
seen_behind_all files [] views = views
seen_behind_all files (command ∷ commands) views = seen_behind_all files commands (seen_behind files command.place command.what views)

-- what a line says: at first there are no tracks
abbrev pub roll : List HeldFile → List CommandRecord → List View
roll files commands = seen_behind_all files commands []

-- the movie that a file presents is seen so: each track's number, handler and length, and what it shows at every moment
abbrev pub IsSeenIn : List View → List ℕ → Type 0
IsSeenIn views file = IsSomeAnd (present file) (λ movie. AreSeenAs movie views)

-- where the folder tells what is written, the file that stands finished is
abbrev pub IsSeen : Ending → List View → FolderState → FolderState → Type 0
IsSeen Done views old new = IfSome old.written (λ _. IsSomeAnd new.written (IsSeenIn views))
IsSeen ReportFault views old new = IfSome old.written (λ _. IsSomeAnd new.written (IsSeenIn views))
IsSeen _ views old new = Unit
