-- What the calls of a run answer, step by step.
use Rattle.std.specs.Prelude.{◌≡◌, ◌<◌, ◌⊎◌, ℕ, List, [], All, length, map, unwrap_or, IfSome, IsSomeAnd, OnOk, Result, Ok, Err}
use Rattle.mp_ports.specs.declared.fault.Bad.{Bad as Refused}
use Rattle.mp_ports.specs.declared.fault.Fail.{Fail}
use Rattle.mp_ports.specs.declared.fault.Fail.TheVariants.{Bad as FailBad, NoMemory as FailNoMemory}
use Rattle.mp_ports.specs.declared.fault.ReadFail.{ReadFail}
use Rattle.mp_ports.specs.declared.fault.ReadFail.TheVariants.{Bad as ReadBad, ReadFault as ReadFails, NoMemory as ReadNoMemory}
use Rattle.mp_ports.specs.Count.{Rose, after_fault}
use Rattle.mp_ports.specs.Folder.{FolderState, HeldFile, OpenedFile}
use Rattle.mp_timeline.specs.Movie.{MovieRecord}
use Rattle.mp_timeline.specs.Same.{HasScales}
use Rattle.mp_movie.specs.WellFormed.{AreDistinct}
use Rattle.mp_movie.specs.Placed.{PlacedMovie}
use Rattle.mp_movie.specs.StandsFor.{stands_for}
use Rattle.mp_clip.specs.Clipped.{IsRange}
use Rattle.track_ops.specs.Numbers.{numbers_of}
use Rattle.track_ops.specs.SeenLaw.{ShowDelayed}
use Rattle.mp_words.specs.Jobs.{Asked, Adds, Removes, Delays, Cuts, ScalesTrack, ScalesMovie, SetsLanguage, Enables}
use Rattle.mp4edit.specs.declared.stop.Stop.{Stop}
use Rattle.mp4edit.specs.declared.stop.Stop.TheVariants.{Missing, Bad, ReadFault, NoMemory}
use Rattle.mp4edit.specs.Names.{OpensAll, OpensFront, Wanted}
use Rattle.mp4edit.specs.Outcome.{Outcome, Movie, Refusal, Absent, input}

-- the bytes of the opened files, each at its number; none of a file that isn't told
abbrev pub told_files : FolderState → List (List ℕ)
told_files s = map (λ (file : OpenedFile). unwrap_or file.bytes []) s.opened

-- each opened file is told: its bytes, as many as its size says
abbrev pub AllTold : FolderState → Type 0
AllTold s = All (λ (file : OpenedFile). IsSomeAnd file.bytes (λ bytes. file.size ≡ length bytes)) s.opened

-- what the options come to where there is no movie, or a failed read, or want of memory
abbrev pub GivesNone : Stop → Outcome → Type 0
GivesNone (Bad bad) outcome = outcome ≡ Refusal bad
GivesNone (Missing command) outcome = outcome ≡ Absent command
GivesNone ReadFault outcome = Unit
GivesNone NoMemory outcome = Unit

-- the movie, as the opened files tell it, or why there is none
abbrev pub Gives : {A : Type 0} → (A → PlacedMovie) → Result A Stop → FolderState → Outcome → Type 0
Gives movie_in (Ok value) s outcome = outcome ≡ Movie (stands_for (told_files s) (movie_in value))
Gives movie_in (Err stop) s outcome = GivesNone stop outcome

-- files may have been opened or missed, and of the other counts only that of the cause rose
abbrev pub KeepsRest : {A : Type 0} → Result A Stop → FolderState → FolderState → Type 0
KeepsRest (Err ReadFault) old new = new ≡ record old { opened = new.opened; misses = new.misses; read_faults = after_fault old.read_faults }
KeepsRest _ old new = new ≡ record old { opened = new.opened; misses = new.misses }

-- the misses are the same, or rose; where all files must be there (`needed`), they are the same
abbrev pub KeepsMisses : Type 0 → FolderState → FolderState → Type 0
KeepsMisses needed old new = ((new.misses ≡ old.misses) ⊎ Rose old.misses new.misses) × (needed → new.misses ≡ old.misses)

-- where a file is missing that must be there, they rose
abbrev pub CountsMisses : {A : Type 0} → Type 0 → Result A Stop → FolderState → FolderState → Type 0
CountsMisses needed (Err (Missing command)) old new = Rose old.misses new.misses
CountsMisses needed _ old new = KeepsMisses needed old new

-- what reading files of the wanted names does to a folder: it opens a front of those that are held, and all where it goes on
pub record OpensFiles {A : Type 0} (result : Result A Stop) (wanted : Wanted) (most : ℕ) (needed : Type 0) (old new : FolderState) : Type 0 where
  pub names : OpensFront wanted most old new
  pub all : OnOk result (OpensAll wanted most old new)
  pub rest : KeepsRest result old new
  pub misses : CountsMisses needed result old new
  pub told : IfSome old.held (λ _. AllTold old → AllTold new)

-- a refusal under the number of the option
abbrev pub named : ℕ → Refused → Refused
named command bad = record bad { command = command }

-- why there is no movie, by a failure to read for the option of that number
abbrev pub of_read : ℕ → ReadFail → Stop
of_read command (ReadBad bad) = Bad (named command bad)
of_read command ReadFails = ReadFault
of_read command ReadNoMemory = NoMemory

-- by a failure of its command
abbrev pub of_fail : ℕ → Fail → Stop
of_fail command (FailBad bad) = Bad (named command bad)
of_fail command FailNoMemory = NoMemory

abbrev pub of_done : {A : Type 0} → ℕ → Result A Refused → Result A Stop
of_done command (Ok done) = Ok done
of_done command (Err bad) = Err (Bad (named command bad))

-- where it is a movie, each scale is at least one tick a second
abbrev pub HasMovieScales : Outcome → Type 0
HasMovieScales (Movie movie) = HasScales movie
HasMovieScales _ = Unit

-- what is known of an option that was carried out, beside what it made of the movie: the file that it adds has scales, a
-- delay shows each track later or as before, a cut is to a range of time, of a movie that has scales, and a scale that is
-- set has ticks, of tracks with numbers of their own. It is none that isn't built
abbrev pub IsCarriedOut : List HeldFile → ℕ → Asked → (movie made : MovieRecord) → Type 0
IsCarriedOut files command (Adds name choice rate) movie made = HasMovieScales (input files command name rate)
IsCarriedOut files command (Removes number) movie made = Unit
IsCarriedOut files command (Delays number ms) movie made = ShowDelayed number ms movie made
IsCarriedOut files command (Cuts from to) movie made = IsRange from to × HasScales movie
IsCarriedOut files command (ScalesTrack number scale) movie made = (0 < scale) × AreDistinct (numbers_of movie.tracks)
IsCarriedOut files command (ScalesMovie scale) movie made = 0 < scale
IsCarriedOut files command (SetsLanguage number letters) movie made = Unit
IsCarriedOut files command (Enables number on) movie made = Unit
IsCarriedOut files command _ movie made = ⊥

-- what was done for the option of that number, or why not
abbrev pub of_failed : {A : Type 0} → ℕ → Result A Fail → Result A Stop
of_failed command (Ok done) = Ok done
of_failed command (Err fail) = Err (of_fail command fail)
