-- What is seen behind the options so far, and behind those that are left.
use Rattle.std.proofs.Common.{◌≡◌, ℕ, ◌+◌, ◌≤◌, List, ◌∷◌, drop, length, IfSome, IsSomeAnd, OnOk, ℤ, Option, Some, None, Result, Ok, Err, sym, subst, ap, ◌∙◌}
use Rattle.std.proofs.lemmas.List.{drop_all}
use Rattle.mp_ports.specs.declared.code.Code.{Code}
use Rattle.mp_ports.specs.declared.fault.Fail.{Fail}
use Rattle.mp_ports.specs.Folder.{FolderState, HeldFile}
use Rattle.mp_pieces.specs.Copied.{sizes_of}
use Rattle.mp_timeline.specs.Movie.{MovieRecord}
use Rattle.mp_timeline.specs.Same.{HasScales}
use Rattle.mp_movie.specs.Placed.{PlacedMovie}
use Rattle.mp_movie.specs.PartsLaw.{PartsStandForMovies}
use Rattle.mp_movie.specs.StandsFor.{Hold, stands_for}
use Rattle.mp_movie.specs.WellFormed.{AreDistinct, IsWellFormed}
use Rattle.mp_movie.specs.WholeParts.{AreParts}
use Rattle.mp_layout.specs.Emitted.{AreTold}
use Rattle.mp_layout.specs.Plan.{IsFileOf}
use Rattle.track_ops.specs.declared.heads.HeadChange.TheVariants.{Language, Enabled}
use Rattle.track_ops.specs.Adding.{add}
use Rattle.track_ops.specs.Delay.{delay}
use Rattle.track_ops.specs.Heads.{language_of}
use Rattle.track_ops.specs.Moments.{AreSeenAs, View, with_added}
use Rattle.track_ops.specs.Later.{DelaysShown}
use Rattle.track_ops.specs.Numbers.{numbers_of}
use Rattle.track_ops.specs.SeenLaw.{CommandsAreSeen, ShowDelayed}
use Rattle.track_ops.specs.SetScales.{set_movie_scale, set_track_scale}
use Rattle.track_ops.specs.Tracks.{change_head, remove}
use Rattle.cut_op.specs.Cut.{cut}
use Rattle.cut_op.specs.Law.{CutsAreSeen}
use Rattle.mp_words.specs.Jobs.{Asked, Adds, Joins, Removes, Delays, Cuts, ScalesTrack, ScalesMovie, SetsLanguage, Enables, CommandRecord}
use Rattle.mp4edit.specs.declared.stop.Stop.{Stop}
use Rattle.mp4edit.specs.Outcome.{Outcome, Absent, Movie, Refusal, and_then, applied, input, step}
use Rattle.mp4edit.specs.Reading.{AllTold, HasMovieScales, IsCarriedOut, of_failed, told_files}
use Rattle.mp4edit.specs.Roll.{IsSeen, IsSeenIn, roll, seen_behind_all, seen_behind, with_input}
use Rattle.mp4edit.specs.Run.{HasWritten}
use Rattle.mp4edit.specs.Status.{ending_of}
use Rattle.mp4edit.proofs.ToldFiles.{held_is_told, same_sizes}

-- a movie is seen so, and the options that are left make of that what all say
abbrev pub RollsTo : List HeldFile → List CommandRecord → ℕ → MovieRecord → Type 0
RollsTo files commands done movie = (views : List View) × AreSeenAs movie views × (roll files commands ≡ seen_behind_all files (drop done commands) views)

applied_is : (command : ℕ) (result : Result MovieRecord Code) (made : MovieRecord) → applied command result ≡ Movie made → result ≡ Ok made
applied_is command (Ok movie) made is = cc
applied_is command (Err code) made is = cc

-- what an option makes of a movie is seen as the option says
step_seen : CommandsAreSeen → CutsAreSeen → (files : List HeldFile) (command : ℕ) (what : Asked) (movie made : MovieRecord) (views : List View) → step files command what movie ≡ Movie made → IsCarriedOut files command what movie made
    → AreSeenAs movie views → AreSeenAs made (seen_behind files command what views)
step_seen law cuts files command (Adds name choice rate) movie made views is scales seen = by (input files command name rate) is scales
  where
    by : (found : Outcome) → and_then found (λ other. applied command (add choice other movie)) ≡ Movie made → HasMovieScales found → AreSeenAs made (with_input found (with_added choice) views)
    by (Movie other) is scales = law.add choice other movie made views scales (applied_is command (add choice other movie) made is) seen
    by (Refusal bad) is scales = cc
    by (Absent number) is scales = cc
step_seen law cuts files command (Removes number) movie made views is scales seen = law.remove number movie made views (applied_is command (remove number movie) made is) seen
step_seen law cuts files command (SetsLanguage number letters) movie made views is scales seen =
    law.head number (Language (language_of letters)) movie made views (applied_is command (change_head number (Language (language_of letters)) movie) made is) seen
step_seen law cuts files command (Enables number on) movie made views is scales seen = law.head number (Enabled on) movie made views (applied_is command (change_head number (Enabled on) movie) made is) seen
step_seen law cuts files command (Delays number ms) movie made views is shows seen = law.delay number ms movie made views (applied_is command (delay number ms movie) made is) shows seen
step_seen law cuts files command (ScalesTrack number scale) movie made views is known seen =
    law.track_scale number scale movie made views known.0 known.1 (applied_is command (set_track_scale number scale movie) made is) seen
step_seen law cuts files command (ScalesMovie scale) movie made views is some seen = law.movie_scale scale movie made views some (applied_is command (set_movie_scale scale movie) made is) seen
step_seen law cuts files command (Joins name) movie made views is done seen = absurd done
step_seen law cuts files command (Cuts from to) movie made views is known seen = cuts from to movie made views known.0 known.1 (applied_is command (cut from to movie) made is) seen

-- an option is done, and those behind it are left
pub rolls_on : CommandsAreSeen → CutsAreSeen → (commands : List CommandRecord) (done : ℕ) (command : CommandRecord) (movie next : PlacedMovie) (held : Option (List HeldFile)) (s t : FolderState)
    → drop done commands ≡ command ∷ drop (done + 1) commands
    → IfSome held (λ files. RollsTo files commands done (stands_for (told_files s) movie))
    → IfSome held (λ files. step files command.place command.what (stands_for (told_files s) movie) ≡ Movie (stands_for (told_files t) next))
    → IfSome held (λ files. IsCarriedOut files command.place command.what (stands_for (told_files s) movie) (stands_for (told_files t) next))
    → IfSome held (λ files. RollsTo files commands (done + 1) (stands_for (told_files t) next))
rolls_on law cuts commands done command movie next None s t here rolls made scales = tt
rolls_on law cuts commands done command movie next (Some files) s t here rolls made scales = (
  seen_behind files command.place command.what rolls.0,
  step_seen law cuts files command.place command.what (stands_for (told_files s) movie) (stands_for (told_files t) next) rolls.0 made scales rolls.1,
  rolls.2 ∙ ap (λ (left : List CommandRecord). seen_behind_all files left rolls.0) here,
)

-- none is left
pub rolls_all : (commands : List CommandRecord) (done : ℕ) (movie : PlacedMovie) (held : Option (List HeldFile)) (s : FolderState) → length commands ≤ done
    → IfSome held (λ files. RollsTo files commands done (stands_for (told_files s) movie)) → IfSome held (λ files. AreSeenAs (stands_for (told_files s) movie) (roll files commands))
rolls_all commands done movie None s past rolls = tt
rolls_all commands done movie (Some files) s past rolls =
    subst (λ (views : List View). AreSeenAs (stands_for (told_files s) movie) views)
    (sym (rolls.2 ∙ ap (λ (left : List CommandRecord). seen_behind_all files left rolls.0) (drop_all done commands past))) rolls.1

-- a movie that was read has its scales
pub input_scales : PartsStandForMovies → ((movie : MovieRecord) → IsWellFormed movie → HasScales movie) → (held : Option (List HeldFile)) (found : List HeldFile → Outcome) (s : FolderState) (other : PlacedMovie)
    → AreParts other → IfSome held (λ files. found files ≡ Movie (stands_for (told_files s) other)) → IfSome held (λ files. HasMovieScales (found files))
input_scales stand scales None found s other parts reads = tt
input_scales stand scales (Some files) found s other parts reads = subst HasMovieScales (sym reads) (scales (stands_for (told_files s) other) (stand.well_formed (told_files s) other parts))

-- what a delay shows
pub delay_shows : (held : Option (List HeldFile)) (s : FolderState) (command number : ℕ) (ms : ℤ) (old new : PlacedMovie) (done : Result Unit Fail) → IfSome held (λ _. AllTold s) → Hold (sizes_of s) old
    → OnOk done (DelaysShown number ms old new) → IfSome held (λ files. OnOk (of_failed command done) (ShowDelayed number ms (stands_for (told_files s) old) (stands_for (told_files s) new)))
delay_shows None s command number ms old new done told hold shows = tt
delay_shows (Some files) s command number ms old new (Ok done) told hold shows = shows (told_files s) (subst (λ (sizes : List ℕ). Hold sizes old) (same_sizes s told) hold)
delay_shows (Some files) s command number ms old new (Err fail) told hold shows = tt

-- what holds, holds where something was done
pub known : {A E : Type 0} (held : Option (List HeldFile)) (done : Result A E) (P : Type 0) → P → IfSome held (λ _. OnOk done P)
known None done P p = tt
known (Some files) (Ok done) P p = p
known (Some files) (Err fault) P p = tt

-- tracks of a movie have numbers of their own
pub own_numbers : PartsStandForMovies → (s : FolderState) (movie : PlacedMovie) → AreParts movie → AreDistinct (numbers_of (stands_for (told_files s) movie).tracks)
own_numbers stand s movie parts = (stand.well_formed (told_files s) movie parts).distinct

-- the file that is written shows what the options say
pub is_seen : (held : Option (List HeldFile)) (s old t : FolderState) (movie : PlacedMovie) (window : ℕ) (seen_by : List HeldFile → List View) → IfSome held (λ _. AllTold s) → Hold (sizes_of s) movie
    → IfSome held (λ files. AreSeenAs (stands_for (told_files s) movie) (seen_by files))
    → (AreTold s movie (told_files s) → HasWritten (Movie (stands_for (told_files s) movie)) window old t)
    → IfSome held (λ files. IfSome old.written (λ _. IsSomeAnd t.written (IsSeenIn (seen_by files))))
is_seen None s old t movie window seen_by told held seen writes = tt
is_seen (Some files) s old t movie window seen_by told held seen writes = by old.written t.written (writes (held_is_told s movie told held))
  where
    by : (before now : Option (List ℕ)) → IfSome before (λ _. IsSomeAnd now (IsFileOf (stands_for (told_files s) movie) window)) → IfSome before (λ _. IsSomeAnd now (IsSeenIn (seen_by files)))
    by None now file = tt
    by (Some _) None file = absurd file
    by (Some _) (Some bytes) file = subst (λ (read : Option MovieRecord). IsSomeAnd read (λ movie. AreSeenAs movie (seen_by files))) (sym file.exact) seen

-- where there is no movie, no file shows anything
pub stop_is_seen : (held : Option (List HeldFile)) (seen_by : List HeldFile → List View) (stop : Stop) (old new : FolderState) → IfSome held (λ files. IsSeen (ending_of stop) (seen_by files) old new)
stop_is_seen None seen_by stop old new = tt
stop_is_seen (Some files) seen_by (Stop.Bad bad) old new = tt
stop_is_seen (Some files) seen_by (Stop.Missing command) old new = tt
stop_is_seen (Some files) seen_by Stop.ReadFault old new = tt
stop_is_seen (Some files) seen_by Stop.NoMemory old new = tt
