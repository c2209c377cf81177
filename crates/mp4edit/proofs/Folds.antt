-- The options so far, and those that are left.
use Rattle.std.proofs.Common.{◌≡◌, ℕ, zero, suc, ◌+◌, ◌*◌, ◌-◌, ◌^◌, ◌<◌, ◌≤◌, List, [], ◌∷◌, ◌++◌, map, take, drop, get_or, add-one, length, IfSome, OnOk, Option, Some, None, Result, Ok, Err, refl, sym, subst, ap, ◌∙◌, arith}
use Rattle.mp_ports.specs.declared.code.Code.{Code}
use Rattle.mp_ports.specs.declared.fault.Bad.{Bad as Refused}
use Rattle.mp_ports.specs.declared.fault.Fail.{Fail}
use Rattle.mp_ports.specs.Folder.{FolderState, HeldFile, OpenedFile}
use Rattle.mp_ports.specs.Gives.{refusal}
use Rattle.mp_pieces.specs.Copied.{sizes_of}
use Rattle.mp_timeline.specs.Movie.{MovieRecord}
use Rattle.mp_movie.specs.Placed.{PlacedMovie}
use Rattle.mp_movie.specs.PartsLaw.{FilesMayFollow}
use Rattle.mp_movie.specs.StandsFor.{Hold, stands_for}
use Rattle.track_ops.specs.declared.chosen.Choice.{Choice}
use Rattle.track_ops.specs.Adding.{add}
use Rattle.track_ops.specs.Does.{Adds, Does}
use Rattle.mp_words.specs.declared.job.Rate.{Rate}
use Rattle.mp_words.specs.Jobs.{Asked, CommandRecord}
use Rattle.mp4edit.specs.declared.stop.Stop.{Stop}
use Rattle.mp4edit.specs.Names.{NeedAll, NeedsAll, names_of, reads}
use Rattle.mp4edit.specs.Outcome.{Outcome, Movie, add_outcome, and_then, applied, folded, input, no_movie, outcome_of, step}
use Rattle.mp4edit.specs.Reading.{AllTold, Gives, OpensFiles, of_done, of_fail, of_failed, told_files}
use Rattle.mp4edit.proofs.FilesInTurn.{opens_as, opens_nothing, opens_on, stops_as, stops_first, stops_on, then_fails}
use Rattle.mp4edit.proofs.NamesInTurn.{reads-at, reads-next, take_all_commands}
use Rattle.mp4edit.proofs.Rolls.{RollsTo}
use Rattle.mp4edit.proofs.ToldFiles.{same_sizes, sizes_more, told_more}

-- so many commands are done: with those that are left the movie comes to what they all come to, and their files were opened
pub record FoldsTo (commands : List CommandRecord) (done : ℕ) (movie : PlacedMovie) (old now : FolderState) : Type 0 where
  pub left : IfSome old.held (λ files. folded files commands no_movie ≡ folded files (drop done commands) (stands_for (told_files now) movie))
  pub told : IfSome old.held (λ _. AllTold now)
  pub held : Hold (sizes_of now) movie
  pub folder : OpensFiles {A = Unit} (Ok tt) (reads (take done commands)) (3 * done) (NeedAll commands) old now
  pub seen : IfSome old.held (λ files. RollsTo files commands done (stands_for (told_files now) movie))

pub drop_at : (commands : List CommandRecord) (done : ℕ) (command : CommandRecord) → done < length commands → command ≡ get_or commands done command → drop done commands ≡ command ∷ drop (done + 1) commands
drop_at commands done command lt is = rw (add-one done) (by-place commands done lt is)
  where
    by-place : (commands : List CommandRecord) (done : ℕ) → done < length commands → command ≡ get_or commands done command → drop done commands ≡ command ∷ drop (suc done) commands
    by-place [] done lt is = absurd (omega arith)
    by-place (first ∷ commands) zero lt is = rw is refl
    by-place (first ∷ commands) (suc done) lt is = by-place commands done (omega arith) is

-- a command is done, and those behind it are left
pub goes_on : (commands : List CommandRecord) (done : ℕ) (command : CommandRecord) (movie next : PlacedMovie) (held : Option (List HeldFile)) (s t : FolderState)
    → done < length commands → command ≡ get_or commands done command
    → IfSome held (λ files. folded files commands no_movie ≡ folded files (drop done commands) (stands_for (told_files s) movie))
    → IfSome held (λ files. step files command.place command.what (stands_for (told_files s) movie) ≡ Movie (stands_for (told_files t) next))
    → IfSome held (λ files. folded files commands no_movie ≡ folded files (drop (done + 1) commands) (stands_for (told_files t) next))
goes_on commands done command movie next None s t lt is left made = tt
goes_on commands done command movie next (Some files) s t lt is left made =
    left ∙ (ap (λ (l : List CommandRecord). folded files l (stands_for (told_files s) movie)) (drop_at commands done command lt is)
    ∙ ap (λ (o : Outcome). and_then o (folded files (drop (done + 1) commands))) made)

-- a command that gives no movie decides what they all come to
pub stops : (A : Type 0) (commands : List CommandRecord) (done : ℕ) (command : CommandRecord) (movie : PlacedMovie) (held : Option (List HeldFile)) (stop : Stop) (s t : FolderState) (next : PlacedMovie)
    → done < length commands → command ≡ get_or commands done command
    → IfSome held (λ files. folded files commands no_movie ≡ folded files (drop done commands) (stands_for (told_files s) movie))
    → IfSome held (λ files. Gives {A = A} (λ _. next) (Err stop) t (step files command.place command.what (stands_for (told_files s) movie)))
    → IfSome held (λ files. Gives {A = PlacedMovie} (λ movie. movie) (Err stop) t (folded files commands no_movie))
stops A commands done command movie None stop s t next lt is left made = tt
stops A commands done command movie (Some files) stop s t next lt is left made =
    subst (λ (o : Outcome). Gives {A = PlacedMovie} (λ movie. movie) (Err stop) t o)
    (sym (left ∙ ap (λ (l : List CommandRecord). folded files l (stands_for (told_files s) movie)) (drop_at commands done command lt is)))
    (by stop made)
  where
    by : (stop : Stop) → Gives {A = A} (λ _. next) (Err stop) t (step files command.place command.what (stands_for (told_files s) movie))
        → Gives {A = PlacedMovie} (λ movie. movie) (Err stop) t (and_then (step files command.place command.what (stands_for (told_files s) movie)) (folded files (drop (done + 1) commands)))
    by (Stop.Bad bad) gives = ap (λ (o : Outcome). and_then o (folded files (drop (done + 1) commands))) gives
    by (Stop.Missing number) gives = ap (λ (o : Outcome). and_then o (folded files (drop (done + 1) commands))) gives
    by Stop.ReadFault gives = tt
    by Stop.NoMemory gives = tt

-- a command that opens no file, by what it did to the movie
pub done_gives : {A : Type 0} (s : FolderState) (command : ℕ) (made : MovieRecord → Result MovieRecord Code) (old new : PlacedMovie) (done : Result A Refused)
    → IfSome s.held (λ _. AllTold s) → Hold (sizes_of s) old → Does {A = A} Some made old new done
    → IfSome s.held (λ files. Gives {A = A} (λ _. new) (of_done command done) s (applied command (made (stands_for (told_files s) old))))
done_gives {A} s command made old new done told held does = of_held s.held told
  where
    by : (done : Result A Refused) → Hold (map length (told_files s)) old → Does {A = A} Some made old new done
        → Gives {A = A} (λ _. new) (of_done command done) s (applied command (made (stands_for (told_files s) old)))
    by (Ok done) hold does = ap (λ r. outcome_of command r) (does.gives (told_files s) hold)
    by (Err bad) hold does = ap (λ r. outcome_of command r) (does.gives (told_files s) hold)

    of_held : (holds : Option (List HeldFile)) → IfSome holds (λ _. AllTold s)
        → IfSome holds (λ files. Gives {A = A} (λ _. new) (of_done command done) s (applied command (made (stands_for (told_files s) old))))
    of_held None told = tt
    of_held (Some files) told = by done (subst (λ (sizes : List ℕ). Hold sizes old) (same_sizes s told) held) does

-- the same of a command that may find no memory
pub failed_gives : {A : Type 0} (s : FolderState) (command : ℕ) (made : MovieRecord → Result MovieRecord Code) (old new : PlacedMovie) (done : Result A Fail)
    → IfSome s.held (λ _. AllTold s) → Hold (sizes_of s) old → Does {A = A} refusal made old new done
    → IfSome s.held (λ files. Gives {A = A} (λ _. new) (of_failed command done) s (applied command (made (stands_for (told_files s) old))))
failed_gives {A} s command made old new done told held does = of_held s.held told
  where
    by : (done : Result A Fail) → Hold (map length (told_files s)) old → Does {A = A} refusal made old new done
        → Gives {A = A} (λ _. new) (of_failed command done) s (applied command (made (stands_for (told_files s) old)))
    by (Ok done) hold does = ap (λ r. outcome_of command r) (does.gives (told_files s) hold)
    by (Err (Fail.Bad bad)) hold does = ap (λ r. outcome_of command r) (does.gives (told_files s) hold)
    by (Err Fail.NoMemory) hold does = tt

    of_held : (holds : Option (List HeldFile)) → IfSome holds (λ _. AllTold s)
        → IfSome holds (λ files. Gives {A = A} (λ _. new) (of_failed command done) s (applied command (made (stands_for (told_files s) old))))
    of_held None told = tt
    of_held (Some files) told = by done (subst (λ (sizes : List ℕ). Hold sizes old) (same_sizes s told) held) does

-- what was answered to an addition
abbrev pub answered : {A : Type 0} → ℕ → Result A (Fail × PlacedMovie) → Result A Stop
answered command (Ok done) = Ok done
answered command (Err refused) = Err (of_fail command refused.0)

abbrev pub why : Fail × PlacedMovie → Option Refused
why refused = refusal refused.0

-- tracks of the movie that was read are added to the movie so far, which stays what it is though files were opened
pub added_gives : {A : Type 0} → FilesMayFollow → (s t : FolderState) (more : List OpenedFile) (name : List ℕ) (rate : Option Rate) (command : ℕ) (choice : Choice) (other old new : PlacedMovie) (done : Result A (Fail × PlacedMovie))
    → t.opened ≡ s.opened ++ more
    → IfSome s.held (λ _. AllTold s) → IfSome s.held (λ _. AllTold t) → Hold (sizes_of s) old → Hold (sizes_of t) other
    → IfSome s.held (λ files. Gives {A = PlacedMovie} (λ movie. movie) (Ok other) t (input files command name rate))
    → Adds {A = A} why choice other old new done
    → IfSome s.held (λ files. Gives {A = A} (λ _. new) (answered command done) t (add_outcome files command name choice rate (stands_for (told_files s) old)))
added_gives {A} follow s t more name rate command choice other old new done opened told all held held_other reads adds = of_held s.held told all reads
  where
    by : (done : Result A (Fail × PlacedMovie)) (movie : MovieRecord) (found : Outcome) → AllTold t → Hold (map length (told_files t)) old
        → stands_for (told_files t) old ≡ movie → found ≡ Movie (stands_for (told_files t) other) → Adds {A = A} why choice other old new done
        → Gives {A = A} (λ _. new) (answered command done) t (and_then found (λ other. applied command (add choice other movie)))
    by (Ok done) movie found all hold same is adds =
        rw (is, sym same) (ap (λ r. outcome_of command r) (adds.gives (told_files t) hold (subst (λ (sizes : List ℕ). Hold sizes other) (same_sizes t all) held_other)))
    by (Err (Fail.Bad bad, back)) movie found all hold same is adds =
        rw (is, sym same) (ap (λ r. outcome_of command r) (adds.gives (told_files t) hold (subst (λ (sizes : List ℕ). Hold sizes other) (same_sizes t all) held_other)))
    by (Err (Fail.NoMemory, back)) movie found all hold same is adds = tt

    of_held : (holds : Option (List HeldFile)) → IfSome holds (λ _. AllTold s) → IfSome holds (λ _. AllTold t)
        → IfSome holds (λ files. Gives {A = PlacedMovie} (λ movie. movie) (Ok other) t (input files command name rate))
        → IfSome holds (λ files. Gives {A = A} (λ _. new) (answered command done) t (add_outcome files command name choice rate (stands_for (told_files s) old)))
    of_held None told all reads = tt
    of_held (Some files) told all reads =
        let before : Hold (map length (told_files s)) old = subst (λ (sizes : List ℕ). Hold sizes old) (same_sizes s told) held in
        let files_then = told_more s t more opened in
        by done (stands_for (told_files s) old) (input files command name rate) all
        (subst (λ (sizes : List ℕ). Hold sizes old) (same_sizes t all) (subst (λ (sizes : List ℕ). Hold sizes old) (sym (sizes_more s t more opened)) (follow.hold (sizes_of s) _ old held)))
        (ap (λ (l : List (List ℕ)). stands_for l old) files_then ∙ follow.same (told_files s) _ old before)
        reads adds

-- the pieces of the movie so far are held still
pub held_still : FilesMayFollow → (s t : FolderState) (more : List OpenedFile) (movie : PlacedMovie) → t.opened ≡ s.opened ++ more → Hold (sizes_of s) movie → Hold (sizes_of t) movie
held_still follow s t more movie opened held =
    subst (λ (sizes : List ℕ). Hold sizes movie) (sym (sizes_more s t more opened)) (follow.hold (sizes_of s) _ movie held)

-- what a command does that opens no file, holds the pieces still
pub done_holds : {A : Type 0} (sizes : List ℕ) (command : ℕ) (made : MovieRecord → Result MovieRecord Code) (old new : PlacedMovie) (done : Result A Refused)
    → Hold sizes old → Does {A = A} Some made old new done → OnOk (of_done command done) (Hold sizes new)
done_holds {A} sizes command made old new (Ok done) held does = does.held sizes held
done_holds {A} sizes command made old new (Err bad) held does = tt

pub failed_holds : {A : Type 0} (sizes : List ℕ) (command : ℕ) (made : MovieRecord → Result MovieRecord Code) (old new : PlacedMovie) (done : Result A Fail)
    → Hold sizes old → Does {A = A} refusal made old new done → OnOk (of_failed command done) (Hold sizes new)
failed_holds {A} sizes command made old new (Ok done) held does = does.held sizes held
failed_holds {A} sizes command made old new (Err fail) held does = tt

-- there is room for the files of a further command
pub has_room : (commands : List CommandRecord) (done : ℕ) (movie : PlacedMovie) (old now : FolderState) → FoldsTo commands done movie old now → old.opened ≡ [] → done < length commands → length commands < 2 ^ 30
    → length now.opened < 2 ^ 32 - 3
has_room commands done movie old now folds none lt few =
    let all = folds.folder.all in
    let opened : length now.opened ≡ length all.files = ap length (all.opened ∙ ap (λ (o : List OpenedFile). o ++ all.files) none) in
    omega (arith, opened, all.few, lt, few)

-- all files that options read must be there, and so must this one's
needs : (commands : List CommandRecord) (done : ℕ) (command : CommandRecord) → done < length commands → command ≡ get_or commands done command → NeedAll commands → NeedsAll command.what
needs commands done command lt is all = subst (λ (c : CommandRecord). NeedsAll c.what) (sym is) (all done command lt)

-- it stops at this command
pub stops_here : (A B : Type 0) (commands : List CommandRecord) (done : ℕ) (command : CommandRecord) (stop : Stop) (old mid new : FolderState) → done < length commands → command ≡ get_or commands done command
    → OpensFiles {A = Unit} (Ok tt) (reads (take done commands)) (3 * done) (NeedAll commands) old mid
    → OpensFiles {A = A} (Err stop) (names_of command.what) 3 (NeedsAll command.what) mid new
    → OpensFiles {A = B} (Err stop) (reads commands) (3 * length commands) (NeedAll commands) old new
stops_here A B commands done command stop old mid new lt is before here =
    stops_as B B stop (λ files. (reads (take done commands) files ++ names_of command.what files) ++ reads (drop (done + 1) commands) files) (reads commands) ((3 * done + 3) + 0) (3 * length commands) (NeedAll commands) (NeedAll commands) old new
    (λ files. reads-at files commands done command lt is) (omega (arith, lt)) (λ n. n)
    (stops_first B B stop (λ files. reads (take done commands) files ++ names_of command.what files) (reads (drop (done + 1) commands)) (3 * done + 3) 0 (NeedAll commands) old new
    (stops_on Unit A B tt stop (reads (take done commands)) (names_of command.what) (3 * done) 3 (NeedAll commands) old mid new before
    (stops_as A A stop (names_of command.what) (names_of command.what) 3 3 (NeedsAll command.what) (NeedAll commands) mid new (λ files. refl) (omega arith) (needs commands done command lt is) here)))

-- it goes on behind it
pub goes_on_here : (A : Type 0) (x : A) (commands : List CommandRecord) (done : ℕ) (command : CommandRecord) (old mid new : FolderState) → done < length commands → command ≡ get_or commands done command
    → OpensFiles {A = Unit} (Ok tt) (reads (take done commands)) (3 * done) (NeedAll commands) old mid
    → OpensFiles {A = A} (Ok x) (names_of command.what) 3 (NeedsAll command.what) mid new
    → OpensFiles {A = Unit} (Ok tt) (reads (take (done + 1) commands)) (3 * (done + 1)) (NeedAll commands) old new
goes_on_here A x commands done command old mid new lt is before here =
    opens_as Unit Unit tt tt (λ files. reads (take done commands) files ++ names_of command.what files) (reads (take (done + 1) commands)) (3 * done + 3) (3 * (done + 1)) (NeedAll commands) (NeedAll commands) old new
    (λ files. reads-next files commands done command lt is) (omega arith) (λ n. n)
    (opens_on Unit A Unit tt x tt (reads (take done commands)) (names_of command.what) (3 * done) 3 (NeedAll commands) old mid new before
    (opens_as A A x x (names_of command.what) (names_of command.what) 3 3 (NeedsAll command.what) (NeedAll commands) mid new (λ files. refl) (omega arith) (needs commands done command lt is) here))

-- all commands are done
pub all_done : (A : Type 0) (x : A) (commands : List CommandRecord) (done : ℕ) (old now : FolderState) → length commands ≤ done → done ≤ length commands
    → OpensFiles {A = Unit} (Ok tt) (reads (take done commands)) (3 * done) (NeedAll commands) old now
    → OpensFiles {A = A} (Ok x) (reads commands) (3 * length commands) (NeedAll commands) old now
all_done A x commands done old now le most h =
    opens_as Unit A tt x (reads (take done commands)) (reads commands) (3 * done) (3 * length commands) (NeedAll commands) (NeedAll commands) old now
    (λ files. ap (λ (l : List CommandRecord). reads l files) (take_all_commands commands done le)) (omega (arith, most)) (λ n. n) h

-- a command that opens no file leaves the folder as it is
pub opens_no_file : {A : Type 0} (what : Asked) (needed : Type 0) (command : ℕ) (done : Result A Refused) (s : FolderState) → ((files : List HeldFile) → names_of what files ≡ [])
    → OpensFiles {A = A} (of_done command done) (names_of what) 3 needed s s
opens_no_file {A} what needed command (Ok value) s none = opens_nothing A value (names_of what) 3 needed s none
opens_no_file {A} what needed command (Err bad) s none = then_fails Unit A tt command (Fail.Bad bad) (names_of what) 3 needed s s (opens_nothing Unit tt (names_of what) 3 needed s none)

pub fails_no_file : {A : Type 0} (what : Asked) (needed : Type 0) (command : ℕ) (done : Result A Fail) (s : FolderState) → ((files : List HeldFile) → names_of what files ≡ [])
    → OpensFiles {A = A} (of_failed command done) (names_of what) 3 needed s s
fails_no_file {A} what needed command (Ok value) s none = opens_nothing A value (names_of what) 3 needed s none
fails_no_file {A} what needed command (Err fail) s none = then_fails Unit A tt command fail (names_of what) 3 needed s s (opens_nothing Unit tt (names_of what) 3 needed s none)
