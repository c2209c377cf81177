-- What an edit comes to once its commands are applied: a movie that is planned and written, or the refusal of the plan.
use Rattle.std.proofs.Common.{◌≡◌, ◌==◌, ℕ, false, List, [], ◌∷◌, length, map, Option, Some, None, option_map, IfSome, IsSomeAnd, Result, Ok, Err, refl, sym, subst, ap, ◌∙◌}
use Rattle.std.proofs.lemmas.List.{length-map}
use Rattle.std.proofs.lemmas.List.FromFn.{length-map-range_with_len}
use Rattle.std.proofs.lemmas.List.Sums.{sum_by-cons}
use Rattle.mp_ports.specs.declared.code.Code.TheVariants.{EmptyMovie}
use Rattle.mp_ports.specs.declared.fault.Fail.{Fail}
use Rattle.mp_ports.specs.Checks.{bad_at}
use Rattle.mp_ports.specs.Folder.{FolderState, HeldFile}
use Rattle.mp_pieces.specs.Copied.{IsFront, sizes_of}
use Rattle.mp_timeline.specs.Movie.{TrackRecord, MovieRecord}
use Rattle.mp_timeline.specs.Plain.{plain_movie_head}
use Rattle.mp_movie.specs.Placed.{PlacedTrack, PlacedMovie, sample_count as placed_count}
use Rattle.mp_movie.specs.StandsFor.{Hold, sample_at, samples_of, stands_for, track_for}
use Rattle.mp_layout.specs.Emitted.{AreTold}
use Rattle.mp_layout.specs.File.{file_bytes, moov_fault}
use Rattle.mp_layout.specs.Plan.{FilePlanRecord, IsFileOf, IsPlanOf, Plans}
use Rattle.mp_words.specs.Jobs.{CommandRecord}
use Rattle.mp4edit.specs.declared.stop.Stop.{Stop}
use Rattle.mp4edit.specs.Line.{line, sample_count, wrote}
use Rattle.mp4edit.specs.Outcome.{Outcome, Absent, Movie, Refusal, and_then, folded, no_movie, outcome, written}
use Rattle.mp4edit.specs.Reading.{AllTold, Gives, of_fail, told_files}
use Rattle.mp4edit.specs.Run.{HasWritten, HasWrittenFront, edit_of}
use Rattle.mp4edit.specs.Written.{LeavesFront, OutputRecord, PlansOutput, WritesWhole}
use Rattle.mp4edit.proofs.ToldFiles.{held_is_told, same_sizes}

-- what holds, holds of each value
always : {A : Type 0} (option : Option A) (P : Type 0) → P → IfSome option (λ _. P)
always None P p = tt
always (Some x) P p = p

by_commands : (commands : List CommandRecord) (output : OutputRecord) (files : List HeldFile) (made : Outcome) → folded files commands no_movie ≡ made
    → outcome (edit_of commands output) files ≡ and_then made (written output.command output.window)
unfolding outcome
by_commands commands output files made is = ap (λ (o : Outcome). and_then o (written output.command output.window)) is

-- a movie without tracks can't be written
pub no_tracks : (movie : PlacedMovie) (millis : ℕ) → length movie.tracks ≡ 0 → PlansOutput (Err (Fail.Bad (bad_at EmptyMovie 0))) movie millis
no_tracks movie millis none = λ files hold. rw (length-map movie.tracks (track_for files), none) refl

has_tracks : (files : List (List ℕ)) (movie : PlacedMovie) → (length movie.tracks == 0) ≡ false → (length (map (track_for files) movie.tracks) == 0) ≡ false
has_tracks files movie some = rw (length-map movie.tracks (track_for files)) some

-- one that has tracks, is planned or refused as its file is
pub plans_output : (movie : PlacedMovie) (millis : ℕ) (planned : Result FilePlanRecord Fail) → (length movie.tracks == 0) ≡ false → Plans planned movie millis → PlansOutput planned movie millis
plans_output movie millis (Ok plan) some plans = (some, plans)
plans_output movie millis (Err (Fail.Bad bad)) some plans = λ files hold. rw (has_tracks files movie some, plans files hold) refl
plans_output movie millis (Err Fail.NoMemory) some plans = tt

-- the commands make no movie, and neither does the edit
pub fold_stops : (held : Option (List HeldFile)) (commands : List CommandRecord) (output : OutputRecord) (s : FolderState) (stop : Stop)
    → IfSome held (λ files. Gives {A = PlacedMovie} (λ movie. movie) (Err stop) s (folded files commands no_movie))
    → IfSome held (λ files. Gives {A = PlacedMovie × FilePlanRecord} (λ planned. planned.0) (Err stop) s (outcome (edit_of commands output) files))
fold_stops None commands output s stop gives = tt
fold_stops (Some files) commands output s (Stop.Bad bad) gives = by_commands commands output files (Refusal bad) gives
fold_stops (Some files) commands output s (Stop.Missing command) gives = by_commands commands output files (Absent command) gives
fold_stops (Some files) commands output s Stop.ReadFault gives = tt
fold_stops (Some files) commands output s Stop.NoMemory gives = tt

-- a movie that can't be written is refused under the option that writes it
pub output_stops : (held : Option (List HeldFile)) (commands : List CommandRecord) (output : OutputRecord) (s : FolderState) (movie : PlacedMovie) (fail : Fail)
    → IfSome held (λ _. AllTold s) → Hold (sizes_of s) movie
    → IfSome held (λ files. Gives {A = PlacedMovie} (λ movie. movie) (Ok movie) s (folded files commands no_movie)) → PlansOutput (Err fail) movie output.window
    → IfSome held (λ files. Gives {A = PlacedMovie × FilePlanRecord} (λ planned. planned.0) (Err (of_fail output.command fail)) s (outcome (edit_of commands output) files))
output_stops None commands output s movie fail told held gives plans = tt
output_stops (Some files) commands output s movie (Fail.Bad bad) told held gives plans =
    by_commands commands output files _ gives ∙ rw (plans (told_files s) (subst (λ (sizes : List ℕ). Hold sizes movie) (same_sizes s told) held)) refl
output_stops (Some files) commands output s movie Fail.NoMemory told held gives plans = tt

no_fault : (movie : MovieRecord) (millis command : ℕ) → (length movie.tracks == 0) ≡ false → moov_fault movie millis ≡ None → written command millis movie ≡ Movie movie
no_fault movie millis command some short = rw (some, short) refl

-- a movie that is planned is the outcome
pub output_plans : (held : Option (List HeldFile)) (commands : List CommandRecord) (output : OutputRecord) (s : FolderState) (movie : PlacedMovie) (plan : FilePlanRecord)
    → IfSome held (λ _. AllTold s) → Hold (sizes_of s) movie
    → IfSome held (λ files. Gives {A = PlacedMovie} (λ movie. movie) (Ok movie) s (folded files commands no_movie)) → PlansOutput (Ok plan) movie output.window
    → IfSome held (λ files. Gives {A = PlacedMovie × FilePlanRecord} (λ planned. planned.0) (Ok (movie, plan)) s (outcome (edit_of commands output) files))
output_plans None commands output s movie plan told held gives plans = tt
output_plans (Some files) commands output s movie plan told held gives plans =
    by_commands commands output files _ gives
    ∙ no_fault (stands_for (told_files s) movie) output.window output.command (has_tracks (told_files s) movie plans.0)
    (plans.1.each (told_files s) (subst (λ (sizes : List ℕ). Hold sizes movie) (same_sizes s told) held)).short

-- what holds of the movie, holds of the outcome
pub of_outcome : (held : Option (List HeldFile)) (s : FolderState) (movie : PlacedMovie) (outcome_by : List HeldFile → Outcome) (P : Outcome → Type 0)
    → IfSome held (λ files. outcome_by files ≡ Movie (stands_for (told_files s) movie)) → IfSome held (λ _. AllTold s) → Hold (sizes_of s) movie
    → (AreTold s movie (told_files s) → P (Movie (stands_for (told_files s) movie))) → IfSome held (λ files. P (outcome_by files))
of_outcome None s movie outcome_by P is told hold p = tt
of_outcome (Some files) s movie outcome_by P is told hold p = subst P (sym is) (p (held_is_told s movie told hold))

-- the bytes that stand written are its file
pub written_is_told : (old s t : FolderState) (movie : PlacedMovie) (plan : FilePlanRecord) (name : List ℕ) (window : ℕ) → s.written ≡ old.written → IsPlanOf plan movie window
    → AreTold s movie (told_files s) → WritesWhole s t name movie window → HasWritten (Movie (stands_for (told_files s) movie)) window old t
written_is_told old s t movie plan name window same plans told writes =
    let m = stands_for (told_files s) movie in
    let file = (plans.each (told_files s) told.hold).file in
    let whole : IsFileOf m window writes.bytes = subst (λ (b : List ℕ). IsFileOf m window b) (file.whole ∙ sym (writes.told (told_files s) told)) file in
    of_old old.written t.written m writes.bytes (ap (λ (x : FolderState). x.written) writes.state ∙ ap (λ (w : Option (List ℕ)). option_map (λ (_ : List ℕ). writes.bytes) w) same) whole
  where
    of_old : (old now : Option (List ℕ)) (m : MovieRecord) (bytes : List ℕ) → now ≡ option_map (λ (_ : List ℕ). bytes) old → IsFileOf m window bytes → IfSome old (λ _. IsSomeAnd now (IsFileOf m window))
    of_old None now m bytes is whole = tt
    of_old (Some _) now m bytes is whole = subst (λ (w : Option (List ℕ)). IsSomeAnd w (IsFileOf m window)) (sym is) whole

-- or a front of it
pub front_is_told : (old s t : FolderState) (movie : PlacedMovie) (name : List ℕ) (window : ℕ) → s.written ≡ old.written
    → AreTold s movie (told_files s) → LeavesFront s t name movie window → HasWrittenFront (Movie (stands_for (told_files s) movie)) window old t
front_is_told old s t movie name window same told left =
    subst (λ (w : Option (List ℕ)). IfSome t.output (λ _. IfSome w (λ _. IsSomeAnd t.written (λ b. IsFront b (file_bytes (stands_for (told_files s) movie) window))))) same (left.front (told_files s) told)

-- the same, where something was created
pub created_front : (old s t : FolderState) (movie : PlacedMovie) (name : List ℕ) (window : ℕ) → s.written ≡ old.written
    → AreTold s movie (told_files s) → LeavesFront s t name movie window → IfSome t.output (λ _. HasWrittenFront (Movie (stands_for (told_files s) movie)) window old t)
created_front old s t movie name window same told left = always t.output _ (front_is_told old s t movie name window same told left)

-- a track has as many samples as durations
samples_len : (files : List (List ℕ)) (track : PlacedTrack) → length (samples_of files track) ≡ length track.deltas
unfolding samples_of
samples_len files track = length-map-range_with_len (sample_at files track) 0 (length track.deltas)

-- the samples of the tracks, as they are kept and as they stand for
same_count : (files : List (List ℕ)) (tracks : List PlacedTrack) → sample_count (record { scale = 0; head = plain_movie_head; tracks = map (track_for files) tracks }) ≡ placed_count tracks
same_count files [] = refl
same_count files (track ∷ tracks) =
    sum_by-cons (λ (t : TrackRecord). length t.samples) (track_for files track) (map (track_for files) tracks)
    ∙ (rw (samples_len files track, same_count files tracks) (sym (sum_by-cons (λ (t : PlacedTrack). length t.deltas) track tracks)))

-- the line of the movie
pub line_is : (files : List (List ℕ)) (movie : PlacedMovie) (plan : FilePlanRecord) (name : List ℕ) (window : ℕ)
    → Hold (map length files) movie → IsPlanOf plan movie window
    → line name (stands_for files movie) window ≡ wrote name (length movie.tracks) (placed_count movie.tracks) plan.length
line_is files movie plan name window hold plans =
    rw (length-map movie.tracks (track_for files), same_count files movie.tracks, sym (plans.each files hold).whole) refl
