-- What stands of a file behind its creation, the copying of its bytes and its end.
use Rattle.std.proofs.Common.{◌≡◌, ℕ, true, false, List, [], length, Option, Some, None, option_map, IfSome, IfNone, IsSomeAnd, refl, sym, subst, ap, ◌∙◌, arith}
use Rattle.std.proofs.lemmas.List.{take_all}
use Rattle.mp_ports.specs.Count.{after_fault}
use Rattle.mp_ports.specs.Folder.{FolderState, IsWriting, Output, Creates, FailsToWrite, Finishes}
use Rattle.mp_ports.specs.Told.{followed_by}
use Rattle.mp_pieces.specs.Copied.{IsFront}
use Rattle.mp_movie.specs.Placed.{PlacedMovie}
use Rattle.mp_layout.specs.Emitted.{AreTold, EmitsFile, StopsReading as EmitStopsReading, StopsWriting as EmitStopsWriting, written_of}
use Rattle.mp4edit.specs.Written.{IsToldFront, LeavesFront, StopsReading, StopsWriting, WritesWhole}

-- what follows nothing is all there is
follows_nothing : (written : Option (List ℕ)) (bytes : List ℕ) → followed_by (option_map (λ (_ : List ℕ). []) written) bytes ≡ option_map (λ (_ : List ℕ). bytes) written
follows_nothing None bytes = refl
follows_nothing (Some old) bytes = refl

-- what is told of the files stays told behind the creation
still_told : (s c : FolderState) (name : List ℕ) (movie : PlacedMovie) (files : List (List ℕ)) → Creates s c name → AreTold s movie files → AreTold c movie files
still_told s c name movie files creates told = subst (λ (x : FolderState). AreTold x movie files) (sym creates) (record { tells = told.tells; hold = told.hold })

-- behind the copying the file still isn't finished
pub still_writing : (s c e : FolderState) (name : List ℕ) (movie : PlacedMovie) (millis : ℕ) → Creates s c name → EmitsFile c e movie millis → IsWriting e
still_writing s c e name movie millis creates emits = subst (λ (x : FolderState). IsWriting x) (sym emits.appended) (subst (λ (x : FolderState). IsWriting x) (sym creates) refl)

-- an unfinished file with these bytes
left_front : (s f : FolderState) (name : List ℕ) (movie : PlacedMovie) (millis : ℕ) (bytes : List ℕ) → f.output ≡ Some (record { name = name; finished = false }) → f.written ≡ option_map (λ (_ : List ℕ). bytes) s.written
    → ((files : List (List ℕ)) → AreTold s movie files → IsFront bytes (written_of movie millis files)) → LeavesFront s f name movie millis
left_front s f name movie millis bytes output written front = record {
  created = subst (λ (o : Option Output). IfSome o (λ out. out ≡ record { name = name; finished = false })) (sym output) refl;
  front = λ files told. subst (λ (o : Option Output). IfSome o (λ _. IsToldFront s f (written_of movie millis files))) (sym output)
      (told_front s.written f.written files written (front files told));
  untouched = subst (λ (o : Option Output). IfNone o (f.written ≡ s.written)) (sym output) tt;
}
  where
    told_front : (old now : Option (List ℕ)) (files : List (List ℕ)) → now ≡ option_map (λ (_ : List ℕ). bytes) old → IsFront bytes (written_of movie millis files)
        → IfSome old (λ _. IsSomeAnd now (λ b. IsFront b (written_of movie millis files)))
    told_front None now files is front = tt
    told_front (Some _) now files is front = subst (λ (w : Option (List ℕ)). IsSomeAnd w (λ b. IsFront b (written_of movie millis files))) (sym is) front

-- all was written and finished
pub whole_is_written : (s c e f : FolderState) (name : List ℕ) (movie : PlacedMovie) (millis : ℕ) → Creates s c name → EmitsFile c e movie millis → Finishes e f → WritesWhole s f name movie millis
whole_is_written s c e f name movie millis creates emits finishes = record {
  bytes = emits.bytes;
  state = finishes ∙ (ap (λ (x : FolderState). record x { output = option_map {T = Output} (λ out. record out { finished = true }) x.output }) (emits.appended ∙ ap (λ (x : FolderState). record x { written = followed_by x.written emits.bytes }) creates)
      ∙ ap (λ (w : Option (List ℕ)). record s { output = Some (record { name = name; finished = true }); written = w }) (follows_nothing s.written emits.bytes));
  told = λ files told. emits.told files (still_told s c name movie files creates told);
}

-- a read failed
pub read_stops : (s c e : FolderState) (name : List ℕ) (movie : PlacedMovie) (millis : ℕ) → Creates s c name → EmitStopsReading c e movie millis → StopsReading s e name movie millis
read_stops s c e name movie millis creates stops =
    let is : e ≡ record s { output = Some (record { name = name; finished = false }); written = option_map (λ (_ : List ℕ). stops.bytes) s.written; read_faults = after_fault s.read_faults } =
    stops.state ∙ (ap (λ (x : FolderState). record x { written = followed_by x.written stops.bytes; read_faults = after_fault x.read_faults }) creates
    ∙ ap (λ (w : Option (List ℕ)). record s { output = Some (record { name = name; finished = false }); written = w; read_faults = after_fault s.read_faults }) (follows_nothing s.written stops.bytes)) in
    record {
      state = subst (λ (x : FolderState). x ≡ record s { output = x.output; written = x.written; read_faults = after_fault s.read_faults }) (sym is) refl;
      left = left_front s e name movie millis stops.bytes (ap (λ (x : FolderState). x.output) is) (ap (λ (x : FolderState). x.written) is) (λ files told. stops.told files (still_told s c name movie files creates told));
    }

-- an append failed
pub append_stops : (s c e : FolderState) (name : List ℕ) (movie : PlacedMovie) (millis : ℕ) → Creates s c name → EmitStopsWriting c e movie millis → StopsWriting s e name movie millis
append_stops s c e name movie millis creates stops =
    let is : e ≡ record s { output = Some (record { name = name; finished = false }); written = option_map (λ (_ : List ℕ). stops.bytes) s.written; write_faults = after_fault s.write_faults } =
    stops.state ∙ (ap (λ (x : FolderState). record x { written = followed_by x.written stops.bytes; write_faults = after_fault x.write_faults }) creates
    ∙ ap (λ (w : Option (List ℕ)). record s { output = Some (record { name = name; finished = false }); written = w; write_faults = after_fault s.write_faults }) (follows_nothing s.written stops.bytes)) in
    record {
      state = subst (λ (x : FolderState). x ≡ record s { output = x.output; written = x.written; write_faults = after_fault s.write_faults }) (sym is) refl;
      left = left_front s e name movie millis stops.bytes (ap (λ (x : FolderState). x.output) is) (ap (λ (x : FolderState). x.written) is) (λ files told. stops.told files (still_told s c name movie files creates told));
    }

-- all was written, and the end failed
pub finish_stops : (s c e f : FolderState) (name : List ℕ) (movie : PlacedMovie) (millis : ℕ) → Creates s c name → EmitsFile c e movie millis → FailsToWrite e f → StopsWriting s f name movie millis
finish_stops s c e f name movie millis creates emits fails =
    append_stops s c f name movie millis creates (record {
      bytes = emits.bytes;
      state = fails ∙ ap (λ (x : FolderState). record x { write_faults = after_fault x.write_faults }) emits.appended;
      told = λ files told. (length (written_of movie millis files), emits.told files told ∙ sym (take_all (length (written_of movie millis files)) (written_of movie millis files) (omega arith)));
    })
