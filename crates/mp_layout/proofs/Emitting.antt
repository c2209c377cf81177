-- The front of a file is appended, and then its pieces are copied chunk by chunk.
use Rattle.std.specs.Prelude.{All, IsErrOf, Result, Ok, Err}
use Rattle.std.proofs.Common.{rules, ◌≡◌, ℕ, ◌+◌, ◌<◌, List, [], ◌++◌, get_or, append-nil, length, map, take, drop, min, Option, Some, None, refl, sym, ap, subst, ◌∙◌, append_assoc, arith}
use Rattle.std.specs.List.{flat_map, AllByRecursion}
use Rattle.std.proofs.lemmas.List.{same_lists, places}
use Rattle.std.proofs.Math.Seq.{take-append-add}
use Rattle.mp_ports.specs.Count.{after_fault}
use Rattle.mp_ports.specs.Folder.{FolderState, Appends, FailsToAppend, AppendsFollow, opened_at}
use Rattle.mp_ports.specs.Told.{followed_by}
use Rattle.mp_pieces.specs.declared.piece.Piece.{Piece}
use Rattle.mp_pieces.specs.Piece.{IsHeld, pieces_bytes}
use Rattle.mp_pieces.specs.Copied.{Emits, IsFront, Made, StopsReading as StopsReadingPieces, StopsWriting as StopsWritingPieces, Tells, sizes_of}
use Rattle.mp_movie.specs.Placed.{PlacedMovie, PlacedTrack}
use Rattle.mp_movie.specs.StandsFor.{Hold, stands_for}
use Rattle.mp_movie.specs.WholeParts.{AreColumns}
use Rattle.mp_interleave.specs.declared.chunk.Chunk.{Chunk}
use Rattle.mp_interleave.specs.Law.{IsWithin, PlansStandForChunks}
use Rattle.mp_interleave.specs.Samples.{chunks_of}
use Rattle.mp_layout.specs.Order.{payload}
use Rattle.mp_layout.specs.Plan.{FilePlanRecord, IsPlanOf}
use Rattle.mp_layout.specs.Emitted.{EmitsFile, StopsReading, StopsWriting, chunk_pieces, pieces_in, pieces_of, written_of}
use Rattle.mp_layout.proofs.HeadsOfChunks.{chunks_for}
use Rattle.mp_layout.proofs.PiecesOfChunks.{all-paid, of-chunk, paid-next, paid-whole}

-- ---- the file

-- the front, and then what is made of the files, are the file
pub record IsWhole (movie : PlacedMovie) (millis : ℕ) (front : List ℕ) (made : Made) : Type 0 where
  pub file : (files : List (List ℕ)) → Hold (map length files) movie → front ++ made files ≡ written_of movie millis files

pub front-for : (movie : PlacedMovie) (millis : ℕ) (plan : FilePlanRecord) → IsPlanOf plan movie millis → (front : List ℕ) → front ≡ plan.front → IsWhole movie millis front (λ files. payload (chunks_of millis (stands_for files movie)))
front-for movie millis plan is front front_is = record {
  file = λ files hold. ap (λ (b : List ℕ). b ++ payload (chunks_of millis (stands_for files movie))) front_is ∙ (is.each files hold).file.whole;
}

pub whole-for : PlansStandForChunks → (movie : PlacedMovie) (millis : ℕ) → AllByRecursion AreColumns movie.tracks → (plan : FilePlanRecord) → IsPlanOf plan movie millis
    → (front : List ℕ) (chunks : List Chunk) → front ≡ plan.front → chunks ≡ plan.plan → IsWhole movie millis front (λ files. pieces_bytes files (pieces_in movie.tracks chunks))
whole-for law movie millis columns plan is front chunks front_is chunks_are = record {
  file = λ files hold.
      let within = subst (λ (cs : List Chunk). AllByRecursion (IsWithin movie.tracks) cs) (sym (chunks_are ∙ is.order)) (law.within millis movie) in
      let paid : payload (chunks_of millis (stands_for files movie)) ≡ pieces_bytes files (pieces_in movie.tracks chunks) =
      ap payload (law.same files millis movie ∙ ap (chunks_for files movie.tracks) (sym (chunks_are ∙ is.order))) ∙ sym (all-paid files movie.tracks chunks columns within) in
      ap (λ (b : List ℕ). front ++ b) (sym paid) ∙ (front-for movie millis plan is front front_is).file files hold;
}

-- what is said of the pieces of tracks is said of those of the movie that has them
pub in-words : (P : List Piece → Made → Type 0) (movie : PlacedMovie) (tracks : List PlacedTrack) (chunks : List Chunk) → tracks ≡ movie.tracks
    → P (flat_map (λ track. track.pieces) tracks) (λ files. pieces_bytes files (pieces_in tracks chunks)) → P (pieces_of movie) (λ files. pieces_bytes files (pieces_in movie.tracks chunks))
in-words P movie tracks chunks same holds = subst (λ (ts : List PlacedTrack). P (flat_map (λ track. track.pieces) ts) (λ files. pieces_bytes files (pieces_in ts chunks))) same holds

-- ---- fronts of it

take-first : (front : List ℕ) (part : ℕ) (rest : List ℕ) → take part front ≡ take (min part (length front)) (front ++ rest)
take-first front part rest = same_lists _ _ (search (rules, places)) (λ k d q. grind (arith, places))

followed-twice : (written : Option (List ℕ)) (one other : List ℕ) → followed_by (followed_by written one) other ≡ followed_by written (one ++ other)
followed-twice None one other = refl
followed-twice (Some bytes) one other = ap Some (append_assoc bytes one other)

-- what is told still is when something was appended
pub told-then : (s t : FolderState) (front : List ℕ) (pieces : List Piece) → Appends s t front → (files : List (List ℕ)) → Tells s files pieces → Tells t files pieces
told-then s t front pieces appended files tells = subst (λ (x : FolderState). Tells x files pieces) (sym appended) tells

-- ---- what the two calls do together

pub emits-file : AppendsFollow → (s t u : FolderState) (movie : PlacedMovie) (millis : ℕ) (front : List ℕ) (made : Made) → IsWhole movie millis front made → Appends s t front → Emits t u (pieces_of movie) made → EmitsFile s u movie millis
emits-file law s t u movie millis front made whole appended e = record {
  bytes = front ++ e.bytes;
  appended = law.more s t u front e.bytes appended e.appended;
  told = λ files at. ap (λ (b : List ℕ). front ++ b) (sym (e.told files (told-then s t front (pieces_of movie) appended files at.tells))) ∙ whole.file files at.hold;
}

front-of : (movie : PlacedMovie) (millis : ℕ) (front : List ℕ) (made : Made) → IsWhole movie millis front made → (files : List (List ℕ)) → Hold (map length files) movie → (bytes : List ℕ) → IsFront bytes (made files) → IsFront (front ++ bytes) (written_of movie millis files)
front-of movie millis front made whole files hold bytes part =
    (length front + part.0, ap (λ (b : List ℕ). front ++ b) part.1 ∙ (sym (take-append-add front (made files) part.0) ∙ ap (take (length front + part.0)) (whole.file files hold)))

pub stops-reading : (s t u : FolderState) (movie : PlacedMovie) (millis : ℕ) (front : List ℕ) (made : Made) → IsWhole movie millis front made → Appends s t front → StopsReadingPieces t u (pieces_of movie) made → StopsReading s u movie millis
stops-reading s t u movie millis front made whole appended e = record {
  bytes = front ++ e.bytes;
  state = e.state
      ∙ (ap (λ (x : FolderState). record x { written = followed_by x.written e.bytes; read_faults = after_fault x.read_faults }) appended
      ∙ ap (λ (w : Option (List ℕ)). record s { written = w; read_faults = after_fault s.read_faults }) (followed-twice s.written front e.bytes));
  told = λ files at. front-of movie millis front made whole files at.hold e.bytes (e.told files (told-then s t front (pieces_of movie) appended files at.tells));
}

pub stops-writing : (s t u : FolderState) (movie : PlacedMovie) (millis : ℕ) (front : List ℕ) (made : Made) → IsWhole movie millis front made → Appends s t front → StopsWritingPieces t u (pieces_of movie) made → StopsWriting s u movie millis
stops-writing s t u movie millis front made whole appended e = record {
  bytes = front ++ e.bytes;
  state = e.state
      ∙ (ap (λ (x : FolderState). record x { written = followed_by x.written e.bytes; write_faults = after_fault x.write_faults }) appended
      ∙ ap (λ (w : Option (List ℕ)). record s { written = w; write_faults = after_fault s.write_faults }) (followed-twice s.written front e.bytes));
  told = λ files at. front-of movie millis front made whole files at.hold e.bytes (e.told files (told-then s t front (pieces_of movie) appended files at.tells));
}

-- the front itself isn't appended whole
pub stops-first : (s t : FolderState) (movie : PlacedMovie) (millis : ℕ) (front : List ℕ) (made : Made) → IsWhole movie millis front made → FailsToAppend s t front → StopsWriting s t movie millis
stops-first s t movie millis front made whole fails = record {
  bytes = take fails.part front;
  state = fails.state;
  told = λ files at. (min fails.part (length front), take-first front fails.part (made files) ∙ ap (take (min fails.part (length front))) (whole.file files at.hold));
}

-- ---- chunk after chunk

-- what was copied of some pieces, and then of others
pub emits-more : AppendsFollow → (s t u : FolderState) (all some : List Piece) (one other : Made) → ((files : List (List ℕ)) → Tells t files all → Tells t files some) → Emits s t all one → Emits t u some other
    → Emits s u all (λ files. one files ++ other files)
emits-more law s t u all some one other part e f = record {
  bytes = e.bytes ++ f.bytes;
  appended = law.more s t u e.bytes f.bytes e.appended f.appended;
  told = λ files tells. λ i. e.told files tells i ++ f.told files (part files (told-then s t e.bytes all e.appended files tells)) i;
}

fronts-follow : (bytes part whole rest : List ℕ) → IsFront part whole → IsFront (bytes ++ part) (bytes ++ (whole ++ rest))
fronts-follow bytes part whole rest front =
    (length bytes + min front.0 (length whole), ap (λ (b : List ℕ). bytes ++ b) (front.1 ∙ take-first whole front.0 rest) ∙ sym (take-append-add bytes (whole ++ rest) (min front.0 (length whole))))

pub reading-stops : (s t u : FolderState) (all some : List Piece) (one other rest : Made) → ((files : List (List ℕ)) → Tells t files all → Tells t files some) → Emits s t all one → StopsReadingPieces t u some other
    → StopsReadingPieces s u all (λ files. one files ++ (other files ++ rest files))
reading-stops s t u all some one other rest part e f = record {
  bytes = e.bytes ++ f.bytes;
  state = f.state
      ∙ (ap (λ (x : FolderState). record x { written = followed_by x.written f.bytes; read_faults = after_fault x.read_faults }) e.appended
      ∙ ap (λ (w : Option (List ℕ)). record s { written = w; read_faults = after_fault s.read_faults }) (followed-twice s.written e.bytes f.bytes));
  told = λ files tells.
      subst (λ (b : List ℕ). IsFront (e.bytes ++ f.bytes) (b ++ (other files ++ rest files))) (sym (e.told files tells))
      (fronts-follow e.bytes f.bytes (other files) (rest files) (f.told files (part files (told-then s t e.bytes all e.appended files tells))));
}

pub writing-stops : (s t u : FolderState) (all some : List Piece) (one other rest : Made) → ((files : List (List ℕ)) → Tells t files all → Tells t files some) → Emits s t all one → StopsWritingPieces t u some other
    → StopsWritingPieces s u all (λ files. one files ++ (other files ++ rest files))
writing-stops s t u all some one other rest part e f = record {
  bytes = e.bytes ++ f.bytes;
  state = f.state
      ∙ (ap (λ (x : FolderState). record x { written = followed_by x.written f.bytes; write_faults = after_fault x.write_faults }) e.appended
      ∙ ap (λ (w : Option (List ℕ)). record s { written = w; write_faults = after_fault s.write_faults }) (followed-twice s.written e.bytes f.bytes));
  told = λ files tells.
      subst (λ (b : List ℕ). IsFront (e.bytes ++ f.bytes) (b ++ (other files ++ rest files))) (sym (e.told files tells))
      (fronts-follow e.bytes f.bytes (other files) (rest files) (f.told files (part files (told-then s t e.bytes all e.appended files tells))));
}

-- ---- the chunks of tracks

-- all pieces of tracks
abbrev all_pieces : List PlacedTrack → List Piece
all_pieces tracks = flat_map (λ track. track.pieces) tracks

tells-chunk : (t : FolderState) (tracks : List PlacedTrack) (chunk : Chunk) → IsWithin tracks chunk → (files : List (List ℕ)) → Tells t files (all_pieces tracks) → Tells t files (chunk_pieces tracks chunk)
tells-chunk t tracks chunk within files tells = of-chunk (λ (piece : Piece). (opened_at t piece.file).bytes ≡ Some (get_or files piece.file [])) tracks chunk within tells

pub chunk-copied : AppendsFollow → (s t u : FolderState) (tracks : List PlacedTrack) (chunks : List Chunk) (at : ℕ) (d : Chunk) → at < length chunks → IsWithin tracks (get_or chunks at d)
    → Emits s t (all_pieces tracks) (λ files. pieces_bytes files (pieces_in tracks (take at chunks))) → Emits t u (chunk_pieces tracks (get_or chunks at d)) (λ files. pieces_bytes files (chunk_pieces tracks (get_or chunks at d)))
    → Emits s u (all_pieces tracks) (λ files. pieces_bytes files (pieces_in tracks (take (at + 1) chunks)))
chunk-copied law s t u tracks chunks at d lt within e f =
    subst (λ (made : Made). Emits s u (all_pieces tracks) made) (λ i files. paid-next tracks at chunks d files lt i)
    (emits-more law s t u (all_pieces tracks) (chunk_pieces tracks (get_or chunks at d)) (λ files. pieces_bytes files (pieces_in tracks (take at chunks))) (λ files. pieces_bytes files (chunk_pieces tracks (get_or chunks at d))) (tells-chunk t tracks (get_or chunks at d) within) e f)

pub chunk-unread : (s t u : FolderState) (tracks : List PlacedTrack) (chunks : List Chunk) (at : ℕ) (d : Chunk) → at < length chunks → IsWithin tracks (get_or chunks at d)
    → Emits s t (all_pieces tracks) (λ files. pieces_bytes files (pieces_in tracks (take at chunks))) → StopsReadingPieces t u (chunk_pieces tracks (get_or chunks at d)) (λ files. pieces_bytes files (chunk_pieces tracks (get_or chunks at d)))
    → StopsReadingPieces s u (all_pieces tracks) (λ files. pieces_bytes files (pieces_in tracks chunks))
chunk-unread s t u tracks chunks at d lt within e f =
    subst (λ (made : Made). StopsReadingPieces s u (all_pieces tracks) made) (λ i files. paid-whole tracks at chunks d files lt i)
    (reading-stops s t u (all_pieces tracks) (chunk_pieces tracks (get_or chunks at d)) (λ files. pieces_bytes files (pieces_in tracks (take at chunks))) (λ files. pieces_bytes files (chunk_pieces tracks (get_or chunks at d))) (λ files. pieces_bytes files (pieces_in tracks (drop (at + 1) chunks))) (tells-chunk t tracks (get_or chunks at d) within) e f)

pub chunk-unwritten : (s t u : FolderState) (tracks : List PlacedTrack) (chunks : List Chunk) (at : ℕ) (d : Chunk) → at < length chunks → IsWithin tracks (get_or chunks at d)
    → Emits s t (all_pieces tracks) (λ files. pieces_bytes files (pieces_in tracks (take at chunks))) → StopsWritingPieces t u (chunk_pieces tracks (get_or chunks at d)) (λ files. pieces_bytes files (chunk_pieces tracks (get_or chunks at d)))
    → StopsWritingPieces s u (all_pieces tracks) (λ files. pieces_bytes files (pieces_in tracks chunks))
chunk-unwritten s t u tracks chunks at d lt within e f =
    subst (λ (made : Made). StopsWritingPieces s u (all_pieces tracks) made) (λ i files. paid-whole tracks at chunks d files lt i)
    (writing-stops s t u (all_pieces tracks) (chunk_pieces tracks (get_or chunks at d)) (λ files. pieces_bytes files (pieces_in tracks (take at chunks))) (λ files. pieces_bytes files (chunk_pieces tracks (get_or chunks at d))) (λ files. pieces_bytes files (pieces_in tracks (drop (at + 1) chunks))) (tells-chunk t tracks (get_or chunks at d) within) e f)

-- nothing was copied yet
nothing-appended : (written : Option (List ℕ)) → written ≡ followed_by written []
nothing-appended None = refl
nothing-appended (Some bytes) = ap Some (sym (append-nil bytes))

pub nothing-copied : (s : FolderState) (tracks : List PlacedTrack) → Emits s s (all_pieces tracks) (λ files. pieces_bytes files (pieces_in tracks []))
nothing-copied s tracks = record { bytes = []; appended = ap (λ (w : Option (List ℕ)). record s { written = w }) (nothing-appended s.written); told = λ files tells. refl }

pub held-then : (s t : FolderState) (pieces : List Piece) (made : Made) → Emits s t pieces made → All (IsHeld (sizes_of s)) pieces → All (IsHeld (sizes_of t)) pieces
held-then s t pieces made e held = subst (λ (x : FolderState). All (IsHeld (sizes_of x)) pieces) (sym e.appended) held

-- a fault of one call is the same fault of another
retyped : {A B E : Type 0} → Result A E → Result B E → Result B E
retyped (Ok value) other = other
retyped (Err fault) other = Err fault

pub same-fault : {A B E : Type 0} (x y : E) → IsErrOf {T = A} (Err x) y → IsErrOf {T = B} (Err x) y
unfolding retyped
same-fault x y e = ap (λ r. retyped r (Err x)) e

-- no chunk at all
abbrev pub no-chunk : Chunk
no-chunk = record { track = 0; first = 0; count = 0 }
