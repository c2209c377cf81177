-- Where each opened file is told, so is each piece that they hold; and a file that is opened later changes nothing.
use Rattle.std.proofs.Common.{◌≡◌, ◌<◌, ℕ, List, [], ◌∷◌, ◌++◌, All, Option, Some, None, length, map, get_or, refl, sym, subst, ap, ◌∙◌, arith, unwrap_or, option_and_then, IfSome, IsSome, IsSomeAnd}
use Rattle.std.specs.List.{AllByRecursion, flat_map}
use Rattle.std.proofs.lemmas.List.{get_or_push, get_or-map, length_push, length-map, map-append}
use Rattle.std.proofs.lemmas.List.Concat.{flat_map-cons}
use Rattle.std.proofs.lemmas.List.Elements.{All-append, All-from_recursion, All-nil, All-push, All-weaker, recursion_from_All}
use Rattle.mp_ports.specs.Folder.{FolderState, HeldFile, OpenedFile, Opens, bytes_under, held_under, opened_at}
use Rattle.mp_pieces.specs.declared.piece.Piece.{Piece}
use Rattle.mp_pieces.specs.Piece.{IsHeld}
use Rattle.mp_pieces.specs.Copied.{Tells, sizes_of}
use Rattle.mp_movie.specs.Placed.{PlacedTrack, PlacedMovie}
use Rattle.mp_movie.specs.StandsFor.{Hold, HoldTrack}
use Rattle.mp_layout.specs.Emitted.{AreTold}
use Rattle.mp_read.specs.Read.{LiesIn, StretchesAreHeld}
use Rattle.mp4edit.specs.Reading.{AllTold, told_files}

-- what stands at a number at which no file is opened
abbrev pub no_file : OpenedFile
no_file = record { name = []; size = 0; bytes = None }

abbrev IsToldFile : OpenedFile → Type 0
IsToldFile file = IsSomeAnd file.bytes (λ bytes. file.size ≡ length bytes)

told_size : (size : ℕ) (bytes : Option (List ℕ)) → IsSomeAnd bytes (λ b. size ≡ length b) → size ≡ length (unwrap_or bytes [])
told_size size None told = absurd told
told_size size (Some bytes) told = told

-- the sizes are those of the bytes
sizes_told : (files : List OpenedFile) → AllByRecursion IsToldFile files → map (λ (f : OpenedFile). f.size) files ≡ map length (map (λ (f : OpenedFile). unwrap_or f.bytes []) files)
sizes_told [] told = refl
sizes_told (file ∷ files) told = ap (λ (n : ℕ). n ∷ map (λ (f : OpenedFile). f.size) files) (told_size file.size file.bytes told.0) ∙ ap (λ (l : List ℕ). length (unwrap_or file.bytes []) ∷ l) (sizes_told files told.1)

pub same_sizes : (s : FolderState) → AllTold s → sizes_of s ≡ map length (told_files s)
same_sizes s told = sizes_told s.opened (recursion_from_All IsToldFile s.opened told)

told_bytes : (size : ℕ) (bytes : Option (List ℕ)) → IsSomeAnd bytes (λ b. size ≡ length b) → bytes ≡ Some (unwrap_or bytes [])
told_bytes size None told = absurd told
told_bytes size (Some bytes) told = refl

-- a piece that is held, is told
told_piece : (s : FolderState) (piece : Piece) → AllTold s → IsHeld (sizes_of s) piece → (opened_at s piece.file).bytes ≡ Some (get_or (told_files s) piece.file [])
told_piece s piece told held =
    let lt : piece.file < length s.opened = subst (λ n. piece.file < n) (length-map s.opened (λ (f : OpenedFile). f.size)) held.opened in
    told_bytes _ (opened_at s piece.file).bytes (told piece.file no_file lt)
    ∙ ap Some (sym (get_or-map (λ (f : OpenedFile). unwrap_or f.bytes []) s.opened piece.file no_file [] lt))

told_tracks : (s : FolderState) (tracks : List PlacedTrack) → AllTold s → AllByRecursion (HoldTrack (sizes_of s)) tracks → Tells s (told_files s) (flat_map (λ (track : PlacedTrack). track.pieces) tracks)
told_tracks s [] told held = All-nil _
told_tracks s (track ∷ tracks) told held =
    rw (flat_map-cons (λ (t : PlacedTrack). t.pieces) track tracks)
    (All-append (λ (piece : Piece). (opened_at s piece.file).bytes ≡ Some (get_or (told_files s) piece.file [])) track.pieces (flat_map (λ (t : PlacedTrack). t.pieces) tracks)
    (All-weaker (IsHeld (sizes_of s)) (λ (piece : Piece). (opened_at s piece.file).bytes ≡ Some (get_or (told_files s) piece.file [])) (λ piece h. told_piece s piece told h) track.pieces (All-from_recursion (IsHeld (sizes_of s)) track.pieces held.0))
    (told_tracks s tracks told held.1))

-- a movie whose pieces the opened files hold is told
pub held_is_told : (s : FolderState) (movie : PlacedMovie) → AllTold s → Hold (sizes_of s) movie → AreTold s movie (told_files s)
held_is_told s movie told held = record {
  tells = told_tracks s movie.tracks told held;
  hold = subst (λ (sizes : List ℕ). Hold sizes movie) (same_sizes s told) held;
}

-- a movie that lies in an opened file is held
pub lies_is_held : StretchesAreHeld → (s : FolderState) (file : ℕ) (movie : PlacedMovie) → file < length s.opened → LiesIn file (opened_at s file).size movie → Hold (sizes_of s) movie
lies_is_held held s file movie lt lies =
    held (sizes_of s) file movie (rw (length-map s.opened (λ (f : OpenedFile). f.size)) lt)
    (subst (λ n. LiesIn file n movie) (sym (get_or-map (λ (f : OpenedFile). f.size) s.opened file no_file 0 lt)) lies)

-- the bytes of a file that is told, at its number
pub bytes_at : (s : FolderState) (file : ℕ) (bytes : List ℕ) → file < length s.opened → (opened_at s file).bytes ≡ Some bytes → get_or (told_files s) file [] ≡ bytes
bytes_at s file bytes lt told = get_or-map (λ (f : OpenedFile). unwrap_or f.bytes []) s.opened file no_file [] lt ∙ ap (λ b. unwrap_or b []) told

-- the file that was opened last, at its number
pub opened_last : (s t : FolderState) (name : List ℕ) (file : ℕ) (opens : Opens s t name file) → opened_at t file ≡ record { name = name; size = opens.size; bytes = held_under name s }
opened_last s t name file opens =
    ap (λ (x : FolderState). opened_at x file) opens.state ∙ get_or_push s.opened _ no_file file (sym opens.number)

pub is_open : (s t : FolderState) (name : List ℕ) (file : ℕ) → Opens s t name file → file < length t.opened
is_open s t name file opens =
    subst (λ (x : FolderState). file < length x.opened) (sym opens.state) (rw (opens.number, length_push s.opened _) (omega arith))

-- it is told where the folder tells
pub last_told : (s t : FolderState) (name : List ℕ) (file : ℕ) → Opens s t name file → IfSome s.held (λ _. AllTold s → AllTold t)
last_told s t name file opens = of_held s.held refl
  where
    found : (size : ℕ) (bytes : Option (List ℕ)) → IsSome bytes → IfSome bytes (λ b. size ≡ length b) → IsSomeAnd bytes (λ b. size ≡ length b)
    found size None some sized = absurd cc
    found size (Some bytes) some sized = sized

    of_held : (held : Option (List HeldFile)) → s.held ≡ held → IfSome held (λ _. AllTold s → AllTold t)
    of_held None e = tt
    of_held (Some files) e = λ told.
        subst (λ (o : List OpenedFile). All IsToldFile o) (sym (ap (λ (x : FolderState). x.opened) opens.state))
        (All-push IsToldFile s.opened _ told
        (found opens.size (held_under name s)
        (subst IsSome (sym (ap (λ h. option_and_then (bytes_under name) h) e)) (subst (λ h. IfSome h (λ files. IsSome (bytes_under name files))) e opens.found))
        opens.sized))

-- and whatever is read then
pub still_told : (s t u : FolderState) (name : List ℕ) (file : ℕ) → Opens s t name file → u.opened ≡ t.opened → IfSome s.held (λ _. AllTold s → AllTold u)
still_told s t u name file opens same =
    subst (λ (o : List OpenedFile). IfSome s.held (λ _. AllTold s → All IsToldFile o)) (sym same) (last_told s t name file opens)

-- the files that are told then are those of before and more
pub told_more : (s t : FolderState) (more : List OpenedFile) → t.opened ≡ s.opened ++ more → told_files t ≡ told_files s ++ map (λ (f : OpenedFile). unwrap_or f.bytes []) more
told_more s t more e = ap (λ (o : List OpenedFile). map (λ (f : OpenedFile). unwrap_or f.bytes []) o) e ∙ map-append (λ (f : OpenedFile). unwrap_or f.bytes []) s.opened more

pub sizes_more : (s t : FolderState) (more : List OpenedFile) → t.opened ≡ s.opened ++ more → sizes_of t ≡ sizes_of s ++ map (λ (f : OpenedFile). f.size) more
sizes_more s t more e = ap (λ (o : List OpenedFile). map (λ (f : OpenedFile). f.size) o) e ∙ map-append (λ (f : OpenedFile). f.size) s.opened more
