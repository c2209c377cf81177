-- Pieces that are gathered one behind the other.
use Rattle.std.proofs.Common.{◌≡◌, ℕ, zero, suc, ◌+◌, ◌<◌, ◌≤◌, List, [], ◌∷◌, ◌++◌, length, take, drop, get_or, Option, Some, None, IfSome, Result, Ok, Err, IsErrOf, refl, sym, ap, subst, ◌∙◌, append_assoc, append-nil, arith}
use Rattle.std.proofs.lemmas.Grind.{flat_map-append}
use Rattle.std.proofs.lemmas.List.{take_more, take-append-drop, take_all, at_drop_more}
use Rattle.std.proofs.lemmas.List.Elements.{All-nil}
use Rattle.mp_ports.specs.Folder.{FolderState, Appends, FailsToAppend, opened_at}
use Rattle.mp_pieces.specs.declared.piece.Piece.{Piece}
use Rattle.mp_pieces.specs.Piece.{prefix_bytes, range_bytes, piece_bytes, pieces_bytes}
use Rattle.mp_pieces.specs.Copied.{Tells, Emits, StopsReading, StopsWriting}
use Rattle.mp_pieces.specs.declared.stand.Stand.{Stand}
use Rattle.mp_pieces.specs.Gathered.{Gathers, IsStand, blank_stand, gathered}
use Rattle.mp_pieces.proofs.Gathering.{gathers_on, unread_on, unwritten_on, unwritten, holds, all_written}

-- the bytes behind the prefix
abbrev body : Piece → List (List ℕ) → List ℕ
body piece files = range_bytes files piece piece.len

-- a prefix, and then the bytes behind it
pub piece_on : (s t u : FolderState) (piece : Piece) (w h k : List ℕ) → Gathers s t [] (λ _. w ++ prefix_bytes piece.prefix) h → Gathers t u (piece ∷ []) (λ files. h ++ range_bytes files piece piece.len) k
    → Gathers s u (piece ∷ []) (λ files. w ++ piece_bytes files piece) k
piece_on s t u piece w h k first second =
    gathers_on s t u (piece ∷ []) [] (piece ∷ []) (λ _. w ++ prefix_bytes piece.prefix) (body piece) _ h k first second (λ files tells. (All-nil _, tells))
    (λ files. sym (append_assoc w (prefix_bytes piece.prefix) (body piece files)))

pub piece_unread : (s t u : FolderState) (piece : Piece) (w h : List ℕ) → Gathers s t [] (λ _. w ++ prefix_bytes piece.prefix) h → StopsReading t u (piece ∷ []) (λ files. h ++ range_bytes files piece piece.len)
    → StopsReading s u (piece ∷ []) (λ files. w ++ piece_bytes files piece)
piece_unread s t u piece w h first stops =
    unread_on s t u (piece ∷ []) [] (piece ∷ []) (λ _. w ++ prefix_bytes piece.prefix) (body piece) (λ _. []) _ h first stops (λ files tells. (All-nil _, tells))
    (λ files. sym (append_assoc w (prefix_bytes piece.prefix) (body piece files)) ∙ ap (λ (b : List ℕ). (w ++ prefix_bytes piece.prefix) ++ b) (sym (append-nil (body piece files))))

pub piece_unwritten : (s t u : FolderState) (piece : Piece) (w h : List ℕ) → Gathers s t [] (λ _. w ++ prefix_bytes piece.prefix) h → StopsWriting t u (piece ∷ []) (λ files. h ++ range_bytes files piece piece.len)
    → StopsWriting s u (piece ∷ []) (λ files. w ++ piece_bytes files piece)
piece_unwritten s t u piece w h first stops =
    unwritten_on s t u (piece ∷ []) [] (piece ∷ []) (λ _. w ++ prefix_bytes piece.prefix) (body piece) (λ _. []) _ h first stops (λ files tells. (All-nil _, tells))
    (λ files. sym (append_assoc w (prefix_bytes piece.prefix) (body piece files)) ∙ ap (λ (b : List ℕ). (w ++ prefix_bytes piece.prefix) ++ b) (sym (append-nil (body piece files))))

-- the prefix isn't written
pub prefix_unwritten : (s t : FolderState) (piece : Piece) (w : List ℕ) → StopsWriting s t [] (λ _. w ++ prefix_bytes piece.prefix) → StopsWriting s t (piece ∷ []) (λ files. w ++ piece_bytes files piece)
prefix_unwritten s t piece w stops =
    unwritten_on s s t (piece ∷ []) [] [] (λ _. []) (λ _. w ++ prefix_bytes piece.prefix) (body piece) _ [] (holds s [] (λ _. []) [] (λ files tells. refl)) stops (λ files tells. (All-nil _, All-nil _))
    (λ files. sym (append_assoc w (prefix_bytes piece.prefix) (body piece files)))

-- what is told of all pieces is told of one
one_of : (s : FolderState) (files : List (List ℕ)) (pieces : List Piece) (i : ℕ) (d : Piece) → i < length pieces → Tells s files pieces → Tells s files (get_or pieces i d ∷ [])
one_of s files pieces i d lt tells zero e le = tells i d lt
one_of s files pieces i d lt tells (suc k) e le = absurd (omega arith)

-- one piece more
more_bytes : (files : List (List ℕ)) (pieces : List Piece) (i : ℕ) (d : Piece) → i < length pieces → pieces_bytes files (take (i + 1) pieces) ≡ pieces_bytes files (take i pieces) ++ piece_bytes files (get_or pieces i d)
more_bytes files pieces i d lt =
    ap (pieces_bytes files) (take_more pieces i d lt) ∙ flat_map-append (piece_bytes files) (take i pieces) (get_or pieces i d ∷ [])
    ∙ ap (λ (b : List ℕ). pieces_bytes files (take i pieces) ++ b) (append-nil (piece_bytes files (get_or pieces i d)))

-- all pieces: those so far, the next one, and the others
around : (files : List (List ℕ)) (pieces : List Piece) (i : ℕ) (d : Piece) → i < length pieces
    → pieces_bytes files pieces ≡ pieces_bytes files (take i pieces) ++ (piece_bytes files (get_or pieces i d) ++ pieces_bytes files (drop (i + 1) pieces))
around files pieces i d lt =
    ap (pieces_bytes files) (sym (take-append-drop i pieces)) ∙ flat_map-append (piece_bytes files) (take i pieces) (drop i pieces)
    ∙ ap (λ (b : List ℕ). pieces_bytes files (take i pieces) ++ b) (at_drop_more (pieces_bytes files) pieces i d lt)

pub pieces_on : (s t u : FolderState) (pieces : List Piece) (i : ℕ) (d : Piece) (h k : List ℕ) → i < length pieces → Gathers s t pieces (λ files. pieces_bytes files (take i pieces)) h
    → Gathers t u (get_or pieces i d ∷ []) (λ files. h ++ piece_bytes files (get_or pieces i d)) k → Gathers s u pieces (λ files. pieces_bytes files (take (i + 1) pieces)) k
pieces_on s t u pieces i d h k lt first second =
    gathers_on s t u pieces pieces (get_or pieces i d ∷ []) _ (λ files. piece_bytes files (get_or pieces i d)) _ h k first second (λ files tells. (tells, one_of s files pieces i d lt tells)) (λ files. more_bytes files pieces i d lt)

pub pieces_unread : (s t u : FolderState) (pieces : List Piece) (i : ℕ) (d : Piece) (h : List ℕ) → i < length pieces → Gathers s t pieces (λ files. pieces_bytes files (take i pieces)) h
    → StopsReading t u (get_or pieces i d ∷ []) (λ files. h ++ piece_bytes files (get_or pieces i d)) → StopsReading s u pieces (λ files. pieces_bytes files pieces)
pieces_unread s t u pieces i d h lt first stops =
    unread_on s t u pieces pieces (get_or pieces i d ∷ []) _ (λ files. piece_bytes files (get_or pieces i d)) (λ files. pieces_bytes files (drop (i + 1) pieces)) _ h first stops
    (λ files tells. (tells, one_of s files pieces i d lt tells)) (λ files. around files pieces i d lt)

pub pieces_unwritten : (s t u : FolderState) (pieces : List Piece) (i : ℕ) (d : Piece) (h : List ℕ) → i < length pieces → Gathers s t pieces (λ files. pieces_bytes files (take i pieces)) h
    → StopsWriting t u (get_or pieces i d ∷ []) (λ files. h ++ piece_bytes files (get_or pieces i d)) → StopsWriting s u pieces (λ files. pieces_bytes files pieces)
pieces_unwritten s t u pieces i d h lt first stops =
    unwritten_on s t u pieces pieces (get_or pieces i d ∷ []) _ (λ files. piece_bytes files (get_or pieces i d)) (λ files. pieces_bytes files (drop (i + 1) pieces)) _ h first stops
    (λ files tells. (tells, one_of s files pieces i d lt tells)) (λ files. around files pieces i d lt)

-- at the end what is kept is written
pub pieces_written : (s t u : FolderState) (pieces : List Piece) (i : ℕ) (h : List ℕ) → length pieces ≤ i → Gathers s t pieces (λ files. pieces_bytes files (take i pieces)) h → Appends t u h
    → Emits s u pieces (λ files. pieces_bytes files pieces)
pieces_written s t u pieces i h le first second =
    subst (λ (all : List Piece). Emits s u pieces (λ files. pieces_bytes files all)) (take_all i pieces le) (all_written s t u pieces (λ files. pieces_bytes files (take i pieces)) h first second)

-- or isn't
pub rest_unwritten : (s t u : FolderState) (pieces : List Piece) (i : ℕ) (h : List ℕ) → length pieces ≤ i → Gathers s t pieces (λ files. pieces_bytes files (take i pieces)) h → FailsToAppend t u h
    → StopsWriting s u pieces (λ files. pieces_bytes files pieces)
rest_unwritten s t u pieces i h le first fails =
    unwritten_on s t u pieces pieces [] _ (λ _. []) (λ _. []) _ h first (unwritten t u h [] fails) (λ files tells. (tells, All-nil _))
    (λ files. ap (pieces_bytes files) (sym (take_all i pieces le)) ∙ sym (append-nil (pieces_bytes files (take i pieces))))

nothing_told : (told : Option (List ℕ)) → IfSome told (λ file. [] ≡ take 0 (drop 0 file))
nothing_told None = tt
nothing_told (Some file) = refl

-- at the beginning nothing is gathered, and nothing was read ahead
pub nothing_yet : (s : FolderState) (pieces : List Piece) (window : List ℕ) (stand : Stand) → stand ≡ blank_stand → Gathers s s pieces (λ files. pieces_bytes files (take 0 pieces)) (gathered window stand)
nothing_yet s pieces window stand blank = holds s pieces (λ files. pieces_bytes files (take 0 pieces)) (gathered window stand) (λ files tells. ap (gathered window) (sym blank))

pub blank_stands : (s : FolderState) (window : List ℕ) (stand : Stand) → stand ≡ blank_stand → IsStand s window stand
blank_stands s window stand blank =
    subst (λ (h : Stand). IsStand s window h) (sym blank) (record { kept = omega arith; ahead = omega arith; room = omega arith; place = omega arith; part = nothing_told (opened_at s 0).bytes })

abbrev retyped : {A B E : Type 0} → Result B E → Result A E → Result B E
retyped other (Ok value) = other
retyped other (Err fail) = Err fail

-- the same fault of an answer of another type
pub same_fault : {A B E : Type 0} (x y : E) → IsErrOf {T = A} (Err x) y → IsErrOf {T = B} (Err x) y
same_fault x y e = ap (retyped (Err x)) e
