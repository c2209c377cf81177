-- A range of a file that is gathered in several steps.
use Rattle.std.proofs.Common.{◌≡◌, ℕ, ◌+◌, ◌-◌, ◌≤◌, List, [], ◌∷◌, ◌++◌, take, drop, get_or, Option, Some, IfSome, sym, ap, subst, ◌∙◌, append_assoc, append-nil, arith}
use Rattle.std.proofs.lemmas.List.{drop-drop}
use Rattle.std.proofs.lemmas.List.Elements.{All-nil}
use Rattle.std.proofs.Math.Seq.{take-add}
use Rattle.mp_ports.specs.Folder.{FolderState, opened_at}
use Rattle.mp_pieces.specs.declared.piece.Piece.{Piece}
use Rattle.mp_pieces.specs.Piece.{range_bytes}
use Rattle.mp_pieces.specs.Copied.{Tells, StopsReading, StopsWriting}
use Rattle.mp_pieces.specs.Gathered.{Gathers}
use Rattle.mp_pieces.proofs.Gathering.{gathers_on, unread_on, unwritten_on, holds}

-- a range is its front, and the rest
split : (file : List ℕ) (from done count : ℕ) → take (done + count) (drop from file) ≡ take done (drop from file) ++ take count (drop (from + done) file)
split file from done count = take-add done count (drop from file) ∙ ap (λ (t : List ℕ). take done (drop from file) ++ take count t) (drop-drop done from file)

-- behind these bytes
behind : (files : List (List ℕ)) (piece : Piece) (w : List ℕ) (done count : ℕ)
    → w ++ range_bytes files piece (done + count) ≡ (w ++ range_bytes files piece done) ++ take count (drop (piece.from + done) (get_or files piece.file []))
behind files piece w done count =
    ap (λ (b : List ℕ). w ++ b) (split (get_or files piece.file []) piece.from done count) ∙ sym (append_assoc w (range_bytes files piece done) (take count (drop (piece.from + done) (get_or files piece.file []))))

told_is : (told : Option (List ℕ)) (file : List ℕ) (P : List ℕ → Type 0) → told ≡ Some file → IfSome told P → P file
told_is told file P e is = subst (λ (o : Option (List ℕ)). IfSome o P) e is

no_pieces : (s : FolderState) (files : List (List ℕ)) → Tells s files []
no_pieces s files = All-nil _

rest_of : (a b : ℕ) → a ≤ b → b ≡ a + (b - a)
rest_of a b le = omega arith

-- after a step more bytes of the range are gathered
pub range_on : (s t v : FolderState) (piece : Piece) (done count : ℕ) (w h k m : List ℕ) → Gathers s t (piece ∷ []) (λ files. w ++ range_bytes files piece done) h
    → Gathers t v [] (λ _. h) k → IfSome (opened_at v piece.file).bytes (λ file. m ≡ k ++ take count (drop (piece.from + done) file))
    → Gathers s v (piece ∷ []) (λ files. w ++ range_bytes files piece (done + count)) m
range_on s t v piece done count w h k m first second moved =
    let one = piece ∷ [] in
    let so_far = λ (files : List (List ℕ)). w ++ range_bytes files piece done in
    let reached = gathers_on s t v one one [] so_far (λ _. []) so_far h k first (subst (λ (b : List ℕ). Gathers t v [] (λ _. b) k) (sym (append-nil h)) second)
    (λ files tells. (tells, no_pieces s files)) (λ files. sym (append-nil (so_far files))) in
    let next = λ (files : List (List ℕ)). take count (drop (piece.from + done) (get_or files piece.file [])) in
    gathers_on s v v one one one so_far next _ k m reached (holds v one (λ files. k ++ next files) m (λ files tells. sym (told_is _ (get_or files piece.file []) _ (tells 0 piece (omega arith)) moved)))
    (λ files tells. (tells, tells)) (λ files. behind files piece w done count)

-- the rest of the range isn't read
pub range_unread : (s t u : FolderState) (piece : Piece) (done len : ℕ) (w h : List ℕ) → done ≤ len → Gathers s t (piece ∷ []) (λ files. w ++ range_bytes files piece done) h → StopsReading t u [] (λ _. h)
    → StopsReading s u (piece ∷ []) (λ files. w ++ range_bytes files piece len)
range_unread s t u piece done len w h le first stops =
    unread_on s t u (piece ∷ []) (piece ∷ []) [] (λ files. w ++ range_bytes files piece done) (λ _. []) (λ files. take (len - done) (drop (piece.from + done) (get_or files piece.file []))) _ h
    first (subst (λ (b : List ℕ). StopsReading t u [] (λ _. b)) (sym (append-nil h)) stops) (λ files tells. (tells, no_pieces s files))
    (λ files. ap (λ n. w ++ range_bytes files piece n) (rest_of done len le) ∙ behind files piece w done (len - done))

-- or what was gathered isn't written
pub range_unwritten : (s t u : FolderState) (piece : Piece) (done len : ℕ) (w h : List ℕ) → done ≤ len → Gathers s t (piece ∷ []) (λ files. w ++ range_bytes files piece done) h → StopsWriting t u [] (λ _. h)
    → StopsWriting s u (piece ∷ []) (λ files. w ++ range_bytes files piece len)
range_unwritten s t u piece done len w h le first stops =
    unwritten_on s t u (piece ∷ []) (piece ∷ []) [] (λ files. w ++ range_bytes files piece done) (λ _. []) (λ files. take (len - done) (drop (piece.from + done) (get_or files piece.file []))) _ h
    first (subst (λ (b : List ℕ). StopsWriting t u [] (λ _. b)) (sym (append-nil h)) stops) (λ files tells. (tells, no_pieces s files))
    (λ files. ap (λ n. w ++ range_bytes files piece n) (rest_of done len le) ∙ behind files piece w done (len - done))
