-- Bytes that are gathered in several steps.
use Rattle.std.proofs.Common.{◌≡◌, ℕ, ◌+◌, List, [], ◌++◌, length, take, min, Option, Some, None, refl, sym, ap, subst, ◌∙◌, append_assoc, append-nil, arith}
use Rattle.std.proofs.lemmas.List.{take_min, take-append-le}
use Rattle.std.proofs.Math.Seq.{take-append-add, take-append_seam}
use Rattle.mp_ports.specs.Count.{after_fault}
use Rattle.mp_ports.specs.Folder.{FolderState, Appends, FailsToAppend, FailsToRead}
use Rattle.mp_ports.specs.Told.{followed_by}
use Rattle.mp_pieces.specs.declared.piece.Piece.{Piece}
use Rattle.mp_pieces.specs.Copied.{Made, Tells, IsFront, Emits, StopsReading, StopsWriting}
use Rattle.mp_pieces.specs.Gathered.{Gathers}

again : (o : Option (List ℕ)) (a b : List ℕ) → followed_by (followed_by o a) b ≡ followed_by o (a ++ b)
again None a b = refl
again (Some w) a b = ap Some (append_assoc w a b)

pub by_nothing : (o : Option (List ℕ)) → o ≡ followed_by o []
by_nothing None = refl
by_nothing (Some w) = ap Some (sym (append-nil w))

-- what the opened files are told to be stays
tells_on : (s t : FolderState) (front : List ℕ) (files : List (List ℕ)) (pieces : List Piece) → Appends s t front → Tells s files pieces → Tells t files pieces
tells_on s t front files pieces appended tells = subst (λ (v : FolderState). Tells v files pieces) (sym appended) tells

-- a front of what comes second, behind all of what comes first
front_on : (front bytes whole rest : List ℕ) → IsFront bytes whole → IsFront (front ++ bytes) (front ++ (whole ++ rest))
front_on front bytes whole rest part =
    let n = min part.0 (length whole) in
    (length front + n, ap (λ (b : List ℕ). front ++ b) (part.1 ∙ sym (take_min part.0 whole) ∙ sym (take-append-le n whole rest (omega arith))) ∙ sym (take-append-add front (whole ++ rest) n))

appends_on : (s t u : FolderState) (a b : List ℕ) → Appends s t a → Appends t u b → Appends s u (a ++ b)
appends_on s t u a b first second =
    second ∙ ap (λ (v : FolderState). record v { written = followed_by v.written b }) first ∙ ap (λ (w : Option (List ℕ)). record s { written = w }) (again s.written a b)

-- one step, and the next
pub gathers_on : (s t u : FolderState) (all some more : List Piece) (f g whole : Made) (k l : List ℕ) → Gathers s t some f k → Gathers t u more (λ files. k ++ g files) l
    → ((files : List (List ℕ)) → Tells s files all → Tells s files some × Tells s files more) → ((files : List (List ℕ)) → whole files ≡ f files ++ g files) → Gathers s u all whole l
gathers_on s t u all some more f g whole k l first second both is = record {
  front = first.front ++ second.front;
  appended = appends_on s t u first.front second.front first.appended second.appended;
  told = λ files tells.
      let parts = both files tells in
      is files ∙ ap (λ (b : List ℕ). b ++ g files) (first.told files parts.0) ∙ append_assoc first.front k (g files)
      ∙ ap (λ (b : List ℕ). first.front ++ b) (second.told files (tells_on s t first.front files more first.appended parts.1)) ∙ sym (append_assoc first.front second.front l);
}

-- what is made is what was gathered, what the next step makes, and the rest
front_of : (files : List (List ℕ)) (front bytes k part rest whole : List ℕ) → IsFront bytes (k ++ part) → whole ≡ (front ++ k) ++ (part ++ rest) → IsFront (front ++ bytes) whole
front_of files front bytes k part rest whole is e =
    subst (λ (b : List ℕ). IsFront (front ++ bytes) b) (sym (e ∙ append_assoc front k (part ++ rest) ∙ ap (λ (b : List ℕ). front ++ b) (sym (append_assoc k part rest)))) (front_on front bytes (k ++ part) rest is)

-- one step, and the next one fails to read
pub unread_on : (s t u : FolderState) (all some more : List Piece) (f g rest whole : Made) (k : List ℕ) → Gathers s t some f k → StopsReading t u more (λ files. k ++ g files)
    → ((files : List (List ℕ)) → Tells s files all → Tells s files some × Tells s files more) → ((files : List (List ℕ)) → whole files ≡ f files ++ (g files ++ rest files)) → StopsReading s u all whole
unread_on s t u all some more f g rest whole k first second both is = record {
  bytes = first.front ++ second.bytes;
  state = second.state ∙ ap (λ (v : FolderState). record v { written = followed_by v.written second.bytes; read_faults = after_fault v.read_faults }) first.appended
      ∙ ap (λ (w : Option (List ℕ)). record s { written = w; read_faults = after_fault s.read_faults }) (again s.written first.front second.bytes);
  told = λ files tells.
      let parts = both files tells in
      front_of files first.front second.bytes k (g files) (rest files) (whole files) (second.told files (tells_on s t first.front files more first.appended parts.1))
      (is files ∙ ap (λ (b : List ℕ). b ++ (g files ++ rest files)) (first.told files parts.0));
}

-- one step, and the next one fails to write
pub unwritten_on : (s t u : FolderState) (all some more : List Piece) (f g rest whole : Made) (k : List ℕ) → Gathers s t some f k → StopsWriting t u more (λ files. k ++ g files)
    → ((files : List (List ℕ)) → Tells s files all → Tells s files some × Tells s files more) → ((files : List (List ℕ)) → whole files ≡ f files ++ (g files ++ rest files)) → StopsWriting s u all whole
unwritten_on s t u all some more f g rest whole k first second both is = record {
  bytes = first.front ++ second.bytes;
  state = second.state ∙ ap (λ (v : FolderState). record v { written = followed_by v.written second.bytes; write_faults = after_fault v.write_faults }) first.appended
      ∙ ap (λ (w : Option (List ℕ)). record s { written = w; write_faults = after_fault s.write_faults }) (again s.written first.front second.bytes);
  told = λ files tells.
      let parts = both files tells in
      front_of files first.front second.bytes k (g files) (rest files) (whole files) (second.told files (tells_on s t first.front files more first.appended parts.1))
      (is files ∙ ap (λ (b : List ℕ). b ++ (g files ++ rest files)) (first.told files parts.0));
}

-- nothing is appended, and the bytes are held
pub holds : (s : FolderState) (pieces : List Piece) (made : Made) (held : List ℕ) → ((files : List (List ℕ)) → Tells s files pieces → made files ≡ held) → Gathers s s pieces made held
holds s pieces made held is = record { front = []; appended = ap (λ (w : Option (List ℕ)). record s { written = w }) (by_nothing s.written); told = is }

-- a failed read leaves what was appended
pub unread : (s t u : FolderState) (made : Made) (k : List ℕ) → Gathers s t [] made k → FailsToRead t u → StopsReading s u [] made
unread s t u made k first fails = record {
  bytes = first.front;
  state = fails ∙ ap (λ (v : FolderState). record v { read_faults = after_fault v.read_faults }) first.appended;
  told = λ files tells. (length first.front, sym (ap (take (length first.front)) (first.told files tells) ∙ take-append_seam first.front k));
}

-- a failed append leaves a front of what was held
pub unwritten : (s t : FolderState) (k rest : List ℕ) → FailsToAppend s t k → StopsWriting s t [] (λ _. k ++ rest)
unwritten s t k rest fails = record { bytes = take fails.part k; state = fails.state; told = λ files tells. front_on [] (take fails.part k) k rest (fails.part, refl) }

-- one behind an append leaves what was appended
pub unwritten_behind : (s t u : FolderState) (k next : List ℕ) → Appends s t k → FailsToAppend t u next → StopsWriting s u [] (λ _. k ++ next)
unwritten_behind s t u k next first fails = record {
  bytes = k ++ take fails.part next;
  state = fails.state ∙ ap (λ (v : FolderState). record v { written = followed_by v.written (take fails.part next); write_faults = after_fault v.write_faults }) first
      ∙ ap (λ (w : Option (List ℕ)). record s { written = w; write_faults = after_fault s.write_faults }) (again s.written k (take fails.part next));
  told = λ files tells. subst (λ (b : List ℕ). IsFront (k ++ take fails.part next) (k ++ b)) (append-nil next) (front_on k (take fails.part next) next [] (fails.part, refl));
}

-- the rest is appended
pub written_behind : (s t u : FolderState) (k next held : List ℕ) → Appends s t k → Appends t u next → held ≡ [] → Gathers s u [] (λ _. k ++ next) held
written_behind s t u k next held first second none = record {
  front = k ++ next;
  appended = appends_on s t u k next first second;
  told = λ files tells. sym (ap (λ (b : List ℕ). (k ++ next) ++ b) none ∙ append-nil (k ++ next));
}

-- all that was gathered is appended
pub all_written : (s t u : FolderState) (pieces : List Piece) (made : Made) (k : List ℕ) → Gathers s t pieces made k → Appends t u k → Emits s u pieces made
all_written s t u pieces made k first second = record {
  bytes = first.front ++ k;
  appended = appends_on s t u first.front k first.appended second;
  told = first.told;
}
