-- Frames that are read one after another, each by its front.
use Rattle.std.proofs.Common.{◌≡◌, ℕ, zero, suc, ◌+◌, ◌-◌, ◌<◌, ◌≤◌, List, [], ◌∷◌, ◌++◌, length, take, drop, min, Option, Some, None, IfSome, Result, Ok, Err, refl, sym, ap, ◌∙◌, append_assoc, append-nil, length-append, length-take, arith}
use Rattle.std.proofs.lemmas.List.{length-drop, drop-drop, drop_all, take_min}
use Rattle.mp_ports.specs.Checks.{◌>>=◌, bad_at}
use Rattle.mp_ports.specs.declared.code.Code.{Code}
use Rattle.mp_ports.specs.declared.code.Code.TheVariants.{AdtsEmpty}
use Rattle.mp_ports.specs.declared.fault.Bad.{Bad}
use Rattle.mp_pieces.specs.declared.piece.Piece.{Piece}
use Rattle.adts_import.specs.declared.header.Configuration.{Configuration}
use Rattle.adts_import.specs.declared.header.Header.{Header}
use Rattle.adts_import.specs.Header.{front_number, frame_len, header_len}
use Rattle.adts_import.specs.Frame.{configuration, header_fault, header_of}
use Rattle.adts_import.specs.Places.{piece_at, pieces_from}
use Rattle.adts_import.specs.Stream.{next_fault, frames_from, frames_of, stream_pieces}
use Rattle.adts_import.proofs.Fields.{front_number-take}
use Rattle.adts_import.proofs.Frames.{frames_from-none, frames_from-fault, frames_from-frame}
use Rattle.adts_import.proofs.Laws.{cut_filled, cut_empty, first_fault}
use Rattle.adts_import.proofs.Passing.{passes}

-- the front of what is left tells as much as all of it
record IsFront (bytes : List ℕ) (at left : ℕ) (front : List ℕ) : Type 0 where
  number : front_number front ≡ front_number (drop at bytes)
  len : left ≡ length (drop at bytes)

front_of : (bytes : List ℕ) (size at : ℕ) (front : List ℕ) → size ≡ length bytes → front ≡ take (length front) (drop at bytes) → length front ≡ min (size - at) 7
    → IsFront bytes at (size - at) front
front_of bytes size at front all part few =
    let len : size - at ≡ length (drop at bytes) = omega (arith, length-drop at bytes) in
    let short : length front ≡ min 7 (length (drop at bytes)) = omega (arith, len) in
    record {
      number = ap front_number (part ∙ ap (λ n. take n (drop at bytes)) short ∙ take_min 7 (drop at bytes)) ∙ front_number-take 7 (drop at bytes) (omega arith);
      len = len;
    }

same_fault : (stream : Configuration) (k : ℕ) (bytes : List ℕ) (at left : ℕ) (front : List ℕ) → IsFront bytes at left front
    → next_fault stream k at front left ≡ next_fault stream k at (drop at bytes) (length (drop at bytes))
unfolding next_fault header_fault
same_fault stream k bytes at left front is = rw (is.number, is.len) refl

-- the pieces so far, and those of the frames that follow
abbrev behind : ℕ → ℕ → List Piece → Result (List (List ℕ)) Bad → Result (List Piece) Bad
behind file at done (Ok frames) = Ok (done ++ pieces_from file at frames)
behind file at done (Err bad) = Err bad

behind_frame : (file at : ℕ) (done : List Piece) (frame : List ℕ) (more : Result (List (List ℕ)) Bad)
    → behind file at done (more >>= (λ frames. Ok (frame ∷ frames))) ≡ behind file (at + length frame) (done ++ piece_at file at frame ∷ []) more
unfolding pieces_from
behind_frame file at done frame (Ok frames) = ap Ok (sym (append_assoc done (piece_at file at frame ∷ []) (pieces_from file (at + length frame) frames)))
behind_frame file at done frame (Err bad) = refl

-- what is left is cut, into any number of frames that is enough
pub record Walked (file : ℕ) (bytes : List ℕ) (at : ℕ) (done : List Piece) : Type 0 where
  pub most : ℕ
  pub enough : length (drop at bytes) ≤ most
  pub rest : stream_pieces file bytes ≡ behind file at done (frames_from most (configuration bytes) (length done) at (drop at bytes))

steps : (most : ℕ) (stream : Configuration) (file at : ℕ) (rest : List ℕ) (done : List Piece) → 0 < length rest → next_fault stream (length done) at rest (length rest) ≡ None
    → behind file at done (frames_from (suc most) stream (length done) at rest)
    ≡ behind file (at + frame_len rest) (done ++ piece_at file at rest ∷ []) (frames_from most stream (length done + 1) (at + frame_len rest) (drop (frame_len rest) rest))
steps most stream file at rest done some none =
    let n = frame_len rest in
    let p = passes stream (length done) at rest none in
    let len : length (take n rest) ≡ n = omega (arith, length-take n rest, p.inside) in
    let number : front_number (take n rest) ≡ front_number rest = front_number-take n rest p.some in
    let piece : piece_at file at (take n rest) ≡ piece_at file at rest = rw number refl in
    ap (behind file at done) (frames_from-frame most stream (length done) at rest some none)
    ∙ behind_frame file at done (take n rest) (frames_from most stream (length done + 1) (at + n) (drop n rest))
    ∙ rw (len, piece) refl

-- one frame more
pub goes_on : (told : Option (List ℕ)) (stream : Configuration) (file size at : ℕ) (front : List ℕ) (head : Header) (done : List Piece)
    → IfSome told (λ bytes. stream ≡ configuration bytes) → IfSome told (λ bytes. size ≡ length bytes) → IfSome told (λ bytes. front ≡ take (length front) (drop at bytes))
    → length front ≡ min (size - at) 7 → at < size → next_fault stream (length done) at front (size - at) ≡ None → head ≡ header_of front
    → IfSome told (λ bytes. Walked file bytes at done)
    → IfSome told (λ bytes. Walked file bytes (at + head.frame_len) (done ++ record { file = file; from = at + head.header_len; len = head.frame_len - head.header_len; prefix = None } ∷ []))
goes_on None stream file size at front head done same all part few inside none is walked = tt
goes_on (Some bytes) stream file size at front head done same all part few inside none is walked =
    let front_is = front_of bytes size at front all part few in
    let len : head.frame_len ≡ frame_len (drop at bytes) = ap (λ h. h.frame_len) is ∙ rw front_is.number refl in
    let header : head.header_len ≡ header_len (drop at bytes) = ap (λ h. h.header_len) is ∙ rw front_is.number refl in
    let some : 0 < length (drop at bytes) = omega (arith, length-drop at bytes) in
    rw (len, header) (from some walked.most walked.enough walked.rest (ap (λ c. next_fault c (length done) at (drop at bytes) (length (drop at bytes))) (sym same) ∙ sym (same_fault stream (length done) bytes at (size - at) front front_is) ∙ none))
  where
    from : 0 < length (drop at bytes) → (most : ℕ) → length (drop at bytes) ≤ most
        → stream_pieces file bytes ≡ behind file at done (frames_from most (configuration bytes) (length done) at (drop at bytes))
        → next_fault (configuration bytes) (length done) at (drop at bytes) (length (drop at bytes)) ≡ None
        → Walked file bytes (at + frame_len (drop at bytes)) (done ++ piece_at file at (drop at bytes) ∷ [])
    from some zero enough rest none = absurd (omega arith)
    from some (suc most) enough rest none =
        let n = frame_len (drop at bytes) in
        let p = passes (configuration bytes) (length done) at (drop at bytes) none in
        record {
          most = most;
          enough = omega (arith, length-drop at bytes, length-drop (at + n) bytes, p.some);
          rest = rest ∙ steps most (configuration bytes) file at (drop at bytes) done some none ∙ rw (length-append done (piece_at file at (drop at bytes) ∷ []), drop-drop n at bytes) refl;
        }

-- the first fault
pub refused : (told : Option (List ℕ)) (stream : Configuration) (file size at : ℕ) (front : List ℕ) (bad : Bad) (done : List Piece)
    → IfSome told (λ bytes. stream ≡ configuration bytes) → IfSome told (λ bytes. size ≡ length bytes) → IfSome told (λ bytes. front ≡ take (length front) (drop at bytes))
    → length front ≡ min (size - at) 7 → at < size → next_fault stream (length done) at front (size - at) ≡ Some bad
    → IfSome told (λ bytes. Walked file bytes at done) → IfSome told (λ bytes. stream_pieces file bytes ≡ Err bad)
refused None stream file size at front bad done same all part few inside fault walked = tt
refused (Some bytes) stream file size at front bad done same all part few inside fault walked =
    let front_is = front_of bytes size at front all part few in
    let some : 0 < length (drop at bytes) = omega (arith, length-drop at bytes) in
    from some walked.most walked.enough walked.rest (ap (λ c. next_fault c (length done) at (drop at bytes) (length (drop at bytes))) (sym same) ∙ sym (same_fault stream (length done) bytes at (size - at) front front_is) ∙ fault)
  where
    from : 0 < length (drop at bytes) → (most : ℕ) → length (drop at bytes) ≤ most
        → stream_pieces file bytes ≡ behind file at done (frames_from most (configuration bytes) (length done) at (drop at bytes))
        → next_fault (configuration bytes) (length done) at (drop at bytes) (length (drop at bytes)) ≡ Some bad → stream_pieces file bytes ≡ Err bad
    from some zero enough rest fault = absurd (omega arith)
    from some (suc most) enough rest fault = rest ∙ ap (behind file at done) (frames_from-fault most (configuration bytes) (length done) at (drop at bytes) bad some fault)

pub nothing_yet : (told : Option (List ℕ)) (file size : ℕ) → IfSome told (λ bytes. size ≡ length bytes) → 0 < size → IfSome told (λ bytes. Walked file bytes 0 [])
nothing_yet None file size all some = tt
nothing_yet (Some bytes) file size all some = record {
  most = length bytes;
  enough = omega arith;
  rest = rw (cut_filled bytes (omega arith)) (from_start (frames_from (length bytes) (configuration bytes) 0 0 bytes));
}
  where
    from_start : (frames : Result (List (List ℕ)) Bad) → (frames >>= (λ frames. Ok (pieces_from file 0 frames))) ≡ behind file 0 [] frames
    from_start (Ok frames) = refl
    from_start (Err bad) = refl

pub all_read : (told : Option (List ℕ)) (file size at : ℕ) (done : List Piece) → IfSome told (λ bytes. size ≡ length bytes) → size ≤ at
    → IfSome told (λ bytes. Walked file bytes at done) → IfSome told (λ bytes. stream_pieces file bytes ≡ Ok done)
unfolding pieces_from
all_read None file size at done all end walked = tt
all_read (Some bytes) file size at done all end walked =
    walked.rest ∙ rw (drop_all at bytes (omega arith), frames_from-none walked.most (configuration bytes) (length done) at) (ap Ok (append-nil done))

-- a file of no bytes has no frames
pub empty_refused : (told : Option (List ℕ)) (size : ℕ) (bad : Bad) → IfSome told (λ bytes. size ≡ length bytes) → size ≡ 0 → bad ≡ bad_at AdtsEmpty 0
    → IfSome told (λ bytes. frames_of bytes ≡ Err bad)
empty_refused None size bad all none is = tt
empty_refused (Some []) size bad all none is = cut_empty ∙ ap Err (sym is)
empty_refused (Some (byte ∷ bytes)) size bad all none is = absurd (omega arith)

-- the configuration of the first frame is that of the file
pub first_is : (told : Option (List ℕ)) (size : ℕ) (front : List ℕ) (head : Header) → IfSome told (λ bytes. size ≡ length bytes) → IfSome told (λ bytes. front ≡ take (length front) (drop 0 bytes))
    → length front ≡ min size 7 → head ≡ header_of front → IfSome told (λ bytes. head.configuration ≡ configuration bytes)
first_is None size front head all part few is = tt
first_is (Some bytes) size front head all part few is =
    let front_is = front_of bytes size 0 front all part (omega (arith, few)) in
    ap (λ h. h.configuration) is ∙ rw front_is.number refl

-- its fault, too
pub first_refused : (told : Option (List ℕ)) (size : ℕ) (front : List ℕ) (code : Code) (bad : Bad) → IfSome told (λ bytes. size ≡ length bytes) → IfSome told (λ bytes. front ≡ take (length front) (drop 0 bytes))
    → length front ≡ min size 7 → 0 < size → header_fault front size ≡ Some code → bad ≡ bad_at code 0 → IfSome told (λ bytes. frames_of bytes ≡ Err bad)
unfolding header_fault
first_refused None size front code bad all part few some fault is = tt
first_refused (Some bytes) size front code bad all part few some fault is =
    let front_is = front_of bytes size 0 front all part (omega (arith, few)) in
    first_fault bytes code (omega arith) (rw (front_is.number, all) at fault) ∙ ap Err (sym is)
