-- A file is cut into frames in one way, and its fault is that of the first bytes that begin with none.
use Rattle.std.proofs.Common.{◌≡◌, ◌≢◌, ◌+◌, ◌<◌, ◌≤◌, ℕ, zero, suc, List, [], ◌∷◌, ◌++◌, length, take, drop, Option, Some, None, Result, Ok, Err, refl, ap, sym, subst, ◌∙◌, arith, append_assoc, length-append, length-take, length-drop, zero-add, add-zero}
use Rattle.std.proofs.Math.Nat.{suc-add}
use Rattle.std.proofs.Math.Seq.{take-append_seam, drop-append_seam}
use Rattle.std.proofs.lemmas.List.{take-append-drop}
use Rattle.std.specs.List.{concat}
use Rattle.mp_ports.specs.Checks.{◌>>=◌}
use Rattle.mp_ports.specs.declared.fault.Bad.{Bad}
use Rattle.adts_import.specs.declared.header.Configuration.{Configuration}
use Rattle.adts_import.specs.Header.{frame_len}
use Rattle.adts_import.specs.Frame.{configuration, IsFrame, most_frames}
use Rattle.adts_import.specs.Stream.{AreFrames, next_fault, frames_from}
use Rattle.adts_import.proofs.Fields.{front_number-append}
use Rattle.adts_import.proofs.Frames.{frames_from-none, frames_from-fault, frames_from-frame}
use Rattle.adts_import.proofs.Passing.{Passes, passes, front_passes, seven}

handed_on : (frames : Result (List (List ℕ)) Bad) → (frames >>= (λ more. Ok more)) ≡ frames
handed_on (Ok frames) = refl
handed_on (Err bad) = refl

in_front : (frame : List ℕ) (frames : List (List ℕ)) (more : Result (List (List ℕ)) Bad) → ((more >>= (λ others. Ok (frames ++ others))) >>= (λ others. Ok (frame ∷ others))) ≡ (more >>= (λ others. Ok ((frame ∷ frames) ++ others)))
in_front frame frames (Ok more) = refl
in_front frame frames (Err bad) = refl

-- a whole frame in front is cut off
one_in_front : (fuel : ℕ) (stream : Configuration) (k place : ℕ) (frame after : List ℕ) → IsFrame frame → configuration frame ≡ stream → k < most_frames
    → frames_from (suc fuel) stream k place (frame ++ after) ≡ (frames_from fuel stream (k + 1) (place + length frame) after >>= (λ others. Ok (frame ∷ others)))
one_in_front fuel stream k place frame after is_frame same few =
    let long : 7 ≤ length frame = omega (arith, seven frame, is_frame.whole_header) in
    let some : 0 < length (frame ++ after) = omega (arith, length-append frame after) in
    let n : frame_len (frame ++ after) ≡ length frame = rw (front_number-append frame after long) is_frame.len in
    frames_from-frame fuel stream k place (frame ++ after) some (front_passes stream k place frame after is_frame same few)
    ∙ rw (n, take-append_seam frame after, drop-append_seam frame after) refl

-- whole frames in front are cut off one by one
pub cut_in_front : (frames : List (List ℕ)) (fuel : ℕ) (stream : Configuration) (k place : ℕ) (rest : List ℕ) → AreFrames stream frames → k + length frames ≤ most_frames
    → frames_from (length frames + fuel) stream k place (concat frames ++ rest) ≡ (frames_from fuel stream (k + length frames) (place + length (concat frames)) rest >>= (λ others. Ok (frames ++ others)))
cut_in_front [] fuel stream k place rest whole few =
    rw (zero-add fuel, add-zero k, add-zero place) (sym (handed_on (frames_from fuel stream k place rest)))
cut_in_front (frame ∷ frames) fuel stream k place rest whole few =
    let after = concat frames ++ rest in
    let some : k < most_frames = omega arith in
    let fewer : (k + 1) + length frames ≤ most_frames = omega arith in
    let number : (k + 1) + length frames ≡ k + suc (length frames) = omega arith in
    let behind : (place + length frame) + length (concat frames) ≡ place + length (frame ++ concat frames) = omega (arith, length-append frame (concat frames)) in
    let joined : frames_from (length (frame ∷ frames) + fuel) stream k place (concat (frame ∷ frames) ++ rest) ≡ frames_from (suc (length frames + fuel)) stream k place (frame ++ after) =
    rw (suc-add (length frames) fuel, append_assoc frame (concat frames) rest) refl in
    let more = cut_in_front frames fuel stream (k + 1) (place + length frame) rest whole.1 fewer in
    joined
    ∙ one_in_front (length frames + fuel) stream k place frame after whole.0.0 whole.0.1 some
    ∙ ap (λ r. r >>= (λ others. Ok (frame ∷ others))) more
    ∙ in_front frame frames (frames_from fuel stream ((k + 1) + length frames) ((place + length frame) + length (concat frames)) rest)
    ∙ rw (number, behind) refl

-- what is cut stops at a fault behind whole frames
pub record Stops (stream : Configuration) (k place : ℕ) (rest : List ℕ) (bad : Bad) : Type 0 where
  pub frames : List (List ℕ)
  pub tail : List ℕ
  pub few : k + length frames ≤ most_frames
  pub whole : AreFrames stream frames
  pub joined : rest ≡ concat frames ++ tail
  pub more : tail ≢ []
  pub fault : next_fault stream (k + length frames) (place + length (concat frames)) tail (length tail) ≡ Some bad

-- what was cut, as parts
abbrev pub Parts : Configuration → ℕ → ℕ → List ℕ → Result (List (List ℕ)) Bad → Type 0
Parts stream k place rest (Ok frames) = AreFrames stream frames × (rest ≡ concat frames) × (k + length frames ≤ most_frames)
Parts stream k place rest (Err bad) = Stops stream k place rest bad

-- a frame in front of the parts of what follows
join : (stream : Configuration) (k place : ℕ) (rest : List ℕ) → Passes stream k rest → (more : Result (List (List ℕ)) Bad) → Parts stream (k + 1) (place + frame_len rest) (drop (frame_len rest) rest) more
    → Parts stream k place rest (more >>= (λ frames. Ok (take (frame_len rest) rest ∷ frames)))
join stream k place rest p (Ok frames) parts =
    let n = frame_len rest in
    let few : k + suc (length frames) ≤ most_frames = omega (arith, parts.2) in
    (((p.frame, p.same), parts.0), sym (take-append-drop n rest) ∙ ap (λ tail. take n rest ++ tail) parts.1, few)
join stream k place rest p (Err bad) stops =
    let n = frame_len rest in
    let front = take n rest in
    let len : length front ≡ n = omega (arith, length-take n rest, p.inside) in
    let number : k + suc (length stops.frames) ≡ (k + 1) + length stops.frames = omega arith in
    let behind : place + length (front ++ concat stops.frames) ≡ (place + n) + length (concat stops.frames) = omega (arith, len, length-append front (concat stops.frames)) in
    record {
      frames = front ∷ stops.frames;
      tail = stops.tail;
      few = omega (arith, stops.few);
      whole = ((p.frame, p.same), stops.whole);
      joined = sym (take-append-drop n rest) ∙ ap (λ tail. front ++ tail) stops.joined ∙ sym (append_assoc front (concat stops.frames) stops.tail);
      more = stops.more;
      fault = rw (number, behind) stops.fault;
    }

-- one step, where the parts of what follows are known
step : (fuel : ℕ) (stream : Configuration) (k place : ℕ) (rest : List ℕ) → 0 < length rest → length rest ≤ suc fuel → k ≤ most_frames
    → ((k' place' : ℕ) (rest' : List ℕ) → length rest' ≤ fuel → k' ≤ most_frames → Parts stream k' place' rest' (frames_from fuel stream k' place' rest'))
    → (fault : Option Bad) → next_fault stream k place rest (length rest) ≡ fault
    → Parts stream k place rest (frames_from (suc fuel) stream k place rest)
step fuel stream k place rest some enough few later None none =
    let p = passes stream k place rest none in
    let n = frame_len rest in
    let shorter : length (drop n rest) ≤ fuel = omega (arith, length-drop n rest, p.some) in
    let fewer : k + 1 ≤ most_frames = omega (arith, p.few) in
    subst (λ (r : Result (List (List ℕ)) Bad). Parts stream k place rest r) (sym (frames_from-frame fuel stream k place rest some none))
    (join stream k place rest p (frames_from fuel stream (k + 1) (place + n) (drop n rest)) (later (k + 1) (place + n) (drop n rest) shorter fewer))
step fuel stream k place rest some enough few later (Some bad) fault =
    let filled : rest ≢ [] = λ e. let none : length rest ≡ 0 = ap length e in omega arith in
    let stops : Stops stream k place rest bad = record {
      frames = [];
      tail = rest;
      few = omega arith;
      whole = tt;
      joined = refl;
      more = filled;
      fault = rw (add-zero k, add-zero place) fault;
    } in
    subst (λ (r : Result (List (List ℕ)) Bad). Parts stream k place rest r) (sym (frames_from-fault fuel stream k place rest bad some fault)) stops

pub parts : (fuel : ℕ) (stream : Configuration) (k place : ℕ) (rest : List ℕ) → length rest ≤ fuel → k ≤ most_frames → Parts stream k place rest (frames_from fuel stream k place rest)
parts fuel stream k place [] enough few =
    let fewer : k + 0 ≤ most_frames = omega arith in
    subst (λ (r : Result (List (List ℕ)) Bad). Parts stream k place [] r) (sym (frames_from-none fuel stream k place)) (tt, refl, fewer)
parts zero stream k place (byte ∷ rest) enough few = absurd (omega arith)
parts (suc fuel) stream k place (byte ∷ rest) enough few =
    step fuel stream k place (byte ∷ rest) (omega arith) enough few (parts fuel stream) (next_fault stream k place (byte ∷ rest) (length (byte ∷ rest))) refl
