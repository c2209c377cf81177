-- A file is a stream of frames, or is refused: one of both, and each in one way.
use Rattle.std.proofs.Common.{◌≡◌, ◌≢◌, ◌+◌, ◌-◌, ◌<◌, ◌≤◌, ◌==◌, ℕ, suc, false, List, [], ◌∷◌, ◌++◌, length, Some, Result, Ok, Err, refl, ap, sym, ◌∙◌, arith, append-nil, length-append, zero-add, inl, inr, ne_eqb}
use Rattle.std.specs.List.{concat}
use Rattle.mp_ports.specs.Checks.{◌>>=◌, bad_at}
use Rattle.mp_ports.specs.declared.code.Code.{Code}
use Rattle.mp_ports.specs.declared.fault.Bad.{Bad}
use Rattle.mp_ports.specs.declared.code.Code.TheVariants.{AdtsEmpty}
use Rattle.mp_timeline.specs.Movie.{MovieRecord}
use Rattle.adts_import.specs.declared.header.Configuration.{Configuration}
use Rattle.adts_import.specs.Frame.{configuration, header_fault, most_frames}
use Rattle.adts_import.specs.Sound.{movie_of}
use Rattle.adts_import.specs.Stream.{AreFrames, IsStream, IsFaulty, IsRefused, Denotes, next_fault, frames_from, frames_of, stream_movie}
use Rattle.adts_import.proofs.Frames.{frames_from-none, frames_from-fault}
use Rattle.adts_import.proofs.Passing.{seven}
use Rattle.adts_import.proofs.Streams.{cut_in_front, Parts, parts}

filled : {A : Type 0} (items : List A) → items ≢ [] → 0 < length items
filled [] some = absurd (some refl)
filled (item ∷ items) some = omega arith

as_many : (stream : Configuration) (frames : List (List ℕ)) → AreFrames stream frames → length frames ≤ length (concat frames)
as_many stream [] whole = omega arith
as_many stream (frame ∷ frames) whole =
    let fewer = as_many stream frames whole.1 in
    omega (arith, fewer, length-append frame (concat frames), seven frame, whole.0.0.whole_header)

-- the frames of a file that has bytes
pub cut_filled : (file : List ℕ) → 0 < length file → frames_of file ≡ frames_from (length file) (configuration file) 0 0 file
unfolding frames_of
cut_filled file some =
    let test : (length file == 0) ≡ false = ne_eqb (length file) 0 (λ e. omega arith) in
    rw test refl

pub cut_empty : frames_of [] ≡ Err (bad_at AdtsEmpty 0)
unfolding frames_of
cut_empty = refl

-- the frames of a stream are read
frames_read : (file : List ℕ) (frames : List (List ℕ)) → IsStream file frames → frames_of file ≡ Ok frames
frames_read file frames are =
    let stream = configuration file in
    let more = length file - length frames in
    let count : length frames ≤ length (concat frames) = as_many stream frames are.whole in
    let len : length file ≡ length (concat frames) = ap length are.joined in
    let some : 0 < length file = omega (arith, filled frames are.some, count, len) in
    let enough : length file ≡ length frames + more = omega (arith, count, len) in
    let joined : file ≡ concat frames ++ [] = are.joined ∙ sym (append-nil (concat frames)) in
    let few : 0 + length frames ≤ most_frames = omega (arith, are.few) in
    cut_filled file some
    ∙ ap (λ fuel. frames_from fuel stream 0 0 file) enough
    ∙ ap (λ rest. frames_from (length frames + more) stream 0 0 rest) joined
    ∙ cut_in_front frames more stream 0 0 [] are.whole few
    ∙ ap (λ r. r >>= (λ others. Ok (frames ++ others))) (frames_from-none more stream (0 + length frames) (0 + length (concat frames)))
    ∙ ap Ok (append-nil frames)

-- the fault behind whole frames is read
fault_read : (file : List ℕ) (bad : Bad) → IsFaulty file bad → frames_of file ≡ Err bad
fault_read file bad faulty =
    let stream = configuration file in
    let frames = faulty.frames in
    let rest = faulty.rest in
    let tail : 0 < length rest = filled rest faulty.more in
    let more = length file - (length frames + 1) in
    let count : length frames ≤ length (concat frames) = as_many stream frames faulty.whole in
    let len : length file ≡ length (concat frames ++ rest) = ap length faulty.joined in
    let some : 0 < length file = omega (arith, len, length-append (concat frames) rest) in
    let enough : length file ≡ length frames + suc more = omega (arith, count, len, length-append (concat frames) rest) in
    let few : 0 + length frames ≤ most_frames = omega (arith, faulty.few) in
    let fault : next_fault stream (0 + length frames) (0 + length (concat frames)) rest (length rest) ≡ Some bad = rw (zero-add (length frames), zero-add (length (concat frames))) faulty.fault in
    cut_filled file some
    ∙ ap (λ fuel. frames_from fuel stream 0 0 file) enough
    ∙ ap (λ tail. frames_from (length frames + suc more) stream 0 0 tail) faulty.joined
    ∙ cut_in_front frames (suc more) stream 0 0 rest faulty.whole few
    ∙ ap (λ r. r >>= (λ others. Ok (frames ++ others))) (frames_from-fault more stream (0 + length frames) (0 + length (concat frames)) rest bad tail fault)

pub one_cutting : (file : List ℕ) (frames others : List (List ℕ)) → IsStream file frames → IsStream file others → frames ≡ others
one_cutting file frames others one other =
    let first = frames_read file frames one in
    let second = frames_read file others other in
    cc

-- the movie, once the frames are cut
abbrev sounds : List ℕ → Result (List (List ℕ)) Bad → Result MovieRecord Bad
sounds file frames = frames >>= (λ frames. Ok (movie_of (configuration file) frames))

pub movie_of_stream : (file : List ℕ) (movie : MovieRecord) → Denotes file movie → stream_movie file ≡ Ok movie
movie_of_stream file movie denotes = ap (sounds file) (frames_read file denotes.0 denotes.1) ∙ ap Ok (sym denotes.2)

pub read_refused : (file : List ℕ) (bad : Bad) → IsRefused file bad → stream_movie file ≡ Err bad
read_refused file bad (inl empty) = ap stream_movie empty.0 ∙ ap (sounds []) cut_empty ∙ ap Err (sym empty.1)
read_refused file bad (inr faulty) = ap (sounds file) (fault_read file bad faulty)

-- a file that has bytes is cut into frames, or at its fault
pub cut_parts : (file : List ℕ) → 0 < length file → Parts (configuration file) 0 0 file (frames_of file)
cut_parts file some =
    rw (cut_filled file some) (parts (length file) (configuration file) 0 0 file (omega arith) (omega arith))

denoted : (file : List ℕ) (movie : MovieRecord) (frames : Result (List (List ℕ)) Bad) → 0 < length file → Parts (configuration file) 0 0 file frames → sounds file frames ≡ Ok movie → Denotes file movie
denoted file movie (Err bad) some stops read = cc
denoted file movie (Ok frames) some parts read =
    let filled : frames ≢ [] = λ e. let none : length file ≡ 0 = ap length (parts.1 ∙ ap concat e) in omega arith in
    let few : length frames ≤ most_frames = omega (arith, parts.2) in
    let are : IsStream file frames = record { some = filled; few = few; whole = parts.0; joined = parts.1 } in
    let same : movie ≡ movie_of (configuration file) frames = cc in
    (frames, are, same)

pub stream_of_movie : (file : List ℕ) (movie : MovieRecord) → stream_movie file ≡ Ok movie → Denotes file movie
stream_of_movie [] movie read = let empty = ap (sounds []) cut_empty in cc
stream_of_movie (byte ∷ bytes) movie read =
    let file = byte ∷ bytes in
    let some : 0 < length file = omega arith in
    denoted file movie (frames_of file) some (cut_parts file some) read

refused : (file : List ℕ) (bad : Bad) (frames : Result (List (List ℕ)) Bad) → Parts (configuration file) 0 0 file frames → sounds file frames ≡ Err bad → IsRefused file bad
refused file bad (Ok frames) parts read = cc
refused file bad (Err found) stops read =
    let same : found ≡ bad = cc in
    let few : length stops.frames ≤ most_frames = omega (arith, stops.few) in
    let fault : next_fault (configuration file) (length stops.frames) (length (concat stops.frames)) stops.tail (length stops.tail) ≡ Some found = rw (zero-add (length stops.frames), zero-add (length (concat stops.frames))) at stops.fault in
    inr (record { frames = stops.frames; rest = stops.tail; few = few; whole = stops.whole; joined = stops.joined; more = stops.more; fault = fault ∙ ap Some same })

pub refusal_of : (file : List ℕ) (bad : Bad) → stream_movie file ≡ Err bad → IsRefused file bad
refusal_of [] bad read = let empty = ap (sounds []) cut_empty in inl (refl, cc)
refusal_of (byte ∷ bytes) bad read =
    let file = byte ∷ bytes in
    refused file bad (frames_of file) (cut_parts file (omega arith)) read

-- a fault of the first frame is that of the file
pub first_fault : (file : List ℕ) (code : Code) → 0 < length file → header_fault file (length file) ≡ Some code → frames_of file ≡ Err (bad_at code 0)
unfolding next_fault
first_fault file code some fault =
    let stream = configuration file in
    let next : next_fault stream 0 0 file (length file) ≡ Some (bad_at code 0) = rw fault refl in
    let fuel : length file ≡ suc (length file - 1) = omega arith in
    cut_filled file some
    ∙ ap (λ fuel. frames_from fuel stream 0 0 file) fuel
    ∙ frames_from-fault (length file - 1) stream 0 0 file (bad_at code 0) some next
