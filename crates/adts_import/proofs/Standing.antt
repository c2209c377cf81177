-- The pieces of a stream's payloads stand for its samples.
use Rattle.std.proofs.Common.{◌≡◌, ℕ, zero, suc, pos, ◌+◌, ◌-◌, ◌*◌, ◌<◌, ◌≤◌, List, [], ◌∷◌, ◌++◌, length, take, drop, get_or, replicate, Option, Some, None, IfSome, Result, Ok, Err, refl, sym, ap, ◌∙◌, add-zero, zero-add, append-nil, arith, rules}
use Rattle.std.specs.Prelude.{sum}
use Rattle.std.specs.List.{concat}
use Rattle.std.proofs.lemmas.List.{get_or-replicate, take-replicate, at_drop_more, length-replicate, drop-drop, same_lists, places}
use Rattle.std.proofs.lemmas.List.Folds.{sum_by-replicate}
use Rattle.std.proofs.lemmas.List.FromFn.{fill_by_all}
use Rattle.mp_ports.specs.Checks.{◌>>=◌}
use Rattle.mp_ports.specs.declared.fault.Bad.{Bad}
use Rattle.mp_pieces.specs.declared.piece.Piece.{Piece}
use Rattle.mp_pieces.specs.Piece.{piece_bytes}
use Rattle.mp_timeline.specs.Movie.{SampleRecord}
use Rattle.mp_movie.specs.Placed.{naturals}
use Rattle.mp_movie.specs.StandsFor.{pieces_at, sample_at, samples_of, stands_for}
use Rattle.adts_import.specs.declared.header.Configuration.{Configuration}
use Rattle.adts_import.specs.Header.{header_len, frame_len}
use Rattle.adts_import.specs.Frame.{configuration, payload, IsFrame}
use Rattle.adts_import.specs.Sound.{sample, samples_from, sound_movie}
use Rattle.adts_import.specs.Places.{each, pieces_from, placed_movie, placed_track}
use Rattle.adts_import.specs.Stream.{AreFrames, frames_of, stream_movie, stream_pieces}
use Rattle.adts_import.proofs.Laws.{cut_empty, cut_parts}
use Rattle.adts_import.proofs.Streams.{Parts}

pub naturals-each : (n number : ℕ) → naturals (replicate n (pos number)) ≡ replicate n number
naturals-each zero number = refl
naturals-each (suc n) number = ap (λ (numbers : List ℕ). number ∷ numbers) (naturals-each n number)

-- the sum of so many equal numbers in front
sum_in_front : (number n i : ℕ) → i ≤ n → sum (take i (naturals (replicate n (pos number)))) ≡ i * number
sum_in_front number n i le = rw (naturals-each n number, take-replicate i n number le) (sum_by-replicate (λ (x : ℕ). x) i number)

-- with one piece for each, a sample has the piece of its number
pub alone : (pieces : List Piece) (i : ℕ) (d : Piece) → i < length pieces → pieces_at (naturals (each 1 pieces)) pieces i ≡ get_or pieces i d ∷ []
unfolding pieces_at
alone pieces i d lt =
    let n = length pieces in
    let one : get_or (naturals (each 1 pieces)) i 0 ≡ 1 = rw (naturals-each n 1) (get_or-replicate n i 1 0 lt) in
    let before : sum (take i (naturals (each 1 pieces))) ≡ i = sum_in_front 1 n i (omega arith) ∙ omega arith in
    rw (one, before) (at_drop_more (take 1) pieces i d lt)

-- the sample before which there are so many
sample_is : (files : List (List ℕ)) (stream : Configuration) (pieces : List Piece) (i : ℕ) (d : Piece) → i < length pieces
    → sample_at files (placed_track stream pieces) i ≡ sample i (piece_bytes files (get_or pieces i d))
unfolding sample_at placed_track
sample_is files stream pieces i d lt =
    let n = length pieces in
    let duration : get_or (naturals (each 1024 pieces)) i 0 ≡ 1024 = rw (naturals-each n 1024) (get_or-replicate n i 1024 0 lt) in
    let entry : get_or (naturals (each 1 pieces)) i 0 ≡ 1 = rw (naturals-each n 1) (get_or-replicate n i 1 0 lt) in
    let offset : get_or (each 0 pieces) i (pos 0) ≡ pos 0 = get_or-replicate n i (pos 0) (pos 0) lt in
    let mark : get_or (each 1 pieces) i (pos 0) ≡ pos 1 = get_or-replicate n i (pos 1) (pos 0) lt in
    rw (alone pieces i d lt, sum_in_front 1024 n i (omega arith), duration, offset, mark, entry, append-nil (piece_bytes files (get_or pieces i d)), add-zero (i * 1024)) refl

-- what stands behind the header of a frame in a file is its payload
payload_read : (bytes : List ℕ) (at : ℕ) (frame after : List ℕ) → IsFrame frame → drop at bytes ≡ frame ++ after
    → take (frame_len frame - header_len frame) (drop (at + header_len frame) bytes) ≡ payload frame
payload_read bytes at frame after is_frame joined =
    rw (sym (drop-drop (header_len frame) at bytes), joined, is_frame.len) (front (header_len frame) is_frame.whole_header)
  where
    front : (h : ℕ) → h ≤ length frame → take (length frame - h) (drop h (frame ++ after)) ≡ drop h frame
    front h le = same_lists _ _ (search (rules, places)) (λ k d q. grind (arith, places))

length-pieces_from : (file at : ℕ) (frames : List (List ℕ)) → length (pieces_from file at frames) ≡ length frames
unfolding pieces_from
length-pieces_from file at [] = refl
length-pieces_from file at (frame ∷ frames) = ap suc (length-pieces_from file (at + length frame) frames)

length-samples_from : (k : ℕ) (frames : List (List ℕ)) → length (samples_from k frames) ≡ length frames
unfolding samples_from
length-samples_from k [] = refl
length-samples_from k (frame ∷ frames) = ap suc (length-samples_from (k + 1) frames)

-- each frame's sample has the bytes of its piece
frame_is : (files : List (List ℕ)) (file at k : ℕ) (stream : Configuration) (frames : List (List ℕ)) (i : ℕ) (d : SampleRecord) (e : Piece)
    → AreFrames stream frames → drop at (get_or files file []) ≡ concat frames → i < length frames
    → get_or (samples_from k frames) i d ≡ sample (k + i) (piece_bytes files (get_or (pieces_from file at frames) i e))
unfolding pieces_from samples_from
frame_is files file at k stream [] i d e whole joined lt = absurd (omega arith)
frame_is files file at k stream (frame ∷ frames) zero d e whole joined lt =
    let number : k ≡ k + 0 = omega arith in
    rw (payload_read (get_or files file []) at frame (concat frames) whole.0.0 joined) (ap (λ (n : ℕ). sample n (payload frame)) number)
frame_is files file at k stream (frame ∷ frames) (suc i) d e whole joined lt =
    let number : (k + 1) + i ≡ k + suc i = omega arith in
    let rest : drop (at + length frame) (get_or files file []) ≡ concat frames = sym (drop-drop (length frame) at (get_or files file [])) ∙ ap (drop (length frame)) joined ∙ drop_in_front frame (concat frames) in
    frame_is files file (at + length frame) (k + 1) stream frames i d e whole.1 rest (omega arith)
    ∙ ap (λ (n : ℕ). sample n (piece_bytes files (get_or (pieces_from file (at + length frame) frames) i e))) number
  where
    drop_in_front : (front behind : List ℕ) → drop (length front) (front ++ behind) ≡ behind
    drop_in_front [] behind = refl
    drop_in_front (byte ∷ front) behind = drop_in_front front behind

count_of_deltas : (file : ℕ) (stream : Configuration) (frames : List (List ℕ)) → length (placed_track stream (pieces_from file 0 frames)).deltas ≡ length frames
unfolding placed_track
count_of_deltas file stream frames = length-replicate (length (pieces_from file 0 frames)) (pos 1024) ∙ length-pieces_from file 0 frames

samples_are : (files : List (List ℕ)) (file : ℕ) (stream : Configuration) (frames : List (List ℕ)) → AreFrames stream frames → get_or files file [] ≡ concat frames
    → samples_of files (placed_track stream (pieces_from file 0 frames)) ≡ samples_from 0 frames
unfolding samples_of
samples_are files file stream frames whole joined =
    let pieces = pieces_from file 0 frames in
    let track = placed_track stream pieces in
    let none : Piece = record { file = 0; from = 0; len = 0; prefix = None } in
    rw (count_of_deltas file stream frames) (sym
    (fill_by_all (sample_at files track) (samples_from 0 frames) (length frames) (sample 0 []) (length-samples_from 0 frames)
    (λ k lt. frame_is files file 0 0 stream frames k (sample 0 []) none whole joined lt ∙ ap (λ (n : ℕ). sample n (piece_bytes files (get_or pieces k none))) (zero-add k) ∙ sym (sample_is files stream pieces k none (rw (length-pieces_from file 0 frames) lt)))))

-- the movie of the pieces of a stream stands for the stream's movie
pub stands : (told : Option (List ℕ)) (file : ℕ) (stream : Configuration) (pieces : List Piece) → IfSome told (λ bytes. stream ≡ configuration bytes)
    → IfSome told (λ bytes. stream_pieces file bytes ≡ Ok pieces)
    → IfSome told (λ bytes. (files : List (List ℕ)) → get_or files file [] ≡ bytes → stream_movie bytes ≡ Ok (stands_for files (placed_movie stream pieces)))
unfolding sound_movie placed_track
stands None file stream pieces same read = tt
stands (Some []) file stream pieces same read = let none = cut_empty in λ files is. cc
stands (Some (byte ∷ bytes)) file stream pieces same read = λ files is.
    from files (frames_of (byte ∷ bytes)) (cut_parts (byte ∷ bytes) (omega arith)) is read
  where
    from : (files : List (List ℕ)) (frames : Result (List (List ℕ)) Bad) → Parts (configuration (byte ∷ bytes)) 0 0 (byte ∷ bytes) frames → get_or files file [] ≡ byte ∷ bytes
        → (frames >>= (λ frames. Ok (pieces_from file 0 frames))) ≡ Ok pieces
        → (frames >>= (λ frames. Ok (sound_movie (configuration (byte ∷ bytes)) (samples_from 0 frames)))) ≡ Ok (stands_for files (placed_movie stream pieces))
    from files (Err bad) parts is read = cc
    from files (Ok frames) parts is read =
        let pieces_are : pieces_from file 0 frames ≡ pieces = cc in
        let samples = samples_are files file (configuration (byte ∷ bytes)) frames parts.0 (is ∙ parts.1) in
        rw (same, sym pieces_are, samples) refl
