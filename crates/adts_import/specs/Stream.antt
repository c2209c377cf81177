-- A stream of ADTS frames, and the first fault of a file (ISO/IEC 14496-3, 1.A.2.2 and 1.A.3).
use Rattle.std.specs.Prelude.{◌≡◌, ◌≢◌, ◌⊎◌, ◌↔◌, ℕ, ◌+◌, ◌≤◌, ◌==◌, nat_lt, List, [], ◌∷◌, ◌++◌, zero, suc, true, length, take, drop, Option, Some, None, Result, Ok, Err, if◌then◌else◌}
use Rattle.std.specs.List.{concat, AllByRecursion}
use Rattle.mp_ports.specs.Checks.{bad_at, fault_at, first_some, unless, ◌>>=◌}
use Rattle.mp_ports.specs.declared.code.Code.TheVariants.{AdtsEmpty, AdtsChange, SampleLimit}
use Rattle.mp_ports.specs.declared.fault.Bad.{Bad}
use Rattle.mp_pieces.specs.declared.piece.Piece.{Piece}
use Rattle.mp_timeline.specs.Movie.{MovieRecord}
use Rattle.mp_movie.specs.Placed.{PlacedMovie}
use Rattle.adts_import.specs.declared.header.Configuration.{Configuration}
use Rattle.adts_import.specs.Header.{frame_len}
use Rattle.adts_import.specs.Frame.{configuration, header_fault, changes, is_stream_code, most_frames, IsFrame}
use Rattle.adts_import.specs.Sound.{movie_of}
use Rattle.adts_import.specs.Places.{pieces_from, placed_movie}

-- whole frames of one configuration
abbrev pub AreFrames : Configuration → List (List ℕ) → Type 0
AreFrames stream frames = AllByRecursion (λ frame. IsFrame frame × (configuration frame ≡ stream)) frames

-- the file is these frames, one after another, of the configuration that it begins with
pub record IsStream (file : List ℕ) (frames : List (List ℕ)) : Type 0 where
  pub some : frames ≢ []
  pub few : length frames ≤ most_frames
  pub whole : AreFrames (configuration file) frames
  pub joined : file ≡ concat frames

-- the movie of a stream: one sample a frame
abbrev pub Denotes : List ℕ → MovieRecord → Type 0
Denotes file movie = (frames : List (List ℕ)) × IsStream file frames × (movie ≡ movie_of (configuration file) frames)

-- the fault of the frame that begins with `front`, where `left` bytes are left, behind k whole frames of the stream: its own, a change, or one
-- frame too many
unfoldable pub next_fault : Configuration → ℕ → ℕ → List ℕ → ℕ → Option Bad
next_fault stream k place front left =
    first_some
    (fault_at place (header_fault front left)
    ∷ (if changes stream front then Some (bad_at AdtsChange place) else None)
    ∷ (if nat_lt k most_frames then None else Some (bad_at SampleLimit 0))
    ∷ [])

-- the file begins with whole frames, and what follows them begins with none, for this reason
pub record IsFaulty (file : List ℕ) (bad : Bad) : Type 0 where
  pub frames : List (List ℕ)
  pub rest : List ℕ
  pub few : length frames ≤ most_frames
  pub whole : AreFrames (configuration file) frames
  pub joined : file ≡ concat frames ++ rest
  pub more : rest ≢ []
  pub fault : next_fault (configuration file) (length frames) (length (concat frames)) rest (length rest) ≡ Some bad

-- why the file is refused: it is empty, or faulty
abbrev pub IsRefused : List ℕ → Bad → Type 0
IsRefused file bad = ((file ≡ []) × (bad ≡ bad_at AdtsEmpty 0)) ⊎ IsFaulty file bad

-- a refusal of the file that is read, whatever its bytes are
pub record IsStreamRefusal (bad : Bad) : Type 0 where
  pub code : is_stream_code bad.code ≡ true
  pub command : bad.command ≡ 0
  pub named : bad.file ≡ 0

-- `rest` cut into frames, behind k whole frames of the stream, of at most `fuel` frames
unfoldable pub frames_from : ℕ → Configuration → ℕ → ℕ → List ℕ → Result (List (List ℕ)) Bad
frames_from zero stream k place rest = Ok []
frames_from (suc fuel) stream k place rest =
    if length rest == 0 then Ok [] else (do
      frame ← unless (next_fault stream k place rest (length rest)) (take (frame_len rest) rest)
      frames ← frames_from fuel stream (k + 1) (place + frame_len rest) (drop (frame_len rest) rest)
      Ok (frame ∷ frames))

-- the frames of a file, or its first fault
unfoldable pub frames_of : List ℕ → Result (List (List ℕ)) Bad
frames_of file =
    if length file == 0 then Err (bad_at AdtsEmpty 0) else frames_from (length file) (configuration file) 0 0 file

-- the movie of the bytes of a file, or their first fault
abbrev pub stream_movie : List ℕ → Result MovieRecord Bad
stream_movie file = do
  frames ← frames_of file
  Ok (movie_of (configuration file) frames)

-- where the samples of a file stand, which is the opened file of that number, or its first fault
abbrev pub stream_pieces : ℕ → List ℕ → Result (List Piece) Bad
stream_pieces number file = do
  frames ← frames_of file
  Ok (pieces_from number 0 frames)

-- the movie that has them there
abbrev pub stream_places : ℕ → List ℕ → Result PlacedMovie Bad
stream_places number file = do
  pieces ← stream_pieces number file
  Ok (placed_movie (configuration file) pieces)

-- each file is a stream and has its movie, or is refused with its first fault: always one of both and never both, each in one way
pub record EachFileIsAStreamOrRefused : Type 0 where
  -- what is read is the movie of the stream, or the fault
  pub movie : (file : List ℕ) (movie : MovieRecord) → (stream_movie file ≡ Ok movie) ↔ Denotes file movie
  pub fault : (file : List ℕ) (bad : Bad) → (stream_movie file ≡ Err bad) ↔ IsRefused file bad
  pub never_neither : (file : List ℕ) → ((movie : MovieRecord) × Denotes file movie) ⊎ ((bad : Bad) × IsRefused file bad)
  pub never_both : (file : List ℕ) (movie : MovieRecord) (bad : Bad) → Denotes file movie → IsRefused file bad → ⊥
  pub one_cutting : (file : List ℕ) (frames others : List (List ℕ)) → IsStream file frames → IsStream file others → frames ≡ others
  pub one_fault : (file : List ℕ) (bad other : Bad) → IsRefused file bad → IsRefused file other → bad ≡ other
