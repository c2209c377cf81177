-- The file of a movie: `ftyp`, `moov` and `mdat` (ISO/IEC 14496-12, 4.3, 8.2.1 and 8.1.1).
use Rattle.std.specs.Prelude.{◌≡◌, ℕ, zero, suc, ◌≤◌, ◌+◌, ◌-◌, ◌^◌, Bool, true, false, ◌||◌, nat_lt, nat_le, List, [], ◌∷◌, ◌++◌, map, filter, length, get_or, codes, Option, if◌then◌else◌}
use Rattle.std.specs.List.{list_all, range_with_len}
use Rattle.mp_ports.specs.declared.code.Code.TheVariants.{MoovLimit}
use Rattle.mp_ports.specs.declared.fault.Bad.{Bad}
use Rattle.mp_ports.specs.Checks.{fault_at, first_code}
use Rattle.mp_boxes.specs.Field.{Part, box_bytes}
use Rattle.mp_boxes.specs.Header.{head_bytes}
use Rattle.mp_boxes.specs.Table.{box_len}
use Rattle.mp_headers.specs.FileType.{ftyp}
use Rattle.mp_timeline.specs.Movie.{MovieRecord}
use Rattle.mp_movie.specs.Present.{most_moov}
use Rattle.mp_interleave.specs.Samples.{SampleChunk, chunks_of}
use Rattle.mp_layout.specs.Order.{chunks_at, payload}
use Rattle.mp_layout.specs.Moov.{moov}

-- the header of `mdat` in front of so many bytes, with a size of 64 bits where 32 don't hold it
unfoldable pub mdat_head : ℕ → List ℕ
mdat_head len = head_bytes (codes "mdat") (if nat_lt (8 + len) (2 ^ 32) then 8 + len else 16 + len)

-- what stands in front of the payload, where the payload stands at `place` and these tracks have places of 64 bits
abbrev pub front_at : MovieRecord → List SampleChunk → List Bool → ℕ → List ℕ
front_at movie chunks wide place = box_bytes ftyp ++ box_bytes (moov movie chunks wide place) ++ mdat_head (length (payload chunks))

-- the place of the payload. How long the front is does not depend on the places that it states
unfoldable pub payload_place : MovieRecord → List SampleChunk → List Bool → ℕ
payload_place movie chunks wide = length (front_at movie chunks wide 0)

-- all sets of tracks, for each track a flag
abbrev pub sets_of : ℕ → List (List Bool)
sets_of zero = [] ∷ []
sets_of (suc tracks) = map (λ set. false ∷ set) (sets_of tracks) ++ map (λ set. true ∷ set) (sets_of tracks)

-- with places of 64 bits for just these tracks, each place of every other track fits 32 bits
abbrev pub is_closed : MovieRecord → List SampleChunk → List Bool → Bool
is_closed movie chunks wide =
    list_all
    (λ position. get_or wide position true || list_all (λ chunk. nat_le chunk.place (2 ^ 32 - 1)) (chunks_at position (payload_place movie chunks wide) chunks))
    (range_with_len 0 (length movie.tracks))

-- each track of the first set is in the second
abbrev pub Within : List Bool → List Bool → Type 0
Within wide others = (position : ℕ) → get_or wide position false ≡ true → get_or others position false ≡ true

-- a closed set, of which no closed set lacks a track
pub record IsLeastClosed (movie : MovieRecord) (chunks : List SampleChunk) (wide : List Bool) : Type 0 where
  pub flags : length wide ≡ length movie.tracks
  pub closed : is_closed movie chunks wide ≡ true
  pub least : (others : List Bool) → length others ≡ length movie.tracks → is_closed movie chunks others ≡ true → Within wide others

-- the tracks with places of 64 bits: those in all closed sets, which is the least of them
unfoldable pub wide_tracks : MovieRecord → List SampleChunk → List Bool
wide_tracks movie chunks =
    let tracks = length movie.tracks in
    let closed = filter (is_closed movie chunks) (sets_of tracks) in
    map (λ position. list_all (λ wide. get_or wide position true) closed) (range_with_len 0 tracks)

-- the file, its samples in windows of so many milliseconds, or in one window where that is 0
unfoldable pub file_bytes : MovieRecord → ℕ → List ℕ
file_bytes movie millis =
    let chunks = chunks_of millis movie in
    let wide = wide_tracks movie chunks in
    front_at movie chunks wide (payload_place movie chunks wide) ++ payload chunks

-- the movie box of the file
abbrev pub movie_box : MovieRecord → ℕ → Part
movie_box movie millis =
    let chunks = chunks_of millis movie in
    let wide = wide_tracks movie chunks in
    moov movie chunks wide (payload_place movie chunks wide)

-- it is no longer than a file's may be
abbrev pub HasShortMoov : MovieRecord → ℕ → Type 0
HasShortMoov movie millis = box_len (movie_box movie millis) ≤ most_moov

-- the refusal of a movie whose `moov` is longer: it has no place
unfoldable pub moov_fault : MovieRecord → ℕ → Option Bad
moov_fault movie millis = fault_at 0 (first_code ((nat_lt most_moov (box_len (movie_box movie millis)), MoovLimit) ∷ []))
