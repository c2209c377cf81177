-- The samples of each track are found in the file of a movie, where the tables that are written say.
use Rattle.std.proofs.Common.{◌≡◌, ℕ, zero, suc, ◌+◌, ◌^◌, ◌<◌, ◌≤◌, Bool, true, false, cond, List, [], ◌∷◌, ◌++◌, length, map, drop, get_or, refl, sym, ap, ◌∙◌, arith}
use Rattle.std.specs.Prelude.{codes, nat_lt}
use Rattle.std.specs.Int.{w32, w64, to_be_bytes}
use Rattle.std.specs.List.{sum_by, AllByRecursion}
use Rattle.std.proofs.lemmas.List.{append-nil, drop_at, length-append, length-map}
use Rattle.mp_boxes.specs.Field.{box_bytes}
use Rattle.mp_boxes.specs.Header.{head_bytes}
use Rattle.mp_headers.specs.FileType.{ftyp}
use Rattle.mp_columns.specs.declared.columns.TheConstants.{MOST_ITEMS}
use Rattle.mp_chunks.specs.Places.{SamplePlace}
use Rattle.mp_chunks.specs.Written.{AreReadBack, PlacesAreRead, PlacesChangeNoLength, samples_in as places_in, sizes_in}
use Rattle.mp_timeline.specs.Movie.{SampleRecord, TrackRecord, MovieRecord}
use Rattle.mp_movie.specs.Columns.{sizes}
use Rattle.mp_movie.specs.WellFormed.{AreConsecutive, HasEntry}
use Rattle.mp_interleave.specs.Samples.{chunks_of}
use Rattle.mp_interleave.specs.Law.{IsTimed, SamplesStandInChunks, samples_on}
use Rattle.mp_layout.specs.Order.{chunks_at, payload}
use Rattle.mp_layout.specs.Tables.{Placing}
use Rattle.mp_layout.specs.Moov.{moov, placing_at}
use Rattle.mp_layout.specs.File.{file_bytes, front_at, mdat_head, payload_place, wide_tracks}
use Rattle.mp_layout.proofs.Laws.{IsPlaced, written_bodies}
use Rattle.mp_layout.proofs.FrontLengths.{front-len}
use Rattle.mp_layout.proofs.PlacesFit.{places-fit}
use Rattle.mp_layout.proofs.ChunksAreFound.{FitsField, IsSound, all-wide, all-writable, bytes-read, bytes_at, bytes_of, entries_of, kinds-kept, kinds_in, sizes-kept}
use Rattle.mp_layout.proofs.PayloadIsShort.{AreShort, part-of-all, payload-short}

pub at-position : (P : TrackRecord → Type 0) (tracks : List TrackRecord) (position : ℕ) (d : TrackRecord) → AllByRecursion P tracks → position < length tracks → P (get_or tracks position d)
at-position P [] position d all lt = absurd (omega arith)
at-position P (track ∷ tracks) zero d all lt = all.0
at-position P (track ∷ tracks) (suc position) d all lt = at-position P tracks position d all.1 (omega arith)

-- ---- what is asked of a movie

-- the samples of a track follow one another, each is of one of its entries, and its size fits 32 bits
pub record HasSoundSamples (track : TrackRecord) : Type 0 where
  pub times : AreConsecutive 0 track.samples
  pub kinds : AllByRecursion (HasEntry (length track.entries)) track.samples
  pub sizes : AllByRecursion (λ sample. length sample.bytes < 2 ^ 32) track.samples
  pub entries : length track.entries < 2 ^ 32

each-sound : (entries : ℕ) (samples : List SampleRecord) → AllByRecursion (HasEntry entries) samples → AllByRecursion (λ sample. length sample.bytes < 2 ^ 32) samples → AllByRecursion (IsSound entries) samples
each-sound entries [] kinds small = tt
each-sound entries (sample ∷ samples) kinds small = (record { entry = kinds.0; size = small.0 }, each-sound entries samples kinds.1 small.1)

all-times : (tracks : List TrackRecord) → AllByRecursion HasSoundSamples tracks → AllByRecursion IsTimed tracks
all-times [] sound = tt
all-times (track ∷ tracks) sound = (sound.0.times, all-times tracks sound.1)

all-short : (tracks : List TrackRecord) → AllByRecursion HasSoundSamples tracks → AllByRecursion AreShort tracks
all-short [] sound = tt
all-short (track ∷ tracks) sound = (sound.0.sizes, all-short tracks sound.1)

-- and there are no more than so many samples in all
pub record HasFoundSamples (movie : MovieRecord) : Type 0 where
  pub tracks : AllByRecursion HasSoundSamples movie.tracks
  pub few : sum_by (λ track. length track.samples) movie.tracks ≤ MOST_ITEMS

-- ---- the file

-- where the samples of a track stand in the file of a movie
abbrev pub placing_in : MovieRecord → ℕ → ℕ → Placing
placing_in movie millis position =
    let chunks = chunks_of millis movie in
    let wide = wide_tracks movie chunks in
    placing_at chunks wide (payload_place movie chunks wide) position

-- the payload stands behind the front
record HasPayload (movie : MovieRecord) (millis : ℕ) (file : List ℕ) (place : ℕ) : Type 0 where
  pub here : drop place file ≡ payload (chunks_of millis movie) ++ []
  pub ends : place + length (payload (chunks_of millis movie)) ≡ length file

has-payload : PlacesChangeNoLength → (movie : MovieRecord) (millis : ℕ) → HasPayload movie millis (file_bytes movie millis) (payload_place movie (chunks_of millis movie) (wide_tracks movie (chunks_of millis movie)))
unfolding file_bytes
has-payload law movie millis =
    let chunks = chunks_of millis movie in
    let wide = wide_tracks movie chunks in
    let place = payload_place movie chunks wide in
    let front = front_at movie chunks wide place in
    let len : length front ≡ place = front-len law movie chunks wide place in
    record {
      here = drop_at front (payload chunks) place len ∙ sym (append-nil (payload chunks));
      ends = omega (arith, len, length-append front (payload chunks));
    }

-- ---- each track

-- chunks that hold the samples of a track, and are read back
placed-by : (file : List ℕ) (track : TrackRecord) (placing : Placing) → sizes_in placing.chunks ≡ sizes track.samples → kinds_in placing.chunks ≡ entries_of track.samples
    → map (bytes_at file) (places_in placing.chunks) ≡ bytes_of track.samples → AreReadBack placing.wide (length track.entries) (length file) placing.chunks
    → IsPlaced file (length track.entries) track.samples (written_bodies track placing)
placed-by file track placing same kinds bytes back =
    rw (← same)
    record {
      plain = refl;
      sizes = back.sizes;
      count = back.count ∙ (ap length same ∙ length-map track.samples (λ (sample : SampleRecord). length sample.bytes));
      mapped = back.mapped;
      inside = back.inside;
      bytes = ap (map (bytes_at file)) back.samples ∙ bytes;
      kinds = ap (map (λ (place : SamplePlace). place.kind)) back.samples ∙ kinds;
    }

-- each place fits the field that it is written in
fields-fit : PlacesChangeNoLength → (movie : MovieRecord) (millis position : ℕ) → position < length movie.tracks → length (file_bytes movie millis) < 2 ^ 64
    → AllByRecursion (FitsField (placing_in movie millis position).wide) (placing_in movie millis position).chunks
fields-fit law movie millis position lt short =
    let chunks = chunks_of millis movie in
    let wide = wide_tracks movie chunks in
    let place = payload_place movie chunks wide in
    by (get_or wide position false) refl (all-wide position place chunks (omega (arith, short, (has-payload law movie millis).ends))) (λ narrow. places-fit law movie chunks position lt narrow)
  where
    by : (b : Bool) → get_or (wide_tracks movie (chunks_of millis movie)) position false ≡ b
        → AllByRecursion (FitsField true) (chunks_at position (payload_place movie (chunks_of millis movie) (wide_tracks movie (chunks_of millis movie))) (chunks_of millis movie))
        → (get_or (wide_tracks movie (chunks_of millis movie)) position false ≡ false
        → AllByRecursion (FitsField false) (chunks_at position (payload_place movie (chunks_of millis movie) (wide_tracks movie (chunks_of millis movie))) (chunks_of millis movie)))
        → AllByRecursion (FitsField b) (chunks_at position (payload_place movie (chunks_of millis movie) (wide_tracks movie (chunks_of millis movie))) (chunks_of millis movie))
    by true is all near = all
    by false is all near = near is

-- the samples of each track are found where the tables that are written for it say
pub samples-found : SamplesStandInChunks → PlacesAreRead → PlacesChangeNoLength → (movie : MovieRecord) (millis position : ℕ) (d : TrackRecord) → HasFoundSamples movie → position < length movie.tracks → length (file_bytes movie millis) < 2 ^ 64
    → IsPlaced (file_bytes movie millis) (length (get_or movie.tracks position d).entries) (get_or movie.tracks position d).samples (written_bodies (get_or movie.tracks position d) (placing_in movie millis position))
samples-found order places lengths movie millis position d found lt short =
    let file = file_bytes movie millis in
    let chunks = chunks_of millis movie in
    let wide = wide_tracks movie chunks in
    let place = payload_place movie chunks wide in
    let track = get_or movie.tracks position d in
    let times = all-times movie.tracks found.tracks in
    let sound = at-position HasSoundSamples movie.tracks position d found.tracks lt in
    let kept : samples_on position chunks ≡ track.samples = order.kept millis movie position d times lt in
    let payload_here = has-payload lengths movie millis in
    let each : AllByRecursion (IsSound (length track.entries)) (samples_on position chunks) = rw kept (each-sound (length track.entries) track.samples sound.kinds sound.sizes) in
    let few : length (samples_on position chunks) < 2 ^ 32 = omega (arith, ap length kept, part-of-all movie.tracks position d lt, found.few) in
    let writable = all-writable (get_or wide position false) (length track.entries) (length file) position place chunks (order.alike millis movie times) each (fields-fit lengths movie millis position lt short) (omega (arith, payload_here.ends)) few sound.entries in
    placed-by file track (placing_in movie millis position) (sizes-kept position place chunks ∙ ap sizes kept) (kinds-kept position place chunks (order.alike millis movie times) ∙ ap entries_of kept)
    (bytes-read file position place chunks [] payload_here.here ∙ ap bytes_of kept) (places.each (get_or wide position false) (length track.entries) (length file) (chunks_at position place chunks) writable)

-- ---- how long the file is

ftyp-len : length (box_bytes ftyp) ≡ 28
unfolding box_bytes
ftyp-len = refl

head-len : (len : ℕ) → length (mdat_head len) ≤ 16
unfolding mdat_head
head-len len = by (nat_lt (8 + len) (2 ^ 32))
  where
    by : (short : Bool) → length (head_bytes (codes "mdat") (cond short (8 + len) (16 + len))) ≤ 16
    by short = two (nat_lt (cond short (8 + len) (16 + len)) (2 ^ 32))
      where
        two : (fits : Bool) → length (cond fits (to_be_bytes w32 (cond short (8 + len) (16 + len)) ++ codes "mdat") (to_be_bytes w32 1 ++ codes "mdat" ++ to_be_bytes w64 (cond short (8 + len) (16 + len)))) ≤ 16
        two true = omega arith
        two false = omega arith

-- where `moov` is shorter than 2^32 bytes, the file is shorter than 2^64
pub file-short : SamplesStandInChunks → PlacesChangeNoLength → (movie : MovieRecord) (millis : ℕ) → HasFoundSamples movie
    → length (box_bytes (moov movie (chunks_of millis movie) (wide_tracks movie (chunks_of millis movie)) (payload_place movie (chunks_of millis movie) (wide_tracks movie (chunks_of millis movie))))) < 2 ^ 32
    → length (file_bytes movie millis) < 2 ^ 64
file-short order law movie millis found short =
    let chunks = chunks_of millis movie in
    let wide = wide_tracks movie chunks in
    let place = payload_place movie chunks wide in
    let box = box_bytes (moov movie chunks wide place) in
    let head = mdat_head (length (payload chunks)) in
    omega (
      arith,
      short,
      (has-payload law movie millis).ends,
      front-len law movie chunks wide place,
      length-append (box_bytes ftyp ++ box) head,
      length-append (box_bytes ftyp) box,
      ftyp-len,
      head-len (length (payload chunks)),
      payload-short order millis movie (all-times movie.tracks found.tracks) (all-short movie.tracks found.tracks),
      found.few,
    )
