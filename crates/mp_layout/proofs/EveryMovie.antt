-- The law of the format: the file of a movie presents the movie.
use Rattle.std.proofs.Common.{◌≡◌, ℕ, ◌+◌, ◌^◌, ◌<◌, List, [], ◌∷◌, ◌++◌, length, get_or, refl, sym, ap, subst, ◌∙◌, append_assoc, arith}
use Rattle.std.specs.List.{AllByRecursion}
use Rattle.std.proofs.lemmas.List.{length-append, length_push}
use Rattle.mp_boxes.specs.Field.{box_bytes}
use Rattle.mp_headers.specs.FileType.{ftyp}
use Rattle.mp_chunks.specs.Written.{PlacesAreRead, PlacesChangeNoLength}
use Rattle.mp_timeline.specs.Movie.{TrackRecord, MovieRecord}
use Rattle.mp_movie.specs.Limits.{Fits, FitsTrack}
use Rattle.mp_movie.specs.WellFormed.{IsWellFormed, IsWellFormedTrack}
use Rattle.mp_interleave.specs.Samples.{chunks_of}
use Rattle.mp_interleave.specs.Law.{SamplesStandInChunks}
use Rattle.mp_layout.specs.Order.{payload}
use Rattle.mp_layout.specs.Tables.{Placing}
use Rattle.mp_layout.specs.Moov.{moov, placing_at}
use Rattle.mp_layout.specs.File.{HasShortMoov, file_bytes, mdat_head, payload_place, wide_tracks}
use Rattle.mp_layout.proofs.Laws.{ArePlaced, IsPlaced, Laws, written_bodies}
use Rattle.mp_layout.proofs.FileIsRead.{IsFileRead, file-read, file_with}
use Rattle.mp_layout.proofs.SamplesAreFound.{HasFoundSamples, HasSoundSamples, file-short, placing_in, samples-found}

-- ---- the samples of each track

sound-tracks : (movie_scale : ℕ) (tracks : List TrackRecord) → AllByRecursion (IsWellFormedTrack movie_scale) tracks → AllByRecursion FitsTrack tracks → AllByRecursion HasSoundSamples tracks
sound-tracks movie_scale [] formed fits = tt
sound-tracks movie_scale (track ∷ tracks) formed fits =
    let few = fits.0.entries in
    (record { times = formed.0.times; kinds = formed.0.kinds; sizes = fits.0.sizes; entries = omega (arith, few) }, sound-tracks movie_scale tracks formed.1 fits.1)

found-samples : (movie : MovieRecord) → IsWellFormed movie → Fits movie → HasFoundSamples movie
found-samples movie formed fits = record { tracks = sound-tracks movie.scale movie.tracks formed.tracks fits.each; few = fits.samples }

at-end : (front : List TrackRecord) (track : TrackRecord) (rest : List TrackRecord) (d : TrackRecord) → get_or (front ++ (track ∷ rest)) (length front) d ≡ track
at-end [] track rest d = refl
at-end (first ∷ front) track rest d = at-end front track rest d

-- of tracks behind others
all-placed : (file : List ℕ) (placing : ℕ → Placing) (tracks front rest : List TrackRecord) (position : ℕ) → front ++ rest ≡ tracks → position ≡ length front
    → ((at : ℕ) (d : TrackRecord) → at < length tracks → IsPlaced file (length (get_or tracks at d).entries) (get_or tracks at d).samples (written_bodies (get_or tracks at d) (placing at))) → ArePlaced file placing position rest
all-placed file placing tracks front [] position all at each = tt
all-placed file placing tracks front (track ∷ rest) position all at each =
    let inside : position < length tracks = omega (arith, at, ap length all, length-append front (track ∷ rest)) in
    let here : get_or tracks position track ≡ track = ap (λ (xs : List TrackRecord). get_or xs position track) (sym all) ∙ (ap (λ (n : ℕ). get_or (front ++ (track ∷ rest)) n track) at ∙ at-end front track rest track) in (
      subst (λ (t : TrackRecord). IsPlaced file (length t.entries) t.samples (written_bodies t (placing position))) here (each position track inside),
      all-placed file placing tracks (front ++ (track ∷ [])) rest (position + 1) (append_assoc front (track ∷ []) rest ∙ all) (omega (arith, at, length_push front track)) each,
    )

-- ---- the file

ftyp-len : length (box_bytes ftyp) ≡ 28
unfolding box_bytes
ftyp-len = refl

-- the front is longer than the longest header of `mdat`
payload-short : (moov bytes : List ℕ) → (let head = mdat_head (length bytes) in length (((box_bytes ftyp ++ moov) ++ head) ++ bytes) < 2 ^ 64) → 16 + length bytes < 2 ^ 64
payload-short moov bytes short =
    let head : List ℕ = mdat_head (length bytes) in
    omega (arith, short, length-append ((box_bytes ftyp ++ moov) ++ head) bytes, length-append (box_bytes ftyp ++ moov) head, length-append (box_bytes ftyp) moov, ftyp-len)

pub file-presents : Laws → SamplesStandInChunks → PlacesAreRead → PlacesChangeNoLength → (movie : MovieRecord) (millis : ℕ) → IsWellFormed movie → Fits movie → HasShortMoov movie millis → IsFileRead (file_bytes movie millis) movie
unfolding file_bytes file_with
file-presents laws order places lengths movie millis formed fits short =
    let chunks = chunks_of millis movie in
    let wide = wide_tracks movie chunks in
    let place = payload_place movie chunks wide in
    let found = found-samples movie formed fits in
    let file : length (file_bytes movie millis) < 2 ^ 64 = file-short order lengths movie millis found (omega (arith, short, laws.boxes.lengths.one (moov movie chunks wide place))) in
    let placed = all-placed (file_bytes movie millis) (placing_in movie millis) movie.tracks [] movie.tracks 0 refl refl (λ at d lt. samples-found order places lengths movie millis at d found lt file) in
    file-read laws movie (placing_at chunks wide place) (payload chunks) (omega (arith, short)) (payload-short (box_bytes (moov movie chunks wide place)) (payload chunks) file) formed fits placed
