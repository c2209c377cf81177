-- What columns say of chunks is what holds of the chunks that they stand for.
use Rattle.std.proofs.Common.{◌≡◌, ℕ, zero, suc, ℤ, pos, ◌+◌, ◌-◌, ◌^◌, ◌<◌, ◌≤◌, Bool, true, false, cond, ◌==◌, List, [], ◌∷◌, length, map, take, drop, get_or, refl, sym, ap, ◌∙◌, arith}
use Rattle.std.specs.Prelude.{sum, slice_index_or, unsigned_abs}
use Rattle.std.specs.List.{sum_by, AllByRecursion}
use Rattle.std.proofs.lemmas.List.{drop-map, length-append, length-drop, length-map, length-take, take-map}
use Rattle.std.proofs.lemmas.List.Sums.{sum-map, sum_by-cons}
use Rattle.mp_boxes.specs.Table.{capped}
use Rattle.mp_chunks.specs.declared.push.ChunkHead.{ChunkHead}
use Rattle.mp_chunks.specs.Written.{head_of}
use Rattle.mp_timeline.specs.Movie.{SampleRecord, TrackRecord}
use Rattle.mp_movie.specs.Columns.{entry_numbers, sizes}
use Rattle.mp_movie.specs.PartsLaw.{ColumnsAreKept}
use Rattle.mp_movie.specs.Placed.{PlacedTrack, naturals, payload_len}
use Rattle.mp_movie.specs.StandsFor.{HoldTrack, samples_of, track_for}
use Rattle.mp_movie.specs.WholeParts.{AreColumns}
use Rattle.mp_interleave.specs.declared.chunk.Chunk.{Chunk}
use Rattle.mp_interleave.specs.Law.{IsWithin}
use Rattle.mp_interleave.specs.Samples.{SampleChunk, entry_of, samples_at, with_samples}
use Rattle.mp_layout.specs.Order.{chunk_bytes, chunks_at, joined, payload, placed, places_from}
use Rattle.mp_layout.specs.Chunked.{column_at, head_at, heads_on, len_of, places_behind}
use Rattle.mp_layout.proofs.TablesOfColumns.{no_signs}
use Rattle.mp_layout.proofs.ChunksAreFound.{length-joined, payload-more}
use Rattle.mp_layout.proofs.ColumnSums.{at-track, column-is, some-track}
use Rattle.mp_layout.proofs.PayloadIsShort.{weight}

-- tracks whose columns are kept, and files that hold their bytes
pub record AreHeld (files : List (List ℕ)) (tracks : List PlacedTrack) : Type 0 where
  pub law : ColumnsAreKept
  pub columns : AllByRecursion AreColumns tracks
  pub held : AllByRecursion (HoldTrack (map length files)) tracks

-- the tracks that they stand for
abbrev pub tracks_for : List (List ℕ) → List PlacedTrack → List TrackRecord
tracks_for files tracks = map (track_for files) tracks

-- chunks with their samples
abbrev pub chunks_for : List (List ℕ) → List PlacedTrack → List Chunk → List SampleChunk
chunks_for files tracks chunks = map (with_samples (tracks_for files tracks)) chunks

pub samples-are : (files : List (List ℕ)) (tracks : List PlacedTrack) (position : ℕ) (d : PlacedTrack) → position < length tracks → samples_at (tracks_for files tracks) position ≡ samples_of files (get_or tracks position d)
samples-are files [] position d lt = absurd (omega arith)
samples-are files (track ∷ tracks) zero d lt = refl
samples-are files (track ∷ tracks) (suc position) d lt = samples-are files tracks position d (omega arith)

-- ---- one chunk

entry-at : (track : ℕ) (samples : List SampleRecord) (first count : ℕ) → 1 ≤ count → first < length samples
    → entry_of (record { track = track; samples = take count (drop first samples) }) ≡ unsigned_abs (slice_index_or (entry_numbers samples) first (pos 0))
entry-at track [] first count some lt = absurd (omega arith)
entry-at track (sample ∷ samples) zero zero some lt = absurd (omega arith)
entry-at track (sample ∷ samples) zero (suc count) some lt = refl
entry-at track (sample ∷ samples) (suc first) count some lt = entry-at track samples first count some (omega arith)

range-len : (samples : List SampleRecord) (first count : ℕ) → first + count ≤ length samples → length (take count (drop first samples)) ≡ count
range-len samples first count le = omega (arith, le, length-take count (drop first samples), length-drop first samples)

head-of-range : (track place first count : ℕ) (samples : List SampleRecord) → 1 ≤ count → first + count ≤ length samples
    → (let chunk : SampleChunk = record { track = track; samples = take count (drop first samples) } in
    let head : ChunkHead = record { place = place; samples = count; entry = unsigned_abs (slice_index_or (entry_numbers samples) first (pos 0)) } in head_of (placed place chunk) ≡ head)
head-of-range track place first count samples some le =
    let long : length (sizes (take count (drop first samples))) ≡ count = length-map (take count (drop first samples)) weight ∙ range-len samples first count le in
    let entry = entry-at track samples first count some (omega arith) in
    λ i. record { place = place; samples = long i; entry = entry i }

pub head-for : (files : List (List ℕ)) (tracks : List PlacedTrack) → AreHeld files tracks → (chunk : Chunk) (place : ℕ) → IsWithin tracks chunk → head_of (placed place (with_samples (tracks_for files tracks) chunk)) ≡ head_at tracks chunk place
head-for files tracks held chunk place within =
    let d = some-track tracks chunk.track within.track in
    let track = get_or tracks chunk.track d in
    let samples = samples_of files track in
    let is : samples_at (tracks_for files tracks) chunk.track ≡ samples = samples-are files tracks chunk.track d within.track in
    let columns = at-track AreColumns tracks chunk.track d held.columns within.track in
    let kinds : entry_numbers samples ≡ column_at (λ t. t.kinds) tracks chunk.track = held.law.kinds files track columns ∙ sym (column-is (λ t. t.kinds) tracks chunk.track d within.track) in
    let whole = within.samples d in
    let long = held.law.count files track in
    ap (λ (xs : List SampleRecord). head_of (placed place (record { track = chunk.track; samples = take chunk.count (drop (chunk.first - 1) xs) }))) is
    ∙ (head-of-range chunk.track place (chunk.first - 1) chunk.count samples within.some (omega (arith, whole, long))
    ∙ ap (λ (xs : List ℤ). at-place xs) kinds)
  where
    at-place : List ℤ → ChunkHead
    at-place xs = record { place = place; samples = chunk.count; entry = unsigned_abs (slice_index_or xs (chunk.first - 1) (pos 0)) }

sizes-are : (files : List (List ℕ)) (track : PlacedTrack) → ColumnsAreKept → AreColumns track → HoldTrack (map length files) track → sizes (samples_of files track) ≡ naturals track.sizes
sizes-are files track law columns held = sym (ap naturals (sym (law.sizes files track columns held)) ∙ no_signs (sizes (samples_of files track)))

pub len-for : (files : List (List ℕ)) (tracks : List PlacedTrack) → AreHeld files tracks → (chunk : Chunk) → IsWithin tracks chunk → len_of tracks chunk ≡ length (chunk_bytes (with_samples (tracks_for files tracks) chunk))
len-for files tracks held chunk within =
    let d = some-track tracks chunk.track within.track in
    let track = get_or tracks chunk.track d in
    let samples = samples_of files track in
    let is : samples_at (tracks_for files tracks) chunk.track ≡ samples = samples-are files tracks chunk.track d within.track in
    let columns = at-track AreColumns tracks chunk.track d held.columns within.track in
    let holds = at-track (HoldTrack (map length files)) tracks chunk.track d held.held within.track in
    let column : naturals (column_at (λ t. t.sizes) tracks chunk.track) ≡ sizes samples = ap naturals (column-is (λ t. t.sizes) tracks chunk.track d within.track) ∙ sym (sizes-are files track held.law columns holds) in
    ap (λ (xs : List ℕ). sum (take chunk.count (drop (chunk.first - 1) xs))) column
    ∙ (ap (λ (xs : List ℕ). sum (take chunk.count xs)) (drop-map weight (chunk.first - 1) samples)
    ∙ (ap sum (take-map weight chunk.count (drop (chunk.first - 1) samples))
    ∙ (length-joined (take chunk.count (drop (chunk.first - 1) samples))
    ∙ ap (λ (xs : List SampleRecord). length (joined (take chunk.count (drop (chunk.first - 1) xs)))) (sym is))))

-- ---- all chunks

pub heads-for : (files : List (List ℕ)) (tracks : List PlacedTrack) → AreHeld files tracks → (position place : ℕ) (chunks : List Chunk) → AllByRecursion (IsWithin tracks) chunks
    → map head_of (chunks_at position place (chunks_for files tracks chunks)) ≡ heads_on tracks position chunks (places_from place (chunks_for files tracks chunks))
heads-for files tracks held position place [] within = refl
heads-for files tracks held position place (chunk ∷ chunks) within =
    by (chunk.track == position)
    (heads-for files tracks held position (place + length (chunk_bytes (with_samples (tracks_for files tracks) chunk))) chunks within.1)
  where
    next : ℕ
    next = place + length (chunk_bytes (with_samples (tracks_for files tracks) chunk))

    by : (own : Bool) → map head_of (chunks_at position next (chunks_for files tracks chunks)) ≡ heads_on tracks position chunks (places_from next (chunks_for files tracks chunks))
        → map head_of (cond own (placed place (with_samples (tracks_for files tracks) chunk) ∷ chunks_at position next (chunks_for files tracks chunks)) (chunks_at position next (chunks_for files tracks chunks)))
        ≡ cond own (head_at tracks chunk place ∷ heads_on tracks position chunks (places_from next (chunks_for files tracks chunks))) (heads_on tracks position chunks (places_from next (chunks_for files tracks chunks)))
    by true later = λ i. head-for files tracks held chunk place within.0 i ∷ later i
    by false later = later

pub places-for : (files : List (List ℕ)) (tracks : List PlacedTrack) → AreHeld files tracks → (place : ℕ) (chunks : List Chunk) → AllByRecursion (IsWithin tracks) chunks
    → place + length (payload (chunks_for files tracks chunks)) < 2 ^ 64 → places_behind tracks place chunks ≡ places_from place (chunks_for files tracks chunks)
places-for files tracks held place [] within short = refl
places-for files tracks held place (chunk ∷ chunks) within short =
    let bytes = chunk_bytes (with_samples (tracks_for files tracks) chunk) in
    let rest = chunks_for files tracks chunks in
    let long : length (payload (chunks_for files tracks (chunk ∷ chunks))) ≡ length bytes + length (payload rest) =
    ap length (payload-more (with_samples (tracks_for files tracks) chunk) rest) ∙ length-append bytes (payload rest) in
    let next : capped (place + len_of tracks chunk) ≡ place + length bytes = omega (arith, short, long, len-for files tracks held chunk within.0) in
    ap (λ (ps : List ℕ). place ∷ ps) (ap (λ (n : ℕ). places_behind tracks n chunks) next ∙ places-for files tracks held (place + length bytes) chunks within.1 (omega (arith, short, long)))

pub places-moved : (chunks : List SampleChunk) (by from to : ℕ) → by + from ≡ to → to + length (payload chunks) < 2 ^ 64 → map (λ behind. capped (by + behind)) (places_from from chunks) ≡ places_from to chunks
places-moved [] by from to is short = refl
places-moved (chunk ∷ chunks) by from to is short =
    let bytes = chunk_bytes chunk in
    let long : length (payload (chunk ∷ chunks)) ≡ length bytes + length (payload chunks) = ap length (payload-more chunk chunks) ∙ length-append bytes (payload chunks) in
    let here : capped (by + from) ≡ to = omega (arith, is, short) in
    let rest = places-moved chunks by (from + length bytes) (to + length bytes) (omega (arith, is)) (omega (arith, short, long)) in
    λ i. here i ∷ rest i

-- ---- the payload

track-len : (files : List (List ℕ)) (track : PlacedTrack) → ColumnsAreKept → AreColumns track → HoldTrack (map length files) track → sum_by weight (samples_of files track) ≡ sum (naturals track.sizes)
track-len files track law columns held = sym (sum-map weight (samples_of files track)) ∙ ap sum (sizes-are files track law columns held)

pub tracks-len : (files : List (List ℕ)) (tracks : List PlacedTrack) → ColumnsAreKept → AllByRecursion AreColumns tracks → AllByRecursion (HoldTrack (map length files)) tracks
    → sum_by (λ track. sum_by weight track.samples) (tracks_for files tracks) ≡ payload_len tracks
tracks-len files [] law columns held = refl
tracks-len files (track ∷ tracks) law columns held =
    omega (
      arith,
      tracks-len files tracks law columns.1 held.1,
      track-len files track law columns.0 held.0,
      sum_by-cons (λ (t : TrackRecord). sum_by weight t.samples) (track_for files track) (tracks_for files tracks),
      sum_by-cons (λ (t : PlacedTrack). sum (naturals t.sizes)) track tracks,
    )
