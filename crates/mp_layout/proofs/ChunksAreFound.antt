-- The chunks of a track hold the track's samples, stand in the file, and can be written.
use Rattle.std.proofs.Common.{◌≡◌, ℕ, ◌+◌, ◌^◌, ◌<◌, ◌≤◌, Bool, true, false, cond, List, [], ◌∷◌, ◌++◌, length, map, filter, take, drop, sum, refl, sym, ap, ◌∙◌, append_assoc, arith, ◌==◌}
use Rattle.std.specs.List.{flat_map, AllByRecursion}
use Rattle.std.proofs.lemmas.List.{drop-drop, drop_at, length-append, length-map, map-append, take_at}
use Rattle.std.proofs.lemmas.List.Concat.{length-flat_map}
use Rattle.std.proofs.lemmas.List.Sums.{sum-map}
use Rattle.mp_chunks.specs.Places.{SamplePlace}
use Rattle.mp_chunks.specs.Written.{AreWritable, IsWritable, PlacedChunk, samples_from, samples_in as places_in, sizes_in}
use Rattle.mp_timeline.specs.Movie.{SampleRecord}
use Rattle.mp_movie.specs.Columns.{sizes}
use Rattle.mp_movie.specs.WellFormed.{HasEntry}
use Rattle.mp_interleave.specs.Samples.{SampleChunk, entry_of}
use Rattle.mp_interleave.specs.Law.{IsAlike, samples_on}
use Rattle.mp_layout.specs.Order.{chunk_bytes, chunks_at, joined, payload, placed}

-- ---- their samples

one-sizes : (position place : ℕ) (chunk : SampleChunk) (chunks : List SampleChunk) → sizes_in (chunks_at position (place + length (chunk_bytes chunk)) chunks) ≡ sizes (samples_on position chunks)
    → (own : Bool) → sizes_in (cond own (placed place chunk ∷ chunks_at position (place + length (chunk_bytes chunk)) chunks) (chunks_at position (place + length (chunk_bytes chunk)) chunks))
    ≡ sizes (flat_map (λ (c : SampleChunk). c.samples) (cond own (chunk ∷ filter (λ (c : SampleChunk). c.track == position) chunks) (filter (λ (c : SampleChunk). c.track == position) chunks)))
one-sizes position place chunk chunks later true =
    ap (λ (rest : List ℕ). sizes (chunk.samples) ++ rest) later ∙ sym (map-append (λ (sample : SampleRecord). length sample.bytes) (chunk.samples) (samples_on position chunks))
one-sizes position place chunk chunks later false = later

-- as long as the track's
pub sizes-kept : (position place : ℕ) (chunks : List SampleChunk) → sizes_in (chunks_at position place chunks) ≡ sizes (samples_on position chunks)
sizes-kept position place [] = refl
sizes-kept position place (chunk ∷ chunks) = one-sizes position place chunk chunks (sizes-kept position (place + length (chunk_bytes chunk)) chunks) (chunk.track == position)

-- the numbers of the entries that are read
abbrev pub kinds_in : List PlacedChunk → List ℕ
kinds_in chunks = map (λ place. place.kind) (places_in chunks)

abbrev pub entries_of : List SampleRecord → List ℕ
entries_of samples = map (λ sample. sample.entry) samples

chunk-kinds : (place entry : ℕ) (samples : List SampleRecord) → AllByRecursion (λ sample. sample.entry ≡ entry) samples → map (λ (p : SamplePlace). p.kind) (samples_from place entry (sizes samples)) ≡ entries_of samples
chunk-kinds place entry [] alike = refl
chunk-kinds place entry (sample ∷ samples) alike = rw (alike.0, chunk-kinds (place + length sample.bytes) entry samples alike.1) refl

one-kinds : (position place : ℕ) (chunk : SampleChunk) (chunks : List SampleChunk) → AllByRecursion (λ sample. sample.entry ≡ entry_of chunk) (chunk.samples)
    → kinds_in (chunks_at position (place + length (chunk_bytes chunk)) chunks) ≡ entries_of (samples_on position chunks)
    → (own : Bool) → kinds_in (cond own (placed place chunk ∷ chunks_at position (place + length (chunk_bytes chunk)) chunks) (chunks_at position (place + length (chunk_bytes chunk)) chunks))
    ≡ entries_of (flat_map (λ (c : SampleChunk). c.samples) (cond own (chunk ∷ filter (λ (c : SampleChunk). c.track == position) chunks) (filter (λ (c : SampleChunk). c.track == position) chunks)))
one-kinds position place chunk chunks alike later true =
    map-append (λ (p : SamplePlace). p.kind) (samples_from place (entry_of chunk) (sizes (chunk.samples))) (places_in (chunks_at position (place + length (chunk_bytes chunk)) chunks))
    ∙ (ap (λ (first : List ℕ). first ++ kinds_in (chunks_at position (place + length (chunk_bytes chunk)) chunks)) (chunk-kinds place (entry_of chunk) (chunk.samples) alike)
    ∙ (ap (λ (rest : List ℕ). entries_of (chunk.samples) ++ rest) later ∙ sym (map-append (λ (sample : SampleRecord). sample.entry) (chunk.samples) (samples_on position chunks))))
one-kinds position place chunk chunks alike later false = later

-- of the entries of the track's
pub kinds-kept : (position place : ℕ) (chunks : List SampleChunk) → AllByRecursion IsAlike chunks → kinds_in (chunks_at position place chunks) ≡ entries_of (samples_on position chunks)
kinds-kept position place [] alike = refl
kinds-kept position place (chunk ∷ chunks) alike = one-kinds position place chunk chunks alike.0.alike (kinds-kept position (place + length (chunk_bytes chunk)) chunks alike.1) (chunk.track == position)

-- ---- their bytes

-- the bytes of a sample in a file
abbrev pub bytes_at : List ℕ → SamplePlace → List ℕ
bytes_at file place = take place.size (drop place.from file)

abbrev pub bytes_of : List SampleRecord → List (List ℕ)
bytes_of samples = map (λ sample. sample.bytes) samples

-- behind a text that stands there comes what stands behind it
behind : (file text rest : List ℕ) (place : ℕ) → drop place file ≡ text ++ rest → drop (place + length text) file ≡ rest
behind file text rest place e = sym (drop-drop (length text) place file) ∙ (ap (drop (length text)) e ∙ drop_at text rest (length text) refl)

chunk-read : (file : List ℕ) (place entry : ℕ) (samples : List SampleRecord) (rest : List ℕ) → drop place file ≡ joined samples ++ rest → map (bytes_at file) (samples_from place entry (sizes samples)) ≡ bytes_of samples
chunk-read file place entry [] rest e = refl
chunk-read file place entry (sample ∷ samples) rest e =
    let here : drop place file ≡ sample.bytes ++ (joined samples ++ rest) = e ∙ append_assoc sample.bytes (joined samples) rest in
    rw (here, take_at sample.bytes (joined samples ++ rest) (length sample.bytes) refl, chunk-read file (place + length sample.bytes) entry samples rest (behind file sample.bytes _ place here)) refl

one-read : (file : List ℕ) (position place : ℕ) (chunk : SampleChunk) (chunks : List SampleChunk) → map (bytes_at file) (samples_from place (entry_of chunk) (sizes (chunk.samples))) ≡ bytes_of (chunk.samples)
    → map (bytes_at file) (places_in (chunks_at position (place + length (chunk_bytes chunk)) chunks)) ≡ bytes_of (samples_on position chunks)
    → (own : Bool) → map (bytes_at file) (places_in (cond own (placed place chunk ∷ chunks_at position (place + length (chunk_bytes chunk)) chunks) (chunks_at position (place + length (chunk_bytes chunk)) chunks)))
    ≡ bytes_of (flat_map (λ (c : SampleChunk). c.samples) (cond own (chunk ∷ filter (λ (c : SampleChunk). c.track == position) chunks) (filter (λ (c : SampleChunk). c.track == position) chunks)))
one-read file position place chunk chunks here later true =
    map-append (bytes_at file) (samples_from place (entry_of chunk) (sizes (chunk.samples))) (places_in (chunks_at position (place + length (chunk_bytes chunk)) chunks))
    ∙ (ap (λ (first : List (List ℕ)). first ++ map (bytes_at file) (places_in (chunks_at position (place + length (chunk_bytes chunk)) chunks))) here
    ∙ (ap (λ (rest : List (List ℕ)). bytes_of (chunk.samples) ++ rest) later ∙ sym (map-append (λ (sample : SampleRecord). sample.bytes) (chunk.samples) (samples_on position chunks))))
one-read file position place chunk chunks here later false = later

pub payload-more : (chunk : SampleChunk) (chunks : List SampleChunk) → payload (chunk ∷ chunks) ≡ chunk_bytes chunk ++ payload chunks
unfolding payload
payload-more chunk chunks = refl

-- where the payload stands, the bytes of a track's samples are at the places of its chunks
pub bytes-read : (file : List ℕ) (position place : ℕ) (chunks : List SampleChunk) (rest : List ℕ) → drop place file ≡ payload chunks ++ rest
    → map (bytes_at file) (places_in (chunks_at position place chunks)) ≡ bytes_of (samples_on position chunks)
bytes-read file position place [] rest e = refl
bytes-read file position place (chunk ∷ chunks) rest e =
    let here : drop place file ≡ chunk_bytes chunk ++ (payload chunks ++ rest) =
    e ∙ (ap (λ (text : List ℕ). text ++ rest) (payload-more chunk chunks) ∙ append_assoc (chunk_bytes chunk) (payload chunks) rest) in
    one-read file position place chunk chunks (chunk-read file place (entry_of chunk) (chunk.samples) (payload chunks ++ rest) here)
    (bytes-read file position (place + length (chunk_bytes chunk)) chunks rest (behind file (chunk_bytes chunk) _ place here)) (chunk.track == position)

-- ---- they can be written

-- a sample of one of so many entries, whose size fits 32 bits
pub record IsSound (entries : ℕ) (sample : SampleRecord) : Type 0 where
  pub entry : HasEntry entries sample
  pub size : length sample.bytes < 2 ^ 32

sound-first : (entries : ℕ) (samples others : List SampleRecord) → AllByRecursion (IsSound entries) (samples ++ others) → AllByRecursion (IsSound entries) samples
sound-first entries [] others all = tt
sound-first entries (sample ∷ samples) others all = (all.0, sound-first entries samples others all.1)

sound-rest : (entries : ℕ) (samples others : List SampleRecord) → AllByRecursion (IsSound entries) (samples ++ others) → AllByRecursion (IsSound entries) others
sound-rest entries [] others all = all
sound-rest entries (sample ∷ samples) others all = sound-rest entries samples others all.1

sound-sizes : (entries : ℕ) (samples : List SampleRecord) → AllByRecursion (IsSound entries) samples → AllByRecursion (λ size. size < 2 ^ 32) (sizes samples)
sound-sizes entries [] all = tt
sound-sizes entries (sample ∷ samples) all = (all.0.size, sound-sizes entries samples all.1)

pub length-joined : (samples : List SampleRecord) → sum (sizes samples) ≡ length (joined samples)
length-joined samples = sum-map (λ (sample : SampleRecord). length sample.bytes) samples ∙ sym (length-flat_map (λ (sample : SampleRecord). sample.bytes) samples)

-- its place fits the field that it is written in
abbrev pub FitsField : Bool → PlacedChunk → Type 0
FitsField wide chunk = chunk.place < cond wide (2 ^ 64) (2 ^ 32)

-- the entry of a chunk is that of a sample
record IsKnown (entries entry : ℕ) : Type 0 where
  pub some : 1 ≤ entry
  pub known : entry ≤ entries

entry-known : (entries : ℕ) (chunk : SampleChunk) → IsAlike chunk → AllByRecursion (IsSound entries) chunk.samples → IsKnown entries (entry_of chunk)
entry-known entries chunk alike sound = by chunk.track chunk.samples alike.some sound
  where
    by : (track : ℕ) (samples : List SampleRecord) → 1 ≤ length samples → AllByRecursion (IsSound entries) samples → IsKnown entries (entry_of (record { track = track; samples = samples }))
    by track [] some sound = absurd (omega (arith, some))
    by track (sample ∷ samples) some sound = record { some = omega (arith, sound.0.entry.some); known = sound.0.entry.known }

one-writable : (wide : Bool) (entries end place : ℕ) (chunk : SampleChunk) → IsAlike chunk → AllByRecursion (IsSound entries) (chunk.samples) → FitsField wide (placed place chunk) → place + length (chunk_bytes chunk) ≤ end
    → IsWritable wide entries end (placed place chunk)
one-writable wide entries end place chunk alike sound fits le = record {
  some = omega (arith, alike.some, length-map chunk.samples (λ (sample : SampleRecord). length sample.bytes));
  numbered = omega (arith, (entry-known entries chunk alike sound).some);
  known = (entry-known entries chunk alike sound).known;
  placed = fits;
  sizes = sound-sizes entries (chunk.samples) sound;
  inside = omega (arith, le, length-joined (chunk.samples));
}

each-writable : (wide : Bool) (entries end position place : ℕ) (chunks : List SampleChunk) → AllByRecursion IsAlike chunks → AllByRecursion (IsSound entries) (samples_on position chunks) → AllByRecursion (FitsField wide) (chunks_at position place chunks)
    → place + length (payload chunks) ≤ end → AllByRecursion (IsWritable wide entries end) (chunks_at position place chunks)
each-writable wide entries end position place [] alike sound fits le = tt
each-writable wide entries end position place (chunk ∷ chunks) alike sound fits le =
    by (chunk.track == position) sound fits (each-writable wide entries end position (place + length (chunk_bytes chunk)) chunks alike.1)
  where
    long : length (payload (chunk ∷ chunks)) ≡ length (chunk_bytes chunk) + length (payload chunks)
    long = ap length (payload-more chunk chunks) ∙ length-append (chunk_bytes chunk) (payload chunks)

    by : (own : Bool) → AllByRecursion (IsSound entries) (flat_map (λ (c : SampleChunk). c.samples) (cond own (chunk ∷ filter (λ (c : SampleChunk). c.track == position) chunks) (filter (λ (c : SampleChunk). c.track == position) chunks)))
        → AllByRecursion (FitsField wide) (cond own (placed place chunk ∷ chunks_at position (place + length (chunk_bytes chunk)) chunks) (chunks_at position (place + length (chunk_bytes chunk)) chunks))
        → (AllByRecursion (IsSound entries) (samples_on position chunks) → AllByRecursion (FitsField wide) (chunks_at position (place + length (chunk_bytes chunk)) chunks) → place + length (chunk_bytes chunk) + length (payload chunks) ≤ end
        → AllByRecursion (IsWritable wide entries end) (chunks_at position (place + length (chunk_bytes chunk)) chunks))
        → AllByRecursion (IsWritable wide entries end) (cond own (placed place chunk ∷ chunks_at position (place + length (chunk_bytes chunk)) chunks) (chunks_at position (place + length (chunk_bytes chunk)) chunks))
    by true sound fits later = (
      one-writable wide entries end place chunk alike.0 (sound-first entries (chunk.samples) (samples_on position chunks) sound) fits.0 (omega (arith, le, long)),
      later (sound-rest entries (chunk.samples) (samples_on position chunks) sound) fits.1 (omega (arith, le, long)),
    )
    by false sound fits later = later sound fits (omega (arith, le, long))

pub all-writable : (wide : Bool) (entries end position place : ℕ) (chunks : List SampleChunk) → AllByRecursion IsAlike chunks → AllByRecursion (IsSound entries) (samples_on position chunks) → AllByRecursion (FitsField wide) (chunks_at position place chunks)
    → place + length (payload chunks) ≤ end → length (samples_on position chunks) < 2 ^ 32 → entries < 2 ^ 32 → AreWritable wide entries end (chunks_at position place chunks)
all-writable wide entries end position place chunks alike sound fits le few known = record {
  each = each-writable wide entries end position place chunks alike sound fits le;
  few_samples = omega (arith, few, ap length (sizes-kept position place chunks), length-map (samples_on position chunks) (λ (sample : SampleRecord). length sample.bytes));
  few_entries = known;
}

-- ---- places of 64 bits

-- behind a payload that ends there no place lies
pub all-wide : (position place : ℕ) (chunks : List SampleChunk) → place + length (payload chunks) < 2 ^ 64 → AllByRecursion (FitsField true) (chunks_at position place chunks)
all-wide position place [] lt = tt
all-wide position place (chunk ∷ chunks) lt = by (chunk.track == position) (all-wide position (place + length (chunk_bytes chunk)) chunks (omega (arith, lt, long)))
  where
    long : length (payload (chunk ∷ chunks)) ≡ length (chunk_bytes chunk) + length (payload chunks)
    long = ap length (payload-more chunk chunks) ∙ length-append (chunk_bytes chunk) (payload chunks)

    by : (own : Bool) → AllByRecursion (FitsField true) (chunks_at position (place + length (chunk_bytes chunk)) chunks)
        → AllByRecursion (FitsField true) (cond own (placed place chunk ∷ chunks_at position (place + length (chunk_bytes chunk)) chunks) (chunks_at position (place + length (chunk_bytes chunk)) chunks))
    by true later = (omega (arith, lt), later)
    by false later = later
