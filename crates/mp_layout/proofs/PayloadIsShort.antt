-- How long the payload is: as long as all samples together.
use Rattle.std.proofs.Common.{◌≡◌, ℕ, zero, suc, ◌*◌, ◌^◌, ◌<◌, ◌≤◌, List, [], ◌∷◌, length, get_or, ◌∙◌, arith}
use Rattle.std.specs.List.{sum_by, AllByRecursion}
use Rattle.std.proofs.lemmas.List.Concat.{length-flat_map}
use Rattle.std.proofs.lemmas.List.Sums.{sum_by-cons}
use Rattle.mp_timeline.specs.Movie.{SampleRecord, TrackRecord, MovieRecord}
use Rattle.mp_interleave.specs.Samples.{SampleChunk, chunks_of}
use Rattle.mp_interleave.specs.Law.{IsTimed, SamplesStandInChunks}
use Rattle.mp_layout.specs.Order.{chunk_bytes, payload}

-- the length of a sample
abbrev pub weight : SampleRecord → ℕ
weight sample = length sample.bytes

chunks-len : (chunks : List SampleChunk) → length (payload chunks) ≡ sum_by (λ chunk. sum_by weight chunk.samples) chunks
unfolding payload
chunks-len chunks =
    length-flat_map chunk_bytes chunks
    ∙ (λ i. sum_by (λ (chunk : SampleChunk). length-flat_map (λ (sample : SampleRecord). sample.bytes) chunk.samples i) chunks)

-- the payload is as long as the samples of all tracks
pub payload-len : SamplesStandInChunks → (millis : ℕ) (movie : MovieRecord) → AllByRecursion IsTimed movie.tracks
    → length (payload (chunks_of millis movie)) ≡ sum_by (λ track. sum_by weight track.samples) movie.tracks
payload-len law millis movie times = chunks-len (chunks_of millis movie) ∙ law.counted millis movie weight times

-- ---- where each sample is shorter than 2^32 bytes

abbrev pub AreShort : TrackRecord → Type 0
AreShort track = AllByRecursion (λ sample. length sample.bytes < 2 ^ 32) track.samples

samples-short : (samples : List SampleRecord) → AllByRecursion (λ sample. length sample.bytes < 2 ^ 32) samples → sum_by weight samples ≤ length samples * 2 ^ 32
samples-short [] short = omega arith
samples-short (sample ∷ samples) short = omega (arith, short.0, samples-short samples short.1, sum_by-cons weight sample samples)

tracks-short : (tracks : List TrackRecord) → AllByRecursion AreShort tracks → sum_by (λ track. sum_by weight track.samples) tracks ≤ sum_by (λ track. length track.samples) tracks * 2 ^ 32
tracks-short [] short = omega arith
tracks-short (track ∷ tracks) short =
    omega (
      arith,
      tracks-short tracks short.1,
      samples-short track.samples short.0,
      sum_by-cons (λ (t : TrackRecord). sum_by weight t.samples) track tracks,
      sum_by-cons (λ (t : TrackRecord). length t.samples) track tracks,
    )

pub payload-short : SamplesStandInChunks → (millis : ℕ) (movie : MovieRecord) → AllByRecursion IsTimed movie.tracks → AllByRecursion AreShort movie.tracks
    → length (payload (chunks_of millis movie)) ≤ sum_by (λ track. length track.samples) movie.tracks * 2 ^ 32
payload-short law millis movie times short = omega (arith, payload-len law millis movie times, tracks-short movie.tracks short)

-- a track has no more samples than all tracks together
pub part-of-all : (tracks : List TrackRecord) (position : ℕ) (d : TrackRecord) → position < length tracks → length (get_or tracks position d).samples ≤ sum_by (λ track. length track.samples) tracks
part-of-all [] position d lt = absurd (omega arith)
part-of-all (track ∷ tracks) zero d lt = omega (arith, sum_by-cons (λ (t : TrackRecord). length t.samples) track tracks)
part-of-all (track ∷ tracks) (suc position) d lt = omega (arith, part-of-all tracks position d (omega arith), sum_by-cons (λ (t : TrackRecord). length t.samples) track tracks)
