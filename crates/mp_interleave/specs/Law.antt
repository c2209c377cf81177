-- What the laws of the order say: each sample stands in one chunk, in its track's order, and chunks ask nothing of bytes.
use Rattle.std.specs.Prelude.{◌≡◌, ℕ, ◌+◌, ◌-◌, ◌<◌, ◌≤◌, ◌==◌, List, filter, get_or, length, map, sum_by}
use Rattle.std.specs.List.{AllByRecursion, flat_map}
use Rattle.mp_timeline.specs.Movie.{SampleRecord, TrackRecord, MovieRecord}
use Rattle.mp_movie.specs.Placed.{PlacedTrack, PlacedMovie, sample_count}
use Rattle.mp_movie.specs.StandsFor.{stands_for}
use Rattle.mp_movie.specs.WellFormed.{AreConsecutive}
use Rattle.mp_interleave.specs.declared.chunk.Chunk.{Chunk}
use Rattle.mp_interleave.specs.Order.{planned}
use Rattle.mp_interleave.specs.Samples.{SampleChunk, chunks_of, entry_of, with_samples}

-- its samples follow one another
abbrev pub IsTimed : TrackRecord → Type 0
IsTimed track = AreConsecutive 0 track.samples

-- the samples of one track, in the order of its chunks
abbrev pub samples_on : ℕ → List SampleChunk → List SampleRecord
samples_on position chunks = flat_map (λ chunk. chunk.samples) (filter (λ chunk. chunk.track == position) chunks)

-- there is a sample in it, and all are of one entry
pub record IsAlike (chunk : SampleChunk) : Type 0 where
  pub some : 1 ≤ length chunk.samples
  pub alike : AllByRecursion (λ sample. sample.entry ≡ entry_of chunk) chunk.samples

-- each sample of a movie stands in one chunk: those of a track, in the order of its chunks, are the track's, and whatever is counted
-- of all chunks is what is counted of all tracks
pub record SamplesStandInChunks : Type 0 where
  pub kept : (millis : ℕ) (movie : MovieRecord) (position : ℕ) (d : TrackRecord) → AllByRecursion IsTimed movie.tracks → position < length movie.tracks
      → samples_on position (chunks_of millis movie) ≡ (get_or movie.tracks position d).samples
  pub alike : (millis : ℕ) (movie : MovieRecord) → AllByRecursion IsTimed movie.tracks → AllByRecursion IsAlike (chunks_of millis movie)
  pub inside : (millis : ℕ) (movie : MovieRecord) → AllByRecursion IsTimed movie.tracks
      → AllByRecursion (λ chunk. chunk.track < length movie.tracks) (chunks_of millis movie)
  pub counted : (millis : ℕ) (movie : MovieRecord) (weight : SampleRecord → ℕ) → AllByRecursion IsTimed movie.tracks
      → sum_by (λ chunk. sum_by weight chunk.samples) (chunks_of millis movie) ≡ sum_by (λ track. sum_by weight track.samples) movie.tracks

-- the chunk holds samples of a track of these
pub record IsWithin (tracks : List PlacedTrack) (chunk : Chunk) : Type 0 where
  pub track : chunk.track < length tracks
  pub first : 1 ≤ chunk.first
  pub some : 1 ≤ chunk.count
  pub samples : (d : PlacedTrack) → chunk.first - 1 + chunk.count ≤ length (get_or tracks chunk.track d).deltas

-- the chunks of a movie as it is kept are those of each movie that it stands for; each holds samples of its tracks, and they are no
-- more than these
pub record PlansStandForChunks : Type 0 where
  pub same : (files : List (List ℕ)) (millis : ℕ) (movie : PlacedMovie)
      → chunks_of millis (stands_for files movie) ≡ map (with_samples (stands_for files movie).tracks) (planned millis movie)
  pub within : (millis : ℕ) (movie : PlacedMovie) → AllByRecursion (IsWithin movie.tracks) (planned millis movie)
  pub few : (millis : ℕ) (movie : PlacedMovie) → length (planned millis movie) ≤ sample_count movie.tracks
