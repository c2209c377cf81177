-- The plan of a file: what stands in front of the payload.
use Rattle.std.specs.Prelude.{◌≡◌, ℕ, Bool, ◌^◌, ◌<◌, List, ◌++◌, length, map, Some, None, Result, Ok, Err}
use Rattle.mp_ports.specs.declared.fault.Fail.{Fail}
use Rattle.mp_ports.specs.declared.fault.Fail.TheVariants.{Bad, NoMemory}
use Rattle.mp_timeline.specs.Movie.{MovieRecord}
use Rattle.mp_movie.specs.Present.{present, Presents}
use Rattle.mp_movie.specs.Placed.{PlacedMovie}
use Rattle.mp_movie.specs.StandsFor.{Hold, stands_for}
use Rattle.mp_interleave.specs.declared.chunk.Chunk.{Chunk}
use Rattle.mp_interleave.specs.Order.{planned}
use Rattle.mp_interleave.specs.Samples.{chunks_of}
use Rattle.mp_layout.specs.Order.{payload, places_from}
use Rattle.mp_layout.specs.File.{IsLeastClosed, file_bytes, moov_fault, payload_place, wide_tracks}

-- these bytes are the file of the movie, its samples in windows of so many milliseconds; read by the standard's
-- definitions, they present the movie exactly, and so the same movie
pub record IsFileOf (movie : MovieRecord) (millis : ℕ) (bytes : List ℕ) : Type 0 where
  pub whole : bytes ≡ file_bytes movie millis
  pub exact : present bytes ≡ Some movie
  pub same : Presents bytes movie

-- the bytes in front of the payload, the chunks in the order of the file, the place of each in the file, for each track whether its
-- places have 64 bits, and the length of the whole file
pub record FilePlanRecord : Type 0 where
  pub front : List ℕ
  pub plan : List Chunk
  pub offsets : List ℕ
  pub wide : List Bool
  pub length : ℕ

-- the plan of the file of this movie, with its samples in windows of so many milliseconds: the front and then the payload are the
-- file; the chunks stand where it says, and the tracks with places of 64 bits are as few as can be
pub record IsFilePlan (plan : FilePlanRecord) (movie : MovieRecord) (millis : ℕ) : Type 0 where
  pub file : IsFileOf movie millis (plan.front ++ payload (chunks_of millis movie))
  pub offsets : plan.offsets ≡ places_from (payload_place movie (chunks_of millis movie) plan.wide) (chunks_of millis movie)
  pub wide : plan.wide ≡ wide_tracks movie (chunks_of millis movie)
  pub least : IsLeastClosed movie (chunks_of millis movie) plan.wide
  pub whole : plan.length ≡ length (file_bytes movie millis)
  pub fits : plan.length < 2 ^ 64
  pub short : moov_fault movie millis ≡ None

-- the same of a movie as it is kept: the chunks are its own, and what it stands for with any files that hold its pieces has this plan
pub record IsPlanOf (plan : FilePlanRecord) (movie : PlacedMovie) (millis : ℕ) : Type 0 where
  pub order : plan.plan ≡ planned millis movie
  pub each : (files : List (List ℕ)) → Hold (map length files) movie → IsFilePlan plan (stands_for files movie) millis

-- the plan with these chunks, or the refusal of a `moov` that is too long, or there is no memory
abbrev pub Plans : Result FilePlanRecord Fail → PlacedMovie → ℕ → Type 0
Plans (Ok plan) movie millis = IsPlanOf plan movie millis
Plans (Err (Bad bad)) movie millis = (files : List (List ℕ)) → Hold (map length files) movie → moov_fault (stands_for files movie) millis ≡ Some bad
Plans (Err NoMemory) movie millis = Unit
