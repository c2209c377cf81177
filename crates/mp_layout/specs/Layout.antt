-- The front of a file by its length: the least set of tracks with places of 64 bits, and the refusal of a `moov` that is too long.
use Rattle.std.specs.Prelude.{◌≡◌, ℕ, ◌+◌, ◌*◌, ◌<◌, ◌≤◌, Bool, List, ◌++◌, length, map, ◌⊎◌}
use Rattle.std.specs.declared.alloc.Global.{Global}
use Rattle.std.specs.declared.vec.Vec.{Vec}
use Rattle.mp_ports.specs.declared.code.Code.TheVariants.{MoovLimit}
use Rattle.mp_ports.specs.declared.fault.Fail.{Fail}
use Rattle.mp_ports.specs.declared.fault.Fail.TheVariants.{Bad, NoMemory}
use Rattle.mp_ports.specs.Checks.{bad_at}
use Rattle.mp_boxes.specs.Field.{box_bytes}
use Rattle.mp_boxes.specs.Table.{HasLen}
use Rattle.mp_headers.specs.FileType.{ftyp}
use Rattle.mp_interleave.specs.declared.chunk.Chunk.{Chunk}
use Rattle.mp_movie.specs.Placed.{PlacedMovie, payload_len}
use Rattle.mp_movie.specs.Present.{most_moov}
use Rattle.mp_movie.specs.StandsFor.{stands_for, track_for}
use Rattle.mp_layout.specs.declared.wide.Reach.{Reach}
use Rattle.mp_layout.specs.declared.plan.Layout.{Layout}
use Rattle.mp_layout.specs.Moov.{traks}
use Rattle.mp_layout.specs.File.{mdat_head}
use Rattle.mp_layout.specs.Tables.{Placing}
use Rattle.mp_layout.specs.Wide.{IsLeastSet, chunks_in}
use Rattle.mp_layout.specs.Written.{moov_with}
use Rattle.mp_layout.specs.Chunked.{ArePlaced}

-- where the payload stands without places of 64 bits: behind `ftyp` of 28 bytes, such a `moov` and the header of `mdat`
abbrev pub narrow_place : ℕ → ℕ → ℕ
narrow_place narrow head = 28 + narrow + head

-- the least set of tracks, and how long `moov` is with it
pub record IsLayout (narrow head : ℕ) (reaches : List Reach) (layout : Layout) : Type 0 where
  pub least : IsLeastSet (narrow_place narrow head) reaches layout.wide.items
  pub moov : layout.moov ≡ narrow + 4 * chunks_in reaches layout.wide.items
  pub short : layout.moov ≤ most_moov

-- with the least set `moov` is too long
pub record IsLong (narrow head : ℕ) (reaches : List Reach) (set : List Bool) : Type 0 where
  pub few : narrow ≤ most_moov
  pub least : IsLeastSet (narrow_place narrow head) reaches set
  pub long : most_moov < narrow + 4 * chunks_in reaches set

-- it is refused where it is too long without places of 64 bits, or with the least set of them; or there is no memory
abbrev pub IsRefused : ℕ → ℕ → List Reach → Fail → Type 0
IsRefused narrow head reaches NoMemory = Unit
IsRefused narrow head reaches (Bad bad) = (bad ≡ bad_at MoovLimit 0) × ((most_moov < narrow) ⊎ ((set : List Bool) × IsLong narrow head reaches set))

-- the bytes in front of the payload, where the chunks stand at these places
pub record IsFront (movie : PlacedMovie) (chunks : List Chunk) (places : List ℕ) (layout : Layout) (len : ℕ) (front : Vec ℕ Global) : Type 0 where
  pub bytes : (files : List (List ℕ)) (placing : ℕ → Placing) → ArePlaced files movie.tracks chunks places layout.wide.items placing
      → (let moov = moov_with (stands_for files movie) (traks movie.scale placing 0 (map (track_for files) movie.tracks)) in
      let text = box_bytes ftyp ++ box_bytes moov ++ mdat_head (payload_len movie.tracks) in
      HasLen layout.moov moov → length text ≡ len → front.items ≡ text)
