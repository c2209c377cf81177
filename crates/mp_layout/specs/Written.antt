-- The boxes that are written of a track as it is kept: of its columns, and of the chunks in which its samples stand,
-- with places in 64 bits or in 32.
use Rattle.std.specs.Prelude.{◌≡◌, ℕ, ◌<◌, ◌≤◌, ◌^◌, Bool, List, ◌∷◌, All, map, length, codes, if◌then◌else◌}
use Rattle.std.specs.declared.alloc.Global.{Global}
use Rattle.std.specs.declared.vec.Vec.{Vec}
use Rattle.mp_boxes.specs.Field.{Part, box_bytes}
use Rattle.mp_boxes.specs.Push.{IsPushed}
use Rattle.mp_boxes.specs.Table.{HasLen}
use Rattle.mp_columns.specs.declared.columns.TheConstants.{MOST_ITEMS}
use Rattle.mp_chunks.specs.declared.push.ChunkHead.{ChunkHead}
use Rattle.mp_chunks.specs.Written.{head_of, unplaced}
use Rattle.mp_headers.specs.MovieHeader.{mvhd}
use Rattle.mp_timeline.specs.Movie.{TrackRecord, MovieRecord}
use Rattle.mp_movie.specs.Heads.{media_fields, movie_fields, track_fields}
use Rattle.mp_movie.specs.Placed.{PlacedTrack}
use Rattle.mp_movie.specs.StandsFor.{HoldTrack, track_for}
use Rattle.mp_layout.specs.declared.trak.TrackBoxes.{TrackBoxes}
use Rattle.mp_layout.specs.Tables.{Placing, stbl}
use Rattle.mp_layout.specs.Moov.{mdia, minf, trak, with_user_data}

-- chunks that can be written: not too many, at places that fit
pub record CanBePlaced (chunks : List ChunkHead) (wide : Bool) : Type 0 where
  pub few : length chunks ≤ MOST_ITEMS
  pub fit : All (λ chunk. chunk.place < (if wide then 2 ^ 64 else 2 ^ 32)) chunks

-- files that hold the bytes of the samples, and these chunks, each at its place
pub record IsPlaced (files : List (List ℕ)) (track : PlacedTrack) (chunks : List ChunkHead) (wide : Bool) (placing : Placing) : Type 0 where
  pub held : HoldTrack (map length files) track
  pub heads : map head_of placing.chunks ≡ chunks
  pub same_wide : placing.wide ≡ wide

-- the same, wherever the chunks stand
pub record IsAnywhere (files : List (List ℕ)) (track : PlacedTrack) (chunks : List ChunkHead) (wide : Bool) (placing : Placing) : Type 0 where
  pub held : HoldTrack (map length files) track
  pub heads : map unplaced (map head_of placing.chunks) ≡ map unplaced chunks
  pub same_wide : placing.wide ≡ wide

-- this box of the track has that length, whatever the bytes of its samples are, and wherever they stand
abbrev pub BoxHasLen : ℕ → (TrackRecord → Placing → Part) → PlacedTrack → List ChunkHead → Bool → Type 0
BoxHasLen len box track chunks wide =
    (files : List (List ℕ)) (placing : Placing) → IsAnywhere files track chunks wide placing
    → HasLen len (box (track_for files track) placing)

-- this box of the track is pushed, whatever the bytes of its samples are
abbrev pub BoxIsPushed : Vec ℕ Global → Vec ℕ Global → (TrackRecord → Placing → Part) → PlacedTrack → List ChunkHead → Bool
    → Type 0
BoxIsPushed old new box track chunks wide =
    (files : List (List ℕ)) (placing : Placing) → IsPlaced files track chunks wide placing
    → IsPushed old new (box_bytes (box (track_for files track) placing))

-- these are the headers of the track, and the lengths of the boxes around them
pub record AreTrackBoxes (track : PlacedTrack) (chunks : List ChunkHead) (wide : Bool) (boxes : TrackBoxes) : Type 0 where
  pub header : (files : List (List ℕ)) → boxes.header ≡ track_fields boxes.movie_scale (track_for files track)
  pub media : (files : List (List ℕ)) → boxes.media ≡ media_fields (track_for files track)
  pub trak : BoxHasLen boxes.trak (trak boxes.movie_scale) track chunks wide
  pub mdia : BoxHasLen boxes.mdia mdia track chunks wide
  pub minf : BoxHasLen boxes.minf minf track chunks wide
  pub stbl : BoxHasLen boxes.stbl stbl track chunks wide

-- the movie box of a movie, whose tracks have these boxes
abbrev pub moov_with : MovieRecord → List Part → Part
moov_with movie traks = with_user_data (codes "moov") (mvhd (movie_fields movie) ∷ traks) movie.head.udta
