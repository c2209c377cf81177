-- The movie box, box by box in the order written (ISO/IEC 14496-12, 8.2 to 8.7).
use Rattle.std.specs.Prelude.{ℕ, ◌+◌, Bool, false, List, [], ◌∷◌, ◌++◌, codes, get_or}
use Rattle.mp_boxes.specs.Field.{Part, boxes_bytes, container, optional}
use Rattle.mp_headers.specs.MovieHeader.{mvhd}
use Rattle.mp_headers.specs.TrackHeader.{tkhd}
use Rattle.mp_headers.specs.MediaHeader.{mdhd}
use Rattle.mp_headers.specs.Handler.{hdlr}
use Rattle.mp_headers.specs.MediaInformation.{media_header}
use Rattle.mp_timeline.specs.Movie.{TrackRecord, MovieRecord}
use Rattle.mp_edits.specs.EditBox.{edts}
use Rattle.mp_entries.specs.Reference.{dref}
use Rattle.mp_movie.specs.Heads.{movie_fields, track_fields, media_fields}
use Rattle.mp_interleave.specs.Samples.{SampleChunk}
use Rattle.mp_layout.specs.Order.{chunks_at}
use Rattle.mp_layout.specs.Tables.{Placing, stbl}

-- the data information box (8.7.1): the data references and nothing else
abbrev pub dinf : Part
dinf = container (codes "dinf") (dref ∷ [])

-- the media information box (8.4.4)
abbrev pub minf : TrackRecord → Placing → Part
minf track placing = container (codes "minf") (media_header track.head.handler ∷ dinf ∷ stbl track placing ∷ [])

-- the media box (8.4.1), with its header (8.4.2)
abbrev pub mdia : TrackRecord → Placing → Part
mdia track placing = container (codes "mdia") (mdhd (media_fields track) ∷ hdlr track.head.handler track.head.name ∷ minf track placing ∷ [])

-- a box of boxes, and of user data (8.10.1), a whole box or nothing, behind them
abbrev pub with_user_data : List ℕ → List Part → List ℕ → Part
with_user_data kind parts udta = record { kind = kind; body = boxes_bytes parts ++ udta }

-- the track box (8.3.1), with its header (8.3.2), in a movie of this scale
abbrev pub trak : ℕ → TrackRecord → Placing → Part
trak movie_scale track placing = with_user_data (codes "trak") (tkhd (track_fields movie_scale track) ∷ optional (edts track.edits) ++ mdia track placing ∷ []) track.head.udta

-- where the samples of the track at a position stand: the first chunk of the movie is at `place`, and these tracks have places of 64 bits
abbrev pub placing_at : List SampleChunk → List Bool → ℕ → ℕ → Placing
placing_at chunks wide place position = record { chunks = chunks_at position place chunks; wide = get_or wide position false }

-- the boxes of the tracks, the first at that position
abbrev pub traks : ℕ → (ℕ → Placing) → ℕ → List TrackRecord → List Part
traks movie_scale placing position [] = []
traks movie_scale placing position (track ∷ tracks) = trak movie_scale track (placing position) ∷ traks movie_scale placing (position + 1) tracks

-- the movie box (8.2.1), with its header (8.2.2)
abbrev pub moov : MovieRecord → List SampleChunk → List Bool → ℕ → Part
moov movie chunks wide place =
    with_user_data (codes "moov") (mvhd (movie_fields movie) ∷ traks movie.scale (placing_at chunks wide place) 0 movie.tracks) movie.head.udta
