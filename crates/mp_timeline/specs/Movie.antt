-- What a movie is: its head, its tracks, their samples and edits (ISO/IEC 14496-12, 3.1 and 6.2).
use Rattle.std.specs.Prelude.{ℕ, ℤ, Bool, List, Option}
use Rattle.mp_timeline.specs.declared.segment.Segment.{Segment}

-- the head of a movie; `udta` is the whole box, or no bytes
pub record MovieHeadRecord : Type 0 where
  pub created : ℕ
  pub modified : ℕ
  pub rate : ℕ
  pub volume : ℕ
  pub matrix : List ℕ
  pub udta : List ℕ

-- the head of a track; `udta` is the whole box, or no bytes
pub record TrackHeadRecord : Type 0 where
  pub flags : ℕ
  pub created : ℕ
  pub modified : ℕ
  pub layer : ℕ
  pub group : ℕ
  pub volume : ℕ
  pub matrix : List ℕ
  pub width : ℕ
  pub height : ℕ
  pub media_created : ℕ
  pub media_modified : ℕ
  pub language : ℕ
  pub handler : List ℕ
  pub name : List ℕ
  pub udta : List ℕ

-- a sample: its times are ticks of the track's scale, its entry is counted from 1
pub record SampleRecord : Type 0 where
  pub bytes : List ℕ
  pub decode : ℕ
  pub dur : ℕ
  pub comp : ℤ
  pub sync : Bool
  pub entry : ℕ

-- a track: its entries are whole boxes, the durations of its edits are ticks of the movie's scale
pub record TrackRecord : Type 0 where
  pub number : ℕ
  pub head : TrackHeadRecord
  pub scale : ℕ
  pub entries : List (List ℕ)
  pub samples : List SampleRecord
  pub edits : Option (List Segment)

-- a movie: its scale is ticks a second
pub record MovieRecord : Type 0 where
  pub scale : ℕ
  pub head : MovieHeadRecord
  pub tracks : List TrackRecord
