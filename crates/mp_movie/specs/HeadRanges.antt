-- Heads whose fields are in their ranges, without user data: those of what an importer makes.
use Rattle.std.specs.Prelude.{◌≡◌, ◌≢◌, ◌^◌, ◌<◌, [], length, codes}
use Rattle.mp_boxes.specs.Boxes.{IsBytes}
use Rattle.mp_timeline.specs.Movie.{MovieHeadRecord, TrackHeadRecord}

-- the fields of the head of a movie are in their ranges, and there is no user data
pub record IsMovieHead (head : MovieHeadRecord) : Type 0 where
  pub created : head.created < 2 ^ 64
  pub modified : head.modified < 2 ^ 64
  pub rate : head.rate < 2 ^ 32
  pub volume : head.volume < 2 ^ 16
  pub matrix_len : length head.matrix ≡ 36
  pub matrix : IsBytes head.matrix
  pub udta : head.udta ≡ []

-- the fields of the head of a track are in their ranges, it is no hint track, and there is no user data
pub record IsTrackHead (head : TrackHeadRecord) : Type 0 where
  pub flags : head.flags < 2 ^ 24
  pub created : head.created < 2 ^ 64
  pub modified : head.modified < 2 ^ 64
  pub layer : head.layer < 2 ^ 16
  pub group : head.group < 2 ^ 16
  pub volume : head.volume < 2 ^ 16
  pub matrix_len : length head.matrix ≡ 36
  pub matrix : IsBytes head.matrix
  pub width : head.width < 2 ^ 32
  pub height : head.height < 2 ^ 32
  pub media_created : head.media_created < 2 ^ 64
  pub media_modified : head.media_modified < 2 ^ 64
  pub language : head.language < 2 ^ 16
  pub handler_len : length head.handler ≡ 4
  pub handler : IsBytes head.handler
  pub not_hint : head.handler ≢ codes "hint"
  pub name_len : length head.name < 2 ^ 16
  pub name : IsBytes head.name
  pub udta : head.udta ≡ []
