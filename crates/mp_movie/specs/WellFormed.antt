-- When a movie is well formed: what holds of each movie that a file can present (ISO/IEC 14496-12, 8.2 to 8.7 and 8.10.1).
use Rattle.std.specs.Prelude.{◌≡◌, ◌≢◌, ◌⊎◌, ℕ, false, ◌+◌, ◌≤◌, List, [], ◌∷◌, map, length, codes, Some, Ok}
use Rattle.std.specs.List.{AllByRecursion}
use Rattle.mp_boxes.specs.declared.head.TopHead.{TopHead}
use Rattle.mp_boxes.specs.Head.{head_at}
use Rattle.mp_boxes.specs.Boxes.{IsBytes}
use Rattle.mp_headers.specs.MovieHeader.{IsMvhd}
use Rattle.mp_headers.specs.TrackHeader.{IsTkhd}
use Rattle.mp_headers.specs.MediaHeader.{IsMdhd}
use Rattle.mp_headers.specs.Handler.{IsHandler}
use Rattle.mp_entries.specs.Entry.{IsEntry}
use Rattle.mp_timeline.specs.Movie.{SampleRecord, TrackRecord, MovieRecord}
use Rattle.mp_movie.specs.Heads.{movie_fields, track_fields, media_fields}

-- one whole box of user data, as it stands inside a container
pub record IsUserDataBox (bytes : List ℕ) : Type 0 where
  pub head : TopHead
  pub read : head_at false bytes ≡ Ok head
  pub ends : head.len ≡ length bytes
  pub kind : head.kind ≡ codes "udta"
  pub are_bytes : IsBytes bytes

-- no bytes, or one such box
abbrev pub IsUserData : List ℕ → Type 0
IsUserData bytes = (bytes ≡ []) ⊎ IsUserDataBox bytes

-- one whole sample entry
pub record IsEntryBox (bytes : List ℕ) : Type 0 where
  pub entry : IsEntry bytes
  pub are_bytes : IsBytes bytes

-- the first is decoded at that time, and each next one when the one before it ends
abbrev pub AreConsecutive : ℕ → List SampleRecord → Type 0
AreConsecutive decode [] = Unit
AreConsecutive decode (sample ∷ samples) = (sample.decode ≡ decode) × AreConsecutive (decode + sample.dur) samples

-- the sample is of one of so many entries
pub record HasEntry (entries : ℕ) (sample : SampleRecord) : Type 0 where
  pub some : 1 ≤ sample.entry
  pub known : sample.entry ≤ entries

-- a track, in a movie of this scale. The fields of its headers are in their ranges: so the flags are below 2^24 and the scale isn't 0
pub record IsWellFormedTrack (movie_scale : ℕ) (track : TrackRecord) : Type 0 where
  pub number : 1 ≤ track.number
  pub header : IsTkhd (track_fields movie_scale track)
  pub media : IsMdhd (media_fields track)
  pub handler : IsHandler track.head.handler
  pub udta : IsUserData track.head.udta
  pub entries : AllByRecursion IsEntryBox track.entries
  pub times : AreConsecutive 0 track.samples
  pub kinds : AllByRecursion (HasEntry (length track.entries)) track.samples
  pub edits : track.edits ≢ Some []

-- no two are equal
abbrev pub AreDistinct : List ℕ → Type 0
AreDistinct [] = Unit
AreDistinct (number ∷ numbers) = AllByRecursion (λ other. other ≢ number) numbers × AreDistinct numbers

-- a movie. The fields of its header are in their ranges: so the scale isn't 0
pub record IsWellFormed (movie : MovieRecord) : Type 0 where
  pub header : IsMvhd (movie_fields movie)
  pub udta : IsUserData movie.head.udta
  pub tracks : AllByRecursion (IsWellFormedTrack movie.scale) movie.tracks
  pub distinct : AreDistinct (map (λ track. track.number) movie.tracks)
