-- When two times, and two movies, are the same.
use Rattle.std.specs.Prelude.{◌≡◌, ℕ, ℤ, pos, ◌<◌, ⊤, List, Option, Some, None}
use Rattle.std.specs.List.{AllZip, AllByRecursion}
use Rattle.mp_frac.specs.Time.{IsSameTime, in_ticks}
use Rattle.mp_timeline.specs.declared.segment.Segment.{Segment}
use Rattle.mp_timeline.specs.declared.segment.Segment.TheVariants.{Empty, Media}
use Rattle.mp_timeline.specs.Movie.{SampleRecord, TrackRecord, MovieRecord}

-- so many ticks of so many a second, as times
abbrev pub IsSameTicks : (scale other_scale : ℕ) (ticks other : ℤ) → Type 0
IsSameTicks scale other_scale ticks other = IsSameTime (in_ticks ticks scale) (in_ticks other other_scale)

-- the same bytes, mark and entry at the same times, each over the scale of its track
pub record IsSameSample (scale other_scale : ℕ) (sample other : SampleRecord) : Type 0 where
  pub bytes : sample.bytes ≡ other.bytes
  pub decode : IsSameTicks scale other_scale (pos sample.decode) (pos other.decode)
  pub dur : IsSameTicks scale other_scale (pos sample.dur) (pos other.dur)
  pub comp : IsSameTicks scale other_scale sample.comp other.comp
  pub sync : sample.sync ≡ other.sync
  pub entry : sample.entry ≡ other.entry

-- both empty, or both of the media, from the same time for the same time
abbrev pub IsSameSegment : (movie other_movie scale other_scale : ℕ) → Segment → Segment → Type 0
IsSameSegment movie other_movie scale other_scale (Empty dur) (Empty other) = IsSameTicks movie other_movie (pos dur) (pos other)
IsSameSegment movie other_movie scale other_scale (Media start dur) (Media other_start other) =
    IsSameTicks scale other_scale (pos start) (pos other_start) × IsSameTicks movie other_movie (pos dur) (pos other)
IsSameSegment movie other_movie scale other_scale _ _ = ⊥

-- no edit list in both, or one of the same segments
abbrev pub IsSameEdits : (movie other_movie scale other_scale : ℕ) → Option (List Segment) → Option (List Segment) → Type 0
IsSameEdits movie other_movie scale other_scale None None = ⊤
IsSameEdits movie other_movie scale other_scale (Some segments) (Some others) = AllZip (IsSameSegment movie other_movie scale other_scale) segments others
IsSameEdits movie other_movie scale other_scale _ _ = ⊥

-- two tracks of movies of those scales
pub record IsSameTrack (movie other_movie : ℕ) (track other : TrackRecord) : Type 0 where
  pub number : track.number ≡ other.number
  pub head : track.head ≡ other.head
  pub scale : track.scale ≡ other.scale
  pub entries : track.entries ≡ other.entries
  pub samples : AllZip (IsSameSample track.scale other.scale) track.samples other.samples
  pub edits : IsSameEdits movie other_movie track.scale other.scale track.edits other.edits

-- two movies: the same tracks in the same order
pub record IsSame (movie other : MovieRecord) : Type 0 where
  pub scale : movie.scale ≡ other.scale
  pub head : movie.head ≡ other.head
  pub tracks : AllZip (IsSameTrack movie.scale other.scale) movie.tracks other.tracks

-- each scale is at least one tick a second
pub record HasScales (movie : MovieRecord) : Type 0 where
  pub whole : 0 < movie.scale
  pub tracks : AllByRecursion (λ track. 0 < track.scale) movie.tracks

-- a movie is the same as itself, where each scale is at least one tick a second, and movies that are the same are equal
pub record SamenessIsEquality : Type 0 where
  pub same : (movie : MovieRecord) → HasScales movie → IsSame movie movie
  pub equal : (movie other : MovieRecord) → IsSame movie other → movie ≡ other
