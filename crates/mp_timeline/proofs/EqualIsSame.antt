-- A movie is the same as itself.
use Rattle.std.proofs.Common.{ℕ, ℤ, pos, ◌<◌, List, [], ◌∷◌, Option, Some, None, refl}
use Rattle.std.specs.List.{AllZip, AllByRecursion}
use Rattle.mp_timeline.specs.declared.segment.Segment.{Segment}
use Rattle.mp_timeline.specs.declared.segment.Segment.TheVariants.{Empty, Media}
use Rattle.mp_timeline.specs.Movie.{SampleRecord, TrackRecord, MovieRecord}
use Rattle.mp_timeline.specs.Same.{IsSameTicks, IsSameSample, IsSameSegment, IsSameEdits, IsSameTrack, IsSame, HasScales}

same_time : (scale : ℕ) (ticks : ℤ) → 0 < scale → IsSameTicks scale scale ticks ticks
same_time scale ticks some = record { positive = some; other_positive = some; crosswise = refl }

same_samples : (scale : ℕ) → 0 < scale → (samples : List SampleRecord) → AllZip (IsSameSample scale scale) samples samples
same_samples scale some [] = tt
same_samples scale some (sample ∷ samples) = (
  record {
    bytes = refl;
    decode = same_time scale (pos sample.decode) some;
    dur = same_time scale (pos sample.dur) some;
    comp = same_time scale sample.comp some;
    sync = refl;
    entry = refl;
  },
  same_samples scale some samples,
)

same_segments : (movie scale : ℕ) → 0 < movie → 0 < scale → (segments : List Segment) → AllZip (IsSameSegment movie movie scale scale) segments segments
same_segments movie scale p q [] = tt
same_segments movie scale p q (Empty dur ∷ segments) = (same_time movie (pos dur) p, same_segments movie scale p q segments)
same_segments movie scale p q (Media start dur ∷ segments) = ((same_time scale (pos start) q, same_time movie (pos dur) p), same_segments movie scale p q segments)

same_edits : (movie scale : ℕ) → 0 < movie → 0 < scale → (edits : Option (List Segment)) → IsSameEdits movie movie scale scale edits edits
same_edits movie scale p q None = tt
same_edits movie scale p q (Some segments) = same_segments movie scale p q segments

same_tracks : (movie : ℕ) → 0 < movie → (tracks : List TrackRecord) → AllByRecursion (λ track. 0 < track.scale) tracks → AllZip (IsSameTrack movie movie) tracks tracks
same_tracks movie some [] scales = tt
same_tracks movie some (track ∷ tracks) scales = (
  record {
    number = refl;
    head = refl;
    scale = refl;
    entries = refl;
    samples = same_samples track.scale scales.0 track.samples;
    edits = same_edits movie track.scale some scales.0 track.edits;
  },
  same_tracks movie some tracks scales.1,
)

pub equal_is_same : (movie : MovieRecord) → HasScales movie → IsSame movie movie
equal_is_same movie scales = record { scale = refl; head = refl; tracks = same_tracks movie.scale scales.whole movie.tracks scales.tracks }
