-- A track has its own times, also in multiples of its scales.
use Rattle.std.proofs.Common.{◌≡◌, ℕ, ◌*◌, ◌<◌, List, [], ◌∷◌, map, Option, Some, None, ℤ, pos, ◌*ℤ◌, refl, sym, ap, ◌∙◌, arith}
use Rattle.std.specs.Prelude.{option_map}
use Rattle.std.specs.List.{AllZip}
use Rattle.std.proofs.Math.Nat.{mul_comm}
use Rattle.mp_timeline.specs.declared.segment.Segment.{Segment}
use Rattle.mp_timeline.specs.declared.segment.Segment.TheVariants.{Empty, Media}
use Rattle.mp_timeline.specs.Movie.{MovieRecord, SampleRecord, TrackRecord}
use Rattle.mp_timeline.specs.Plain.{plain_movie_head}
use Rattle.mp_timeline.specs.Same.{IsSameTicks, IsSameSample, IsSameSegment, IsSameEdits, SamenessIsEquality}
use Rattle.mp_shown.specs.Segments.{in_unit}
use Rattle.mp_shown.specs.Law.{HasSameTimes, finer_sample, finer_track}
use Rattle.mp_shown.proofs.Places.{times_some}
use Rattle.mp_shown.proofs.SameTimes.{times_times}

-- a track alone in a movie has the times of that movie
pub has_its_own_times : SamenessIsEquality → (movie : ℕ) (track : TrackRecord) → 0 < movie → 0 < track.scale → HasSameTimes movie movie track track
has_its_own_times law movie track some_movie some =
    let alone : MovieRecord = record { scale = movie; head = plain_movie_head; tracks = track ∷ [] } in
    let same = law.same alone (record { whole = some_movie; tracks = (some, tt) }) in
    record {
      some_movie = some_movie;
      some_other_movie = some_movie;
      some_scale = some;
      some_other_scale = some;
      entries = refl;
      samples = same.tracks.0.samples;
      edits = same.tracks.0.edits;
    }

-- so many times as many ticks of so many times as great a scale
finer_ticks : (scale by : ℕ) (ticks : ℤ) → 0 < scale → 0 < by → IsSameTicks scale (scale * by) ticks (ticks *ℤ pos by)
finer_ticks scale by ticks some some_by = record {
  positive = some;
  other_positive = times_some scale by some some_by;
  crosswise = ap (λ (k : ℕ). ticks *ℤ pos k) (mul_comm scale by) ∙ sym (times_times ticks by scale);
}

samples_finer : (scale by : ℕ) → 0 < scale → 0 < by → (samples : List SampleRecord) → AllZip (IsSameSample scale (scale * by)) samples (map (finer_sample by) samples)
samples_finer scale by some some_by [] = tt
samples_finer scale by some some_by (sample ∷ samples) = (
  record {
    bytes = refl;
    decode = finer_ticks scale by (pos sample.decode) some some_by;
    dur = finer_ticks scale by (pos sample.dur) some some_by;
    comp = finer_ticks scale by sample.comp some some_by;
    sync = refl;
    entry = refl;
  },
  samples_finer scale by some some_by samples,
)

module _ (movie scale by movie_by : ℕ) (some_movie : 0 < movie) (some : 0 < scale) (some_by : 0 < by) (some_movie_by : 0 < movie_by) where
  segments_finer : (edits : List Segment) → AllZip (IsSameSegment movie (movie * movie_by) scale (scale * by)) edits (map (in_unit by movie_by) edits)
  segments_finer [] = tt
  segments_finer (Empty dur ∷ edits) = (finer_ticks movie movie_by (pos dur) some_movie some_movie_by, segments_finer edits)
  segments_finer (Media start dur ∷ edits) = ((finer_ticks scale by (pos start) some some_by, finer_ticks movie movie_by (pos dur) some_movie some_movie_by), segments_finer edits)

  edits_finer : (edits : Option (List Segment)) → IsSameEdits movie (movie * movie_by) scale (scale * by) edits (option_map (map (in_unit by movie_by)) edits)
  edits_finer None = tt
  edits_finer (Some edits) = segments_finer edits

pub has_finer_times : (movie : ℕ) (track : TrackRecord) (by movie_by : ℕ) → 0 < movie → 0 < track.scale → 0 < by → 0 < movie_by → HasSameTimes movie (movie * movie_by) track (finer_track by movie_by track)
has_finer_times movie track by movie_by some_movie some some_by some_movie_by = record {
  some_movie = some_movie;
  some_other_movie = times_some movie movie_by some_movie some_movie_by;
  some_scale = some;
  some_other_scale = times_some track.scale by some some_by;
  entries = refl;
  samples = samples_finer track.scale by some some_by track.samples;
  edits = edits_finer movie track.scale by movie_by some_movie some some_by some_movie_by track.edits;
}
