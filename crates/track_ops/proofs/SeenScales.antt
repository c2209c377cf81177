-- A track in ticks of another scale of its own has the same times.
use Rattle.std.proofs.Common.{◌≡◌, ℕ, suc, ◌*◌, ◌%◌, ◌==◌, ◌<◌, Bool, true, false, List, [], ◌∷◌, ◌++◌, map, option_map, Option, Some, None, ℤ, pos, negsuc, neg_ℤ, ◌*ℤ◌, refl, sym, ap, ◌∙◌}
use Rattle.std.specs.List.{AllZip, flat_map, list_all}
use Rattle.std.proofs.Math.IntN.{pos-*ℤ-pos, negsuc-*ℤ-pos}
use Rattle.std.proofs.Math.Nat.{div-mul_cancel}
use Rattle.std.proofs.lemmas.Bool.{eqb-true}
use Rattle.std.proofs.lemmas.Nat.Gcd.{dvd_of_mod-eq-zero}
use Rattle.mp_frac.specs.Time.{in_ticks}
use Rattle.mp_timeline.specs.declared.segment.Segment.{Segment}
use Rattle.mp_timeline.specs.declared.segment.Segment.TheVariants.{Empty, Media}
use Rattle.mp_timeline.specs.Movie.{SampleRecord, TrackRecord}
use Rattle.mp_timeline.specs.Same.{IsSameTicks, IsSameSample, IsSameSegment, IsSameEdits}
use Rattle.mp_edits.specs.EditBox.{segments_in}
use Rattle.mp_clip.specs.Clipped.{as_times, starts}
use Rattle.mp_shown.specs.Law.{ShowsByTimes, ShowsTheSame}
use Rattle.track_ops.specs.Moments.{View, IsSeenAs}
use Rattle.track_ops.specs.Scales.{in_scale, is_whole}
use Rattle.track_ops.specs.Ticks.{in_track_scale, sample_in_scale, sample_times, signed_in_scale, starting, track_times}
use Rattle.track_ops.proofs.LeastScales.{both}
use Rattle.track_ops.proofs.SameTimes.{some_left, some_right}
use Rattle.track_ops.proofs.SeenTracks.{alike, all_split, whole_ticks}
use Rattle.track_ops.proofs.SignedTicks.{neg_times, signed_neg, signed_pos}

signed_whole : (old new : ℕ) (ticks : ℤ) → 0 < old → 0 < new → is_whole new (in_ticks ticks old) ≡ true → IsSameTicks old new ticks (signed_in_scale old new ticks)
signed_whole old new (pos n) some some_new whole = record {
  positive = some;
  other_positive = some_new;
  crosswise = (whole_ticks old new n some some_new whole).crosswise ∙ ap (λ (z : ℤ). z *ℤ pos old) (sym (signed_pos old new n));
}
signed_whole old new (negsuc n) some some_new whole = record {
  positive = some;
  other_positive = some_new;
  crosswise =
      negsuc-*ℤ-pos n new
      ∙ (ap (λ (m : ℕ). neg_ℤ (pos m)) (sym (div-mul_cancel old (dvd_of_mod-eq-zero old (eqb-true _ 0 whole))))
      ∙ (sym (neg_times (in_scale old new (suc n)) old) ∙ ap (λ (z : ℤ). z *ℤ pos old) (sym (signed_neg old new n))));
}

module _ (movie old new : ℕ) (some_movie : 0 < movie) (some : 0 < old) (some_new : 0 < new) where
  samples_same : (samples : List SampleRecord) → list_all (is_whole new) (flat_map (sample_times old) samples) ≡ true → AllZip (IsSameSample old new) samples (map (sample_in_scale old new) samples)
  samples_same [] whole = tt
  samples_same (sample ∷ samples) whole =
      let each = all_split (is_whole new) (sample_times old sample) (flat_map (sample_times old) samples) whole in
      let decode = both (is_whole new (in_ticks (pos sample.decode) old)) _ each.0 in
      let dur = both (is_whole new (in_ticks (pos sample.dur) old)) _ decode.1 in
      let comp = both (is_whole new (in_ticks sample.comp old)) true dur.1 in (
        record {
          bytes = refl;
          decode = whole_ticks old new sample.decode some some_new decode.0;
          dur = whole_ticks old new sample.dur some some_new dur.0;
          comp = signed_whole old new sample.comp some some_new comp.0;
          sync = refl;
          entry = refl;
        },
        samples_same samples each.1,
      )

  own_ticks : (ticks : ℤ) → IsSameTicks movie movie ticks ticks
  own_ticks ticks = record { positive = some_movie; other_positive = some_movie; crosswise = refl }

  segments_same : (edits : List Segment) → list_all (is_whole new) (as_times old (starts edits)) ≡ true → AllZip (IsSameSegment movie movie old new) edits (map (starting old new) edits)
  segments_same [] whole = tt
  segments_same (Empty dur ∷ edits) whole = (own_ticks (pos dur), segments_same edits whole)
  segments_same (Media start dur ∷ edits) whole =
      let each = both (is_whole new (in_ticks (pos start) old)) _ whole in
      ((whole_ticks old new start some some_new each.0, own_ticks (pos dur)), segments_same edits each.1)

  edits_same : (edits : Option (List Segment)) → list_all (is_whole new) (as_times old (starts (segments_in edits))) ≡ true → IsSameEdits movie movie old new edits (option_map (map (starting old new)) edits)
  edits_same None whole = tt
  edits_same (Some edits) whole = segments_same edits whole

pub same_in_track_scale : ShowsByTimes → (movie new : ℕ) (track : TrackRecord) → 0 < movie → 0 < track.scale → 0 < new → list_all (is_whole new) (track_times track) ≡ true
    → ShowsTheSame movie movie track (in_track_scale new track)
same_in_track_scale law movie new track some_movie some some_new whole =
    let each = all_split (is_whole new) (flat_map (sample_times track.scale) track.samples) (as_times track.scale (starts (segments_in track.edits))) whole in
    law.same movie movie track (in_track_scale new track)
    (record {
      some_movie = some_movie;
      some_other_movie = some_movie;
      some_scale = some;
      some_other_scale = some_new;
      entries = refl;
      samples = samples_same movie track.scale new some_movie some some_new track.samples each.0;
      edits = edits_same movie track.scale new some_movie some some_new track.edits each.1;
    })

pub seen_in_track_scale : ShowsByTimes → (movie new : ℕ) (track : TrackRecord) (view : View) → 0 < new → list_all (is_whole new) (track_times track) ≡ true → IsSeenAs movie track view
    → IsSeenAs movie (in_track_scale new track) view
seen_in_track_scale law movie new track view some_new whole is =
    alike movie movie track (in_track_scale new track) view
    (same_in_track_scale law movie new track (some_left movie track.scale is.length.positive) (some_right movie track.scale is.length.positive) some_new whole)
    refl refl is
