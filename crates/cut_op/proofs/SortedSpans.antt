-- Spans in order start in order, and the samples that they keep are those of a cut.
use Rattle.std.proofs.Common.{◌≡◌, ℕ, ◌*◌, ◌<◌, ◌≤◌, false, Option, Some, None, List, [], ◌∷◌, length, get_or, sym, ap, subst, ◌∙◌, arith}
use Rattle.std.specs.Prelude.{unsigned_abs}
use Rattle.std.specs.List.{list_any}
use Rattle.std.specs.List.Sorted.{IsNonDecreasingBy}
use Rattle.mp_frac.specs.declared.time.Frac.{Frac}
use Rattle.mp_timeline.specs.declared.segment.Segment.{Segment}
use Rattle.mp_timeline.specs.declared.segment.Segment.TheVariants.{Media}
use Rattle.mp_edits.specs.EditBox.{AreEdits}
use Rattle.mp_edits.specs.Segments.{starts_late}
use Rattle.mp_movie.specs.Durations.{extent}
use Rattle.mp_movie.specs.Placed.{PlacedTrack}
use Rattle.mp_movie.specs.StandsFor.{samples_of, track_for}
use Rattle.mp_shown.specs.Segments.{explicit}
use Rattle.mp_clip.specs.declared.touching.Span.{Span}
use Rattle.mp_clip.specs.Clipped.{clipped}
use Rattle.mp_clip.specs.Touched.{AreTouched}
use Rattle.cut_op.specs.Explicit.{shown_edits, shown_scale}
use Rattle.cut_op.specs.Found.{AreKept}
use Rattle.cut_op.specs.Planned.{IsNeededRange}
use Rattle.cut_op.specs.Reach.{AreInOrder}
use Rattle.cut_op.specs.Track.{track_pieces}
use Rattle.cut_op.proofs.Explicits.{explicit_touched}
use Rattle.cut_op.proofs.Needing.{kept_is, pieces_last}
use Rattle.cut_op.proofs.Reaching.{from-reaching, length-reaching}
use Rattle.cut_op.proofs.Units.{times_some}

pub in_order_sorted : (those spans : List Span) → AreInOrder those spans → IsNonDecreasingBy (λ span. span.from) spans
in_order_sorted those spans h = λ i j d le lt.
    let long : length spans ≡ length h.sorted = ap length h.reach ∙ length-reaching 0 h.sorted in
    let same : (k : ℕ) → (get_or spans k d).from ≡ (get_or h.sorted k d).from = λ k. ap (λ (xs : List Span). (get_or xs k d).from) h.reach ∙ from-reaching 0 h.sorted k d in
    let there = h.order i j d le (omega (arith, lt, long)) in
    subst (λ (x : ℕ). x ≤ (get_or spans j d).from) (sym (same i)) (subst (λ (x : ℕ). (get_or h.sorted i d).from ≤ x) (sym (same j)) there)

-- what a track shows is neither long nor late
pub shown_early : (edits : Option (List Segment)) (whole : List Segment) (n : ℕ) → AreEdits edits → whole ≡ Media 0 n ∷ [] → list_any starts_late (shown_edits edits whole) ≡ false
shown_early None whole n fit is = ap (list_any starts_late) is
shown_early (Some edits) whole n fit is = fit.early

pub range_needed : (files : List (List ℕ)) (movie : ℕ) (from to : Frac) (track : PlacedTrack) (low high : ℕ) (those : List Span) (scale shown : ℕ) (edits whole : List Segment)
    → 0 < movie → 0 < from.d → 0 < to.d → 0 < track.scale
    → scale ≡ track.scale → shown ≡ shown_scale track.edits movie track.scale → edits ≡ shown_edits track.edits whole → whole ≡ Media 0 (extent (samples_of files track)) ∷ []
    → AreTouched (shown * (from.d * to.d)) (clipped scale shown from to edits) those → AreKept those track low high
    → IsNeededRange files movie from to track low high
range_needed files movie from to track low high those scale shown edits whole some_movie some_from some_to some scale_is shown_is edits_are whole_is touches are =
    let begin = are.from_is in
    let edits_is : edits ≡ shown_edits track.edits (Media 0 (extent (samples_of files track)) ∷ []) = edits_are ∙ ap (shown_edits track.edits) whole_is in
    let first : AreTouched (shown * (from.d * to.d)) (clipped track.scale shown from to edits) those = subst (λ (s : ℕ). AreTouched (shown * (from.d * to.d)) (clipped s shown from to edits) those) scale_is touches in
    let second : AreTouched (shown_scale track.edits movie track.scale * (from.d * to.d)) (clipped track.scale (shown_scale track.edits movie track.scale) from to edits) those =
    subst (λ (s : ℕ). AreTouched (s * (from.d * to.d)) (clipped track.scale s from to edits) those) shown_is first in
    let touched = subst (λ (es : List Segment). AreTouched (shown_scale track.edits movie track.scale * (from.d * to.d)) (clipped track.scale (shown_scale track.edits movie track.scale) from to es) those) edits_is second in
    let lasts = pieces_last (unsigned_abs from.n * movie * (to.d * track.scale)) (unsigned_abs to.n * movie * (from.d * track.scale)) (explicit movie (track_for files track) (from.d * to.d)) in
    let some_tick = times_some movie (from.d * to.d) some_movie (times_some from.d to.d some_from some_to) in
    let meets = explicit_touched movie from to (track_for files track) those some_movie some touched in
    record {
      order = omega (arith, begin);
      inside = are.inside;
      kept = kept_is files track (movie * (from.d * to.d)) low high (track_pieces movie from to (track_for files track)) those some_tick lasts meets are;
    }
