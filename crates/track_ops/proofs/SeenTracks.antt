-- A track whose times are the same is seen the same.
use Rattle.std.proofs.Common.{◌≡◌, ℕ, ◌*◌, ◌<◌, Bool, true, List, [], ◌∷◌, ◌++◌, map, option_map, Option, Some, None, pos, refl, sym, ap, ◌∙◌, arith}
use Rattle.std.specs.List.{AllZip, list_all}
use Rattle.std.proofs.Math.IntN.{pos-*ℤ-pos}
use Rattle.std.proofs.Math.Nat.{div-mul_cancel}
use Rattle.std.proofs.lemmas.Bool.{eqb-true}
use Rattle.std.proofs.lemmas.Nat.Gcd.{dvd_of_mod-eq-zero}
use Rattle.mp_frac.specs.Time.{in_ticks}
use Rattle.mp_timeline.specs.declared.segment.Segment.{Segment}
use Rattle.mp_timeline.specs.declared.segment.Segment.TheVariants.{Empty, Media}
use Rattle.mp_timeline.specs.Movie.{TrackRecord}
use Rattle.mp_timeline.specs.Same.{IsSameTicks, IsSameSegment, IsSameEdits}
use Rattle.mp_edits.specs.Segments.{duration}
use Rattle.mp_shown.specs.Law.{ShowsByTimes, ShowsTheSame}
use Rattle.track_ops.specs.Later.{lasting_time}
use Rattle.track_ops.specs.Moments.{View, IsSeenAs, view_of}
use Rattle.track_ops.specs.Scales.{edit_times, in_movie_scale, in_scale, is_whole, lasting}
use Rattle.track_ops.proofs.LeastScales.{both}
use Rattle.track_ops.proofs.SameTimes.{same_back, same_onward, some_left, some_right}

some_product : (a b : ℕ) → 0 < a → 0 < b → 0 < a * b
some_product a b some other = grind arith

-- as its own view
pub own_view : (movie : ℕ) (track : TrackRecord) → 0 < movie → 0 < track.scale → IsSeenAs movie track (view_of movie track)
own_view movie track some_movie some = record {
  number = refl;
  handler = refl;
  length =
      let some_unit : 0 < movie * track.scale = some_product movie track.scale some_movie some in
      record { positive = some_unit; other_positive = some_unit; crosswise = refl };
  shown = λ n d some. refl;
}

-- as another track is that shows the same
pub alike : (movie other_movie : ℕ) (track other : TrackRecord) (view : View) → ShowsTheSame movie other_movie track other → other.number ≡ track.number → other.head.handler ≡ track.head.handler
    → IsSeenAs movie track view → IsSeenAs other_movie other view
alike movie other_movie track other view same number handler is = record {
  number = number ∙ is.number;
  handler = handler ∙ is.handler;
  length = same_onward (lasting_time other_movie other) (lasting_time movie track) view.length (same_back (lasting_time movie track) (lasting_time other_movie other) same.total) is.length;
  shown = λ n d some. sym (same.shown n d n d (record { positive = some; other_positive = some; crosswise = refl })) ∙ is.shown n d some;
}

-- ---- in a movie of another scale

pub all_split : {X : Type 0} (p : X → Bool) (xs ys : List X) → list_all p (xs ++ ys) ≡ true → (list_all p xs ≡ true) × (list_all p ys ≡ true)
all_split p [] ys all = (refl, all)
all_split p (x ∷ xs) ys all =
    let each = both (p x) (list_all p (xs ++ ys)) all in
    let rest = all_split p xs ys each.1 in
    (rw (each.0, rest.0) refl, rest.1)

pub whole_ticks : (old new dur : ℕ) → 0 < old → 0 < new → is_whole new (in_ticks (pos dur) old) ≡ true → IsSameTicks old new (pos dur) (pos (in_scale old new dur))
whole_ticks old new dur some some_new whole = record {
  positive = some;
  other_positive = some_new;
  crosswise = pos-*ℤ-pos dur new ∙ (ap pos (sym (div-mul_cancel old (dvd_of_mod-eq-zero old (eqb-true _ 0 whole)))) ∙ sym (pos-*ℤ-pos (in_scale old new dur) old));
}

module _ (old new scale : ℕ) (some : 0 < old) (some_new : 0 < new) (some_scale : 0 < scale) where
  segments_last : (edits : List Segment) → list_all (is_whole new) (map (λ segment. in_ticks (pos (duration segment)) old) edits) ≡ true
      → AllZip (IsSameSegment old new scale scale) edits (map (lasting old new) edits)
  segments_last [] whole = tt
  segments_last (Empty dur ∷ edits) whole =
      let each = both (is_whole new (in_ticks (pos dur) old)) _ whole in
      (whole_ticks old new dur some some_new each.0, segments_last edits each.1)
  segments_last (Media start dur ∷ edits) whole =
      let each = both (is_whole new (in_ticks (pos dur) old)) _ whole in
      ((record { positive = some_scale; other_positive = some_scale; crosswise = refl }, whole_ticks old new dur some some_new each.0), segments_last edits each.1)

edits_last : (old new : ℕ) (track : TrackRecord) → 0 < old → 0 < new → 0 < track.scale → (edits : Option (List Segment)) → list_all (is_whole new) (edit_times old (record track { edits = edits })) ≡ true
    → IsSameEdits old new track.scale track.scale edits (option_map (map (lasting old new)) edits)
edits_last old new track some some_new some_scale None whole = tt
edits_last old new track some some_new some_scale (Some edits) whole = segments_last old new track.scale some some_new some_scale edits whole

pub same_in_movie_scale : ShowsByTimes → (old new : ℕ) (track : TrackRecord) → 0 < old → 0 < new → 0 < track.scale → list_all (is_whole new) (edit_times old track) ≡ true
    → ShowsTheSame old new track (in_movie_scale old new track)
same_in_movie_scale law old new track some some_new some_scale whole =
    law.same old new track (in_movie_scale old new track)
    (record {
      some_movie = some;
      some_other_movie = some_new;
      some_scale = some_scale;
      some_other_scale = some_scale;
      entries = refl;
      samples = (law.itself old track some some_scale).samples;
      edits = edits_last old new track some some_new some_scale track.edits whole;
    })

pub seen_in_movie_scale : ShowsByTimes → (old new : ℕ) (track : TrackRecord) (view : View) → 0 < new → list_all (is_whole new) (edit_times old track) ≡ true → IsSeenAs old track view
    → IsSeenAs new (in_movie_scale old new track) view
seen_in_movie_scale law old new track view some_new whole is =
    alike old new track (in_movie_scale old new track) view
    (same_in_movie_scale law old new track (some_left old track.scale is.length.positive) some_new (some_right old track.scale is.length.positive) whole)
    refl refl is
