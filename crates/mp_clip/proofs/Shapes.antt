-- The shape of pieces, from what is counted of them.
use Rattle.std.proofs.Common.{◌≡◌, ℕ, ◌+◌, ◌*◌, ◌/◌, ◌<◌, max, List, [], ◌∷◌, ◌++◌, map, Option, Some, None, pos, refl, sym, ap, subst, ◌∙◌, arith, inl, inr}
use Rattle.std.specs.Int.{◌∣◌}
use Rattle.mp_frac.specs.declared.time.Frac.{Frac}
use Rattle.mp_frac.specs.Law.{WholenessIsDivision}
use Rattle.mp_frac.specs.Divisors.{IsGreatestCommon, most, up_to}
use Rattle.mp_timeline.specs.declared.segment.Segment.{Segment}
use Rattle.mp_timeline.specs.Same.{IsSameTicks}
use Rattle.mp_edits.specs.Segments.{duration, total}
use Rattle.mp_movie.specs.Durations.{greatest}
use Rattle.mp_movie.specs.Settling.{Settles}
use Rattle.mp_clip.specs.declared.cut.Cut.{Cut}
use Rattle.mp_clip.specs.declared.cut.Scales.{Scales}
use Rattle.mp_clip.specs.declared.tally.Tally.{Tally}
use Rattle.mp_clip.specs.declared.shape.ClipShape.{ClipShape}
use Rattle.mp_clip.specs.Clipped.{as_times, starts}
use Rattle.mp_clip.specs.Shape.{IsShape, GivesShape, least}
use Rattle.mp_clip.specs.Cut.{piece_of, unit_of, cut_starts, cut_lengths, cut_total, listed}
use Rattle.mp_clip.specs.Counted.{IsCounted}
use Rattle.mp_clip.proofs.Measures.{times_each, starts_are, durations_are, total_is, least_times, greatest_times, divides_least, divides_greatest, divides_total}
use Rattle.mp_clip.proofs.LeastScales.{common_itself, up_to_is, settles_some, settles_none, ticks_are}

times_some : (a b : ℕ) → 0 < a → 0 < b → 0 < a * b
times_some a b p q = grind arith

module _ (whole : WholenessIsDivision) (scales : Scales) (tally : Tally) (cuts : List Cut) (counted : IsCounted (scales.movie * scales.from) (scales.from * scales.to) cuts tally [])
    (some_media : 0 < scales.media) (some_movie : 0 < scales.movie) (some_from : 0 < scales.from) (some_to : 0 < scales.to) where
  abbrev pub pieces : List Segment
  pieces = map (piece_of scales) cuts

  abbrev pub begin : ℕ
  begin = scales.movie * scales.from

  abbrev pub end : ℕ
  end = scales.from * scales.to

  some_begin : 0 < begin
  some_begin = times_some scales.movie scales.from some_movie some_from

  some_end : 0 < end
  some_end = times_some scales.from scales.to some_from some_to

  common_starts : IsGreatestCommon (begin ∷ cut_starts cuts) tally.starts
  common_starts = counted.starts tally.starts (common_itself tally.starts)

  common_lengths : IsGreatestCommon (end ∷ cut_lengths cuts) tally.lengths
  common_lengths = counted.lengths tally.lengths (common_itself tally.lengths)

  unit_begin : begin * scales.media * scales.to ≡ unit_of scales
  unit_begin = omega arith

  unit_end : end * scales.movie * scales.media ≡ unit_of scales
  unit_end = omega arith

  start_times : as_times (begin * scales.media * scales.to) (times_each scales.to (cut_starts cuts)) ≡ as_times (unit_of scales) (starts pieces)
  start_times = ap (λ (unit : ℕ). as_times unit (times_each scales.to (cut_starts cuts))) unit_begin ∙ ap (as_times (unit_of scales)) (sym (starts_are scales cuts))

  duration_times : as_times (end * scales.movie * scales.media) (times_each scales.media (cut_lengths cuts)) ≡ as_times (unit_of scales) (map duration pieces)
  duration_times = ap (λ (unit : ℕ). as_times unit (times_each scales.media (cut_lengths cuts))) unit_end ∙ ap (as_times (unit_of scales)) (sym (durations_are scales cuts))

  pub media_settles : (found : ℕ) → up_to most (scales.media * (scales.movie * scales.from / tally.starts)) ≡ Some found → Settles scales.media (as_times (unit_of scales) (starts pieces)) (Some found)
  media_settles found e = subst (λ (ts : List Frac). Settles scales.media ts (Some found)) start_times (settles_some whole scales.media begin scales.to some_media some_begin some_to (cut_starts cuts) tally.starts common_starts found e)

  pub movie_settles : (found : ℕ) → up_to most (scales.movie * (scales.from * scales.to / tally.lengths)) ≡ Some found → Settles scales.movie (as_times (unit_of scales) (map duration pieces)) (Some found)
  movie_settles found e = subst (λ (ts : List Frac). Settles scales.movie ts (Some found)) duration_times (settles_some whole scales.movie end scales.media some_movie some_end some_media (cut_lengths cuts) tally.lengths common_lengths found e)

  media_none : up_to most (scales.media * (scales.movie * scales.from / tally.starts)) ≡ None → Settles scales.media (as_times (unit_of scales) (starts pieces)) None
  media_none e = subst (λ (ts : List Frac). Settles scales.media ts None) start_times (settles_none whole scales.media begin scales.to some_media some_begin some_to (cut_starts cuts) tally.starts common_starts e)

  movie_none : up_to most (scales.movie * (scales.from * scales.to / tally.lengths)) ≡ None → Settles scales.movie (as_times (unit_of scales) (map duration pieces)) None
  movie_none e = subst (λ (ts : List Frac). Settles scales.movie ts None) duration_times (settles_none whole scales.movie end scales.media some_movie some_end some_media (cut_lengths cuts) tally.lengths common_lengths e)

  pub no_media : up_to most (scales.media * (scales.movie * scales.from / tally.starts)) ≡ None → GivesShape scales.media scales.movie (unit_of scales) (map (piece_of scales) cuts) None
  no_media e = inl (media_none e)

  pub no_movie : up_to most (scales.movie * (scales.from * scales.to / tally.lengths)) ≡ None → GivesShape scales.media scales.movie (unit_of scales) (map (piece_of scales) cuts) None
  no_movie e = inr (movie_none e)

  -- the number of parts, in ticks of the least scale
  start_ticks : (found n m ticks : ℕ) → found ≡ scales.media * (begin / tally.starts) → tally.starts ∣ n → m ≡ n * scales.to → ticks ≡ n / tally.starts → IsSameTicks (unit_of scales) found (pos m) (pos ticks)
  start_ticks found n m ticks found_is divides m_is ticks_is =
      rw (found_is, m_is, ticks_is) (subst (λ (unit : ℕ). IsSameTicks unit (scales.media * (begin / tally.starts)) (pos (n * scales.to)) (pos (n / tally.starts))) unit_begin
      (ticks_are whole scales.media begin scales.to some_media some_begin some_to (cut_starts cuts) tally.starts common_starts n divides))

  length_ticks : (found n m ticks : ℕ) → found ≡ scales.movie * (end / tally.lengths) → tally.lengths ∣ n → m ≡ n * scales.media → ticks ≡ n / tally.lengths → IsSameTicks (unit_of scales) found (pos m) (pos ticks)
  length_ticks found n m ticks found_is divides m_is ticks_is =
      rw (found_is, m_is, ticks_is) (subst (λ (unit : ℕ). IsSameTicks unit (scales.movie * (end / tally.lengths)) (pos (n * scales.media)) (pos (n / tally.lengths))) unit_end
      (ticks_are whole scales.movie end scales.media some_movie some_end some_media (cut_lengths cuts) tally.lengths common_lengths n divides))

  total_counted : tally.total ≡ cut_total cuts
  total_counted = let e : tally.total ≡ tally.total + cut_total [] = omega arith in e ∙ counted.total

  least_counted : least (listed tally.least) ≡ least (cut_starts cuts)
  least_counted = by tally.least ∙ counted.least
    where
      by : (low : Option ℕ) → least (listed low) ≡ least (listed low ++ [])
      by None = refl
      by (Some low) = refl

  greatest_counted : tally.greatest ≡ greatest (cut_starts cuts)
  greatest_counted = let e : tally.greatest ≡ max tally.greatest (greatest (cut_starts [])) = omega arith in e ∙ counted.greatest

  pub is_shape : (shape : ClipShape) → up_to most (scales.media * (scales.movie * scales.from / tally.starts)) ≡ Some shape.media_scale → up_to most (scales.movie * (scales.from * scales.to / tally.lengths)) ≡ Some shape.movie_scale
      → shape.total ≡ tally.total / tally.lengths → shape.least ≡ least (listed tally.least) / tally.starts → shape.greatest ≡ tally.greatest / tally.starts
      → IsShape scales.media scales.movie (unit_of scales) (map (piece_of scales) cuts) shape
  is_shape shape media_found movie_found total_found least_found greatest_found =
      let media_is = up_to_is most (scales.media * (scales.movie * scales.from / tally.starts)) shape.media_scale media_found in
      let movie_is = up_to_is most (scales.movie * (scales.from * scales.to / tally.lengths)) shape.movie_scale movie_found in
      record {
        media_scale = media_settles shape.media_scale media_found;
        movie_scale = movie_settles shape.movie_scale movie_found;
        total = length_ticks shape.movie_scale (cut_total cuts) (total pieces) shape.total movie_is (divides_total tally.lengths cuts common_lengths.divides.1) (total_is scales cuts) (total_found ∙ ap (λ (x : ℕ). x / tally.lengths) total_counted);
        least = start_ticks shape.media_scale (least (cut_starts cuts)) (least (starts pieces)) shape.least media_is (divides_least tally.starts (cut_starts cuts) common_starts.divides.1)
            (ap least (starts_are scales cuts) ∙ least_times scales.to (cut_starts cuts)) (least_found ∙ ap (λ (x : ℕ). x / tally.starts) least_counted);
        greatest = start_ticks shape.media_scale (greatest (cut_starts cuts)) (greatest (starts pieces)) shape.greatest media_is (divides_greatest tally.starts (cut_starts cuts) common_starts.divides.1)
            (ap greatest (starts_are scales cuts) ∙ greatest_times scales.to (cut_starts cuts)) (greatest_found ∙ ap (λ (x : ℕ). x / tally.starts) greatest_counted);
      }
