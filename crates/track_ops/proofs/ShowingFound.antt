-- How a track shows segments, by what the call found.
use Rattle.std.proofs.Common.{◌≡◌, ℕ, ◌*◌, ◌/◌, ◌<◌, List, ◌∷◌, length, map, get_or, Option, Some, None, refl, sym, ap, ◌∙◌, subst}
use Rattle.std.specs.Prelude.{Ok, Err}
use Rattle.mp_frac.specs.Divisors.{IsGreatestCommon, most, up_to}
use Rattle.mp_frac.specs.Law.{WholenessIsDivision}
use Rattle.mp_ports.specs.declared.code.Code.{Code}
use Rattle.mp_ports.specs.declared.code.Code.TheVariants.{ScaleLimit}
use Rattle.mp_ports.specs.declared.fault.Bad.{Bad}
use Rattle.mp_ports.specs.Checks.{bad_at, placed}
use Rattle.mp_timeline.specs.declared.segment.Segment.{Segment}
use Rattle.mp_edits.specs.Segments.{duration}
use Rattle.mp_movie.specs.Placed.{PlacedTrack, PlacedMovie}
use Rattle.mp_movie.specs.PartsFit.{first_limit}
use Rattle.mp_movie.specs.WholeParts.{AreParts}
use Rattle.mp_clip.specs.Clipped.{starts}
use Rattle.mp_clip.specs.Law.{DivisorsGiveScales}
use Rattle.track_ops.specs.KeptShown.{IsShowing, capped_in, kept_reshown, kept_shown, shown_limit}
use Rattle.track_ops.proofs.SetAt.{placed_at}
use Rattle.track_ops.proofs.ShownScales.{fits, limited, media_multiple, media_some, no_media, no_scale, reshown, scale_multiple, scale_some, told_exact}
use Rattle.track_ops.proofs.TrackIsSet.{IsThere, track_some}

-- what was found of the track at a place: its scale and that of the movie, and the common divisors of the segments
pub record IsFound (at : ℕ) (track : PlacedTrack) (movie : PlacedMovie) (segments : List Segment) (movie_scale track_scale first long : ℕ) : Type 0 where
  pub there : IsThere track.number at track movie
  pub movie_is : movie_scale ≡ movie.scale
  pub track_is : track_scale ≡ track.scale
  pub firsts : IsGreatestCommon (movie_scale * 1000 ∷ starts segments) first
  pub longs : IsGreatestCommon (track_scale * 1000 ∷ map duration segments) long

pub there_at : (at : ℕ) (track : PlacedTrack) (movie : PlacedMovie) (tracks : List PlacedTrack) → AreParts movie → first_limit movie ≡ None → tracks ≡ movie.tracks → at < length movie.tracks → track ≡ get_or tracks at track → IsThere track.number at track movie
there_at at track movie tracks whole fits same lt is = record {
  whole = whole;
  fits = fits;
  inside = lt;
  is = subst (λ (ts : List PlacedTrack). get_or ts at track ≡ track) same (sym is);
  numbered = refl;
}

module _ (law : WholenessIsDivision) (give : DivisorsGiveScales) (at : ℕ) (track : PlacedTrack) (movie : PlacedMovie) (segments : List Segment) (movie_scale track_scale first long : ℕ) (h : IsFound at track movie segments movie_scale track_scale first long) where
  some : 0 < track.scale
  some = track_some track.number at track movie h.there

  firsts : IsGreatestCommon (movie.scale * 1000 ∷ starts segments) first
  firsts = subst (λ (n : ℕ). IsGreatestCommon (n * 1000 ∷ starts segments) first) h.movie_is h.firsts

  longs : IsGreatestCommon (track.scale * 1000 ∷ map duration segments) long
  longs = subst (λ (n : ℕ). IsGreatestCommon (n * 1000 ∷ map duration segments) long) h.track_is h.longs

  media_told : (media : Option ℕ) → media ≡ up_to most (track_scale * (movie_scale * 1000 / first)) → media ≡ up_to most (track.scale * (movie.scale * 1000 / first))
  media_told media is = is ∙ (ap (λ (n : ℕ). up_to most (n * (movie_scale * 1000 / first))) h.track_is ∙ ap (λ (n : ℕ). up_to most (track.scale * (n * 1000 / first))) h.movie_is)

  scale_told : (scale : Option ℕ) → scale ≡ up_to most (movie_scale * (track_scale * 1000 / long)) → scale ≡ up_to most (movie.scale * (track.scale * 1000 / long))
  scale_told scale is = is ∙ (ap (λ (n : ℕ). up_to most (n * (track_scale * 1000 / long))) h.movie_is ∙ ap (λ (n : ℕ). up_to most (movie.scale * (n * 1000 / long))) h.track_is)

  at_place : (P : PlacedTrack → Type 0) (d : PlacedTrack) → P track → P (get_or movie.tracks at d)
  at_place P d p = subst P (sym (placed_at track.number at track d movie movie h.there refl)) p

  pub found_no_media : (bad : Bad) (d : PlacedTrack) → None ≡ up_to most (track_scale * (movie_scale * 1000 / first)) → bad ≡ bad_at ScaleLimit 0 → placed 0 (kept_reshown at movie (get_or movie.tracks at d) segments) ≡ Err bad
  found_no_media bad d none is =
      at_place (λ (t : PlacedTrack). placed 0 (kept_reshown at movie t segments) ≡ Err bad) d (no_media law give track.number at track movie h.there some segments first long firsts longs bad (media_told None none) is)

  pub found_no_scale : (media : ℕ) (bad : Bad) (d : PlacedTrack) → Some media ≡ up_to most (track_scale * (movie_scale * 1000 / first)) → None ≡ up_to most (movie_scale * (track_scale * 1000 / long)) → bad ≡ bad_at ScaleLimit 0
      → placed 0 (kept_reshown at movie (get_or movie.tracks at d) segments) ≡ Err bad
  found_no_scale media bad d some_media none is =
      at_place (λ (t : PlacedTrack). placed 0 (kept_reshown at movie t segments) ≡ Err bad) d
      (no_scale law give track.number at track movie h.there some segments first long firsts longs media bad (media_told (Some media) some_media) (scale_told None none) is)

  module _ (media scale : ℕ) (edits : List Segment) (is_media : Some media ≡ up_to most (track_scale * (movie_scale * 1000 / first))) (is_scale : Some scale ≡ up_to most (movie_scale * (track_scale * 1000 / long))) (is_edits : edits ≡ map (capped_in first long) segments) where
    pub found_limit : (code : Code) (bad : Bad) (d : PlacedTrack) → Some code ≡ shown_limit movie track media edits scale → bad ≡ bad_at code 0 → placed 0 (kept_reshown at movie (get_or movie.tracks at d) segments) ≡ Err bad
    found_limit code bad d passed is =
        at_place (λ (t : PlacedTrack). placed 0 (kept_reshown at movie t segments) ≡ Err bad) d
        (limited law give track.number at track movie h.there some segments first long firsts longs media scale edits (media_told (Some media) is_media) (scale_told (Some scale) is_scale) is_edits code bad passed is)

    pub found_shown : (d : PlacedTrack) → None ≡ shown_limit movie track media edits scale
        → placed 0 (kept_reshown at movie (get_or movie.tracks at d) segments) ≡ Ok (kept_shown at (get_or movie.tracks at d) media edits scale movie)
    found_shown d none =
        at_place (λ (t : PlacedTrack). placed 0 (kept_reshown at movie t segments) ≡ Ok (kept_shown at t media edits scale movie)) d
        (reshown law give track.number at track movie h.there some segments first long firsts longs media scale edits (media_told (Some media) is_media) (scale_told (Some scale) is_scale) is_edits none)

    pub found_showing : (d : PlacedTrack) → None ≡ shown_limit movie track media edits scale → IsShowing at movie (get_or movie.tracks at d) segments media edits scale
    found_showing d none =
        at_place (λ (t : PlacedTrack). IsShowing at movie t segments media edits scale) d
        (record {
          some_media = media_some law give track.number at track movie h.there some segments first long firsts longs media scale edits (media_told (Some media) is_media) (scale_told (Some scale) is_scale) is_edits;
          some_scale = scale_some law give track.number at track movie h.there some segments first long firsts longs media scale edits (media_told (Some media) is_media) (scale_told (Some scale) is_scale) is_edits;
          multiple = media_multiple law give track.number at track movie h.there some segments first long firsts longs media scale edits (media_told (Some media) is_media) (scale_told (Some scale) is_scale) is_edits;
          scale_multiple = scale_multiple law give track.number at track movie h.there some segments first long firsts longs media scale edits (media_told (Some media) is_media) (scale_told (Some scale) is_scale) is_edits;
          told = told_exact law give track.number at track movie h.there some segments first long firsts longs media scale edits (media_told (Some media) is_media) (scale_told (Some scale) is_scale) is_edits none;
          fits = fits law give track.number at track movie h.there some segments first long firsts longs media scale edits (media_told (Some media) is_media) (scale_told (Some scale) is_scale) is_edits none;
        })
