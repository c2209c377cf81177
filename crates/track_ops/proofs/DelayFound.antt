-- What a delay did, by what its calls answered.
use Rattle.std.proofs.Common.{◌≡◌, ℕ, ◌^◌, ◌<◌, Bool, false, ℤ, pos, All, List, [], length, get_or, None, refl, sym, ap, ◌∙◌, subst}
use Rattle.std.specs.Prelude.{IfSome, Ok, Err}
use Rattle.std.specs.Ordering.{int_eq}
use Rattle.mp_ports.specs.declared.fault.Fail.{Fail}
use Rattle.mp_ports.specs.Checks.{placed}
use Rattle.mp_ports.specs.Gives.{refusal}
use Rattle.mp_timeline.specs.declared.segment.Segment.{Segment}
use Rattle.mp_edits.specs.EditBox.{segments_in}
use Rattle.mp_movie.specs.Placed.{PlacedTrack, PlacedMovie}
use Rattle.mp_movie.specs.PartsFit.{first_limit}
use Rattle.mp_movie.specs.PartsLaw.{ColumnsAreKept}
use Rattle.mp_movie.specs.StandsFor.{track_for}
use Rattle.mp_movie.specs.WholeParts.{AreParts}
use Rattle.mp_shown.specs.Law.{PiecesShow, ShowsByTimes}
use Rattle.track_ops.specs.declared.wide.Wide.{Wide}
use Rattle.track_ops.specs.Delay.{delay, delayed, unit}
use Rattle.track_ops.specs.Does.{Does}
use Rattle.track_ops.specs.KeptShown.{IsShowing, kept_reshown, kept_shown, without_edits}
use Rattle.track_ops.specs.KeptTimes.{CanRetimeTrack}
use Rattle.track_ops.specs.Later.{DelaysShown}
use Rattle.track_ops.specs.Scales.{CanLast}
use Rattle.track_ops.specs.Wide.{as_segments}
use Rattle.track_ops.proofs.DelayAsked.{edits_some}
use Rattle.track_ops.proofs.DelayShows.{delay_shows}
use Rattle.track_ops.proofs.SetAt.{any_default, any_track, can_at, placed_at, shown_short}
use Rattle.track_ops.proofs.ShownStands.{can_retime, delay_done, delay_refused, parts_shown, showing_refused}
use Rattle.track_ops.proofs.TrackIsSet.{IsThere, is_there, track_some}

pub zero_told : (none test : Bool) (z ms : ℤ) → z ≡ ms → none ≡ int_eq z (pos 0) → none ≡ test → int_eq ms (pos 0) ≡ test
zero_told none test z ms same is found = sym (ap (λ (x : ℤ). int_eq x (pos 0)) same) ∙ (sym is ∙ found)

pub there_any : (number at : ℕ) (movie : PlacedMovie) (tracks : List PlacedTrack) → AreParts movie → first_limit movie ≡ None → tracks ≡ movie.tracks → at < length tracks → ((d : PlacedTrack) → (get_or tracks at d).number ≡ number)
    → IsThere number at (get_or tracks at any_track) movie
there_any number at movie tracks whole fits same lt numbered =
    is_there number at (get_or tracks at any_track) movie tracks whole fits same lt numbered (any_default tracks at (get_or tracks at any_track) any_track lt)

-- the track at its place
at_itself : (P : PlacedTrack → Type 0) (number at : ℕ) (track d : PlacedTrack) (movie : PlacedMovie) → IsThere number at track movie → P (get_or movie.tracks at d) → P track
at_itself P number at track d movie h p = subst P (placed_at number at track d movie movie h refl) p

-- the call that told the segments was given these numbers
module _ (columns_law : ColumnsAreKept) (number at : ℕ) (ms z : ℤ) (s : ℕ) (track : PlacedTrack) (movie : PlacedMovie) (h : IsThere number at track movie) (same : z ≡ ms) (scale_is : s ≡ movie.scale) (some_ms : int_eq ms (pos 0) ≡ false) where
  pub refused_told : (fail : Fail) → ((files : List (List ℕ)) → IfSome (refusal fail) (λ bad. placed 0 (delayed z s (track_for files track)) ≡ Err bad)) → Does {A = Unit {0}} refusal (delay number ms) movie movie (Err fail)
  refused_told fail why =
      delay_refused columns_law number at ms track movie h some_ms fail
      (λ files. subst (λ (n : ℕ). IfSome (refusal fail) (λ bad. placed 0 (delayed ms n (track_for files track)) ≡ Err bad)) scale_is
      (subst (λ (x : ℤ). IfSome (refusal fail) (λ bad. placed 0 (delayed x s (track_for files track)) ≡ Err bad)) same (why files)))

  module _ (wides read : List Wide) (read_is : read ≡ wides) (are : (files : List (List ℕ)) → placed 0 (delayed z s (track_for files track)) ≡ Ok (as_segments wides)) where
    told : (files : List (List ℕ)) → placed 0 (delayed ms movie.scale (track_for files track)) ≡ Ok (as_segments wides)
    told files =
        subst (λ (n : ℕ). placed 0 (delayed ms n (track_for files track)) ≡ Ok (as_segments wides)) scale_is (subst (λ (x : ℤ). placed 0 (delayed x s (track_for files track)) ≡ Ok (as_segments wides)) same (are files))

    pub showing_told : (fail : Fail) (d : PlacedTrack) → IfSome (refusal fail) (λ bad. placed 0 (kept_reshown at movie (get_or movie.tracks at d) (as_segments read)) ≡ Err bad) → Does {A = Unit {0}} refusal (delay number ms) movie movie (Err fail)
    showing_told fail d why =
        showing_refused columns_law number at ms track movie h some_ms (as_segments wides) told fail
        (subst (λ (ws : List Wide). IfSome (refusal fail) (λ bad. placed 0 (kept_reshown at movie track (as_segments ws)) ≡ Err bad)) read_is
        (at_itself (λ (t : PlacedTrack). IfSome (refusal fail) (λ bad. placed 0 (kept_reshown at movie t (as_segments read)) ≡ Err bad)) number at track d movie h why))

    module _ (media scale : ℕ) (edits : List Segment) (d : PlacedTrack) (showing : IsShowing at movie (get_or movie.tracks at d) (as_segments read) media edits scale) where
      shows_so : IsShowing at movie track (as_segments wides) media edits scale
      shows_so =
          subst (λ (ws : List Wide). IsShowing at movie track (as_segments ws) media edits scale) read_is
          (at_itself (λ (t : PlacedTrack). IsShowing at movie t (as_segments read) media edits scale) number at track d movie h showing)

      pub short_told : (e : PlacedTrack) (parts : PlacedMovie) → parts ≡ movie → All (λ (t : PlacedTrack). All (CanLast parts.scale scale) (segments_in t.edits)) (without_edits at (get_or parts.tracks at e) parts.tracks)
      short_told e parts p = shown_short number at media scale edits track e movie parts h p shows_so.fits

      pub can_told : (e : PlacedTrack) (parts : PlacedMovie) → parts ≡ movie → CanRetimeTrack media (get_or parts.tracks at e)
      can_told e parts p =
          can_at number at media track e movie parts h p
          (record { some = track_some number at track movie h; columns = can_retime columns_law number at track movie h media scale edits (as_segments wides) shows_so })

      pub some_media_told : 0 < media
      some_media_told = showing.some_media

      pub made_told : (parts new : PlacedMovie) → parts ≡ movie → new ≡ kept_shown at (get_or parts.tracks at d) media edits scale parts → new ≡ kept_shown at track media edits scale movie
      made_told parts new p is = is ∙ (ap (λ (t : PlacedTrack). kept_shown at t media edits scale parts) (placed_at number at track d movie parts h p) ∙ ap (kept_shown at track media edits scale) p)

      pub parts_told : PiecesShow → (new : PlacedMovie) → media < 2 ^ 32 → scale < 2 ^ 32 → new ≡ kept_shown at track media edits scale movie → AreParts new
      parts_told law new short_media short_scale is =
          subst AreParts (sym is)
          (parts_shown columns_law number at track movie h media scale edits showing.some_media short_media showing.some_scale short_scale
          (edits_some law ms movie.scale (track_for [] track) (unit movie.scale track.scale) media scale (as_segments wides) edits (told []) shows_so.told))

      pub fits_told : (new : PlacedMovie) → new ≡ kept_shown at track media edits scale movie → first_limit new ≡ None
      fits_told new is = subst (λ (m : PlacedMovie). first_limit m ≡ None) (sym is) shows_so.fits

      pub done_told : (new : PlacedMovie) → placed 0 (kept_reshown at movie (get_or movie.tracks at d) (as_segments read)) ≡ Ok (kept_shown at (get_or movie.tracks at d) media edits scale movie) → new ≡ kept_shown at track media edits scale movie
          → Does {A = Unit {0}} refusal (delay number ms) movie new (Ok tt)
      done_told new made is =
          delay_done columns_law number at ms track movie h some_ms (as_segments wides) told media scale edits new
          (subst (λ (ws : List Wide). placed 0 (kept_reshown at movie track (as_segments ws)) ≡ Ok (kept_shown at track media edits scale movie)) read_is
          (at_itself (λ (t : PlacedTrack). placed 0 (kept_reshown at movie t (as_segments read)) ≡ Ok (kept_shown at t media edits scale movie)) number at track d movie h made)) is

      pub shown_told : ShowsByTimes → PiecesShow → (new : PlacedMovie) → new ≡ kept_shown at track media edits scale movie → DelaysShown number ms movie new
      shown_told law pieces_law new is =
          delay_shows law pieces_law number at ms track movie new media scale (as_segments wides) edits h (track_some number at track movie h) shows_so told is
