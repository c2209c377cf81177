-- A movie that was cut shows the range of the one that was cut.
use Rattle.std.proofs.Common.{◌≡◌, ℕ, ◌*◌, ◌<◌, Bool, true, false, cond, ◌&&◌, List, [], ◌∷◌, map, Option, Some, None, pos, refl, sym, ap, subst, ◌∙◌, arith, true≢false}
use Rattle.std.specs.Prelude.{option_map, is_some, Result, Ok, Err}
use Rattle.std.specs.List.{AllByRecursion, AllZip, flat_map}
use Rattle.std.proofs.lemmas.Int.{ints}
use Rattle.std.proofs.lemmas.List.Folds.{list_all-append}
use Rattle.mp_frac.specs.declared.time.Frac.{Frac}
use Rattle.mp_ports.specs.declared.code.Code.{Code}
use Rattle.mp_ports.specs.declared.code.Code.TheVariants.{BadRange}
use Rattle.mp_ports.specs.Checks.{unless}
use Rattle.mp_timeline.specs.Movie.{TrackRecord, MovieRecord}
use Rattle.mp_timeline.specs.Same.{HasScales}
use Rattle.mp_shown.specs.Fractions.{is_before}
use Rattle.mp_shown.specs.Law.{PiecesShow, ShowsByTimes}
use Rattle.mp_clip.specs.Clipped.{IsRange, unit}
use Rattle.track_ops.specs.Limits.{limit, settled_to}
use Rattle.track_ops.specs.Scales.{is_whole, settled}
use Rattle.track_ops.specs.Ticks.{track_times}
use Rattle.track_ops.specs.Told.{IsSettled, SettledTimesAreKept, all_some, told_track}
use Rattle.cut_op.specs.Track.{cut_track}
use Rattle.cut_op.specs.Cut.{cut, cut_durations, cut_movie, cut_scale, cut_settled, in_movie_scale}
use Rattle.cut_op.specs.Shows.{MovieShowsRange, ShowsRange}
use Rattle.cut_op.specs.Law.{CutShowsTheRange}
use Rattle.cut_op.proofs.Shows.{exact_shows, some_unit}
use Rattle.cut_op.proofs.Totals.{exact_total, without_unit}

both : (a b : Bool) → (a && b) ≡ true → (a ≡ true) × (b ≡ true)
both true b all = (refl, all)
both false b all = cc

pub pos_injective : (a b : ℕ) → pos a ≡ pos b → a ≡ b
pos_injective a b e = omega (arith, ints, e)

from_some : TrackRecord → Option TrackRecord → TrackRecord
from_some other None = other
from_some other (Some one) = one

some_injective : {a b : TrackRecord} → Some a ≡ Some b → a ≡ b
unfolding from_some
some_injective {a} e = ap (from_some a) e

-- a track that was cut, in scales in which its times are whole, shows the range
track_shows : PiecesShow → ShowsByTimes → SettledTimesAreKept → (from to : Frac) (movie new_movie : ℕ) (track new : TrackRecord) → IsRange from to → is_before from to ≡ true → 0 < movie → 0 < track.scale
    → IsSettled (cut_durations movie from to track) new_movie → cut_settled movie new_movie from to track ≡ Some new → ShowsRange from to movie new_movie track new
track_shows law times settling from to movie new_movie track new range test some_movie some fits_movie is =
    by (settled track.scale (track_times (cut_track movie from to track))) refl is
  where
    by : (scale : Option ℕ) → settled track.scale (track_times (cut_track movie from to track)) ≡ scale
        → option_map (λ scale. told_track scale new_movie (cut_track movie from to track)) scale ≡ Some new → ShowsRange from to movie new_movie track new
    by None found is = absurd (true≢false (sym (ap is_some is)))
    by (Some scale) found is =
        let exact = cut_track movie from to track in
        let u = unit track.scale movie from to in
        let some_u = some_unit movie track.scale from.d to.d some_movie some range.some_begin.some range.some_end.some in
        let fits = settling.serves track.scale (track_times exact) scale some found in
        let same = times.same u new_movie exact (told_track scale new_movie exact) (settling.told scale new_movie exact some_u fits fits_movie) in
        let total_is = pos_injective _ _ same.total.crosswise in
        subst (ShowsRange from to movie new_movie track) (some_injective is) (record {
          number = refl;
          head = refl;
          entries = refl;
          shown = λ n d some_d. sym (same.shown n d n d (record { positive = some_d; other_positive = some_d; crosswise = refl })) ∙ exact_shows law times movie track from to n d some_movie some range some_d;
          total = without_unit _ _ u (new_movie * scale) some_u (sym (ap (λ (x : ℕ). x * (new_movie * scale)) (exact_total law movie track from to range test)) ∙ total_is);
        })

-- the scale of a track that was cut is above 0
pub some_scale : SettledTimesAreKept → (movie new_movie : ℕ) (from to : Frac) (track new : TrackRecord) → 0 < track.scale → cut_settled movie new_movie from to track ≡ Some new → 0 < new.scale
some_scale settling movie new_movie from to track new some is = by (settled track.scale (track_times (cut_track movie from to track))) refl is
  where
    by : (scale : Option ℕ) → settled track.scale (track_times (cut_track movie from to track)) ≡ scale
        → option_map (λ scale. told_track scale new_movie (cut_track movie from to track)) scale ≡ Some new → 0 < new.scale
    by None found is = absurd (true≢false (sym (ap is_some is)))
    by (Some scale) found is = subst (λ (one : TrackRecord). 0 < one.scale) (some_injective is) (settling.serves track.scale (track_times (cut_track movie from to track)) scale some found).some

-- ---- all tracks

pub each_some : (f : TrackRecord → Option TrackRecord) (tracks news : List TrackRecord) → all_some (map f tracks) ≡ Some news → AllZip (λ track new. f track ≡ Some new) tracks news
each_some f [] [] is = tt
each_some f [] (new ∷ news) is = cc
each_some f (track ∷ tracks) news is = by (λ others are. each_some f tracks others are) (f track) refl is
  where
    from_some : List TrackRecord → Option (List TrackRecord) → List TrackRecord
    from_some other None = other
    from_some other (Some all) = all

    rest : ((others : List TrackRecord) → all_some (map f tracks) ≡ Some others → AllZip (λ track new. f track ≡ Some new) tracks others) → (one : TrackRecord) (others : Option (List TrackRecord)) → all_some (map f tracks) ≡ others → f track ≡ Some one → option_map (λ items. one ∷ items) others ≡ Some news
        → AllZip (λ track new. f track ≡ Some new) (track ∷ tracks) news
    rest all one None are found is = absurd (true≢false (sym (ap is_some is)))
    rest all one (Some others) are found is =
        subst (AllZip (λ track new. f track ≡ Some new) (track ∷ tracks)) (ap (from_some []) is) (found, all others are)

    by : ((others : List TrackRecord) → all_some (map f tracks) ≡ Some others → AllZip (λ track new. f track ≡ Some new) tracks others) → (one : Option TrackRecord) → f track ≡ one → all_some (one ∷ map f tracks) ≡ Some news → AllZip (λ track new. f track ≡ Some new) (track ∷ tracks) news
    by all None found is = absurd (true≢false (sym (ap is_some is)))
    by all (Some one) found is = rest all one (all_some (map f tracks)) refl found is

tracks_show : PiecesShow → ShowsByTimes → SettledTimesAreKept → (from to : Frac) (movie new_movie : ℕ) (tracks news : List TrackRecord) → IsRange from to → is_before from to ≡ true → 0 < movie
    → AllByRecursion (λ track. 0 < track.scale) tracks → IsSettled (flat_map (cut_durations movie from to) tracks) new_movie
    → AllZip (λ track new. cut_settled movie new_movie from to track ≡ Some new) tracks news → AllZip (ShowsRange from to movie new_movie) tracks news
tracks_show law times settling from to movie new_movie [] [] range test some_movie scales fits are = tt
tracks_show law times settling from to movie new_movie [] (new ∷ news) range test some_movie scales fits are = absurd are
tracks_show law times settling from to movie new_movie (track ∷ tracks) [] range test some_movie scales fits are = absurd are
tracks_show law times settling from to movie new_movie (track ∷ tracks) (new ∷ news) range test some_movie scales fits are =
    let parts = both _ _ (sym (list_all-append (is_whole new_movie) (cut_durations movie from to track) (flat_map (cut_durations movie from to) tracks)) ∙ fits.whole) in (
      track_shows law times settling from to movie new_movie track new range test some_movie scales.0 (record { some = fits.some; whole = parts.0 }) are.0,
      tracks_show law times settling from to movie new_movie tracks news range test some_movie scales.1 (record { some = fits.some; whole = parts.1 }) are.1,
    )

-- ---- the movie

abbrev from_ok : MovieRecord → Result MovieRecord Code → MovieRecord
from_ok other (Ok movie) = movie
from_ok other (Err code) = other

abbrev is_ok_movie : Result MovieRecord Code → Bool
is_ok_movie (Ok movie) = true
is_ok_movie (Err code) = false

-- what holds of each movie of tracks that are cut so, holds of the one that a cut makes
pub of_made : (P : MovieRecord → Type 0) (from to : Frac) (movie made : MovieRecord)
    → ((scale : ℕ) (tracks : List TrackRecord) → is_before from to ≡ true → cut_scale from to movie ≡ Some scale → all_some (map (cut_settled movie.scale scale from to) movie.tracks) ≡ Some tracks
    → P (record movie { scale = scale; tracks = tracks }))
    → cut from to movie ≡ Ok made → P made
of_made P from to movie made holds is = by_test (is_before from to) refl is
  where
    by_limit : (one : MovieRecord) (code : Option Code) → P one → unless code one ≡ Ok made → P made
    by_limit one None so is = let same : one ≡ made = ap (from_ok one) is in subst P same so
    by_limit one (Some code) so is = absurd (true≢false (sym (ap is_ok_movie is)))

    by_tracks : (scale : ℕ) (tracks : Option (List TrackRecord)) → is_before from to ≡ true → cut_scale from to movie ≡ Some scale → all_some (map (cut_settled movie.scale scale from to) movie.tracks) ≡ tracks
        → settled_to (λ settled. settled) (option_map (λ tracks. record movie { scale = scale; tracks = tracks }) tracks) ≡ Ok made → P made
    by_tracks scale None test found are is = absurd (true≢false (sym (ap is_ok_movie is)))
    by_tracks scale (Some tracks) test found are is =
        let one = record movie { scale = scale; tracks = tracks } in
        by_limit one (limit one) (holds scale tracks test found are) is

    by_scale : (scale : Option ℕ) → is_before from to ≡ true → cut_scale from to movie ≡ scale → settled_to (λ settled. settled) (in_movie_scale from to movie scale) ≡ Ok made → P made
    by_scale None test found is = absurd (true≢false (sym (ap is_ok_movie is)))
    by_scale (Some scale) test found is = by_tracks scale (all_some (map (cut_settled movie.scale scale from to) movie.tracks)) test found refl is

    by_test : (b : Bool) → is_before from to ≡ b → cond b (settled_to (λ settled. settled) (cut_movie from to movie)) (Err BadRange) ≡ Ok made → P made
    by_test true test is = by_scale (cut_scale from to movie) test refl is
    by_test false test is = absurd (true≢false (sym (ap is_ok_movie is)))

pub made_shows : PiecesShow → ShowsByTimes → SettledTimesAreKept → (from to : Frac) (movie : MovieRecord) → IsRange from to → HasScales movie → (scale : ℕ) (tracks : List TrackRecord) → is_before from to ≡ true
    → cut_scale from to movie ≡ Some scale → all_some (map (cut_settled movie.scale scale from to) movie.tracks) ≡ Some tracks → MovieShowsRange from to movie (record movie { scale = scale; tracks = tracks })
made_shows law times settling from to movie range scales scale tracks test found are =
    let fits = settling.serves movie.scale _ scale scales.whole found in
    record { head = refl; tracks = tracks_show law times settling from to movie.scale scale movie.tracks tracks range test scales.whole scales.tracks fits (each_some (cut_settled movie.scale scale from to) movie.tracks tracks are) }

pub cut_shows : PiecesShow → ShowsByTimes → SettledTimesAreKept → CutShowsTheRange
cut_shows law times settling from to movie made range scales is =
    of_made (MovieShowsRange from to movie) from to movie made (λ scale tracks test found are. made_shows law times settling from to movie range scales scale tracks test found are) is
