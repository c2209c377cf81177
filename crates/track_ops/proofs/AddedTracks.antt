-- The command that adds tracks, by its plan.
use Rattle.std.proofs.Common.{◌≡◌, ℕ, ◌-◌, ◌^◌, ◌<◌, Bool, true, false, List, [], ◌∷◌, length, map, take, drop, Option, Some, None, refl, sym, ap, ◌∙◌, subst, arith, All}
use Rattle.std.specs.Prelude.{Result, Ok, Err, IfSome, if◌then◌else◌}
use Rattle.std.specs.List.{list_any}
use Rattle.std.proofs.lemmas.Bool.{leb-false}
use Rattle.std.proofs.Math.Seq.{drop-append_seam}
use Rattle.std.proofs.lemmas.List.{length-drop, length-map, take_all}
use Rattle.std.proofs.lemmas.List.Elements.{All-cons, All-nil}
use Rattle.std.proofs.lemmas.List.Folds.{list_any-append}
use Rattle.std.proofs.lemmas.List.Sums.{sum_by-cons}
use Rattle.mp_ports.specs.declared.code.Code.{Code}
use Rattle.mp_ports.specs.declared.code.Code.TheVariants.{DurationLimit, IdLimit}
use Rattle.mp_ports.specs.declared.fault.Bad.{Bad}
use Rattle.mp_ports.specs.declared.fault.Fail.{Fail}
use Rattle.mp_ports.specs.Checks.{bad_at, placed, unless}
use Rattle.mp_ports.specs.Gives.{refusal}
use Rattle.mp_timeline.specs.declared.segment.Segment.{Segment}
use Rattle.mp_timeline.specs.Movie.{MovieRecord}
use Rattle.mp_edits.specs.EditBox.{segments_in}
use Rattle.mp_edits.specs.Segments.{duration, total}
use Rattle.mp_movie.specs.Placed.{PlacedTrack, PlacedMovie}
use Rattle.mp_movie.specs.PartsFit.{first_limit, limits, passes}
use Rattle.mp_movie.specs.PartsLaw.{ColumnsAreKept}
use Rattle.mp_movie.specs.WholeParts.{AreParts}
use Rattle.track_ops.specs.declared.chosen.Choice.{Choice}
use Rattle.track_ops.specs.Adding.{is_above}
use Rattle.track_ops.specs.Does.{Adds}
use Rattle.track_ops.specs.Kept.{kept_chosen, kept_in_scale, kept_joined, kept_numbers, kept_renumbered}
use Rattle.track_ops.specs.Scales.{CanLast, lasting}
use Rattle.track_ops.specs.Summed.{IsPlan, added_scale, joined_scale, kept_scale}
use Rattle.track_ops.proofs.AddedParts.{given, parts_joined}
use Rattle.track_ops.proofs.AddedStands.{added_stands, held_chosen, held_joined, stands_at}
use Rattle.track_ops.proofs.GivenNumbers.{as_many}
use Rattle.track_ops.proofs.LimitsStay.{none_holds}
use Rattle.track_ops.proofs.Lists.{neither}
use Rattle.track_ops.proofs.LongEdits.{lasting_duration}

-- ---- what the plan says

placed_ok : {A : Type 0} (result : Result A Code) (value : A) → placed 0 result ≡ Ok value → result ≡ Ok value
placed_ok (Ok found) value is = cc
placed_ok (Err code) value is = cc

settled_fits : (kept : ℕ → PlacedMovie) (result : Option ℕ) (scale : ℕ) → kept_scale kept result ≡ Ok scale → first_limit (kept scale) ≡ None
settled_fits kept None scale is = cc
settled_fits kept (Some found) scale is = by (first_limit (kept found)) refl is
  where
    by : (code : Option Code) → first_limit (kept found) ≡ code → unless code found ≡ Ok scale → first_limit (kept scale) ≡ None
    by None none right = let same : found ≡ scale = cc in subst (λ (s : ℕ). first_limit (kept s) ≡ None) same none
    by (Some code) some wrong = cc

pub plan_fits : (movie other : PlacedMovie) (tracks : List PlacedTrack) (scale : ℕ) → placed 0 (added_scale movie other tracks) ≡ Ok scale → first_limit (kept_joined movie other tracks (given movie tracks) scale) ≡ None
plan_fits movie other [] scale is = let wrong = placed_ok (added_scale movie other []) scale is in cc
plan_fits movie other (track ∷ tracks) scale is = by (list_any is_above (given movie (track ∷ tracks))) (placed_ok (added_scale movie other (track ∷ tracks)) scale is)
  where
    by : (b : Bool) → (if b then Err IdLimit else joined_scale movie other (track ∷ tracks)) ≡ Ok scale → first_limit (kept_joined movie other (track ∷ tracks) (given movie (track ∷ tracks)) scale) ≡ None
    by true wrong = cc
    by false right = settled_fits (kept_joined movie other (track ∷ tracks) (given movie (track ∷ tracks))) _ scale right

-- the numbers behind those that stand
pub given_behind : (movie : PlacedMovie) (tracks : List PlacedTrack) (scale own : ℕ) (all : List ℕ) → IsPlan movie tracks scale all → own ≡ length movie.tracks → drop own all ≡ given movie tracks
given_behind movie tracks scale own all plan is =
    rw (is ∙ sym (length-map movie.tracks (λ (t : PlacedTrack). t.number)), plan.numbers) (drop-append_seam (kept_numbers movie.tracks) (given movie tracks))

pub given_many : (movie : PlacedMovie) (tracks : List PlacedTrack) → length (given movie tracks) ≡ length tracks
given_many movie tracks = as_many (kept_numbers movie.tracks) (kept_numbers tracks) ∙ length-map tracks (λ (t : PlacedTrack). t.number)

-- ---- 64 bits hold each duration

each_short : (old new : ℕ) (segments : List Segment) → total (map (lasting old new) segments) < 2 ^ 62 → All (CanLast old new) segments
each_short old new [] short = All-nil (CanLast old new)
each_short old new (segment ∷ segments) short =
    let first = lasting_duration old new segment in
    let sum = sum_by-cons duration (lasting old new segment) (map (lasting old new) segments) in
    All-cons (CanLast old new) segment segments (omega (arith, short, first, sum)) (each_short old new segments (omega (arith, short, sum)))

one_short : (old new : ℕ) (track : PlacedTrack) → passes DurationLimit (kept_in_scale old new track) ≡ false → All (CanLast old new) (segments_in track.edits)
one_short old new track fits = by track.edits (leb-false (2 ^ 62) (total (segments_in (kept_in_scale old new track).edits)) fits)
  where
    by : (edits : Option (List Segment)) → total (segments_in (kept_in_scale old new (record track { edits = edits })).edits) < 2 ^ 62 → All (CanLast old new) (segments_in edits)
    by None short = All-nil (CanLast old new)
    by (Some segments) short = each_short old new segments short

abbrev CanLastAll : ℕ → ℕ → PlacedTrack → Type 0
CanLastAll old new track = All (CanLast old new) (segments_in track.edits)

pub all_short : (old new : ℕ) (tracks : List PlacedTrack) → list_any (passes DurationLimit) (map (kept_in_scale old new) tracks) ≡ false → All (CanLastAll old new) tracks
all_short old new [] none = All-nil (CanLastAll old new)
all_short old new (track ∷ tracks) none =
    let both = neither (passes DurationLimit (kept_in_scale old new track)) (list_any (passes DurationLimit) (map (kept_in_scale old new) tracks)) none in
    All-cons (CanLastAll old new) track tracks (one_short old new track both.0) (all_short old new tracks both.1)

-- of the own tracks, and of those that are added
pub joined_short : (movie other : PlacedMovie) (tracks : List PlacedTrack) (numbers : List ℕ) (scale : ℕ) → first_limit (kept_joined movie other tracks numbers scale) ≡ None
    → All (λ track. All (CanLast movie.scale scale) (segments_in track.edits)) movie.tracks × All (λ track. All (CanLast other.scale scale) (segments_in track.edits)) (kept_renumbered numbers tracks)
joined_short movie other tracks numbers scale fits =
    let tests = none_holds (limits (kept_joined movie other tracks numbers scale)) fits in
    let both = neither _ _ (sym (list_any-append (passes DurationLimit) (map (kept_in_scale movie.scale scale) movie.tracks) (map (kept_in_scale other.scale scale) (kept_renumbered numbers tracks))) ∙ tests.1.1.0) in
    (all_short movie.scale scale movie.tracks both.0, all_short other.scale scale (kept_renumbered numbers tracks) both.1)

-- ---- the answers

abbrev pub Why : {M : Type 0} → Fail × M → Option Bad
Why refused = refusal refused.0

pub added_ok : {M : Type 0} → ColumnsAreKept → (choice : Choice) (movie other new : PlacedMovie) (scale : ℕ) → AreParts movie → AreParts other → placed 0 (added_scale movie other (kept_chosen choice other.tracks)) ≡ Ok scale
    → new ≡ kept_joined movie other (kept_chosen choice other.tracks) (given movie (kept_chosen choice other.tracks)) scale → Adds {A = Unit {0}} {E = Fail × M} Why choice other movie new (Ok tt)
added_ok law choice movie other new scale h g found is =
    rw is
    (record {
      gives = λ files hold held.
          ap (placed 0) (added_stands law files choice movie other h.columns g.columns hold held
          ∙ ap (stands_at files (kept_joined movie other (kept_chosen choice other.tracks) (given movie (kept_chosen choice other.tracks)))) (placed_ok (added_scale movie other (kept_chosen choice other.tracks)) scale found));
      held = λ sizes hold held. held_joined sizes movie other (kept_chosen choice other.tracks) (given movie (kept_chosen choice other.tracks)) scale hold (held_chosen sizes choice other held);
      same = tt;
    })

refused_stands : (files : List (List ℕ)) (kept : ℕ → PlacedMovie) (result : Result ℕ Code) (why : Option Bad) → IfSome why (λ bad. placed 0 result ≡ Err bad) → IfSome why (λ bad. placed 0 (stands_at files kept result) ≡ Err bad)
refused_stands files kept result None is = tt
refused_stands files kept (Ok scale) (Some bad) is = cc
refused_stands files kept (Err code) (Some bad) is = let same : bad_at code 0 ≡ bad = cc in ap (λ (b : Bad). Err b) same

pub added_refused : {M : Type 0} → ColumnsAreKept → (choice : Choice) (movie other : PlacedMovie) (back : M) (fail : Fail) → AreParts movie → AreParts other
    → IfSome (refusal fail) (λ bad. placed 0 (added_scale movie other (kept_chosen choice other.tracks)) ≡ Err bad) → Adds {A = Unit {0}} {E = Fail × M} Why choice other movie movie (Err (fail, back))
added_refused law choice movie other back fail h g is = record {
  gives = λ files hold held.
      subst (λ (r : Result MovieRecord Code). IfSome (refusal fail) (λ bad. placed 0 r ≡ Err bad)) (sym (added_stands law files choice movie other h.columns g.columns hold held))
      (refused_stands files (kept_joined movie other (kept_chosen choice other.tracks) (given movie (kept_chosen choice other.tracks))) (added_scale movie other (kept_chosen choice other.tracks)) (refusal fail) is);
  held = λ sizes hold held. hold;
  same = refl;
}

-- ---- by what was read of the two movies

-- the numbers behind the own ones
abbrev pub behind : List ℕ → List PlacedTrack → List ℕ
behind all own = take (length all - length own) (drop (length own) all)

pub behind_told : (movie : PlacedMovie) (tracks : List PlacedTrack) (scale : ℕ) (all read : List ℕ) (own : List PlacedTrack) → read ≡ all → own ≡ movie.tracks → IsPlan movie tracks scale all → behind read own ≡ given movie tracks
behind_told movie tracks scale all read own p q plan =
    rw (p, q) (take_all (length all - length movie.tracks) (drop (length movie.tracks) all) (omega (arith, length-drop (length movie.tracks) all)) ∙ given_behind movie tracks scale (length movie.tracks) all plan refl)

pub many_told : (movie : PlacedMovie) (tracks : List PlacedTrack) (scale : ℕ) (all read : List ℕ) (own : List PlacedTrack) → read ≡ all → own ≡ movie.tracks → IsPlan movie tracks scale all → length (behind read own) ≡ length tracks
many_told movie tracks scale all read own p q plan = ap length (behind_told movie tracks scale all read own p q plan) ∙ given_many movie tracks

pub own_told : (movie other parts : PlacedMovie) (tracks : List PlacedTrack) (scale : ℕ) → parts ≡ movie → placed 0 (added_scale movie other tracks) ≡ Ok scale → All (λ track. All (CanLast parts.scale scale) (segments_in track.edits)) parts.tracks
own_told movie other parts tracks scale p found =
    subst (λ (m : PlacedMovie). All (λ track. All (CanLast m.scale scale) (segments_in track.edits)) m.tracks) (sym p) (joined_short movie other tracks (given movie tracks) scale (plan_fits movie other tracks scale found)).0

pub others_told : (movie other : PlacedMovie) (tracks : List PlacedTrack) (scale : ℕ) (all read : List ℕ) (own : List PlacedTrack) → read ≡ all → own ≡ movie.tracks → IsPlan movie tracks scale all → placed 0 (added_scale movie other tracks) ≡ Ok scale
    → All (λ track. All (CanLast other.scale scale) (segments_in track.edits)) (kept_renumbered (behind read own) tracks)
others_told movie other tracks scale all read own p q plan found =
    subst (λ (numbers : List ℕ). All (λ track. All (CanLast other.scale scale) (segments_in track.edits)) (kept_renumbered numbers tracks)) (sym (behind_told movie tracks scale all read own p q plan))
    (joined_short movie other tracks (given movie tracks) scale (plan_fits movie other tracks scale found)).1

pub joined_told : (movie other parts new : PlacedMovie) (tracks : List PlacedTrack) (scale : ℕ) (all read : List ℕ) (own : List PlacedTrack) → parts ≡ movie → read ≡ all → own ≡ movie.tracks → IsPlan movie tracks scale all
    → new ≡ kept_joined parts other tracks (behind read own) scale → new ≡ kept_joined movie other tracks (given movie tracks) scale
joined_told movie other parts new tracks scale all read own r p q plan is =
    is ∙ (ap (λ (m : PlacedMovie). kept_joined m other tracks (behind read own) scale) r ∙ ap (λ (numbers : List ℕ). kept_joined movie other tracks numbers scale) (behind_told movie tracks scale all read own p q plan))

pub whole_told : (movie other new : PlacedMovie) (choice : Choice) (scale : ℕ) (all : List ℕ) → AreParts movie → AreParts other → scale < 2 ^ 32 → IsPlan movie (kept_chosen choice other.tracks) scale all
    → new ≡ kept_joined movie other (kept_chosen choice other.tracks) (given movie (kept_chosen choice other.tracks)) scale → AreParts new
whole_told movie other new choice scale all h g short plan is = subst AreParts (sym is) (parts_joined movie other choice scale h g plan.some short plan.below)

pub fits_told : (movie other new : PlacedMovie) (tracks : List PlacedTrack) (scale : ℕ) → placed 0 (added_scale movie other tracks) ≡ Ok scale → new ≡ kept_joined movie other tracks (given movie tracks) scale → first_limit new ≡ None
fits_told movie other new tracks scale found is = subst (λ (m : PlacedMovie). first_limit m ≡ None) (sym is) (plan_fits movie other tracks scale found)
