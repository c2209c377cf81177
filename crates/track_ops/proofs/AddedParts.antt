-- The parts of two movies together: they are well formed, and the limits that they pass are three.
use Rattle.std.proofs.Common.{◌≡◌, ◌≢◌, ℕ, ◌^◌, ◌<◌, ◌≤◌, Bool, false, List, [], ◌∷◌, ◌++◌, length, map, option_map, Option, Some, None, refl, sym, ap, ◌∙◌, subst, arith}
use Rattle.std.specs.List.{AllByRecursion, list_any, sum_by}
use Rattle.std.proofs.lemmas.List.{length-map, map-append}
use Rattle.std.proofs.lemmas.List.Sums.{sum_by-cons}
use Rattle.mp_timeline.specs.declared.segment.Segment.{Segment}
use Rattle.mp_movie.specs.Placed.{PlacedTrack, PlacedMovie}
use Rattle.mp_movie.specs.WellFormed.{AreDistinct, IsWellFormedTrack}
use Rattle.mp_movie.specs.WholeParts.{AreColumns, AreParts, bare_track}
use Rattle.track_ops.specs.declared.chosen.Choice.{Choice}
use Rattle.track_ops.specs.Adding.{is_above, is_chosen, unless_empty}
use Rattle.track_ops.specs.Kept.{kept_chosen, kept_in_scale, kept_joined, kept_lead, kept_numbers, kept_renumbered}
use Rattle.track_ops.specs.Numbers.{numbers_for}
use Rattle.track_ops.specs.Scales.{lasting}
use Rattle.track_ops.proofs.GivenNumbers.{all_below, all_distinct, all_some, as_many}
use Rattle.track_ops.proofs.JoinedScales.{all_joined}
use Rattle.track_ops.proofs.Lists.{all_filtered, all_kept, all_mapped}
use Rattle.track_ops.proofs.PartsStay.{columns_stay, numbers_distinct, parts_stay, track_stays}

-- ---- tracks in another scale, with other numbers

some_edits : (old new : ℕ) (edits : Option (List Segment)) → edits ≢ Some [] → option_map (map (lasting old new)) edits ≢ Some []
some_edits old new None some = λ same. cc
some_edits old new (Some []) some = absurd (some refl)
some_edits old new (Some (segment ∷ segments)) some = λ same. cc

pub formed_track : (before old new number : ℕ) (track : PlacedTrack) → 1 ≤ number → number < 2 ^ 32 → IsWellFormedTrack before (bare_track track)
    → IsWellFormedTrack new (bare_track (kept_in_scale old new (record track { number = number })))
formed_track before old new number track some below h =
    track_stays before new (bare_track track) number track.head.flags track.head.language track.scale (option_map (map (lasting old new)) track.edits) h some below h.header.flags h.media.language h.media.some_scale
    h.media.timescale (some_edits old new track.edits h.edits)

pub own_formed : (before old new : ℕ) (tracks : List PlacedTrack) → AllByRecursion (IsWellFormedTrack before) (map bare_track tracks) → AllByRecursion (IsWellFormedTrack new) (map bare_track (map (kept_in_scale old new) tracks))
own_formed before old new [] all = tt
own_formed before old new (track ∷ tracks) all = (formed_track before old new track.number track all.0.number all.0.header.number all.0, own_formed before old new tracks all.1)

new_formed : (before old new : ℕ) (numbers : List ℕ) (tracks : List PlacedTrack) → AllByRecursion (λ number. 1 ≤ number) numbers → AllByRecursion (λ number. number < 2 ^ 32) numbers
    → AllByRecursion (IsWellFormedTrack before) (map bare_track tracks) → AllByRecursion (IsWellFormedTrack new) (map bare_track (map (kept_in_scale old new) (kept_renumbered numbers tracks)))
new_formed before old new [] tracks some below all = tt
new_formed before old new (number ∷ numbers) [] some below all = tt
new_formed before old new (number ∷ numbers) (track ∷ tracks) some below all =
    (formed_track before old new number track some.0 below.0 all.0, new_formed before old new numbers tracks some.1 below.1 all.1)

pub own_columns : (old new : ℕ) (tracks : List PlacedTrack) → AllByRecursion AreColumns tracks → AllByRecursion AreColumns (map (kept_in_scale old new) tracks)
own_columns old new tracks all =
    all_mapped AreColumns AreColumns (kept_in_scale old new) (λ track h. columns_stay track track.number track.scale track.head (option_map (map (lasting old new)) track.edits) h) tracks all

new_columns : (numbers : List ℕ) (tracks : List PlacedTrack) → AllByRecursion AreColumns tracks → AllByRecursion AreColumns (kept_renumbered numbers tracks)
new_columns [] tracks all = tt
new_columns (number ∷ numbers) [] all = tt
new_columns (number ∷ numbers) (track ∷ tracks) all = (columns_stay track number track.scale track.head track.edits all.0, new_columns numbers tracks all.1)

pub columns_joined : (movie other : PlacedMovie) (tracks : List PlacedTrack) (numbers : List ℕ) (scale : ℕ) → AllByRecursion AreColumns movie.tracks → AllByRecursion AreColumns tracks
    → AllByRecursion AreColumns (kept_joined movie other tracks numbers scale).tracks
columns_joined movie other tracks numbers scale own others =
    all_joined AreColumns (map (kept_in_scale movie.scale scale) movie.tracks) _ (own_columns movie.scale scale movie.tracks own) (own_columns other.scale scale (kept_renumbered numbers tracks) (new_columns numbers tracks others))

pub own_numbers : (old new : ℕ) (tracks : List PlacedTrack) → kept_numbers (map (kept_in_scale old new) tracks) ≡ kept_numbers tracks
own_numbers old new [] = refl
own_numbers old new (track ∷ tracks) = ap (λ (numbers : List ℕ). track.number ∷ numbers) (own_numbers old new tracks)

new_numbers : (numbers : List ℕ) (tracks : List PlacedTrack) → length numbers ≡ length tracks → kept_numbers (kept_renumbered numbers tracks) ≡ numbers
new_numbers [] tracks same = refl
new_numbers (number ∷ numbers) [] same = absurd (omega (arith, same))
new_numbers (number ∷ numbers) (track ∷ tracks) same = ap (λ (all : List ℕ). number ∷ all) (new_numbers numbers tracks (omega (arith, same)))

numbers_some : (scale : ℕ) (tracks : List PlacedTrack) → AllByRecursion (IsWellFormedTrack scale) (map bare_track tracks) → AllByRecursion (λ number. 1 ≤ number) (kept_numbers tracks)
numbers_some scale [] all = tt
numbers_some scale (track ∷ tracks) all = (all.0.number, numbers_some scale tracks all.1)

numbers_many : (tracks : List PlacedTrack) → length (kept_numbers tracks) ≡ length tracks
numbers_many tracks = length-map tracks (λ (t : PlacedTrack). t.number)

lead_parts : (movie other : PlacedMovie) → AreParts movie → AreParts other → AreParts (kept_lead movie other)
lead_parts movie other h g = by movie.tracks
  where
    by : (tracks : List PlacedTrack) → AreParts (unless_empty tracks movie other)
    by [] = g
    by (track ∷ tracks) = h

-- ---- the movie

abbrev pub given : PlacedMovie → List PlacedTrack → List ℕ
given movie tracks = numbers_for (kept_numbers movie.tracks) (kept_numbers tracks)

pub parts_joined : (movie other : PlacedMovie) (choice : Choice) (scale : ℕ) → AreParts movie → AreParts other → 0 < scale → scale < 2 ^ 32 → list_any is_above (given movie (kept_chosen choice other.tracks)) ≡ false
    → AreParts (kept_joined movie other (kept_chosen choice other.tracks) (given movie (kept_chosen choice other.tracks)) scale)
parts_joined movie other choice scale h g some short below =
    parts_stay (kept_lead movie other) scale _ (lead_parts movie other h g) some short formed distinct
    (columns_joined movie other chosen numbers scale h.columns (all_filtered AreColumns test other.tracks g.columns))
  where
    test : PlacedTrack → Bool
    test track = is_chosen choice track.number track.head.handler

    chosen : List PlacedTrack
    chosen = kept_chosen choice other.tracks

    numbers : List ℕ
    numbers = given movie chosen

    chosen_formed : AllByRecursion (IsWellFormedTrack other.scale) (map bare_track chosen)
    chosen_formed = all_kept (IsWellFormedTrack other.scale) bare_track test other.tracks g.bare.tracks

    formed : AllByRecursion (IsWellFormedTrack scale) (map bare_track (map (kept_in_scale movie.scale scale) movie.tracks ++ map (kept_in_scale other.scale scale) (kept_renumbered numbers chosen)))
    formed =
        subst (AllByRecursion (IsWellFormedTrack scale)) (sym (map-append bare_track (map (kept_in_scale movie.scale scale) movie.tracks) (map (kept_in_scale other.scale scale) (kept_renumbered numbers chosen))))
        (all_joined (IsWellFormedTrack scale) (map bare_track (map (kept_in_scale movie.scale scale) movie.tracks)) _ (own_formed movie.scale movie.scale scale movie.tracks h.bare.tracks)
        (new_formed other.scale other.scale scale numbers chosen (all_some (kept_numbers movie.tracks) (kept_numbers chosen) (numbers_some other.scale chosen chosen_formed)) (all_below numbers below) chosen_formed))

    many : length numbers ≡ length chosen
    many = as_many (kept_numbers movie.tracks) (kept_numbers chosen) ∙ numbers_many chosen

    distinct : AreDistinct (kept_numbers (map (kept_in_scale movie.scale scale) movie.tracks ++ map (kept_in_scale other.scale scale) (kept_renumbered numbers chosen)))
    distinct =
        subst AreDistinct
        (sym (map-append (λ (t : PlacedTrack). t.number) (map (kept_in_scale movie.scale scale) movie.tracks) (map (kept_in_scale other.scale scale) (kept_renumbered numbers chosen))
        ∙ (ap (λ (front : List ℕ). front ++ kept_numbers (map (kept_in_scale other.scale scale) (kept_renumbered numbers chosen))) (own_numbers movie.scale scale movie.tracks)
        ∙ ap (λ (behind : List ℕ). kept_numbers movie.tracks ++ behind) (own_numbers other.scale scale (kept_renumbered numbers chosen) ∙ new_numbers numbers chosen many))))
        (all_distinct (kept_numbers movie.tracks) (kept_numbers chosen) (numbers_distinct movie h))

-- ---- the limits

-- tests that know nothing of numbers
pub any_renumbered : (test : PlacedTrack → Bool) → ((number : ℕ) (track : PlacedTrack) → test (record track { number = number }) ≡ test track) → (numbers : List ℕ) (tracks : List PlacedTrack) → length numbers ≡ length tracks
    → list_any test (kept_renumbered numbers tracks) ≡ list_any test tracks
any_renumbered test same [] [] long = refl
any_renumbered test same [] (track ∷ tracks) long = absurd (omega (arith, long))
any_renumbered test same (number ∷ numbers) [] long = absurd (omega (arith, long))
any_renumbered test same (number ∷ numbers) (track ∷ tracks) long = rw (same number track, any_renumbered test same numbers tracks (omega (arith, long))) refl

pub map_renumbered : {A : Type 0} (f : PlacedTrack → A) → ((number : ℕ) (track : PlacedTrack) → f (record track { number = number }) ≡ f track) → (numbers : List ℕ) (tracks : List PlacedTrack) → length numbers ≡ length tracks
    → map f (kept_renumbered numbers tracks) ≡ map f tracks
map_renumbered f same [] [] long = refl
map_renumbered f same [] (track ∷ tracks) long = absurd (omega (arith, long))
map_renumbered f same (number ∷ numbers) [] long = absurd (omega (arith, long))
map_renumbered {A = A} f same (number ∷ numbers) (track ∷ tracks) long = rw (same number track) (ap (λ (all : List A). f track ∷ all) (map_renumbered f same numbers tracks (omega (arith, long))))

pub sum_renumbered : (f : PlacedTrack → ℕ) → ((number : ℕ) (track : PlacedTrack) → f (record track { number = number }) ≡ f track) → (numbers : List ℕ) (tracks : List PlacedTrack) → length numbers ≡ length tracks
    → sum_by f (kept_renumbered numbers tracks) ≡ sum_by f tracks
sum_renumbered f same [] [] long = refl
sum_renumbered f same [] (track ∷ tracks) long = absurd (omega (arith, long))
sum_renumbered f same (number ∷ numbers) [] long = absurd (omega (arith, long))
sum_renumbered f same (number ∷ numbers) (track ∷ tracks) long =
    omega (
      arith,
      same number track,
      sum_renumbered f same numbers tracks (omega (arith, long)),
      sum_by-cons f track tracks,
      sum_by-cons f (record track { number = number }) (kept_renumbered numbers tracks),
    )

pub many_renumbered : (numbers : List ℕ) (tracks : List PlacedTrack) → length numbers ≡ length tracks → length (kept_renumbered numbers tracks) ≡ length tracks
many_renumbered [] [] long = refl
many_renumbered [] (track ∷ tracks) long = absurd (omega (arith, long))
many_renumbered (number ∷ numbers) [] long = absurd (omega (arith, long))
many_renumbered (number ∷ numbers) (track ∷ tracks) long = omega (arith, many_renumbered numbers tracks (omega (arith, long)))
