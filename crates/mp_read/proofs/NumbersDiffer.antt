-- The numbers of tracks of which no check fails are distinct.
use Rattle.std.proofs.Common.{◌≡◌, ◌≢◌, ℕ, ◌≤◌, Bool, true, false, ◌||◌, List, [], ◌∷◌, ◌++◌, map, None, refl, subst, append_assoc, arith}
use Rattle.std.specs.Prelude.{◌==◌}
use Rattle.std.specs.List.{AllByRecursion, list_any}
use Rattle.mp_ports.specs.declared.code.Code.TheVariants.{TrackId}
use Rattle.mp_ports.specs.Checks.{fault_at, first_code}
use Rattle.mp_boxes.specs.Boxes.{Box}
use Rattle.mp_movie.specs.TrackBoxes.{TrackBoxes, boxes_of}
use Rattle.mp_movie.specs.Tracks.{has_own_number, number_in, track_fault, tracks_fault}
use Rattle.mp_movie.specs.WellFormed.{AreDistinct}
use Rattle.mp_read.proofs.TracksPass.{track_passes}
use Rattle.mp_read.proofs.WithinFile.{all_hold}

number_of : Box → ℕ
number_of trak = number_in (boxes_of trak)

two_tests : (place : ℕ) (a b : Bool) → fault_at place (first_code ((a, TrackId) ∷ (b, TrackId) ∷ [])) ≡ None → (a ≡ false) × (b ≡ false)
two_tests place true b e = absurd cc
two_tests place false true e = absurd cc
two_tests place false false e = (refl, refl)

not_zero : (n : ℕ) → (n == 0) ≡ false → 1 ≤ n
not_zero n e = grind arith

pub some_number : (earlier : List Box) (boxes : TrackBoxes) → has_own_number earlier boxes ≡ None → 1 ≤ number_in boxes
some_number earlier boxes e = not_zero (number_in boxes) (two_tests boxes.tkhd.place (number_in boxes == 0) _ e).0

neither : (a b : Bool) → (a || b) ≡ false → (a ≡ false) × (b ≡ false)
neither true b e = (cc, cc)
neither false b e = (refl, e)

this_fails : {A : Type 0} (test : A → Bool) (before : List A) (x : A) (after : List A) → list_any test (before ++ x ∷ after) ≡ false → test x ≡ false
this_fails test [] x after e = (neither (test x) (list_any test after) e).0
this_fails test (y ∷ before) x after e = this_fails test before x after (neither (test y) (list_any test (before ++ x ∷ after)) e).1

differ : (a b : ℕ) → (a == b) ≡ false → b ≢ a
differ a b e same = grind (arith, same)

others_differ : (size : ℕ) (before : List Box) (trak : Box) (after traks : List Box) → tracks_fault size (before ++ trak ∷ after) traks ≡ None
    → AllByRecursion (λ number. number ≢ number_in (boxes_of trak)) (map (λ other. number_in (boxes_of other)) traks)
unfolding tracks_fault
others_differ size before trak after [] e = tt
others_differ size before trak after (next ∷ traks) e =
    let earlier = before ++ trak ∷ after in
    let each = all_hold (track_fault size earlier next ∷ tracks_fault size (earlier ++ next ∷ []) traks ∷ []) e in
    let own = (track_passes size earlier next each.0).number in
    let fails = (two_tests (boxes_of next).tkhd.place (number_in (boxes_of next) == 0) (list_any (λ other. number_in (boxes_of other) == number_in (boxes_of next)) earlier) own).1 in (
      differ (number_in (boxes_of trak)) (number_in (boxes_of next)) (this_fails (λ other. number_in (boxes_of other) == number_in (boxes_of next)) before trak after fails),
      others_differ size before trak (after ++ next ∷ []) traks (subst (λ (boxes : List Box). tracks_fault size boxes traks ≡ None) (append_assoc before (trak ∷ after) (next ∷ [])) each.1.0),
    )

pub numbers_differ : (size : ℕ) (earlier traks : List Box) → tracks_fault size earlier traks ≡ None → AreDistinct (map (λ trak. number_in (boxes_of trak)) traks)
unfolding tracks_fault
numbers_differ size earlier [] e = tt
numbers_differ size earlier (trak ∷ traks) e =
    let each = all_hold (track_fault size earlier trak ∷ tracks_fault size (earlier ++ trak ∷ []) traks ∷ []) e in
    (others_differ size earlier trak [] traks each.1.0, numbers_differ size (earlier ++ trak ∷ []) traks each.1.0)
