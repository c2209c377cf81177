-- Where no check of a movie box fails, each sample ends in the file.
use Rattle.std.proofs.Common.{◌≡◌, ℕ, Bool, true, false, List, [], ◌∷◌, ◌++◌, map, Option, Some, None, Ok, refl}
use Rattle.std.specs.List.{AllByRecursion, list_any}
use Rattle.mp_ports.specs.declared.code.Code.TheVariants.{SampleOutside}
use Rattle.mp_ports.specs.declared.fault.Bad.{Bad}
use Rattle.mp_ports.specs.Checks.{fault_at, first_code, first_some, unless}
use Rattle.mp_boxes.specs.Boxes.{Box}
use Rattle.mp_chunks.specs.Places.{is_outside}
use Rattle.mp_chunks.specs.Samples.{chunks_fault_of, outside_fault, samples_by}
use Rattle.mp_movie.specs.Present.{movie_checks, movie_fault, traks_in}
use Rattle.mp_movie.specs.SampleTable.{bodies_in, count_in, places_fault}
use Rattle.mp_movie.specs.TrackBoxes.{TrackBoxes, boxes_of}
use Rattle.mp_movie.specs.Tracks.{track_checks, track_fault, tracks_fault}
use Rattle.mp_read.specs.Columns.{columns_in, marks_fault}
use Rattle.mp_read.specs.Movie.{MovieTablesRecord, movie_tables}
use Rattle.mp_read.specs.Track.{LiesInFile, tables_of}

-- where none of some checks fails, each holds
pub all_hold : (checks : List (Option Bad)) → first_some checks ≡ None → AllByRecursion (λ check. check ≡ None) checks
all_hold [] e = tt
all_hold (None ∷ checks) e = (refl, all_hold checks e)
all_hold (Some bad ∷ checks) e = absurd cc

not_outside : (place : ℕ) (outside : Bool) → fault_at place (first_code ((outside, SampleOutside) ∷ [])) ≡ None → outside ≡ false
not_outside place true e = absurd cc
not_outside place false e = refl

samples_inside : (entries size : ℕ) (boxes : TrackBoxes) → places_fault entries size boxes ≡ None → list_any (is_outside size) (samples_by (bodies_in boxes)) ≡ false
unfolding places_fault
samples_inside entries size boxes e =
    let bodies = bodies_in boxes in
    let chunks = chunks_fault_of entries boxes.stsc.place boxes.places.place bodies in
    let marks = marks_fault (count_in boxes) boxes.stss in
    let outside = fault_at boxes.places.place (outside_fault size (samples_by bodies)) in
    not_outside boxes.places.place (list_any (is_outside size) (samples_by bodies)) (all_hold (chunks ∷ marks ∷ outside ∷ []) e).1.1.0

track_inside : (size : ℕ) (earlier : List Box) (trak : Box) → track_fault size earlier trak ≡ None → LiesInFile size (tables_of trak)
unfolding track_fault tables_of columns_in
track_inside size earlier trak e = record {
  samples = samples_by (bodies_in (boxes_of trak));
  places = refl;
  inside = samples_inside _ size (boxes_of trak) (all_hold (track_checks size earlier trak) e).1.1.1.1.1.1.1.1.1.1.1.1.1.1.1.1.1.1.1.1.1.0;
}

tracks_inside : (size : ℕ) (earlier traks : List Box) → tracks_fault size earlier traks ≡ None → AllByRecursion (LiesInFile size) (map tables_of traks)
unfolding tracks_fault
tracks_inside size earlier [] e = tt
tracks_inside size earlier (trak ∷ traks) e = let each = all_hold (track_fault size earlier trak ∷ tracks_fault size (earlier ++ trak ∷ []) traks ∷ []) e in (track_inside size earlier trak each.0, tracks_inside size (earlier ++ trak ∷ []) traks each.1.0)

pub movie_inside : (size : ℕ) (moov : Box) (movie : MovieTablesRecord) → unless (movie_fault size moov) (movie_tables moov) ≡ Ok movie → AllByRecursion (LiesInFile size) movie.tracks
unfolding movie_fault movie_tables
movie_inside size moov movie e = by (movie_fault size moov) refl e
  where
    by : (fault : Option Bad) → movie_fault size moov ≡ fault → unless fault (movie_tables moov) ≡ Ok movie → AllByRecursion (LiesInFile size) movie.tracks
    by None f same =
        let is : movie_tables moov ≡ movie = cc in
        rw (← is) (tracks_inside size [] (traks_in moov) (all_hold (movie_checks size moov) f).1.1.1.1.1.1.1.0)
    by (Some bad) f same = absurd cc
