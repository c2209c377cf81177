-- What tracks stand for, where their numbers, heads and edits change.
use Rattle.std.proofs.Common.{◌≡◌, ℕ, ◌||◌, Bool, ◌==◌, List, [], ◌∷◌, map, Option, refl, ap}
use Rattle.mp_timeline.specs.declared.segment.Segment.{Segment}
use Rattle.mp_timeline.specs.Movie.{TrackHeadRecord, TrackRecord}
use Rattle.mp_movie.specs.Placed.{PlacedTrack}
use Rattle.mp_movie.specs.StandsFor.{sample_at, samples_of, track_for}
use Rattle.track_ops.specs.Kept.{has_number}
use Rattle.track_ops.specs.Numbers.{is_taken, numbers_of}

-- samples know nothing of numbers, heads, scales and edits
pub stands_changed : (files : List (List ℕ)) (track : PlacedTrack) (number scale : ℕ) (head : TrackHeadRecord) (edits : Option (List Segment))
    → track_for files (record track { number = number; head = head; scale = scale; edits = edits }) ≡ record (track_for files track) { number = number; head = head; scale = scale; edits = edits }
unfolding samples_of sample_at
stands_changed files track number scale head edits = refl

-- the numbers are the same
pub numbers_stand : (files : List (List ℕ)) (tracks : List PlacedTrack) → map (λ (t : TrackRecord). t.number) (map (track_for files) tracks) ≡ map (λ (t : PlacedTrack). t.number) tracks
numbers_stand files [] = refl
numbers_stand files (track ∷ tracks) = ap (λ (numbers : List ℕ). track.number ∷ numbers) (numbers_stand files tracks)

-- one of the tracks has the number exactly where one of what they stand for has it
pub taken : (files : List (List ℕ)) (tracks : List PlacedTrack) (number : ℕ) → is_taken (numbers_of (map (track_for files) tracks)) number ≡ has_number number tracks
taken files [] number = refl
taken files (track ∷ tracks) number = ap (λ (more : Bool). (track.number == number) || more) (taken files tracks number)
