-- The loop over the tracks of a movie: the texts of them, for files that hold their pieces.
use Rattle.std.proofs.Common.{◌≡◌, ℕ, zero, suc, ◌+◌, ◌<◌, ◌≤◌, List, [], ◌∷◌, ◌++◌, length, map, drop, get_or, refl, sym, ap, ◌∙◌, arith, subst}
use Rattle.std.specs.Prelude.{All}
use Rattle.std.specs.List.{AllByRecursion}
use Rattle.std.proofs.lemmas.List.{drop_all, get_or-map, length-map}
use Rattle.mp_timeline.specs.Movie.{TrackRecord}
use Rattle.mp_movie.specs.Placed.{PlacedTrack, PlacedMovie}
use Rattle.mp_movie.specs.StandsFor.{Hold, HoldTrack, track_for}
use Rattle.mp_dump.specs.Track.{IsTold}
use Rattle.mp_dump.proofs.Chains.{one_more}

-- before so many tracks: what is written of them
pub record AreToldOf (F : ℕ → List TrackRecord → List ℕ) (movie : PlacedMovie) (tracks : List PlacedTrack) (index : ℕ) (written start : List ℕ) : Type 0 where
  pub same : tracks ≡ movie.tracks
  pub told : All IsTold tracks
  pub text : (files : List (List ℕ)) → Hold (map length files) movie
      → written ++ F index (drop index (map (track_for files) tracks)) ≡ start ++ F 0 (map (track_for files) tracks)

pub none_told : (F : ℕ → List TrackRecord → List ℕ) (movie : PlacedMovie) (tracks : List PlacedTrack) (start : List ℕ) → tracks ≡ movie.tracks → All IsTold tracks
    → AreToldOf F movie tracks 0 start start
none_told F movie tracks start same told = record { same = same; told = told; text = λ files held. refl }

records_len : (files : List (List ℕ)) (tracks : List PlacedTrack) → length (map (track_for files) tracks) ≡ length tracks
records_len files tracks = length-map tracks (track_for files)

held_at : (sizes : List ℕ) (tracks : List PlacedTrack) (i : ℕ) (d : PlacedTrack) → AllByRecursion (HoldTrack sizes) tracks → i < length tracks → HoldTrack sizes (get_or tracks i d)
held_at sizes [] i d held lt = absurd (omega arith)
held_at sizes (track ∷ tracks) zero d held lt = held.0
held_at sizes (track ∷ tracks) (suc i) d held lt = held_at sizes tracks i d held.1 (omega arith)

-- one more
pub track_told : (F : ℕ → List TrackRecord → List ℕ) (text : ℕ → TrackRecord → List ℕ) → ((n : ℕ) (track : TrackRecord) (rest : List TrackRecord) → F n (track ∷ rest) ≡ text n track ++ F (n + 1) rest)
    → (movie : PlacedMovie) (tracks : List PlacedTrack) (index : ℕ) (track : PlacedTrack) (written new start : List ℕ) → index < length tracks → get_or tracks index track ≡ track
    → ((files : List (List ℕ)) → HoldTrack (map length files) track → new ≡ written ++ text index (track_for files track))
    → AreToldOf F movie tracks index written start → AreToldOf F movie tracks (index + 1) new start
track_told F text first movie tracks index track written new start lt is e w = record {
  same = w.same;
  told = w.told;
  text = λ files held.
      let sizes = map length files in
      let all_held = subst (λ (all : List PlacedTrack). AllByRecursion (HoldTrack sizes) all) (sym w.same) held in
      let one_held = subst (HoldTrack sizes) is (held_at sizes tracks index track all_held lt) in
      one_more F (text index (track_for files track)) (map (track_for files) tracks) index (track_for files track) written new (start ++ F 0 (map (track_for files) tracks))
      (omega (arith, lt, records_len files tracks))
      (λ rest. ap (λ (t : TrackRecord). F index (t ∷ rest)) (get_or-map (track_for files) tracks index track (track_for files track) lt ∙ ap (track_for files) is) ∙ first index (track_for files track) rest)
      (e files one_held)
      (w.text files held);
}

-- all of them
pub all_told : (F : ℕ → List TrackRecord → List ℕ) (movie : PlacedMovie) (tracks : List PlacedTrack) (index : ℕ) (written start : List ℕ) → length tracks ≤ index
    → AreToldOf F movie tracks index written start → (files : List (List ℕ)) → Hold (map length files) movie → written ++ F index [] ≡ start ++ F 0 (map (track_for files) movie.tracks)
all_told F movie tracks index written start past w files held =
    ap (λ (rest : List TrackRecord). written ++ F index rest) (sym (drop_all index (map (track_for files) tracks) (omega (arith, past, records_len files tracks))))
    ∙ (w.text files held ∙ ap (λ (all : List PlacedTrack). start ++ F 0 (map (track_for files) all)) w.same)
