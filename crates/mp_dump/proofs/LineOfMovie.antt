-- The line of a movie.
use Rattle.std.proofs.Common.{◌≡◌, ℕ, List, ◌++◌, length, sym, ap, ◌∙◌, codes}
use Rattle.std.proofs.lemmas.List.{length-map}
use Rattle.mp_movie.specs.Durations.{movie_duration}
use Rattle.mp_movie.specs.Placed.{PlacedMovie}
use Rattle.mp_movie.specs.StandsFor.{stands_for, track_for}
use Rattle.mp_dump.specs.Info.{movie_line}
use Rattle.mp_dump.specs.Words.{field}
use Rattle.mp_dump.proofs.Chains.{behind}

pub line_of_movie : (files : List (List ℕ)) (movie : PlacedMovie) (scale duration count : ℕ) (old a b c new : List ℕ) → scale ≡ movie.scale → duration ≡ movie_duration (stands_for files movie)
    → count ≡ length movie.tracks → a ≡ old ++ field (codes "movie scale ") scale → b ≡ a ++ field (codes " duration ") duration → c ≡ b ++ field (codes " tracks ") count
    → new ≡ c ++ codes "\n" → new ≡ old ++ movie_line (stands_for files movie)
unfolding movie_line
line_of_movie files movie scale duration count old a b c new s d n h1 h2 h3 h4 =
    let whole = stands_for files movie in
    let count_is : count ≡ length whole.tracks = n ∙ sym (length-map movie.tracks (track_for files)) in
    let g1 : a ≡ old ++ field (codes "movie scale ") movie.scale = h1 ∙ ap (λ (x : ℕ). old ++ field (codes "movie scale ") x) s in
    let g2 : b ≡ a ++ field (codes " duration ") (movie_duration whole) = h2 ∙ ap (λ (x : ℕ). a ++ field (codes " duration ") x) d in
    let g3 : c ≡ b ++ field (codes " tracks ") (length whole.tracks) = h3 ∙ ap (λ (x : ℕ). b ++ field (codes " tracks ") x) count_is in
    behind old c new _ _ (behind old b c _ _ (behind old a b _ _ g1 g2) g3) h4
