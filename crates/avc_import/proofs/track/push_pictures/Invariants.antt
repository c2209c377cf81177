use Rattle.std.proofs.Common.{◌≡◌, ℕ, Option, length, drop}
use Rattle.mp_movie.specs.WholeParts.{AreColumns}
use Rattle.avc_import.specs.declared.rate.Rate.{Rate}
use Rattle.avc_import.specs.Film.{Film, schedule}
use Rattle.avc_import.specs.Movie.{AreShots}
use Rattle.avc_import.specs.Places.{with_parts}
use Rattle.avc_import.proofs.track.push_pictures.Given as goal

-- with the pictures that are left the track is the whole one
abbrev pub invariant-loop-k : goal.invariant-loop-k
invariant-loop-k l = record {
  number : length l.track.deltas ≡ l.k;
  entry : length l.track.entries ≡ 1;
  columns : AreColumns l.track;
  rest : (file size : ℕ) (rate : Option Rate) (film : Film) → AreShots file size rate film l.shots
      → with_parts file film (schedule rate film) l.k (drop l.k film.parts) l.track ≡ with_parts file film (schedule rate film) 0 film.parts l.initial.track;
}
