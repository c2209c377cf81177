-- The numbers of tracks, and those that further tracks get (this project's own).
use Rattle.std.specs.Prelude.{ℕ, ◌+◌, Bool, ◌==◌, List, [], ◌∷◌, ◌++◌, map, if◌then◌else◌}
use Rattle.std.specs.List.{list_any}
use Rattle.mp_timeline.specs.Movie.{TrackRecord}
use Rattle.mp_movie.specs.Durations.{greatest}

-- the numbers of tracks, in order
abbrev pub numbers_of : List TrackRecord → List ℕ
numbers_of tracks = map (λ track. track.number) tracks

-- one of these is that number
abbrev pub is_taken : List ℕ → ℕ → Bool
is_taken numbers number = list_any (λ other. other == number) numbers

-- the number of a further track: its own where none has it, else one more than the greatest
abbrev pub number_for : List ℕ → ℕ → ℕ
number_for numbers number = if is_taken numbers number then greatest numbers + 1 else number

-- the numbers of further tracks: each by those that stand when its turn comes
abbrev pub numbers_for : List ℕ → List ℕ → List ℕ
numbers_for numbers [] = []
numbers_for numbers (number ∷ others) = number_for numbers number ∷ numbers_for (numbers ++ number_for numbers number ∷ []) others
