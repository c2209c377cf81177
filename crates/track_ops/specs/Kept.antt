-- The same commands on tracks as they are kept.
use Rattle.std.specs.Prelude.{ℕ, Bool, not, ◌==◌, List, [], ◌∷◌, ◌++◌, map, option_map, Result, Ok, Err, if◌then◌else◌}
use Rattle.std.specs.List.{filter, flat_map, list_any}
use Rattle.mp_ports.specs.declared.code.Code.TheVariants.{IdLimit}
use Rattle.mp_ports.specs.declared.fault.Bad.{Bad}
use Rattle.mp_ports.specs.Checks.{bad_at}
use Rattle.mp_edits.specs.EditBox.{segments_in}
use Rattle.mp_edits.specs.Segments.{duration, total}
use Rattle.mp_movie.specs.Placed.{PlacedTrack, PlacedMovie}
use Rattle.track_ops.specs.declared.chosen.Choice.{Choice}
use Rattle.track_ops.specs.declared.heads.HeadChange.{HeadChange}
use Rattle.track_ops.specs.Adding.{is_above, is_chosen, unless_empty}
use Rattle.track_ops.specs.Heads.{changed}
use Rattle.track_ops.specs.Scales.{lasting}

-- one of the tracks has that number
abbrev pub has_number : ℕ → List PlacedTrack → Bool
has_number number tracks = list_any (λ track. track.number == number) tracks

-- all tracks but that of the number
abbrev pub kept_without : ℕ → List PlacedTrack → List PlacedTrack
kept_without number tracks = filter (λ track. not (track.number == number)) tracks

-- the movie without the track of that number
abbrev pub kept_less : ℕ → PlacedMovie → PlacedMovie
kept_less number movie = record movie { tracks = kept_without number movie.tracks }

-- a track with a changed head
abbrev pub with_head : HeadChange → PlacedTrack → PlacedTrack
with_head change track = record track { head = changed change track.head }

-- the track of the number, with a changed head
abbrev pub with_head_at : ℕ → HeadChange → PlacedTrack → PlacedTrack
with_head_at number change track = if track.number == number then with_head change track else track

-- the tracks, the head of that of the number changed
abbrev pub kept_changed : ℕ → HeadChange → List PlacedTrack → List PlacedTrack
kept_changed number change tracks = map (with_head_at number change) tracks

-- the movie with a changed head of the track of that number
abbrev pub kept_headed : ℕ → HeadChange → PlacedMovie → PlacedMovie
kept_headed number change movie = record movie { tracks = kept_changed number change movie.tracks }

-- the numbers of tracks, in order
abbrev pub kept_numbers : List PlacedTrack → List ℕ
kept_numbers tracks = map (λ track. track.number) tracks

-- the chosen tracks, in order
abbrev pub kept_chosen : Choice → List PlacedTrack → List PlacedTrack
kept_chosen choice tracks = filter (λ track. is_chosen choice track.number track.head.handler) tracks

-- tracks with these numbers
abbrev pub kept_renumbered : List ℕ → List PlacedTrack → List PlacedTrack
kept_renumbered [] tracks = []
kept_renumbered (number ∷ numbers) [] = []
kept_renumbered (number ∷ numbers) (track ∷ tracks) = record track { number = number } ∷ kept_renumbered numbers tracks

-- a track in a movie of another scale
abbrev pub kept_in_scale : ℕ → ℕ → PlacedTrack → PlacedTrack
kept_in_scale old new track = record track { edits = option_map (map (lasting old new)) track.edits }

-- how long the segments of the tracks last, each
abbrev pub kept_durations : List PlacedTrack → List ℕ
kept_durations tracks = flat_map (λ track. map duration (segments_in track.edits)) tracks

-- how long the edits of a track last
abbrev pub lasts : PlacedTrack → ℕ
lasts track = total (segments_in track.edits)

-- the movie whose scale and head the joined one has
abbrev pub kept_lead : PlacedMovie → PlacedMovie → PlacedMovie
kept_lead movie other = unless_empty movie.tracks movie other

-- the tracks of the movie and then these of the other, with those numbers, in a movie of that scale
abbrev pub kept_joined : PlacedMovie → PlacedMovie → List PlacedTrack → List ℕ → ℕ → PlacedMovie
kept_joined movie other tracks numbers scale = record {
  scale = scale;
  head = (kept_lead movie other).head;
  tracks = map (kept_in_scale movie.scale scale) movie.tracks ++ map (kept_in_scale other.scale scale) (kept_renumbered numbers tracks);
}

-- numbers and those behind them, unless one of these is above 32 bits
abbrev pub numbered : List ℕ → List ℕ → Result (List ℕ) Bad
numbered numbers given = if list_any is_above given then Err (bad_at IdLimit 0) else Ok (numbers ++ given)
