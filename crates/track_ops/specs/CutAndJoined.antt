-- What a cut, and a movie that is joined behind, say of tracks and of each moment (this project's own).
use Rattle.std.specs.Prelude.{ℕ, ◌*◌, pos, ◌+ℤ◌, ◌-ℤ◌, ◌*ℤ◌, List, [], ◌∷◌, ◌++◌, map, bytes_eq, Option, Some, None, if◌then◌else◌}
use Rattle.std.specs.List.{find}
use Rattle.mp_frac.specs.declared.time.Frac.{Frac}
use Rattle.mp_frac.specs.Time.{in_ticks}
use Rattle.mp_timeline.specs.Movie.{MovieRecord}
use Rattle.mp_shown.specs.Fractions.{is_before}
use Rattle.track_ops.specs.Moments.{View, view_numbers, view_of}
use Rattle.track_ops.specs.Numbers.{numbers_for}

-- times together, and one less another
abbrev pub plus : Frac → Frac → Frac
plus a b = record { n = a.n *ℤ pos b.d +ℤ b.n *ℤ pos a.d; d = a.d * b.d }

abbrev pub minus : Frac → Frac → Frac
minus a b = record { n = a.n *ℤ pos b.d -ℤ b.n *ℤ pos a.d; d = a.d * b.d }

-- how long a track is shown of which only what lies in that range is left
abbrev pub cut_length : (from to length : Frac) → Frac
cut_length from to length = if is_before from length then minus (if is_before to length then to else length) from else in_ticks (pos 0) 1

-- from the start what was shown from the begin of the range on, up to its end
abbrev pub shown_cut : (from to : Frac) → View → View
shown_cut from to view = record view {
  length = cut_length from to view.length;
  show = λ moment. if is_before moment (minus to from) then view.show (plus from moment) else [];
}

-- so of each track
abbrev pub with_cut : (from to : Frac) → List View → List View
with_cut from to views = map (shown_cut from to) views

-- the greatest length, 0 where there is no track
abbrev pub longest : List View → Frac
longest [] = in_ticks (pos 0) 1
longest (view ∷ views) = if is_before view.length (longest views) then longest views else view.length

-- what it showed up to that time, and from then on what another does
abbrev pub shown_then : Frac → View → View → View
shown_then from view other = record view {
  length = plus from other.length;
  show = λ moment. if is_before moment from then view.show moment else other.show (minus moment from);
}

-- nothing up to that time, and from then on what it shows
abbrev pub shown_from : Frac → View → View
shown_from from view = record view {
  length = plus from view.length;
  show = λ moment. if is_before moment from then [] else view.show (minus moment from);
}

-- with the other one, where there is one
abbrev pub shown_with : Frac → View → Option View → View
shown_with from view None = view
shown_with from view (Some other) = shown_then from view other

-- all but the first of that handler
abbrev pub but_first : List ℕ → List View → List View
but_first handler [] = []
but_first handler (view ∷ views) = if bytes_eq view.handler handler then views else view ∷ but_first handler views

-- each view, and behind it that one of the others that is the first, the second, .. of its handler, as it is
abbrev pub with_pairs : Frac → List View → List View → List View
with_pairs from [] others = []
with_pairs from (view ∷ views) others =
    shown_with from view (find (λ other. bytes_eq other.handler view.handler) others) ∷ with_pairs from views (but_first view.handler others)

-- the others that have no pair
abbrev pub without_pair : List View → List View → List View
without_pair [] others = others
without_pair (view ∷ views) others = without_pair views (but_first view.handler others)

-- with these numbers
abbrev pub given_numbers : List ℕ → List View → List View
given_numbers [] views = []
given_numbers (number ∷ numbers) [] = []
given_numbers (number ∷ numbers) (view ∷ views) = record view { number = number } ∷ given_numbers numbers views

-- other tracks begin when the longest ends: in pairs by their handlers, and those without a pair behind all, with numbers as added ones get
abbrev pub joined_behind : List View → List View → List View
joined_behind others views =
    with_pairs (longest views) views others
    ++ map (shown_from (longest views)) (given_numbers (numbers_for (view_numbers views) (view_numbers (without_pair views others))) (without_pair views others))

-- and so the tracks of another movie do
abbrev pub with_joined : MovieRecord → List View → List View
with_joined other views = joined_behind (map (view_of other.scale) other.tracks) views
