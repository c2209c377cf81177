-- The order in which pictures are shown, by their counts and the marks of IDR pictures: one number for each picture, where `Sequence`,
-- `Ranks` and `Delay` of the pictures' order say what it is (this project's own; the counts are those of H.264, 8.2.1).
use Rattle.std.specs.Prelude.{ℕ, zero, suc, ℤ, ◌+◌, ◌-◌, max, Bool, true, false, if◌then◌else◌, List, [], ◌∷◌, drop, Option, Some, None}
use Rattle.std.specs.List.{list_any}
use Rattle.std.specs.Ordering.{int_eq}
use Rattle.avc_order.specs.Sequence.{is_sync}
use Rattle.avc_order.specs.Ranks.{lower, count_at, counts_in}

-- the picture with which the sequence of a picture begins
abbrev pub begin_of : List Bool → ℕ → ℕ
begin_of syncs zero = 0
begin_of syncs (suc k) = if is_sync syncs (suc k) then suc k else begin_of syncs k

-- how many pictures stand in front of the next sync picture
abbrev pub others : List Bool → ℕ
others [] = 0
others (true ∷ syncs) = 0
others (false ∷ syncs) = suc (others syncs)

-- the picture before which the sequence of a picture ends
abbrev pub end_of : List Bool → ℕ → ℕ
end_of syncs k = k + 1 + others (drop (k + 1) syncs)

-- how many pictures of its sequence have a lower count
unfoldable pub rank_of : List ℤ → List Bool → ℕ → ℕ
rank_of counts syncs k = lower (count_at counts k) (counts_in counts (begin_of syncs k) (end_of syncs k))

-- its number in the order of showing
unfoldable pub shown_at : List ℤ → List Bool → ℕ → ℕ
shown_at counts syncs k = begin_of syncs k + rank_of counts syncs k

-- by how many pictures the first k are at most decoded behind their places in the order of showing
abbrev pub latest : List ℤ → List Bool → ℕ → ℕ
latest counts syncs zero = 0
latest counts syncs (suc k) = max (latest counts syncs k) (k - shown_at counts syncs k)

-- the count of a picture is that of an earlier one of its sequence
abbrev pub is_tied : List ℤ → List Bool → ℕ → Bool
is_tied counts syncs k = list_any (int_eq (count_at counts k)) (counts_in counts (begin_of syncs k) k)

-- an earlier one, or this one
abbrev pub or_tie : Option ℕ → Bool → ℕ → Option ℕ
or_tie (Some earlier) tied k = Some earlier
or_tie None tied k = if tied then Some k else None

-- the first of the first k pictures of which that holds
abbrev pub first_tie : List ℤ → List Bool → ℕ → Option ℕ
first_tie counts syncs zero = None
first_tie counts syncs (suc k) = or_tie (first_tie counts syncs k) (is_tied counts syncs k) k
