-- Runs: equal numbers in a row.
use Rattle.std.specs.Prelude.{◌≡◌, ℕ, ◌+◌, ◌-◌, ◌<◌, ◌≤◌, List, ◌++◌, length, map, option_to_list, take, drop, replicate, sum_by, slice_index_or, ℤ, pos, Option, Some, None}
use Rattle.std.specs.Ordering.{int_eq}
use Rattle.mp_columns.specs.declared.run.Run.{Run}
use Rattle.mp_columns.specs.Stretch.{Stretch, count_of, stretches}

-- the items from `from` up to `to` are the run, and it ends before another item, or with the list
pub record IsLongestRun (items : List ℤ) (from to : ℕ) (run : Run) : Type 0 where
  pub some : 0 < run.count
  pub end : to ≡ from + run.count
  pub inside : to ≤ length items
  pub equal : drop from items ≡ replicate run.count run.value ++ drop to items
  pub other : to < length items → slice_index_or items to (pos 0) ≡ run.value → ⊥

-- the longest run that begins at `from`, and ends at `to`; none where the list ends there
abbrev pub IsNextRun : List ℤ → ℕ → ℕ → Option Run → Type 0
IsNextRun items from to (Some run) = IsLongestRun items from to run
IsNextRun items from to None = (from ≡ length items) × (to ≡ from)

-- the longest runs of a list
abbrev pub runs : List ℤ → List (Stretch ℤ)
runs items = stretches int_eq items

-- the items of a run
abbrev pub stretch_of : Run → Stretch ℤ
stretch_of run = record { first = run.value; others = replicate (run.count - 1) run.value }

-- the run, where there is one, is the first of those that are left
abbrev pub IsFirstRun : List ℤ → ℕ → ℕ → Option Run → Type 0
IsFirstRun items from to run = runs (drop from items) ≡ map stretch_of (option_to_list run) ++ runs (drop to items)

-- the run before which there are so many holds the item before which there are so many
pub record HoldsItem (items : List ℤ) (run i : ℕ) : Type 0 where
  pub inside : run < length (runs items)
  pub begun : sum_by count_of (take run (runs items)) ≤ i
  pub holds : i < sum_by count_of (take (run + 1) (runs items))
