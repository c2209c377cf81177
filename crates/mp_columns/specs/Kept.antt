-- How a column of runs is kept: of each run where it ends and its value, and at every sixteenth run the sum of the items before it.
use Rattle.std.specs.Prelude.{◌≡◌, ◌≢◌, ℕ, ◌+◌, ◌-◌, ◌*◌, ◌/◌, ◌^◌, ◌<◌, ◌≤◌, List, [], ◌∷◌, ◌++◌, length, replicate, take, slice_index_or, neg_ℤ, Option, Some, None, ℤ, pos, ◌≤ℤ◌}
use Rattle.mp_columns.specs.declared.columns.TheConstants.{MOST_ITEMS}
use Rattle.mp_columns.specs.declared.kept.Kept.{Kept}
use Rattle.mp_columns.specs.Numbers.{total}

-- the items of runs, the first of which begins behind so many items, by where each run ends and by its value
abbrev pub items_from : ℕ → List ℕ → List ℤ → List ℤ
items_from start [] values = []
items_from start (end ∷ ends) [] = []
items_from start (end ∷ ends) (value ∷ values) = replicate (end - start) value ++ items_from end ends values

-- where a run ends, and where it begins
abbrev pub end_at : List ℕ → ℕ → ℕ
end_at ends run = slice_index_or ends run 0

abbrev pub start_at : List ℕ → ℕ → ℕ
start_at ends run = slice_index_or (0 ∷ ends) run 0

-- the value of a run
abbrev pub value_at : List ℤ → ℕ → ℤ
value_at values run = slice_index_or values run (pos 0)

-- a run may follow: it has items, and its value is another than that of the run before it
pub record IsNextKept (start : ℕ) (before : Option ℤ) (end : ℕ) (value : ℤ) : Type 0 where
  pub longer : start < end
  pub other : before ≢ Some value

-- runs, each of which may follow the one before it
abbrev pub AreKept : ℕ → Option ℤ → List ℕ → List ℤ → Type 0
AreKept start before [] [] = Unit {0}
AreKept start before [] (value ∷ values) = ⊥
AreKept start before (end ∷ ends) [] = ⊥
AreKept start before (end ∷ ends) (value ∷ values) = IsNextKept start before end value × AreKept end (Some value) ends values

-- longest runs
abbrev pub AreLongest : List ℕ → List ℤ → Type 0
AreLongest ends values = AreKept 0 None ends values

-- the sum of the first items
pub record IsSum (items : List ℤ) (count : ℕ) (sum : ℤ) : Type 0 where
  pub is : sum ≡ total (take count items)
  pub low : neg_ℤ (pos (2 ^ 63 * count)) ≤ℤ sum
  pub high : sum ≤ℤ pos (2 ^ 63 * count)

-- the sums that stand at every sixteenth of so many runs
pub record AreSums (runs : ℕ) (ends : List ℕ) (items sums : List ℤ) : Type 0 where
  pub count : length sums ≡ (runs + 15) / 16
  pub each : (at : ℕ) → at < length sums → IsSum items (start_at ends (16 * at)) (slice_index_or sums at (pos 0))

-- all items
abbrev pub all_items : List ℕ → List ℤ → List ℤ
all_items ends values = items_from 0 ends values

-- what is kept is a column
pub record IsColumn (ends : List ℕ) (values kept : List ℤ) : Type 0 where
  pub longest : AreLongest ends values
  pub few : length (all_items ends values) ≤ MOST_ITEMS
  pub sums : AreSums (length ends) ends (all_items ends values) kept

-- the items of what is kept, and that it is a column
abbrev pub listed : Kept → List ℤ
listed kept = all_items kept.ends.items kept.values.items

abbrev pub Stands : Kept → Type 0
Stands kept = IsColumn kept.ends.items kept.values.items kept.sums.items

-- what is kept are the longest runs of these items, and the column of these items
abbrev pub AreRunsOf : List ℤ → Kept → Type 0
AreRunsOf items kept = AreLongest kept.ends.items kept.values.items × (listed kept ≡ items)

abbrev pub IsColumnOf : List ℤ → Kept → Type 0
IsColumnOf items kept = Stands kept × (listed kept ≡ items)

-- each run has an item, and item `i` stands in one of them
pub record CanFind (ends : List ℕ) (i : ℕ) : Type 0 where
  pub rising : (run : ℕ) → run < length ends → start_at ends run < end_at ends run
  pub inside : i < start_at ends (length ends)
