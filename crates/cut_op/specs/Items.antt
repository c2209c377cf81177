-- The items of a column that are read one after another.
use Rattle.std.specs.Prelude.{◌≡◌, ℕ, ◌+◌, ◌≤◌, ℤ, List, ◌++◌, length, drop, replicate}
use Rattle.mp_columns.specs.declared.run.Run.{Run}

-- behind `place` items, those that are left are those of the run that is read, and then those behind the cursor
pub record AreLeft (items : List ℤ) (place cursor : ℕ) (run : Run) : Type 0 where
  pub end : cursor ≡ place + run.count
  pub inside : cursor ≤ length items
  pub left : drop place items ≡ replicate run.count run.value ++ drop cursor items
