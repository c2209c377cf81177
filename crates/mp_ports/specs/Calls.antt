-- Calls of an object in memory: counted from 1, some of them bound to fail.
use Rattle.std.specs.Prelude.{ℕ, List, Contains}
use Rattle.mp_ports.specs.Count.{after_fault}

-- the calls so far, and the numbers of those that fail
pub record CallCount : Type 0 where
  pub count : ℕ
  pub failing : List ℕ

-- after one more call
abbrev pub called : CallCount → CallCount
called s = record s { count = after_fault s.count }

-- the number of the next call is one of those that fail
abbrev pub FailsNext : CallCount → Type 0
FailsNext s = Contains s.failing (called s).count
