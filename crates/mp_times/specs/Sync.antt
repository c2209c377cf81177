-- The sync marks of samples, one for each sample (ISO/IEC 14496-12, 8.6.2). What is read is the body of a box.
use Rattle.std.specs.Prelude.{ℕ, ℤ, pos, Bool, true, not, ◌&&◌, nat_lt, nat_le, ◌==◌, if◌then◌else◌, List, [], ◌∷◌, map, Option, Result}
use Rattle.std.specs.List.{list_all, list_any, range_with_len}
use Rattle.std.specs.Ordering.{int_eq}
use Rattle.mp_ports.specs.declared.code.Code.{Code}
use Rattle.mp_ports.specs.declared.code.Code.TheVariants.{SyncOrder}
use Rattle.mp_ports.specs.Checks.{first_code, first_some, unless}
use Rattle.mp_boxes.specs.Number.{u32_at}
use Rattle.mp_boxes.specs.FullBox.{table_rows, table_fault}

-- the length of a row: the number of a sync sample
abbrev pub number_len : ℕ
number_len = 4

-- the numbers of the sync samples, samples being counted from 1
abbrev pub numbers_of : List ℕ → List ℕ
numbers_of body = map (λ row. u32_at row 0) (table_rows number_len body)

-- each number is below the next one
abbrev pub is_rising : List ℕ → Bool
is_rising [] = true
is_rising (number ∷ []) = true
is_rising (number ∷ next ∷ rest) = nat_lt number next && is_rising (next ∷ rest)

-- each number is that of one of so many samples
abbrev pub are_samples : ℕ → List ℕ → Bool
are_samples samples numbers = list_all (λ number. nat_le 1 number && nat_le number samples) numbers

-- the fault of numbers that don't rise, or aren't those of samples
abbrev pub order_fault : ℕ → List ℕ → Option Code
order_fault samples numbers = first_code ((not (is_rising numbers), SyncOrder) ∷ (not (are_samples samples numbers), SyncOrder) ∷ [])

-- the first fault of a table of sync samples, of which there are so many
abbrev pub stss_fault : ℕ → List ℕ → Option Code
stss_fault samples body = first_some (table_fault 0 number_len body ∷ order_fault samples (numbers_of body) ∷ [])

-- 1 where the number of the sample stands there, else 0
abbrev pub mark : List ℕ → ℕ → ℤ
mark numbers number = if list_any (λ sync. sync == number) numbers then pos 1 else pos 0

-- a sample is a sync sample where its mark is 1
abbrev pub is_sync : ℤ → Bool
is_sync mark = int_eq mark (pos 1)

-- the mark of each of so many samples
abbrev pub marks : ℕ → List ℕ → List ℤ
marks samples numbers = map (mark numbers) (range_with_len 1 samples)

-- the mark of each of so many samples, as a table gives them
abbrev pub stss_of : ℕ → List ℕ → Result (List ℤ) Code
stss_of samples body = unless (stss_fault samples body) (marks samples (numbers_of body))
