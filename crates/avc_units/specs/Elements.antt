-- Single elements as tables, by their descriptors and the ranges of their values (H.264, 7.2 and 7.4).
use Rattle.std.specs.Prelude.{ℕ, ◌==◌, ◌||◌, Bool, nat_lt, if◌then◌else◌, ℤ, int_lt}
use Rattle.avc_units.specs.declared.elements.ElementFail.TheVariants.{Syntax}
use Rattle.avc_units.specs.Bits.Kind.{U, Ue}
use Rattle.avc_units.specs.Reading.{signed}
use Rattle.avc_units.specs.Table.{Table, ◌>>=◌}
use Rattle.avc_units.specs.Table.Table.{Done, Fail, Element}

-- u(n)
unfoldable pub u : ℕ → Table ℕ
u n = Element (U n) (λ v. Done v)

-- u(1), as a flag
unfoldable pub flag : Table Bool
flag = do
  v ← u 1
  Done (v == 1)

-- ue(v)
unfoldable pub ue : Table ℕ
ue = Element Ue (λ v. Done v)

-- ue(v), of at most this value
unfoldable pub ue_upto : ℕ → Table ℕ
ue_upto most = do
  v ← ue
  if nat_lt most v then Fail Syntax else Done v

-- se(v)
unfoldable pub se : Table ℤ
se = do
  v ← ue
  Done (signed v)

-- se(v), from low to high
unfoldable pub se_within : ℤ → ℤ → Table ℤ
se_within low high = do
  v ← se
  if int_lt v low || int_lt high v then Fail Syntax else Done v
