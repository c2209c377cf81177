-- Laws of syntax tables.
use Rattle.std.specs.Prelude.{◌≡◌, ◌≢◌, ℕ, List, ◌++◌, Result, Ok, Err}
use Rattle.avc_units.specs.declared.elements.ElementFail.{ElementFail}
use Rattle.avc_units.specs.declared.elements.ElementFail.TheVariants.{Syntax}
use Rattle.avc_units.specs.Bits.{bits_of}
use Rattle.avc_units.specs.Table.{Table, ◌>>=◌, Says, walk, and_then, said}

-- a table and then another are read one after the other
abbrev pub AreReadInTurn : (A B : Type 0) → Type 0
AreReadInTurn A B =
    (table : Table A) (next : A → Table B) (bits : List ℕ)
    → walk (table >>= next) bits ≡ and_then (walk table bits) (λ x rest. walk (next x) rest)

-- the bits of bytes say of a table just what is read by it
pub record AreRead (A : Type 0) : Type 0 where
  pub written_is_read : (table : Table A) (bytes : List ℕ) (r : Result A ElementFail) → Says table (bits_of bytes) r → r ≡ said (walk table (bits_of bytes))
  pub read_is_written : (table : Table A) (bytes : List ℕ) → Says table (bits_of bytes) (said (walk table (bits_of bytes)))

-- a front of some bits says what all of them say, but for a syntax that fails
pub record AreSaidByFronts (A : Type 0) : Type 0 where
  pub value : (table : Table A) (bits more rest : List ℕ) (x : A) → walk table bits ≡ Ok (x, rest) → walk table (bits ++ more) ≡ Ok (x, rest ++ more)
  pub fail : (table : Table A) (bits more : List ℕ) (fail : ElementFail) → fail ≢ Syntax → walk table bits ≡ Err fail → walk table (bits ++ more) ≡ Err fail
