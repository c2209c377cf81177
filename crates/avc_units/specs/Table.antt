-- Syntax tables (H.264, 7.3): elements in their order, where the value of each says what follows it.
use Rattle.std.specs.Prelude.{◌≡◌, ◌⊎◌, ℕ, List, ◌++◌, Option, Some, None, Result, Ok, Err}
use Rattle.mp_ports.specs.declared.code.Code.{Code}
use Rattle.avc_units.specs.declared.elements.ElementFail.{ElementFail}
use Rattle.avc_units.specs.declared.elements.ElementFail.TheVariants.{Syntax, Refused}
use Rattle.avc_units.specs.Bits.{Kind, IsWritten}
use Rattle.avc_units.specs.Reading.{read}

-- a table, by what it comes to
pub data Table (A : Type 0) : Type 0 where
  -- no element more: it comes to this
  Done : (x : A) → Table A
  -- what was read isn't allowed
  Fail : (fail : ElementFail) → Table A
  -- an element of this kind, and then the table that its value names
  Element : (kind : Kind) → (more : ℕ → Table A) → Table A

infixl 10 ◌>>=◌
-- a table, and then the one that its outcome names
unfoldable pub ◌>>=◌ : {A B : Type 0} → Table A → (A → Table B) → Table B
(Done x) >>= f = f x
(Fail fail) >>= f = Fail fail
(Element kind more) >>= f = Element kind (λ v. more v >>= f)

-- what these bits say: they begin with the elements of the table, each written in its way; the first that isn't written there, or that isn't allowed, is what fails
abbrev pub Says : {A : Type 0} → Table A → List ℕ → Result A ElementFail → Type 0
Says (Done x) bits r = r ≡ Ok x
Says (Fail fail) bits r = r ≡ Err fail
Says (Element kind more) bits r =
    ((v : ℕ) × (front : List ℕ) × (rest : List ℕ) × (bits ≡ front ++ rest) × IsWritten kind v front × Says (more v) rest r)
    ⊎ (((v : ℕ) (front rest : List ℕ) → bits ≡ front ++ rest → ¬ IsWritten kind v front) × (r ≡ Err Syntax))

-- the code of a failure, where this is the one of a syntax that fails
abbrev pub code_of : Code → ElementFail → Code
code_of syntax Syntax = syntax
code_of syntax (Refused code) = code

-- what these bits say, where a syntax that fails has this code
abbrev pub SaysCode : {A : Type 0} → Code → Table A → List ℕ → Result A Code → Type 0
SaysCode syntax table bits (Ok x) = Says table bits (Ok x)
SaysCode syntax table bits (Err code) = (fail : ElementFail) × Says table bits (Err fail) × (code ≡ code_of syntax fail)

-- ---- reading

-- what an element's value leads to; the syntax fails where there is none
abbrev pub after : {A : Type 0} → Option (ℕ × List ℕ) → (ℕ → List ℕ → Result (A × List ℕ) ElementFail) → Result (A × List ℕ) ElementFail
after None next = Err Syntax
after (Some found) next = next found.0 found.1

-- what a table comes to, read from the front of bits, and the bits that are left
unfoldable pub walk : {A : Type 0} → Table A → List ℕ → Result (A × List ℕ) ElementFail
walk (Done x) bits = Ok (x, bits)
walk (Fail fail) bits = Err fail
walk (Element kind more) bits = after (read kind bits) (λ v rest. walk (more v) rest)

-- a reading, and then the one that its outcome names
abbrev pub and_then : {A B : Type 0} → Result (A × List ℕ) ElementFail → (A → List ℕ → Result (B × List ℕ) ElementFail) → Result (B × List ℕ) ElementFail
and_then (Ok found) next = next found.0 found.1
and_then (Err fail) next = Err fail

-- what a reading comes to
abbrev pub said : {A : Type 0} → Result (A × List ℕ) ElementFail → Result A ElementFail
said (Ok found) = Ok found.0
said (Err fail) = Err fail
