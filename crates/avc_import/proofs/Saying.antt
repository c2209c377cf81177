-- What a table says of bits, by what is written and by what is read.
use Rattle.std.proofs.Common.{◌≡◌, ℕ, List, Result, Ok, Err, sym, ap, ◌∙◌}
use Rattle.mp_ports.specs.Checks.{bad_at, placed}
use Rattle.mp_ports.specs.declared.code.Code.{Code}
use Rattle.mp_ports.specs.declared.fault.Bad.{Bad}
use Rattle.avc_units.specs.Bits.{bits_of}
use Rattle.avc_units.specs.Table.{Table, SaysCode, said}
use Rattle.avc_units.specs.Law.{AreRead}
use Rattle.avc_import.specs.Sets.{coded, says}

pub says_is : {A : Type 0} (syntax : Code) (table : Table A) (bytes : List ℕ) (r : Result A Code) → AreRead A → SaysCode syntax table (bits_of bytes) r
    → says syntax table (bits_of bytes) ≡ r
unfolding says
says_is syntax table bytes (Ok x) law said = ap (coded syntax) (sym (law.written_is_read table bytes (Ok x) said))
says_is syntax table bytes (Err code) law (fail, said, is) = ap (coded syntax) (sym (law.written_is_read table bytes (Err fail) said)) ∙ ap Err (sym is)

-- at a place
pub says_there : {A : Type 0} (place : ℕ) (syntax : Code) (table : Table A) (bytes clean : List ℕ) (r : Result A Code) → bytes ≡ clean → AreRead A
    → SaysCode syntax table (bits_of bytes) r → placed place (says syntax table (bits_of clean)) ≡ placed place r
says_there place syntax table bytes clean r same law said = ap (placed place) (ap (λ (b : List ℕ). says syntax table (bits_of b)) (sym same) ∙ says_is syntax table bytes r law said)

-- and without it
pub placed_ok : {A : Type 0} (place : ℕ) (r : Result A Code) (x : A) → placed place r ≡ Ok x → r ≡ Ok x
placed_ok place (Ok y) x is = let same : y ≡ x = cc in ap Ok same
placed_ok place (Err code) x is = absurd cc

pub placed_err : {A : Type 0} (place : ℕ) (r : Result A Code) (bad : Bad) → placed place r ≡ Err bad → (r ≡ Err bad.code) × (bad ≡ bad_at bad.code place)
placed_err place (Ok y) bad is = absurd cc
placed_err place (Err code) bad is =
    let same : bad_at code place ≡ bad = cc in
    (ap (λ (b : Bad). Err b.code) same, sym same ∙ ap (λ (b : Bad). bad_at b.code place) same)
