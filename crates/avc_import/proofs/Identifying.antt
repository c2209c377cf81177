-- What a unit is, by its first byte and what is read of it.
use Rattle.std.proofs.Common.{◌≡◌, ℕ, ◌+◌, ◌<◌, ◌≤◌, min, List, length, take, drop, Option, Some, None, IfSome, Result, Err, refl, sym, ap, subst, ◌∙◌, arith}
use Rattle.std.specs.Prelude.{slice_index}
use Rattle.std.proofs.lemmas.List.{length-take, length-drop, get_or-take}
use Rattle.mp_ports.specs.Checks.{bad_at, first_code}
use Rattle.mp_ports.specs.declared.code.Code.{Code}
use Rattle.mp_ports.specs.declared.fault.Bad.{Bad}
use Rattle.mp_ports.specs.declared.fault.ReadFail.{ReadFail}
use Rattle.mp_ports.specs.Gives.{Gives, read_refusal}
use Rattle.avc_order.specs.declared.access.NalUnit.{NalUnit}
use Rattle.avc_units.specs.declared.reader.UnitSpan.{UnitSpan}
use Rattle.avc_units.specs.Reader.{unit_at}
use Rattle.avc_import.specs.Sets.{ParameterSets}
use Rattle.avc_import.specs.Unit.{Identified, identified, kind_checks, of_type, plain, type_of}

-- so many bytes of a file are as many
pub span_is : (b : List ℕ) (span : UnitSpan) → span.from + span.len ≤ length b → length (take span.len (drop span.from b)) ≡ span.len
span_is b span inside = length-take span.len (drop span.from b) ∙ least
  where
    least : min span.len (length (drop span.from b)) ≡ span.len
    least = omega (arith, length-drop span.from b)

first_is : (b : List ℕ) (span : UnitSpan) (byte : ℕ) → 0 < span.len → byte ≡ slice_index (take 1 (drop span.from b)) 0 → slice_index (take span.len (drop span.from b)) 0 ≡ byte
first_is b span byte some is = get_or-take span.len (drop span.from b) 0 0 some ∙ sym (get_or-take 1 (drop span.from b) 0 0 (omega arith)) ∙ sym is

-- a failure that stands for no refusal may be answered to any input
pub nothing_refused : (told : Option (List ℕ)) (refused : Option Bad) (Wanted : List ℕ → Bad → Type 0) → refused ≡ None → IfSome told (λ b. IfSome refused (Wanted b))
nothing_refused None refused Wanted is = tt
nothing_refused (Some b) refused Wanted is = rw is tt

pub kind_refused : (told : Option (List ℕ)) (size : ℕ) (sets : ParameterSets) (span : UnitSpan) (byte : ℕ) (code : Code) (bad : Bad) → IfSome told (λ b. size ≡ length b) → 0 < span.len
    → span.from + span.len ≤ size → IfSome told (λ b. byte ≡ slice_index (take 1 (drop span.from b)) 0) → first_code (kind_checks byte span.len) ≡ Some code → bad ≡ bad_at code span.from
    → IfSome told (λ b. identified sets (unit_at b span) ≡ Err bad)
unfolding identified
kind_refused None size sets span byte code bad all some inside is fault there = tt
kind_refused (Some b) size sets span byte code bad all some inside is fault there =
    rw (first_is b span byte some is, span_is b span (omega (arith, all, inside)), fault) (ap Err (sym there))

pub kind_known : (told : Option (List ℕ)) (size : ℕ) (sets : ParameterSets) (span : UnitSpan) (byte kind : ℕ) (found : Result Identified Bad) → IfSome told (λ b. size ≡ length b) → 0 < span.len
    → span.from + span.len ≤ size → IfSome told (λ b. byte ≡ slice_index (take 1 (drop span.from b)) 0) → first_code (kind_checks byte span.len) ≡ None → kind ≡ type_of byte
    → IfSome told (λ b. of_type sets (unit_at b span) kind ≡ found) → IfSome told (λ b. identified sets (unit_at b span) ≡ found)
unfolding identified
kind_known None size sets span byte kind found all some inside is none kind_is there = tt
kind_known (Some b) size sets span byte kind found all some inside is none kind_is there =
    rw (first_is b span byte some is, span_is b span (omega (arith, all, inside)), none, ← kind_is) there

-- what an answer gives
abbrev pub GivesUnit : ParameterSets → Result NalUnit ReadFail → Result Identified Bad → Type 0
GivesUnit sets result = Gives read_refusal (λ (unit : NalUnit). plain sets unit) result

pub kind_goes : (told : Option (List ℕ)) (size : ℕ) (sets next : ParameterSets) (result : Result NalUnit ReadFail) (span : UnitSpan) (byte kind : ℕ) → IfSome told (λ b. size ≡ length b)
    → 0 < span.len → span.from + span.len ≤ size → IfSome told (λ b. byte ≡ slice_index (take 1 (drop span.from b)) 0) → first_code (kind_checks byte span.len) ≡ None → kind ≡ type_of byte
    → IfSome told (λ b. GivesUnit next result (of_type sets (unit_at b span) kind)) → IfSome told (λ b. GivesUnit next result (identified sets (unit_at b span)))
kind_goes None size sets next result span byte kind all some inside is none kind_is there = tt
kind_goes (Some b) size sets next result span byte kind all some inside is none kind_is there =
    subst (GivesUnit next result) (sym (kind_known (Some b) size sets span byte kind (of_type sets (unit_at b span) kind) all some inside is none kind_is refl)) there
