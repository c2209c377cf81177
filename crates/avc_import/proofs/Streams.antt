-- A file is cut into its units.
use Rattle.std.proofs.Common.{◌≡◌, ℕ, ◌+◌, ◌<◌, List, [], ◌∷◌, length, drop, true, Option, Some, None, refl, ap, ◌∙◌, arith}
use Rattle.std.proofs.lemmas.List.{length-drop}
use Rattle.mp_ports.specs.Checks.{bad_at}
use Rattle.mp_ports.specs.declared.code.Code.TheVariants.{UnitFraming}
use Rattle.mp_ports.specs.declared.fault.Bad.{Bad}
use Rattle.avc_units.specs.Scan.Step.{NoUnit, Fault}
use Rattle.avc_units.specs.Units.{Placed, HasUnitsFrom, IsFault, only_zeros}
use Rattle.avc_import.specs.Stream.{cut_from, ended, in_front}
use Rattle.avc_import.proofs.Cutting.{fault_step, last_step, none_step}
use Rattle.avc_import.proofs.Walking.{cut_step, cut_unit, filled, some_left}

-- behind the first units stands no other
pub cut_on : (file : List ℕ) (place end fuel : ℕ) (us : List Placed) (fault : Option Bad) → HasUnitsFrom place file us end → length (drop place file) < fuel
    → ((less : ℕ) → length (drop end file) < less → cut_from less end (drop end file) ≡ ended fault)
    → cut_from fuel place (drop place file) ≡ record { units = us; fault = fault }
cut_on file place end fuel [] fault here enough last =
    ap (λ (k : ℕ). cut_from fuel k (drop k file)) here ∙ last fuel (omega (arith, enough, ap (λ (k : ℕ). length (drop k file)) here))
cut_on file place end fuel (u ∷ us) fault (n, after, text, from, unit, behind, rest) enough last =
    let next = u.from + length u.bytes in
    let s = last_step file place place next [] u refl (n, after, text, from, unit, behind, refl) in
    let left = some_left (drop place file) s.skipped (length u.bytes) s.step_is in
    filled fuel (length (drop place file)) enough
    (λ less is. ap (λ (k : ℕ). cut_from k place (drop place file)) is ∙ cut_unit file place next less u s
    ∙ ap (in_front u) (cut_on file next end less us fault rest (omega (arith, is, enough, length-drop place file, length-drop next file, s.from_is, s.end_is, s.some, left)) last))

pub ends_cleanly : (file : List ℕ) (end less : ℕ) → only_zeros (drop end file) ≡ true → length (drop end file) < less → cut_from less end (drop end file) ≡ ended None
ends_cleanly file end less zeros enough =
    filled less (length (drop end file)) enough
    (λ fewer is. ap (λ (k : ℕ). cut_from k end (drop end file)) is ∙ cut_step fewer end (drop end file) NoUnit (none_step (drop end file) zeros))

pub ends_in_fault : (file : List ℕ) (end at less : ℕ) → IsFault (drop end file) at → length (drop end file) < less
    → cut_from less end (drop end file) ≡ ended (Some (bad_at UnitFraming (end + at)))
ends_in_fault file end at less fault enough =
    filled less (length (drop end file)) enough
    (λ fewer is. ap (λ (k : ℕ). cut_from k end (drop end file)) is ∙ cut_step fewer end (drop end file) (Fault at) (fault_step (drop end file) at fault))
