-- What is kept of the units so far, with one unit more.
use Rattle.std.proofs.Common.{◌≡◌, ℕ, ◌+◌, ◌<◌, ◌≤◌, List, [], ◌∷◌, ◌++◌, length, take, drop, Option, Some, None, IfSome, Result, Ok, Err, refl, ap, subst, ◌∙◌, arith}
use Rattle.mp_ports.specs.Checks.{first_some}
use Rattle.mp_ports.specs.declared.fault.Bad.{Bad}
use Rattle.avc_units.specs.declared.reader.UnitSpan.{UnitSpan}
use Rattle.avc_units.specs.declared.reader.UnitFail.{UnitFail}
use Rattle.avc_units.specs.Reader.{unit_at, IsNextUnit, IsRefused}
use Rattle.avc_units.specs.Units.{Placed, HasUnits}
use Rattle.avc_order.specs.declared.access.NalUnit.{NalUnit}
use Rattle.avc_import.specs.declared.pictures.Pictures.{Pictures}
use Rattle.avc_import.specs.declared.units.Judged.{Judged}
use Rattle.avc_import.specs.Judged.{IsJudged}
use Rattle.avc_import.specs.Sets.{ParameterSets, HaveSets, no_sets}
use Rattle.avc_import.specs.Unit.{Identified, Known, behind, identified, nothing_known, order_checks}
use Rattle.avc_import.specs.Stream.{known_in}
use Rattle.avc_import.specs.Pictures.{Stands}
use Rattle.avc_import.proofs.Identifying.{nothing_refused, span_is}
use Rattle.avc_import.proofs.Walking.{Walked, walked_none, walks_on, unit_refused, all_walked, cut_refused}

-- these units are known, and the reader stands behind them
pub record IsSoFar (file size : ℕ) (told : Option (List ℕ)) (sets : ParameterSets) (pictures : Pictures) (at : ℕ) : Type 0 where
  pub known : Known
  pub sets_are : sets ≡ known.sets
  pub stands : Stands file size known.units pictures
  pub have : 0 < length pictures.firsts.items → HaveSets sets
  pub walked : IfSome told (λ b. Walked b known at)

pub nothing_yet : (file size : ℕ) (told : Option (List ℕ)) (sets : ParameterSets) (pictures : Pictures) → sets ≡ no_sets → ((file size : ℕ) → Stands file size [] pictures)
    → IsSoFar file size told sets pictures 0
nothing_yet file size told sets pictures none stands = record {
  known = nothing_known;
  sets_are = none;
  stands = stands file size;
  have = λ some. let empty = ap length (stands file size).firsts in absurd (omega arith);
  walked = walked_none told;
}

-- a unit is what it is by the sets so far
behind_is : (known : Known) (u : Placed) (found : Identified) → identified known.sets u ≡ Ok found → first_some (order_checks known.units found.unit u.from) ≡ None
    → behind known u ≡ Ok (record { sets = found.sets; units = known.units ++ (found.unit, record { from = u.from; len = length u.bytes }) ∷ [] })
unfolding behind
behind_is known u found is none = rw (is, none) refl

behind_refused : (known : Known) (u : Placed) (bad : Bad) → identified known.sets u ≡ Err bad → behind known u ≡ Err bad
unfolding behind
behind_refused known u bad is = rw is refl

behind_order : (known : Known) (u : Placed) (found : Identified) (bad : Bad) → identified known.sets u ≡ Ok found → first_some (order_checks known.units found.unit u.from) ≡ Some bad
    → behind known u ≡ Err bad
unfolding behind
behind_order known u found bad is fault = rw (is, fault) refl

same_span : (b : List ℕ) (span : UnitSpan) → span.from + span.len ≤ length b → record { from = span.from; len = length (take span.len (drop span.from b)) } ≡ span
same_span b span inside = ap (λ (n : ℕ). record { from = span.from; len = n }) (span_is b span inside)

pub goes_on : (file size : ℕ) (told : Option (List ℕ)) (sets next : ParameterSets) (pictures after : Pictures) (at : ℕ) (unit : NalUnit) (span : UnitSpan)
    → IsSoFar file size told sets pictures at → IfSome told (λ b. size ≡ length b) → span.from + span.len ≤ size
    → IfSome told (λ b. (us : List Placed) → HasUnits b us at → IsNextUnit b us at (Ok (Some span)))
    → IfSome told (λ b. identified sets (unit_at b span) ≡ Ok (record { unit = unit; sets = next }))
    → ((units : List (NalUnit × UnitSpan)) → Stands file size units pictures
    → (first_some (order_checks units unit span.from) ≡ None) × Stands file size (units ++ (unit, span) ∷ []) after)
    → (0 < length after.firsts.items → HaveSets next) → IsSoFar file size told next after (span.from + span.len)
goes_on file size told sets next pictures after at unit span so_far all inside answer is accepted have =
    let known = so_far.known in
    let on = accepted known.units so_far.stands in
    let further : Known = record { sets = next; units = known.units ++ (unit, span) ∷ [] } in
    record {
      known = further;
      sets_are = refl;
      stands = on.1;
      have = have;
      walked = walks_on told known further at span answer (known_behind told all is so_far.sets_are on.0) so_far.walked;
    }
  where
    known_behind : (told : Option (List ℕ)) → IfSome told (λ b. size ≡ length b) → IfSome told (λ b. identified sets (unit_at b span) ≡ Ok (record { unit = unit; sets = next }))
        → sets ≡ so_far.known.sets → first_some (order_checks so_far.known.units unit span.from) ≡ None
        → IfSome told (λ b. behind so_far.known (unit_at b span) ≡ Ok (record { sets = next; units = so_far.known.units ++ (unit, span) ∷ [] }))
    known_behind None all is same none = tt
    known_behind (Some b) all is same none =
        behind_is so_far.known (unit_at b span) (record { unit = unit; sets = next }) (rw same at is) none
        ∙ ap (λ (s : UnitSpan). Ok (record { sets = next; units = so_far.known.units ++ (unit, s) ∷ [] })) (same_span b span (omega (arith, all, inside)))

pub refused_here : (file size : ℕ) (told : Option (List ℕ)) (sets : ParameterSets) (pictures : Pictures) (at : ℕ) (span : UnitSpan) (bad : Bad)
    → IsSoFar file size told sets pictures at → IfSome told (λ b. (us : List Placed) → HasUnits b us at → IsNextUnit b us at (Ok (Some span)))
    → IfSome told (λ b. identified sets (unit_at b span) ≡ Err bad) → IfSome told (λ b. known_in b ≡ Err bad)
refused_here file size told sets pictures at span bad so_far answer is =
    unit_refused told so_far.known at span bad answer (known_behind told is so_far.sets_are) so_far.walked
  where
    known_behind : (told : Option (List ℕ)) → IfSome told (λ b. identified sets (unit_at b span) ≡ Err bad) → sets ≡ so_far.known.sets
        → IfSome told (λ b. behind so_far.known (unit_at b span) ≡ Err bad)
    known_behind None is same = tt
    known_behind (Some b) is same = behind_refused so_far.known (unit_at b span) bad (rw same at is)

pub refused_in_order : (file size : ℕ) (told : Option (List ℕ)) (sets next : ParameterSets) (pictures : Pictures) (at : ℕ) (unit : NalUnit) (span : UnitSpan) (bad : Bad)
    → IsSoFar file size told sets pictures at → IfSome told (λ b. (us : List Placed) → HasUnits b us at → IsNextUnit b us at (Ok (Some span)))
    → IfSome told (λ b. identified sets (unit_at b span) ≡ Ok (record { unit = unit; sets = next }))
    → ((units : List (NalUnit × UnitSpan)) → Stands file size units pictures → first_some (order_checks units unit span.from) ≡ Some bad)
    → IfSome told (λ b. known_in b ≡ Err bad)
refused_in_order file size told sets next pictures at unit span bad so_far answer is fault =
    unit_refused told so_far.known at span bad answer (known_behind told is so_far.sets_are (fault so_far.known.units so_far.stands)) so_far.walked
  where
    known_behind : (told : Option (List ℕ)) → IfSome told (λ b. identified sets (unit_at b span) ≡ Ok (record { unit = unit; sets = next })) → sets ≡ so_far.known.sets
        → first_some (order_checks so_far.known.units unit span.from) ≡ Some bad → IfSome told (λ b. behind so_far.known (unit_at b span) ≡ Err bad)
    known_behind None is same fault = tt
    known_behind (Some b) is same fault = behind_order so_far.known (unit_at b span) (record { unit = unit; sets = next }) bad (rw same at is) fault

pub cut_is_refused : (file size : ℕ) (told : Option (List ℕ)) (sets : ParameterSets) (pictures : Pictures) (at : ℕ) (bad : Bad)
    → IsSoFar file size told sets pictures at → IfSome told (λ b. (us : List Placed) → HasUnits b us at → IsRefused b us at bad) → IfSome told (λ b. known_in b ≡ Err bad)
cut_is_refused file size told sets pictures at bad so_far answer = cut_refused told so_far.known at bad answer so_far.walked

pub all_judged : (file size : ℕ) (told : Option (List ℕ)) (judged : Judged) (at : ℕ) → IsSoFar file size told judged.sets judged.pictures at
    → IfSome told (λ b. (us : List Placed) → HasUnits b us at → IsNextUnit b us at (Ok None)) → IsJudged file size told judged
all_judged file size told judged at so_far answer = record {
  known = so_far.known;
  sets = so_far.sets_are;
  stands = so_far.stands;
  have = so_far.have;
  told = all_walked told so_far.known at answer so_far.walked;
}

-- the answer of the reader, as it is matched
pub answer_is : (told : Option (List ℕ)) (at : ℕ) (given wanted : Result (Option UnitSpan) UnitFail) → given ≡ wanted
    → IfSome told (λ b. (us : List Placed) → HasUnits b us at → IsNextUnit b us at given) → IfSome told (λ b. (us : List Placed) → HasUnits b us at → IsNextUnit b us at wanted)
answer_is told at given wanted same answer =
    subst (λ (r : Result (Option UnitSpan) UnitFail). IfSome told (λ b. (us : List Placed) → HasUnits b us at → IsNextUnit b us at r)) same answer

-- whatever the failure stands for
pub refused_by : (file size : ℕ) (told : Option (List ℕ)) (sets : ParameterSets) (pictures : Pictures) (at : ℕ) (span : UnitSpan) (refused : Option Bad)
    → IsSoFar file size told sets pictures at → IfSome told (λ b. (us : List Placed) → HasUnits b us at → IsNextUnit b us at (Ok (Some span)))
    → IfSome told (λ b. IfSome refused (λ bad. identified sets (unit_at b span) ≡ Err bad)) → IfSome told (λ b. IfSome refused (λ bad. known_in b ≡ Err bad))
refused_by file size told sets pictures at span None so_far answer is = nothing_refused told None (λ b bad. known_in b ≡ Err bad) refl
refused_by file size told sets pictures at span (Some bad) so_far answer is = refused_here file size told sets pictures at span bad so_far answer is
