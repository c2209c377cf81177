-- The units of a file, one after another, and what is known behind them.
use Rattle.std.proofs.Common.{◌≡◌, ℕ, zero, suc, ◌+◌, ◌<◌, List, [], ◌∷◌, ◌++◌, length, drop, Option, Some, None, IfSome, Result, Ok, Err, refl, sym, ap, ◌∙◌, arith, inl, inr, lt-ltb}
use Rattle.std.proofs.lemmas.List.{length-drop, drop-drop}
use Rattle.mp_ports.specs.Checks.{bad_at, ◌>>=◌}
use Rattle.mp_ports.specs.declared.code.Code.TheVariants.{UnitLimit}
use Rattle.mp_ports.specs.declared.fault.Bad.{Bad}
use Rattle.avc_units.specs.declared.reader.UnitSpan.{UnitSpan}
use Rattle.avc_units.specs.Reader.{IsNextUnit, IsRefused, longest_unit, unit_at}
use Rattle.avc_units.specs.Scan.{Step, step}
use Rattle.avc_units.specs.Scan.Step.{NoUnit, OneUnit, Fault}
use Rattle.avc_units.specs.Units.{Placed, HasUnits, HasUnitsFrom}
use Rattle.avc_import.specs.Unit.{Known, behind, behind_all, identified, nothing_known}
use Rattle.avc_import.specs.Stream.{Cut, cut, cut_by, cut_from, in_front, known_in}
use Rattle.avc_import.proofs.Cutting.{IsStep, fault_step, last_step, none_step}

-- what a cut of the rest says
abbrev rest_says : Known → Cut → Result Known Bad
rest_says known cut = behind_all known cut.units cut.fault

-- this is known behind the first units of a file, which end there
pub record Walked (file : List ℕ) (known : Known) (at : ℕ) : Type 0 where
  pub units : List Placed
  pub stands : HasUnits file units at
  pub fuel : ℕ
  pub enough : length (drop at file) < fuel
  pub rest : known_in file ≡ rest_says known (cut_from fuel at (drop at file))

pub walked_none : (told : Option (List ℕ)) → IfSome told (λ b. Walked b nothing_known 0)
unfolding known_in
walked_none None = tt
walked_none (Some b) = record { units = []; stands = refl; fuel = suc (length b); enough = omega arith; rest = refl }

-- a cut, by what comes next
pub cut_step : (fuel at : ℕ) (rest : List ℕ) (s : Step) → step rest ≡ s → cut_from (suc fuel) at rest ≡ cut_by s at rest (λ n. cut_from fuel (at + n) (drop n rest))
unfolding cut_from
cut_step fuel at rest s is = rw is refl

-- with some fuel
pub filled : {A : Type 0} (fuel n : ℕ) → n < fuel → ((less : ℕ) → fuel ≡ suc less → A) → A
filled zero n enough next = absurd (omega arith)
filled (suc less) n enough next = next less refl

-- a unit, and what is cut behind it
pub cut_unit : (file : List ℕ) (at end fuel : ℕ) (u : Placed) → IsStep file at u end → cut_from (suc fuel) at (drop at file) ≡ in_front u (cut_from fuel end (drop end file))
cut_unit file at end fuel u s =
    let n = s.skipped + length u.bytes in
    let end_is : at + n ≡ end = omega (arith, s.from_is, s.end_is) in
    let from_is : at + s.skipped ≡ u.from = sym s.from_is in
    let inside : drop s.skipped (drop at file) ≡ drop u.from file = drop-drop s.skipped at file ∙ ap (λ (k : ℕ). drop k file) from_is in
    let behind_it : drop n (drop at file) ≡ drop end file = drop-drop n at file ∙ ap (λ (k : ℕ). drop k file) end_is in
    cut_step fuel at (drop at file) (OneUnit s.skipped (length u.bytes)) s.step_is ∙ rw (from_is, inside, s.bytes_is, end_is, behind_it) refl

-- and what is known behind it
one_unit : (file : List ℕ) (known : Known) (at end fuel : ℕ) (u : Placed) → IsStep file at u end
    → rest_says known (cut_from (suc fuel) at (drop at file)) ≡ (behind known u >>= (λ next. rest_says next (cut_from fuel end (drop end file))))
one_unit file known at end fuel u s = ap (rest_says known) (cut_unit file at end fuel u s)

-- where a unit comes next there are bytes
pub some_left : (t : List ℕ) (f n : ℕ) → step t ≡ OneUnit f n → 0 < length t
some_left [] f n is = absurd cc
some_left (x ∷ t) f n is = omega arith

walk_on : (file : List ℕ) (known next : Known) (at end : ℕ) (u : Placed) (walked : Walked file known at) → IsStep file at u end
    → HasUnits file (walked.units ++ u ∷ []) end → behind known u ≡ Ok next → Walked file next end
walk_on file known next at end u walked s units is = filled walked.fuel (length (drop at file)) walked.enough from
  where
    from : (less : ℕ) → walked.fuel ≡ suc less → Walked file next end
    from less fuel = record {
      units = walked.units ++ u ∷ [];
      stands = units;
      fuel = less;
      enough = omega (arith, fuel, walked.enough, length-drop at file, length-drop end file, s.from_is, s.end_is, s.some, some_left (drop at file) s.skipped (length u.bytes) s.step_is);
      rest = walked.rest ∙ ap (λ (k : ℕ). rest_says known (cut_from k at (drop at file))) fuel ∙ one_unit file known at end less u s ∙ rw is refl;
    }

step_of : (b : List ℕ) (known : Known) (at : ℕ) (span : UnitSpan) (walked : Walked b known at) → IsNextUnit b walked.units at (Ok (Some span)) → IsStep b at (unit_at b span) (span.from + span.len)
step_of b known at span walked next = last_step b 0 at (span.from + span.len) walked.units (unit_at b span) walked.stands next

-- ---- by what the reader answers

pub walks_on : (told : Option (List ℕ)) (known next : Known) (at : ℕ) (span : UnitSpan) → IfSome told (λ b. (us : List Placed) → HasUnits b us at → IsNextUnit b us at (Ok (Some span)))
    → IfSome told (λ b. behind known (unit_at b span) ≡ Ok next) → IfSome told (λ b. Walked b known at) → IfSome told (λ b. Walked b next (span.from + span.len))
walks_on None known next at span answer is walked = tt
walks_on (Some b) known next at span answer is walked =
    let unit = answer walked.units walked.stands in
    walk_on b known next at (span.from + span.len) (unit_at b span) walked (step_of b known at span walked unit) unit is

pub unit_refused : (told : Option (List ℕ)) (known : Known) (at : ℕ) (span : UnitSpan) (bad : Bad) → IfSome told (λ b. (us : List Placed) → HasUnits b us at → IsNextUnit b us at (Ok (Some span)))
    → IfSome told (λ b. behind known (unit_at b span) ≡ Err bad) → IfSome told (λ b. Walked b known at) → IfSome told (λ b. known_in b ≡ Err bad)
unit_refused None known at span bad answer is walked = tt
unit_refused (Some b) known at span bad answer is walked =
    let unit = answer walked.units walked.stands in
    filled walked.fuel (length (drop at b)) walked.enough
    (λ less fuel. walked.rest ∙ ap (λ (k : ℕ). rest_says known (cut_from k at (drop at b))) fuel
    ∙ one_unit b known at (span.from + span.len) less (unit_at b span) (step_of b known at span walked unit) ∙ rw is refl)

pub all_walked : (told : Option (List ℕ)) (known : Known) (at : ℕ) → IfSome told (λ b. (us : List Placed) → HasUnits b us at → IsNextUnit b us at (Ok None))
    → IfSome told (λ b. Walked b known at) → IfSome told (λ b. known_in b ≡ Ok known)
all_walked None known at answer walked = tt
all_walked (Some b) known at answer walked =
    let (end, units, zeros) = answer walked.units walked.stands in
    let same : end ≡ at = same_end b 0 at end walked.units walked.stands units in
    filled walked.fuel (length (drop at b)) walked.enough
    (λ less fuel. walked.rest ∙ ap (λ (k : ℕ). rest_says known (cut_from k at (drop at b))) fuel
    ∙ ap (rest_says known) (cut_step less at (drop at b) NoUnit (none_step (drop at b) (rw same at zeros))))
  where
    same_end : (b : List ℕ) (place at end : ℕ) (us : List Placed) → HasUnitsFrom place b us at → HasUnitsFrom place b us end → end ≡ at
    same_end b place at end [] one other = sym other ∙ one
    same_end b place at end (u ∷ us) (n, after, text, from, unit, ends, one) (m, later, same, place_is, again, and_so, other) = same_end b (u.from + length u.bytes) at end us one other

too_long : (known : Known) (u : Placed) → longest_unit < length u.bytes → behind known u ≡ Err (bad_at UnitLimit u.from)
unfolding behind identified
too_long known u long = rw (lt-ltb longest_unit (length u.bytes) long) refl

pub cut_refused : (told : Option (List ℕ)) (known : Known) (at : ℕ) (bad : Bad) → IfSome told (λ b. (us : List Placed) → HasUnits b us at → IsRefused b us at bad)
    → IfSome told (λ b. Walked b known at) → IfSome told (λ b. known_in b ≡ Err bad)
cut_refused None known at bad answer walked = tt
cut_refused (Some b) known at bad answer walked = by_fault (answer walked.units walked.stands)
  where
    by_fault : IsRefused b walked.units at bad → known_in b ≡ Err bad
    by_fault (inl (skipped, fault, is)) =
        filled walked.fuel (length (drop at b)) walked.enough
        (λ less fuel. walked.rest ∙ ap (λ (k : ℕ). rest_says known (cut_from k at (drop at b))) fuel
        ∙ ap (rest_says known) (cut_step less at (drop at b) (Fault skipped) (fault_step (drop at b) skipped fault)) ∙ ap Err (sym is))
    by_fault (inr (u, units, long, is)) =
        let s = last_step b 0 at (u.from + length u.bytes) walked.units u walked.stands units in
        filled walked.fuel (length (drop at b)) walked.enough
        (λ less fuel. walked.rest ∙ ap (λ (k : ℕ). rest_says known (cut_from k at (drop at b))) fuel ∙ one_unit b known at (u.from + length u.bytes) less u s ∙ rw (too_long known u long) (ap Err (sym is)))
