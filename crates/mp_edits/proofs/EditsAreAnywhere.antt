-- The edits of a track are the same wherever its edit box and its edit list stand.
use Rattle.std.proofs.Common.{◌≡◌, ℕ, Bool, true, false, List, [], ◌∷◌, map, Option, Some, None, Result, Ok, Err, refl, ap, ◌∙◌}
use Rattle.std.specs.Prelude.{codes, option_to_list}
use Rattle.std.specs.Str.{bytes_eq}
use Rattle.mp_ports.specs.declared.code.Code.{Code}
use Rattle.mp_ports.specs.declared.fault.Bad.{Bad}
use Rattle.mp_ports.specs.Checks.{fault_at, first_code, first_some, unless, ◌>>=◌}
use Rattle.mp_boxes.specs.Boxes.{Box, boxes}
use Rattle.mp_boxes.specs.Child.{at_most_one_of, of_kind, optional_child}
use Rattle.mp_boxes.specs.Format.{PartsAreFound, bodies, part_of, parts_of}
use Rattle.mp_boxes.specs.Reading.{value_or}
use Rattle.mp_timeline.specs.declared.segment.Segment.{Segment}
use Rattle.mp_edits.specs.EditBox.{edits_by, track_edits}
use Rattle.mp_edits.specs.Table.{count_checks, edits_of, elst_checks, elst_of, entries, entries_fault, limit_checks, segments}

-- ---- the edit list

no_fault : {A : Type 0} (base other : ℕ) (a b c d : Option Code) (value found : A) → unless (first_some (fault_at base a ∷ fault_at 0 b ∷ fault_at base c ∷ fault_at 0 d ∷ [])) value ≡ Ok found
    → unless (first_some (fault_at other a ∷ fault_at 0 b ∷ fault_at other c ∷ fault_at 0 d ∷ [])) value ≡ Ok found
no_fault base other (Some code) b c d value found e = absurd cc
no_fault base other None (Some code) c d value found e = absurd cc
no_fault base other None None (Some code) d value found e = absurd cc
no_fault base other None None None (Some code) value found e = absurd cc
no_fault base other None None None None value found e = e

pub list_anywhere : (base other : ℕ) (body : List ℕ) (edits : Option (List Segment)) → elst_of base body ≡ Ok edits → elst_of other body ≡ Ok edits
list_anywhere base other body edits e =
    no_fault base other (first_code (elst_checks body)) (first_code (count_checks body)) (entries_fault (entries body)) (first_code (limit_checks (segments body))) (edits_of (segments body)) edits e

-- ---- the edit box

bodies_of_kind : (kind : List ℕ) (found : List Box) → bodies kind (map part_of found) ≡ map (λ (box : Box). box.body) (of_kind kind found)
bodies_of_kind kind [] = refl
bodies_of_kind kind (box ∷ others) = by (bytes_eq box.kind kind) refl (bodies_of_kind kind others)
  where
    by : (is : Bool) → bytes_eq box.kind kind ≡ is → bodies kind (map part_of others) ≡ map (λ (b : Box). b.body) (of_kind kind others)
        → bodies kind (map part_of (box ∷ others)) ≡ map (λ (b : Box). b.body) (of_kind kind (box ∷ others))
    by true e same = rw (e, same) refl
    by false e same = rw (e, same) refl

lists_in : PartsAreFound → (base : ℕ) (body kind : List ℕ) (found : Option Box) → optional_child base body kind ≡ Ok found → bodies kind (value_or [] (parts_of body)) ≡ map (λ (box : Box). box.body) (option_to_list found)
lists_in parts base body kind found e = by (boxes false base body) refl e
  where
    only : (some : List Box) (found : Option Box) → at_most_one_of some ≡ Ok found → some ≡ option_to_list found
    only [] None one = refl
    only [] (Some box) one = absurd cc
    only (box ∷ []) None one = absurd cc
    only (box ∷ []) (Some other) one = let same : box ≡ other = cc in rw same refl
    only (box ∷ second ∷ others) found one = absurd cc

    by : (r : Result (List Box) Bad) → boxes false base body ≡ r → (r >>= λ all. at_most_one_of (of_kind kind all)) ≡ Ok found → bodies kind (value_or [] (parts_of body)) ≡ map (λ (box : Box). box.body) (option_to_list found)
    by (Ok all) q one = rw (parts.anywhere base body all q) (bodies_of_kind kind all ∙ ap (map (λ (box : Box). box.body)) (only (of_kind kind all) found one))
    by (Err bad) q one = absurd cc

pub listed : PartsAreFound → (base : ℕ) (body : List ℕ) (list : Box) (edits : Option (List Segment)) → optional_child base body (codes "elst") ≡ Ok (Some list) → elst_of list.place list.body ≡ Ok edits → track_edits (Some body) ≡ edits
listed parts base body list edits found read =
    ap edits_by (lists_in parts base body (codes "elst") (Some list) found) ∙ ap (value_or None) (list_anywhere list.place 0 list.body edits read)

pub unlisted : PartsAreFound → (base : ℕ) (body : List ℕ) → optional_child base body (codes "elst") ≡ Ok None → track_edits (Some body) ≡ None
unlisted parts base body found = ap edits_by (lists_in parts base body (codes "elst") None found)
