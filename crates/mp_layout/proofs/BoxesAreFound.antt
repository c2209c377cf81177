-- Boxes that are written are found among those of their container.
use Rattle.std.proofs.Common.{◌≡◌, ℕ, ◌+◌, ◌^◌, ◌<◌, ◌&&◌, not, eqb, Bool, true, false, List, [], ◌∷◌, ◌++◌, length, map, Option, Some, None, Result, Ok, refl, sym, ap, subst, ◌∙◌}
use Rattle.std.specs.Prelude.{codes, filter, ◌||◌}
use Rattle.std.specs.Str.{bytes_eq}
use Rattle.std.specs.List.{AllByRecursion, list_all}
use Rattle.std.proofs.lemmas.Bool.{eqb-true, and_parts}
use Rattle.std.proofs.lemmas.List.{append-nil, map-append}
use Rattle.mp_ports.specs.declared.fault.Bad.{Bad}
use Rattle.mp_ports.specs.Checks.{first_some}
use Rattle.mp_boxes.specs.Boxes.{Box, body_place, boxes, IsCut}
use Rattle.mp_boxes.specs.Child.{of_kind}
use Rattle.mp_boxes.specs.Field.{Part, boxes_bytes, optional}
use Rattle.mp_boxes.specs.Format.{part_of}
use Rattle.mp_boxes.specs.Parts.{HasCompactType, listed}
use Rattle.mp_movie.specs.Readings.{fault_of}
use Rattle.mp_boxes.specs.Reading.{value_or}
use Rattle.mp_movie.specs.Children.{boxes_in, children, has_boxes, one, at_most_one, one_of_two, no_box}
use Rattle.mp_layout.proofs.Laws.{BoxLaws}

-- ---- the boxes of a container, as parts

-- those of a list of boxes whose type passes a test, and those of its parts
kept : (p : List ℕ → Bool) (all : List Box) → map part_of (filter (λ box. p box.kind) all) ≡ filter (λ part. p part.kind) (map part_of all)
kept p [] = refl
kept p (box ∷ all) = by (p box.kind) refl (kept p all)
  where
    by : (b : Bool) → p box.kind ≡ b → map part_of (filter (λ box. p box.kind) all) ≡ filter (λ part. p part.kind) (map part_of all)
        → map part_of (filter (λ box. p box.kind) (box ∷ all)) ≡ filter (λ part. p part.kind) (part_of box ∷ map part_of all)
    by true e later = rw (e, later) refl
    by false e later = rw (e, later) refl

pub listed-parts : (place : ℕ) (parts : List Part) → map part_of (listed place parts) ≡ parts
listed-parts place [] = refl
listed-parts place (part ∷ parts) = ap (λ (more : List Part). part ∷ more) (listed-parts (place + (8 + length part.body)) parts)

-- the boxes of a container are these parts
pub record HasParts (box : Box) (parts : List Part) : Type 0 where
  pub all : List Box
  pub read : boxes false (body_place box) box.body ≡ Ok all
  pub are : map part_of all ≡ parts

-- a short header: four bytes, and not those of `uuid`
abbrev pub is_plain : Part → Bool
is_plain part = eqb (length part.kind) 4 && not (bytes_eq part.kind (codes "uuid"))

pub have_kinds : (parts : List Part) → list_all is_plain parts ≡ true → AllByRecursion HasCompactType parts
have_kinds [] e = tt
have_kinds (part ∷ parts) e =
    let both = and_parts (is_plain part) (list_all is_plain parts) e in
    let kind = and_parts (eqb (length part.kind) 4) (not (bytes_eq part.kind (codes "uuid"))) both.0 in
    (record { four = eqb-true _ _ kind.0; plain = not_true _ kind.1 }, have_kinds parts both.1)
  where
    not_true : (b : Bool) → not b ≡ true → b ≡ false
    not_true true e = sym e
    not_true false e = refl

-- parts, with other boxes behind them
pub with-more : BoxLaws → (box : Box) (parts : List Part) (after : List ℕ) (more : List Box) → box.body ≡ boxes_bytes parts ++ after → list_all is_plain parts ≡ true → length (boxes_bytes parts) < 2 ^ 32
    → IsCut false (body_place box + length (boxes_bytes parts)) after more [] → boxes false (body_place box) box.body ≡ Ok (listed (body_place box) parts ++ more)
with-more read box parts after more body kinds short cut =
    rw body (read.cuts.found false (body_place box) (boxes_bytes parts ++ after) (listed (body_place box) parts ++ more)
    (read.parts.in_front false (body_place box) parts after more (have_kinds parts kinds) short cut))

pub with_more-parts : BoxLaws → (box : Box) (parts : List Part) (after : List ℕ) (more : List Box) → box.body ≡ boxes_bytes parts ++ after → list_all is_plain parts ≡ true → length (boxes_bytes parts) < 2 ^ 32
    → IsCut false (body_place box + length (boxes_bytes parts)) after more [] → HasParts box (parts ++ map part_of more)
with_more-parts read box parts after more body kinds short cut = record {
  all = listed (body_place box) parts ++ more;
  read = with-more read box parts after more body kinds short cut;
  are = map-append part_of (listed (body_place box) parts) more ∙ ap (λ (front : List Part). front ++ map part_of more) (listed-parts (body_place box) parts);
}

pub parts-alone : BoxLaws → (box : Box) (parts : List Part) → box.body ≡ boxes_bytes parts → list_all is_plain parts ≡ true → length (boxes_bytes parts) < 2 ^ 32 → HasParts box parts
parts-alone read box parts body kinds short =
    subst (HasParts box) (append-nil parts) (with_more-parts read box parts [] [] (body ∙ sym (append-nil (boxes_bytes parts))) kinds short refl)

-- ---- the box of a part

-- a box of that part is found
pub record IsFound (found : Result Box Bad) (part : Part) : Type 0 where
  pub box : Box
  pub is : found ≡ Ok box
  pub same : part_of box ≡ part

-- and so where there may be none
pub data MayBeFound (found : Result (Option Box) Bad) : Option Part → Type 0 where
  Absent : found ≡ Ok None → MayBeFound found None
  Present : (part : Part) (box : Box) → found ≡ Ok (Some box) → part_of box ≡ part → MayBeFound found (Some part)

pub found-none : {part : Part} (found : Result Box Bad) → IsFound found part → fault_of found ≡ None
found-none found h = rw h.is refl

pub found-body : {part : Part} (found : Result Box Bad) → IsFound found part → (value_or no_box found).body ≡ part.body
found-body found h = rw h.is (ap (λ (p : Part). p.body) h.same)

pub found-kind : {part : Part} (found : Result Box Bad) → IsFound found part → (value_or no_box found).kind ≡ part.kind
found-kind found h = rw h.is (ap (λ (p : Part). p.kind) h.same)

pub may-none : {part : Option Part} (found : Result (Option Box) Bad) → MayBeFound found part → fault_of found ≡ None
may-none found (Absent e) = rw e refl
may-none found (Present part box e b) = rw e refl

-- the boxes that one part is
single : (all : List Box) (part : Part) → map part_of all ≡ part ∷ [] → (box : Box) × (all ≡ box ∷ []) × (part_of box ≡ part)
single [] part e = absurd cc
single (box ∷ []) part e = (box, refl, first-is _ _ e)
  where
    first-is : (one other : Part) → one ∷ [] ≡ other ∷ [] → one ≡ other
    first-is one other e = cc
single (box ∷ second ∷ all) part e = absurd (longer _ _ _ _ e)
  where
    longer : (one two other : Part) (more : List Part) → one ∷ two ∷ more ≡ other ∷ [] → ⊥
    longer one two other more e = cc

none_there : (all : List Box) → map part_of all ≡ [] → all ≡ []
none_there [] e = refl
none_there (box ∷ all) e = absurd cc

pub boxes-whole : {parts : List Part} (box : Box) → HasParts box parts → has_boxes box ≡ None
unfolding children
boxes-whole box h = rw h.read refl

pub boxes-in : {parts : List Part} (box : Box) → (h : HasParts box parts) → boxes_in box ≡ h.all
unfolding children
boxes-in box h = rw h.read refl

one-ok : (box : Box) (all : List Box) (kind : List ℕ) (found : Box) → boxes false (body_place box) box.body ≡ Ok all → of_kind kind all ≡ found ∷ [] → one kind box ≡ Ok found
unfolding one
one-ok box all kind found e1 e2 = rw (e1, e2) refl

two-ok : (box : Box) (all : List Box) (kind other : List ℕ) (found : Box) → boxes false (body_place box) box.body ≡ Ok all → filter (λ found. bytes_eq found.kind kind || bytes_eq found.kind other) all ≡ found ∷ []
    → one_of_two kind other box ≡ Ok found
unfolding one_of_two children
two-ok box all kind other found e1 e2 = rw (e1, e2) refl

none-ok : (box : Box) (all : List Box) (kind : List ℕ) → boxes false (body_place box) box.body ≡ Ok all → of_kind kind all ≡ [] → at_most_one kind box ≡ Ok None
unfolding at_most_one
none-ok box all kind e1 e2 = rw (e1, e2) refl

some-ok : (box : Box) (all : List Box) (kind : List ℕ) (found : Box) → boxes false (body_place box) box.body ≡ Ok all → of_kind kind all ≡ found ∷ [] → at_most_one kind box ≡ Ok (Some found)
unfolding at_most_one
some-ok box all kind found e1 e2 = rw (e1, e2) refl

-- the parts of that type are those of the boxes of that type
pub of_parts : (all : List Box) (parts found : List Part) (kind : List ℕ) → map part_of all ≡ parts → filter (λ part. bytes_eq part.kind kind) parts ≡ found → map part_of (of_kind kind all) ≡ found
of_parts all parts found kind are e = kept (λ k. bytes_eq k kind) all ∙ (ap (filter (λ part. bytes_eq part.kind kind)) are ∙ e)

pub one-found : {parts : List Part} (box : Box) (kind : List ℕ) (part : Part) → HasParts box parts → filter (λ part. bytes_eq part.kind kind) parts ≡ part ∷ [] → IsFound (one kind box) part
one-found box kind part h e =
    let found = single (of_kind kind h.all) part (of_parts h.all _ _ kind h.are e) in
    record { box = found.0; is = one-ok box h.all kind found.0 h.read found.1; same = found.2 }

pub two-found : {parts : List Part} (box : Box) (kind other : List ℕ) (part : Part) → HasParts box parts → filter (λ part. bytes_eq part.kind kind || bytes_eq part.kind other) parts ≡ part ∷ [] → IsFound (one_of_two kind other box) part
two-found box kind other part h e =
    let found = single _ part (kept (λ k. bytes_eq k kind || bytes_eq k other) h.all ∙ (ap (filter (λ part. bytes_eq part.kind kind || bytes_eq part.kind other)) h.are ∙ e)) in
    record { box = found.0; is = two-ok box h.all kind other found.0 h.read found.1; same = found.2 }

pub may-found : {parts : List Part} (box : Box) (kind : List ℕ) (part : Option Part) → HasParts box parts → filter (λ part. bytes_eq part.kind kind) parts ≡ optional part → MayBeFound (at_most_one kind box) part
may-found box kind None h e = Absent (none-ok box h.all kind h.read (none_there (of_kind kind h.all) (of_parts h.all _ _ kind h.are e)))
may-found box kind (Some part) h e =
    let found = single (of_kind kind h.all) part (of_parts h.all _ _ kind h.are e) in
    Present part found.0 (some-ok box h.all kind found.0 h.read found.1) found.2

pub kind-none : (all : List Box) (parts : List Part) (kind : List ℕ) → map part_of all ≡ parts → filter (λ part. bytes_eq part.kind kind) parts ≡ [] → of_kind kind all ≡ []
kind-none all parts kind are e = none_there (of_kind kind all) (of_parts all parts [] kind are e)

-- ---- checks

-- no check of a list fails
pub none-fails : (checks : List (Option Bad)) → AllByRecursion (λ check. check ≡ None) checks → first_some checks ≡ None
none-fails [] h = refl
none-fails (check ∷ checks) h = rw h.0 (none-fails checks h.1)
