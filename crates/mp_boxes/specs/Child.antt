-- The children of a container by their type (ISO/IEC 14496-12, 4.2).
use Rattle.std.specs.Prelude.{◌≡◌, ℕ, ◌+◌, ◌-◌, ◌≤◌, Bool, false, ◌||◌, List, [], ◌∷◌, length, filter, slice_range, Option, Some, None, Result, Ok, Err}
use Rattle.std.specs.Str.{bytes_eq}
use Rattle.mp_ports.specs.declared.code.Code.TheVariants.{BoxMissing, BoxTwice}
use Rattle.mp_ports.specs.declared.fault.Bad.{Bad}
use Rattle.mp_ports.specs.Checks.{bad_at, ◌>>=◌}
use Rattle.mp_boxes.specs.declared.child.ChildBox.{ChildBox}
use Rattle.mp_boxes.specs.declared.child.Span.{Span}
use Rattle.mp_boxes.specs.declared.head.BoxHead.{BoxHead}
use Rattle.mp_boxes.specs.Boxes.{AreLeft, Box, body_place, boxes, whole_box}

-- the boxes of that type, in order
abbrev pub of_kind : List ℕ → List Box → List Box
of_kind kind boxes = filter (λ box. bytes_eq box.kind kind) boxes

-- whether this is one of the two types
abbrev pub is_either : List ℕ → List ℕ → List ℕ → Bool
is_either kind other this = bytes_eq this kind || bytes_eq this other

-- the boxes of either type, in order
abbrev pub of_either : List ℕ → List ℕ → List Box → List Box
of_either kind other boxes = filter (λ box. is_either kind other box.kind) boxes

-- the first box, if there is one
abbrev pub first_of : List Box → Option Box
first_of [] = None
first_of (box ∷ boxes) = Some box

-- no box or one; a second one is `BoxTwice` at its place
abbrev pub at_most_one_of : List Box → Result (Option Box) Bad
at_most_one_of [] = Ok None
at_most_one_of (box ∷ []) = Ok (Some box)
at_most_one_of (box ∷ second ∷ boxes) = Err (bad_at BoxTwice second.place)

-- the one box; where there is none, `BoxMissing` at the end of the container
abbrev pub one_of : ℕ → List Box → Result Box Bad
one_of end [] = Err (bad_at BoxMissing end)
one_of end (box ∷ []) = Ok box
one_of end (box ∷ second ∷ boxes) = Err (bad_at BoxTwice second.place)

-- the one child of that type in a container's body that stands at `base`
abbrev pub one_child : ℕ → List ℕ → List ℕ → Result Box Bad
one_child base bytes kind = boxes false base bytes >>= λ children. one_of (base + length bytes) (of_kind kind children)

-- the one child of either type
abbrev pub one_child_of_two : ℕ → List ℕ → List ℕ → List ℕ → Result Box Bad
one_child_of_two base bytes kind other = boxes false base bytes >>= λ children. one_of (base + length bytes) (of_either kind other children)

-- the one child of that type where there may be none
abbrev pub optional_child : ℕ → List ℕ → List ℕ → Result (Option Box) Bad
optional_child base bytes kind = boxes false base bytes >>= λ children. at_most_one_of (of_kind kind children)

-- the one child of either type where there may be none
abbrev pub optional_child_of_two : ℕ → List ℕ → List ℕ → List ℕ → Result (Option Box) Bad
optional_child_of_two base bytes kind other = boxes false base bytes >>= λ children. at_most_one_of (of_either kind other children)

-- the first child of that type, which may stand more than once or not at all
abbrev pub first_child : ℕ → List ℕ → List ℕ → Result (Option Box) Bad
first_child base bytes kind = boxes false base bytes >>= λ children. Ok (first_of (of_kind kind children))

-- how many children have that type
abbrev pub child_count : ℕ → List ℕ → List ℕ → Result ℕ Bad
child_count base bytes kind = boxes false base bytes >>= λ children. Ok (length (of_kind kind children))

-- the span is where the body of the box stands in the bytes, which stand at `base`, behind its header
pub record IsSpan (base : ℕ) (bytes : List ℕ) (span : Span) (box : Box) : Type 0 where
  pub place : span.place ≡ box.place
  pub from : base + span.from ≡ body_place box
  pub to : base + span.to ≡ body_place box + length box.body
  pub header : slice_range bytes (span.place - base) span.from ≡ box.header
  pub body : slice_range bytes span.from span.to ≡ box.body

-- the span lies in the bytes
pub record IsWithin (bytes : List ℕ) (span : Span) : Type 0 where
  pub rises : span.from ≤ span.to
  pub ends : span.to ≤ length bytes

-- the type and the span are those of the box
pub record IsChildBox (base : ℕ) (bytes : List ℕ) (child : ChildBox) (box : Box) : Type 0 where
  pub kind : child.kind ≡ box.kind
  pub span : IsSpan base bytes child.span box

-- where the body of the box with that head stands
abbrev pub span_of : ℕ → BoxHead → Span
span_of base head = record { from = head.place + head.head; to = head.place + head.len; place = base + head.place }

-- the head is that of the box, whose bytes stand there, header and all
pub record IsHeadOf (base : ℕ) (bytes : List ℕ) (head : BoxHead) (box : Box) : Type 0 where
  pub kind : head.kind ≡ box.kind
  pub span : IsSpan base bytes (span_of base head) box
  pub whole : slice_range bytes head.place (head.place + head.len) ≡ whole_box box

-- what was found is the wanted box, or it is the refusal
abbrev pub GivesBox : {A : Type 0} → (A → Box → Type 0) → Result A Bad → Result Box Bad → Type 0
GivesBox Is (Ok found) wanted = (box : Box) × (wanted ≡ Ok box) × Is found box
GivesBox Is (Err bad) wanted = wanted ≡ Err bad

-- the same where there may be no box
abbrev pub MayGiveBox : {A : Type 0} → (A → Box → Type 0) → Result (Option A) Bad → Result (Option Box) Bad → Type 0
MayGiveBox Is (Ok None) wanted = wanted ≡ Ok None
MayGiveBox Is (Ok (Some found)) wanted = (box : Box) × (wanted ≡ Ok (Some box)) × Is found box
MayGiveBox Is (Err bad) wanted = wanted ≡ Err bad

-- the box that was found is the first of the boxes that are left which are picked, and behind it the others are left
pub record IsFirstOf (pick : List Box → List Box) (base : ℕ) (bytes : List ℕ) (left : List Box) (found : BoxHead) : Type 0 where
  pub first : Box
  pub others : List Box
  pub both : pick left ≡ first ∷ pick others
  pub head : IsHeadOf base bytes found first
  pub cut : AreLeft base (found.place + found.len) bytes others

-- the first of them, or none
abbrev pub MayBeFirstOf : (List Box → List Box) → ℕ → List ℕ → List Box → Option BoxHead → Type 0
MayBeFirstOf pick base bytes left None = pick left ≡ []
MayBeFirstOf pick base bytes left (Some found) = IsFirstOf pick base bytes left found

-- the answer is the next of the boxes that are left, and no refusal
abbrev pub IsNextOf : ℕ → List ℕ → List Box → Result (Option BoxHead) Bad → Type 0
IsNextOf base bytes left (Ok found) = MayBeFirstOf (λ boxes. boxes) base bytes left found
IsNextOf base bytes left (Err bad) = ⊥
