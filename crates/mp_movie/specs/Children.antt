-- The boxes in a box, picked by type in whatever order they stand (ISO/IEC 14496-12, 4.2), and what is asked of them.
use Rattle.std.specs.Prelude.{ℕ, false, List, [], ◌∷◌, Option, Some, None, Result, codes}
use Rattle.mp_ports.specs.declared.code.Code.{Code}
use Rattle.mp_ports.specs.declared.fault.Bad.{Bad}
use Rattle.mp_ports.specs.Checks.{bad_at}
use Rattle.mp_boxes.specs.Reading.{value_or}
use Rattle.mp_boxes.specs.Boxes.{Box, body_place, boxes, whole_box}
use Rattle.mp_boxes.specs.Child.{of_kind, one_child, one_child_of_two, optional_child}
use Rattle.mp_movie.specs.Readings.{fault_of}

-- the boxes in a box, or the first fault
unfoldable pub children : Box → Result (List Box) Bad
children box = boxes false (body_place box) box.body

-- the one box of a type in it: `BoxMissing` at its end, `BoxTwice` at the second
unfoldable pub one : List ℕ → Box → Result Box Bad
one kind box = one_child (body_place box) box.body kind

-- the same where there may be none
unfoldable pub at_most_one : List ℕ → Box → Result (Option Box) Bad
at_most_one kind box = optional_child (body_place box) box.body kind

-- the one box of either of two types
unfoldable pub one_of_two : List ℕ → List ℕ → Box → Result Box Bad
one_of_two kind other box = one_child_of_two (body_place box) box.body kind other

-- a box that isn't there
abbrev pub no_box : Box
no_box = record { kind = []; header = []; body = []; place = 0 }

-- the boxes in a box, where they are whole
abbrev pub boxes_in : Box → List Box
boxes_in box = value_or [] (children box)

-- the box of a type in it, where there is one
abbrev pub the : List ℕ → Box → Box
the kind box = value_or no_box (one kind box)

-- the same where there may be none
abbrev pub any : List ℕ → Box → Option Box
any kind box = value_or None (at_most_one kind box)

-- all bytes of the first of some boxes, or no bytes
abbrev pub first_whole : List Box → List ℕ
first_whole [] = []
first_whole (box ∷ others) = whole_box box

-- the user data in a box (8.10.1): the first box of its type, or no bytes
unfoldable pub user_data : Box → List ℕ
user_data box = first_whole (of_kind (codes "udta") (boxes_in box))

-- the boxes in it are whole
abbrev pub has_boxes : Box → Option Bad
has_boxes box = fault_of (children box)

-- there is one of that type
abbrev pub has_one : List ℕ → Box → Option Bad
has_one kind box = fault_of (one kind box)

-- there is at most one of that type
abbrev pub has_at_most_one : List ℕ → Box → Option Bad
has_at_most_one kind box = fault_of (at_most_one kind box)

-- there is one of two types
abbrev pub has_one_of_two : List ℕ → List ℕ → Box → Option Bad
has_one_of_two kind other box = fault_of (one_of_two kind other box)

-- the first box, refused with that code
abbrev pub first_refused : Code → List Box → Option Bad
first_refused code [] = None
first_refused code (box ∷ others) = Some (bad_at code box.place)

-- among these boxes is none of that type
abbrev pub has_none : Code → List ℕ → List Box → Option Bad
has_none code kind boxes = first_refused code (of_kind kind boxes)
