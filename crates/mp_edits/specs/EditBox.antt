-- The edit box, and the edits of a track (ISO/IEC 14496-12, 8.6.5).
use Rattle.std.specs.Prelude.{◌≡◌, ℕ, List, [], ◌∷◌, option_map, Option, Some, None, Ok, codes}
use Rattle.mp_timeline.specs.declared.segment.Segment.{Segment}
use Rattle.mp_boxes.specs.Boxes.{Box}
use Rattle.mp_boxes.specs.Child.{optional_child}
use Rattle.mp_boxes.specs.Field.{Part, container}
use Rattle.mp_boxes.specs.Format.{IsFormat, bodies, parts_of}
use Rattle.mp_boxes.specs.Reading.{value_or}
use Rattle.mp_edits.specs.Segments.{IsEditList}
use Rattle.mp_edits.specs.Table.{elst_of}
use Rattle.mp_edits.specs.Written.{elst}

-- the edit box, which stands only where there are edits
abbrev pub edts : Option (List Segment) → Option Part
edts None = None
edts (Some edits) = Some (container (codes "edts") (elst edits ∷ []))

-- the edits by the bodies of the edit lists: without one there are none
abbrev pub edits_by : List (List ℕ) → Option (List Segment)
edits_by [] = None
edits_by (list ∷ lists) = value_or None (elst_of 0 list)

-- the edits of a track by the body of its edit box: there are none without the box, without an edit list in it, and without an entry
abbrev pub track_edits : Option (List ℕ) → Option (List Segment)
track_edits None = None
track_edits (Some body) = edits_by (bodies (codes "elst") (value_or [] (parts_of body)))

-- edits that can be written: none, or a list
abbrev pub AreEdits : Option (List Segment) → Type 0
AreEdits None = Unit {0}
AreEdits (Some edits) = IsEditList edits

-- the segments of edits
abbrev pub segments_in : Option (List Segment) → List Segment
segments_in None = []
segments_in (Some edits) = edits

-- edits that are written are read, and none are read of a list without entries and where nothing is written; an edit list is the same
-- wherever it stands, and the edits of a track are those of the one edit list in its edit box
pub record EditsAreRead : Type 0 where
  pub list : IsFormat (λ edits. elst (segments_in edits)) elst_of AreEdits
  pub box : (edits : Option (List Segment)) → AreEdits edits → track_edits (option_map (λ (part : Part). part.body) (edts edits)) ≡ edits
  pub anywhere : (base other : ℕ) (body : List ℕ) (edits : Option (List Segment)) → elst_of base body ≡ Ok edits → elst_of other body ≡ Ok edits
  pub listed : (base : ℕ) (body : List ℕ) (list : Box) (edits : Option (List Segment)) → optional_child base body (codes "elst") ≡ Ok (Some list) → elst_of list.place list.body ≡ Ok edits
      → track_edits (Some body) ≡ edits
  pub unlisted : (base : ℕ) (body : List ℕ) → optional_child base body (codes "elst") ≡ Ok None → track_edits (Some body) ≡ None
