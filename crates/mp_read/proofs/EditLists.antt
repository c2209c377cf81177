-- The edits of a track are those of the one edit list in its edit box.
use Rattle.std.proofs.Common.{◌≡◌, [], ◌∷◌, List, Option, Some, None, Result, Ok, Err, refl, ap}
use Rattle.std.specs.Prelude.{codes}
use Rattle.mp_ports.specs.declared.fault.Bad.{Bad}
use Rattle.mp_ports.specs.Checks.{first_some, unless}
use Rattle.mp_boxes.specs.Boxes.{Box, body_place}
use Rattle.mp_timeline.specs.declared.segment.Segment.{Segment}
use Rattle.mp_edits.specs.EditBox.{EditsAreRead}
use Rattle.mp_edits.specs.Table.{elst_of}
use Rattle.mp_movie.specs.Children.{at_most_one, has_boxes}
use Rattle.mp_movie.specs.Edits.{edits_fault, edits_of}
use Rattle.mp_movie.specs.Readings.{fault_of}

-- what is read of an edit box with that edit list, and with none
pub edits_with : EditsAreRead → (edts elst : Box) → has_boxes edts ≡ None → at_most_one (codes "elst") edts ≡ Ok (Some elst) → unless (edits_fault (Some edts)) (edits_of (Some edts)) ≡ elst_of elst.place elst.body
unfolding edits_fault edits_of at_most_one
edits_with law edts elst whole one = rw (whole, one) (by (elst_of elst.place elst.body) refl)
  where
    by : (r : Result (Option (List Segment)) Bad) → elst_of elst.place elst.body ≡ r → unless (first_some (fault_of r ∷ [])) (edits_of (Some edts)) ≡ r
    by (Ok edits) e = ap (λ (found : Option (List Segment)). Ok found) (law.listed (body_place edts) edts.body elst edits one e)
    by (Err bad) e = refl

pub edits_without : EditsAreRead → (edts : Box) → has_boxes edts ≡ None → at_most_one (codes "elst") edts ≡ Ok None → unless (edits_fault (Some edts)) (edits_of (Some edts)) ≡ Ok None
unfolding edits_fault edits_of at_most_one
edits_without law edts whole one = rw (whole, one) (ap (λ (found : Option (List Segment)). Ok found) (law.unlisted (body_place edts) edts.body one))
