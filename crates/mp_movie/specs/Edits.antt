-- The edits of a track (ISO/IEC 14496-12, 8.6.5 and 8.6.6).
use Rattle.std.specs.Prelude.{[], ◌∷◌, List, Option, Some, None, codes, option_map}
use Rattle.mp_ports.specs.declared.fault.Bad.{Bad}
use Rattle.mp_ports.specs.Checks.{first_some}
use Rattle.mp_boxes.specs.Boxes.{Box}
use Rattle.mp_edits.specs.EditBox.{track_edits}
use Rattle.mp_edits.specs.Table.{elst_of}
use Rattle.mp_timeline.specs.declared.segment.Segment.{Segment}
use Rattle.mp_movie.specs.Readings.{fault_of, if_there}
use Rattle.mp_movie.specs.Children.{any, has_at_most_one, has_boxes}

-- the edit list of an edit box
abbrev pub list_in : Option Box → Option Box
list_in None = None
list_in (Some edts) = any (codes "elst") edts

-- the edits of a track by its edit box
unfoldable pub edits_of : Option Box → Option (List Segment)
edits_of edts = track_edits (option_map (λ box. box.body) edts)

-- the checks of an edit box, in order
unfoldable pub edits_fault : Option Box → Option Bad
edits_fault edts =
    first_some
    (if_there has_boxes edts
    ∷ if_there (has_at_most_one (codes "elst")) edts
    ∷ if_there (λ elst. fault_of (elst_of elst.place elst.body)) (list_in edts)
    ∷ [])
