-- Data references and sample entries, by what is read of them (ISO/IEC 14496-12, 8.7.2 and 8.5.2).
use Rattle.std.specs.Prelude.{ℕ, Bool, List, [], Option}
use Rattle.mp_ports.specs.declared.fault.Bad.{Bad}
use Rattle.mp_boxes.specs.Reading.{value_or}
use Rattle.mp_boxes.specs.Boxes.{Box, body_place}
use Rattle.mp_entries.specs.Description.{stsd_of}
use Rattle.mp_entries.specs.Reference.{dref_of}
use Rattle.mp_movie.specs.Readings.{fault_of}

-- the check of the data references
unfoldable pub references_fault : Box → Option Bad
references_fault dref = fault_of (dref_of dref.place (body_place dref) dref.body)

-- for each data reference, whether the data is in this file
unfoldable pub local_references : Box → List Bool
local_references dref = value_or [] (dref_of dref.place (body_place dref) dref.body)

-- the check of the sample entries, where these data references are in the file
unfoldable pub entries_fault : List Bool → Box → Option Bad
entries_fault local stsd = fault_of (stsd_of stsd.place (body_place stsd) local stsd.body)

-- the sample entries, each as it is kept
unfoldable pub entries_of : List Bool → Box → List (List ℕ)
entries_of local stsd = value_or [] (stsd_of stsd.place (body_place stsd) local stsd.body)
