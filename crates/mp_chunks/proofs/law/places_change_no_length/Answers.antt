use Rattle.mp_chunks.proofs.PlacesAreSkipped.{length-offsets, same_stsc}
use Rattle.mp_chunks.proofs.law.places_change_no_length.Goals as goal

pub returns : goal.returns
returns c = record { stsc = same_stsc; offsets = length-offsets c.tables_are_read.ensures }
