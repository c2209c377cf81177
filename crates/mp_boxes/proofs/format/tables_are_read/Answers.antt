use Rattle.mp_boxes.proofs.TablesAreWritten.{rows-cut, rows_text, table-read, text-len}
use Rattle.mp_boxes.proofs.format.tables_are_read.Goals as goal

pub returns : goal.returns
returns c = record { table = table-read; rows = rows-cut; len = text-len; text = rows_text }
