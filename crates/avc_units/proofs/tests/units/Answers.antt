use Rattle.std.proofs.Common.{rules}
use Rattle.avc_units.proofs.tests.units.Goals as goal

-- a new reader is one of each file of its size
pub loop-init : goal.loop-init
loop-init c = record {
  opened = search rules;
  file = search rules;
  reader = c.new-reader.ensures.reader _ (search rules);
  window = search rules;
}
