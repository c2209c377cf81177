-- The numbers of a sample, without its bytes.
use Rattle.std.specs.Prelude.{length}
use Rattle.mp_timeline.specs.Movie.{SampleRecord}
use Rattle.mp_dump.specs.declared.row.Row.{Row}

-- how many bytes it has, its times, whether it is a sync sample, and its entry
abbrev pub row_of : SampleRecord → Row
row_of sample = record {
  size = length sample.bytes;
  decode = sample.decode;
  dur = sample.dur;
  comp = sample.comp;
  sync = sample.sync;
  entry = sample.entry;
}
