-- The sample entry of a pair (ISO/IEC 14496-14, 5.6), and the handler of its track (ISO/IEC 14496-12, 8.4.3).
use Rattle.std.specs.Prelude.{ℕ, List, codes, if◌then◌else◌}
use Rattle.mp_boxes.specs.Field.{box_bytes}
use Rattle.mp_entries.specs.Esds.{EsdsRecord, esds_entry}
use Rattle.nhnt_import.specs.declared.head.Head.{Head}

-- sound or pictures
abbrev pub handler : Head → List ℕ
handler head = if head.sound then codes "soun" else codes "vide"

-- what the entry says: what the head says, two channels with a sample of sound in each tick, the decoder's configuration
abbrev pub entry_fields : Head → List ℕ → EsdsRecord
entry_fields head info = record {
  audio = head.sound;
  object = head.object;
  channels = 2;
  rate = head.scale;
  buffer = head.buffer;
  maximal = head.maximal;
  average = head.average;
  info = info;
}

-- the bytes of the entry
unfoldable pub entry_bytes : Head → List ℕ → List ℕ
entry_bytes head info = box_bytes (esds_entry (entry_fields head info))
