-- The sample entry of AAC sound (ISO/IEC 14496-14, 5.6; 14496-3, 1.6.2.1).
use Rattle.std.specs.Prelude.{ℕ, ◌+◌, ◌*◌, ◌^◌, ◌==◌, true, List, slice_index, if◌then◌else◌}
use Rattle.std.specs.Int.{w16, to_be_bytes}
use Rattle.mp_boxes.specs.Field.{box_bytes}
use Rattle.mp_entries.specs.Esds.{EsdsRecord, esds_entry}
use Rattle.adts_import.specs.declared.header.Configuration.{Configuration}
use Rattle.adts_import.specs.Header.{frequencies}

-- samples a second
abbrev pub frequency : Configuration → ℕ
frequency configuration = slice_index frequencies configuration.frequency_index

-- loudspeakers: channel configuration 7 has eight, each other as many as its number
abbrev pub loudspeakers : Configuration → ℕ
loudspeakers configuration = if configuration.channels == 7 then 8 else configuration.channels

-- AudioSpecificConfig: audioObjectType 5 bits, frequency index 4, channel configuration 4, three 0 bits
abbrev pub audio_config : Configuration → List ℕ
audio_config c = to_be_bytes w16 ((c.profile + 1) * 2 ^ 11 + c.frequency_index * 2 ^ 7 + c.channels * 2 ^ 3)

-- what the entry says: the object type of AAC (14496-1, 7.2.6.6), size of the buffer and bits a second unknown
abbrev pub entry_fields : Configuration → EsdsRecord
entry_fields configuration = record {
  audio = true;
  object = 0x40;
  channels = loudspeakers configuration;
  rate = frequency configuration;
  buffer = 0;
  maximal = 0;
  average = 0;
  info = audio_config configuration;
}

-- the bytes of the entry
unfoldable pub entry_bytes : Configuration → List ℕ
entry_bytes configuration = box_bytes (esds_entry (entry_fields configuration))
