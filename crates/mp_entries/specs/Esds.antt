-- The sample entries of MPEG-4 sound and pictures (ISO/IEC 14496-14, 5.6), and the stream's descriptor in them (ISO/IEC 14496-1, 7.2.6).
use Rattle.std.specs.Prelude.{ℕ, ◌*◌, ◌^◌, Bool, false, nat_lt, if◌then◌else◌, List, [], ◌∷◌, ◌++◌, drop, codes}
use Rattle.std.specs.Int.{w32, to_be_bytes}
use Rattle.mp_boxes.specs.declared.field.Field.{Field}
use Rattle.mp_boxes.specs.declared.field.Field.TheVariants.{U16, U32}
use Rattle.mp_boxes.specs.Field.{Part, body_bytes, raw, version_and_flags, zeros}
use Rattle.mp_boxes.specs.Table.{mixed}
use Rattle.mp_entries.specs.Visual.{visual_fields}
use Rattle.mp_entries.specs.Descriptor.{descriptor, stream_tag, decoder_tag, specific_tag, sync_tag}

-- what such an entry says: objectTypeIndication, channels and samples a second of sound, size of the buffer,
-- greatest and average bits a second, the decoder's configuration
pub record EsdsRecord : Type 0 where
  pub audio : Bool
  pub object : ℕ
  pub channels : ℕ
  pub rate : ℕ
  pub buffer : ℕ
  pub maximal : ℕ
  pub average : ℕ
  pub info : List ℕ

-- a byte
abbrev pub U8 : ℕ → Field
U8 byte = raw (byte ∷ [])

-- DecoderSpecificInfo (7.2.6.7), where there is any
abbrev pub specific_info : List ℕ → List ℕ
specific_info [] = []
specific_info (byte ∷ bytes) = descriptor specific_tag (byte ∷ bytes)

-- streamType 5 (sound) or 4 (pictures), upStream 0, a bit that is 1
abbrev pub stream_byte : Bool → ℕ
stream_byte audio = if audio then 0x15 else 0x11

-- object type, stream, buffer in 24 bits, greatest and average rate
abbrev pub decoder_fields : EsdsRecord → List Field
decoder_fields e =
    U8 e.object
    ∷ U8 (stream_byte e.audio)
    ∷ raw (drop 1 (to_be_bytes w32 e.buffer))
    ∷ U32 e.maximal
    ∷ U32 e.average
    ∷ []

-- the body of DecoderConfigDescriptor (7.2.6.6)
unfoldable pub decoder_body : EsdsRecord → List ℕ
decoder_body e = body_bytes (decoder_fields e) ++ specific_info e.info

-- the body of ES_Descriptor (7.2.6.5): ES_ID, no flags, the decoder, and SLConfigDescriptor of predefined value 2 (7.3.2.3)
unfoldable pub stream_body : EsdsRecord → List ℕ
stream_body e = body_bytes (U16 0 ∷ U8 0 ∷ []) ++ descriptor decoder_tag (decoder_body e) ++ descriptor sync_tag (2 ∷ [])

-- the box of the stream's descriptor
abbrev pub esds : EsdsRecord → Part
esds e = record { kind = codes "esds"; body = body_bytes (version_and_flags false 0 ∷ []) ++ descriptor stream_tag (stream_body e) }

-- samples a second in 16.16, or 0 where they do not fit
abbrev pub sample_rate : ℕ → ℕ
sample_rate rate = if nat_lt rate (2 ^ 16) then rate * 2 ^ 16 else 0

-- AudioSampleEntry (14496-12, 12.2.3): reserved, data reference 1, reserved, channels, 16 bits a sample, reserved, samples a second
abbrev pub sound_fields : EsdsRecord → List Field
sound_fields e =
    zeros 6
    ∷ U16 1
    ∷ zeros 8
    ∷ U16 e.channels
    ∷ U16 16
    ∷ U32 0
    ∷ U32 (sample_rate e.rate)
    ∷ []

-- the entry of sound
abbrev pub mp4a : EsdsRecord → Part
mp4a e = mixed (codes "mp4a") (sound_fields e) (esds e ∷ [])

-- the entry of pictures: VisualSampleEntry with width and height 0
abbrev pub mp4v : EsdsRecord → Part
mp4v e = mixed (codes "mp4v") (visual_fields 0 0) (esds e ∷ [])

-- the sample entry
abbrev pub esds_entry : EsdsRecord → Part
esds_entry e = if e.audio then mp4a e else mp4v e
