-- One frame of an ADTS stream, and what can be wrong with it (ISO/IEC 14496-3, 1.A.2.2 and 1.A.3).
use Rattle.std.specs.Prelude.{ℕ, ◌<◌, ◌≤◌, ◌^◌, ◌≡◌, ◌==◌, ◌&&◌, ◌||◌, not, nat_lt, nat_le, List, [], ◌∷◌, length, drop, Option, Bool}
use Rattle.mp_ports.specs.Checks.{first_code}
use Rattle.mp_ports.specs.Code.{number}
use Rattle.mp_ports.specs.declared.code.Code.{Code}
use Rattle.mp_ports.specs.declared.code.Code.TheVariants.{AdtsSync, AdtsCut, AdtsLayer, AdtsBlocks, AdtsRate, AdtsChannels}
use Rattle.mp_columns.specs.declared.columns.TheConstants.{MOST_ITEMS}
use Rattle.adts_import.specs.declared.header.Configuration.{Configuration}
use Rattle.adts_import.specs.declared.header.Header.{Header}
use Rattle.adts_import.specs.Header.{sync, layer, profile, frequency_index, channels, frame_len, header_len, more_blocks}

-- what is one for the whole stream
abbrev pub configuration : List ℕ → Configuration
configuration frame = record { profile = profile frame; frequency_index = frequency_index frame; channels = channels frame }

-- the fields of the header that the import needs
abbrev pub header_of : List ℕ → Header
header_of frame = record { configuration = configuration frame; header_len = header_len frame; frame_len = frame_len frame }

-- the most frames that are read: the most samples that a movie keeps
abbrev pub most_frames : ℕ
most_frames = MOST_ITEMS

-- the frame's length is shorter than its header, or longer than what is left
abbrev pub is_cut : List ℕ → ℕ → Bool
is_cut front left = nat_lt (frame_len front) (header_len front) || nat_lt left (frame_len front)

-- the checks of the frame that begins with `front`, taken by itself, in order; `left` bytes are left with it, and `front` is the first
-- seven of them or more, or all
abbrev pub header_checks : List ℕ → ℕ → List (Bool × Code)
header_checks front left =
    (nat_lt left 7, AdtsCut)
    ∷ (not (sync front == 0xFFF), AdtsSync)
    ∷ (not (layer front == 0), AdtsLayer)
    ∷ (nat_lt 12 (frequency_index front), AdtsRate)
    ∷ (channels front == 0, AdtsChannels)
    ∷ (is_cut front left, AdtsCut)
    ∷ (not (more_blocks front == 0), AdtsBlocks)
    ∷ []

-- the first of them that fails
unfoldable pub header_fault : List ℕ → ℕ → Option Code
header_fault front left = first_code (header_checks front left)

-- the configuration isn't that of the stream
abbrev pub changes : Configuration → List ℕ → Bool
changes stream front =
    not ((profile front == stream.profile) && ((frequency_index front == stream.frequency_index) && (channels front == stream.channels)))

-- one whole frame of AAC, with one block
pub record IsFrame (frame : List ℕ) : Type 0 where
  pub syncword : sync frame ≡ 0xFFF
  pub no_layer : layer frame ≡ 0
  pub has_frequency : frequency_index frame ≤ 12
  pub has_channels : 1 ≤ channels frame
  pub len : frame_len frame ≡ length frame
  pub whole_header : header_len frame ≤ length frame
  pub one_block : more_blocks frame ≡ 0

-- a configuration that has an entry
pub record IsConfiguration (configuration : Configuration) : Type 0 where
  pub profile : configuration.profile < 4
  pub frequency_index : configuration.frequency_index ≤ 12
  pub some_channels : 1 ≤ configuration.channels
  pub channels : configuration.channels < 8

-- the frame is whole where so many bytes are left
pub record IsHeader (header : Header) (left : ℕ) : Type 0 where
  pub configuration : IsConfiguration header.configuration
  pub some_header : 7 ≤ header.header_len
  pub payload : header.header_len ≤ header.frame_len
  pub whole : header.frame_len ≤ left
  pub short : header.frame_len < 2 ^ 13

-- one of the codes for what can be wrong with a stream: those of ADTS, and the limit of samples
abbrev pub is_stream_code : Code → Bool
is_stream_code code = (nat_le 40 (number code) && nat_le (number code) 47) || (number code == 90)

-- the bytes behind the header and its check word
abbrev pub payload : List ℕ → List ℕ
payload frame = drop (header_len frame) frame
