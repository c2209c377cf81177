-- Descriptors: a tag, a length, a body (ISO/IEC 14496-1, 8.3.3).
use Rattle.std.specs.Prelude.{ℕ, ◌+◌, ◌/◌, ◌%◌, ◌^◌, nat_lt, if◌then◌else◌, List, [], ◌∷◌, ◌++◌, length}

-- the tags of ES_Descriptor, DecoderConfigDescriptor, DecoderSpecificInfo and SLConfigDescriptor (7.2.2.1)
abbrev pub stream_tag : ℕ
stream_tag = 3

abbrev pub decoder_tag : ℕ
decoder_tag = 4

abbrev pub specific_tag : ℕ
specific_tag = 5

abbrev pub sync_tag : ℕ
sync_tag = 6

-- the 7 bits of this unit with the top bit set, where the length has so many
abbrev pub group : ℕ → ℕ → List ℕ
group unit len = if nat_lt len unit then [] else (128 + len / unit % 128) ∷ []

-- a length below 2^28 in the fewest bytes: groups of 7 bits, the top bit set in all but the last
unfoldable pub length_bytes : ℕ → List ℕ
length_bytes len = group (2 ^ 21) len ++ group (2 ^ 14) len ++ group (2 ^ 7) len ++ (len % 128) ∷ []

-- tag and length of a descriptor whose body has `len` bytes
abbrev pub descriptor_head : ℕ → ℕ → List ℕ
descriptor_head tag len = tag ∷ length_bytes len

-- a descriptor
unfoldable pub descriptor : ℕ → List ℕ → List ℕ
descriptor tag body = descriptor_head tag (length body) ++ body
