-- The header of an ADTS frame, by its bits (ISO/IEC 14496-3, 1.A.3.2.1 and 1.A.3.2.2).
use Rattle.std.specs.Prelude.{ℕ, ◌+◌, ◌-◌, ◌/◌, ◌%◌, ◌^◌, ◌==◌, List, [], ◌∷◌, slice_index, if◌then◌else◌}
use Rattle.std.specs.Int.{w64, from_be_bytes}

-- the first seven bytes as one number of 56 bits
unfoldable pub front_number : List ℕ → ℕ
front_number frame = from_be_bytes w64
    (0 ∷ slice_index frame 0 ∷ slice_index frame 1 ∷ slice_index frame 2 ∷ slice_index frame 3
    ∷ slice_index frame 4 ∷ slice_index frame 5 ∷ slice_index frame 6 ∷ [])

-- the number in `count` bits of a number of 56 bits, behind the first `from`
unfoldable pub bits : ℕ → ℕ → ℕ → ℕ
bits front from count = front / 2 ^ (56 - (from + count)) % 2 ^ count

-- syncword
abbrev pub sync : List ℕ → ℕ
sync frame = bits (front_number frame) 0 12

-- layer, behind the bit ID
abbrev pub layer : List ℕ → ℕ
layer frame = bits (front_number frame) 13 2

-- protection_absent: with 0 a check word of two bytes follows
abbrev pub protection_absent : List ℕ → ℕ
protection_absent frame = bits (front_number frame) 15 1

-- profile_ObjectType
abbrev pub profile : List ℕ → ℕ
profile frame = bits (front_number frame) 16 2

-- sampling_frequency_index
abbrev pub frequency_index : List ℕ → ℕ
frequency_index frame = bits (front_number frame) 18 4

-- channel_configuration, behind private_bit
abbrev pub channels : List ℕ → ℕ
channels frame = bits (front_number frame) 23 3

-- aac_frame_length, header included, behind original_copy, home and the two copyright bits
abbrev pub frame_len : List ℕ → ℕ
frame_len frame = bits (front_number frame) 30 13

-- number_of_raw_data_blocks_in_frame: blocks less 1, behind adts_buffer_fullness of 11 bits
abbrev pub more_blocks : List ℕ → ℕ
more_blocks frame = bits (front_number frame) 54 2

-- the bytes of the header
abbrev pub header_len : List ℕ → ℕ
header_len frame = if protection_absent frame == 0 then 9 else 7

-- samples a second, by sampling_frequency_index (1.6.3.4)
abbrev pub frequencies : List ℕ
frequencies = 96000 ∷ 88200 ∷ 64000 ∷ 48000 ∷ 44100 ∷ 32000 ∷ 24000 ∷ 22050 ∷ 16000 ∷ 12000 ∷ 11025 ∷ 8000 ∷ 7350 ∷ []
