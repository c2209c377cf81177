-- The files that are generated for a number of pictures: a table, the bytes of the pictures, and a stream of sound (this project's own).
use Rattle.std.specs.Prelude.{ℕ, ◌+◌, ◌*◌, ◌/◌, ◌%◌, ◌==◌, List, [], ◌∷◌, ◌++◌, map, codes, if◌then◌else◌}
use Rattle.std.specs.List.{flat_map, range_with_len, sum_by}
use Rattle.std.specs.Int.{w32, to_be_bytes}

-- the most pictures
abbrev pub most : ℕ
most = 1000000

-- the bytes of picture k
abbrev pub picture_len : ℕ → ℕ
picture_len k = 100 + 37 * k % 50

-- where it lies: behind all before it
abbrev pub picture_from : ℕ → ℕ
picture_from k = sum_by picture_len (range_with_len 0 k)

-- its flags: a whole unit, where decoding may begin at every twelfth
abbrev pub picture_flags : ℕ → ℕ
picture_flags k = if k % 12 == 0 then 0xE0 else 0x60

-- its composition time: three ticks late at every third
abbrev pub picture_shown : ℕ → ℕ
picture_shown k = if k % 3 == 0 then k + 3 else k

-- its record: length, flags, place, composition time and decode time
unfoldable pub picture_record : ℕ → List ℕ
picture_record k =
    (0 ∷ 0 ∷ picture_len k ∷ picture_flags k ∷ [])
    ++ to_be_bytes w32 (picture_from k) ++ to_be_bytes w32 (picture_shown k) ++ to_be_bytes w32 k

-- the head of the table: version 0, stream type 4, object type 0x20, neither buffer nor rates, 25 ticks a second
abbrev pub table_head : List ℕ
table_head = codes "NHnt" ++ 0 ∷ 4 ∷ 0x20 ∷ 0 ∷ 0 ∷ 0 ∷ 0 ∷ 0 ∷ 0 ∷ 0 ∷ 0 ∷ 0 ∷ 0 ∷ 0 ∷ 0 ∷ 0 ∷ 0 ∷ 0 ∷ 0 ∷ 25 ∷ []

-- the NHNT table of so many pictures
abbrev pub table : ℕ → List ℕ
table pictures = table_head ++ flat_map picture_record (range_with_len 0 pictures)

-- the bytes of so many pictures
abbrev pub media : ℕ → List ℕ
media pictures = map (λ place. place % 251) (range_with_len 0 (picture_from pictures))

-- the bytes of frame k behind its header
abbrev pub frame_rest : ℕ → ℕ
frame_rest k = 8 + k % 16

-- its header: MPEG-4, no check word, AAC LC, 44,100 samples a second, two channels, and its length in 13 bits (ISO/IEC 14496-3, 1.A.3.2)
abbrev pub frame_head : ℕ → List ℕ
frame_head k = 0xFF ∷ 0xF1 ∷ 0x50 ∷ 0x80 ∷ (7 + frame_rest k) / 8 ∷ ((7 + frame_rest k) % 8 * 32 + 0x1F) ∷ 0xFC ∷ []

-- the byte there behind the header
unfoldable pub frame_byte : (k place : ℕ) → ℕ
frame_byte k place = (k + place) % 256

-- the frame
unfoldable pub frame : ℕ → List ℕ
frame k = frame_head k ++ map (frame_byte k) (range_with_len 0 (frame_rest k))

-- as many frames of 1024 samples as last as long as the pictures, and one more
abbrev pub frame_count : ℕ → ℕ
frame_count pictures = pictures * 44100 / 25600 + 1

-- the ADTS stream beside so many pictures
abbrev pub stream : ℕ → List ℕ
stream pictures = flat_map frame (range_with_len 0 (frame_count pictures))
