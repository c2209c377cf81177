-- A movie of two tracks and its file with the samples in windows of a second, laid out by hand from the tables of
-- ISO/IEC 14496-12: edits, offsets below 0, sync marks, two entries, user data, a sample of no bytes.
use Rattle.std.specs.Prelude.{ℕ, pos, true, false, List, [], ◌∷◌, ◌++◌, codes, Some, None}
use Rattle.mp_timeline.specs.declared.segment.Segment.TheVariants.{Empty, Media}
use Rattle.mp_timeline.specs.Movie.{MovieRecord}
use Rattle.mp_timeline.specs.Plain.{unit_matrix}

-- the file type box, and of the movie box its header in version 1, since the creation time needs it: 1500 ticks, next track 4
abbrev head_of_file : List ℕ
head_of_file =
    0 ∷ 0 ∷ 0 ∷ 28 ∷ 102 ∷ 116 ∷ 121 ∷ 112 ∷ 105 ∷ 115 ∷ 111 ∷ 109 ∷ 0 ∷ 0 ∷ 0 ∷ 1 ∷ 105 ∷ 115 ∷ 111 ∷ 109
    ∷ 105 ∷ 115 ∷ 111 ∷ 52 ∷ 109 ∷ 112 ∷ 52 ∷ 50 ∷ 0 ∷ 0 ∷ 4 ∷ 75 ∷ 109 ∷ 111 ∷ 111 ∷ 118 ∷ 0 ∷ 0 ∷ 0 ∷ 120
    ∷ 109 ∷ 118 ∷ 104 ∷ 100 ∷ 1 ∷ 0 ∷ 0 ∷ 0 ∷ 0 ∷ 0 ∷ 0 ∷ 2 ∷ 0 ∷ 0 ∷ 0 ∷ 0 ∷ 0 ∷ 0 ∷ 0 ∷ 0
    ∷ 0 ∷ 0 ∷ 0 ∷ 7 ∷ 0 ∷ 0 ∷ 2 ∷ 88 ∷ 0 ∷ 0 ∷ 0 ∷ 0 ∷ 0 ∷ 0 ∷ 5 ∷ 220 ∷ 0 ∷ 1 ∷ 0 ∷ 0
    ∷ 1 ∷ 0 ∷ 0 ∷ 0 ∷ 0 ∷ 0 ∷ 0 ∷ 0 ∷ 0 ∷ 0 ∷ 0 ∷ 0 ∷ 0 ∷ 1 ∷ 0 ∷ 0 ∷ 0 ∷ 0 ∷ 0 ∷ 0
    ∷ 0 ∷ 0 ∷ 0 ∷ 0 ∷ 0 ∷ 0 ∷ 0 ∷ 0 ∷ 0 ∷ 1 ∷ 0 ∷ 0 ∷ 0 ∷ 0 ∷ 0 ∷ 0 ∷ 0 ∷ 0 ∷ 0 ∷ 0
    ∷ 0 ∷ 0 ∷ 0 ∷ 0 ∷ 64 ∷ 0 ∷ 0 ∷ 0 ∷ 0 ∷ 0 ∷ 0 ∷ 0 ∷ 0 ∷ 0 ∷ 0 ∷ 0 ∷ 0 ∷ 0 ∷ 0 ∷ 0
    ∷ 0 ∷ 0 ∷ 0 ∷ 0 ∷ 0 ∷ 0 ∷ 0 ∷ 0 ∷ 0 ∷ 0 ∷ 0 ∷ 0 ∷ 0 ∷ 0 ∷ 0 ∷ 4 ∷ []

-- track 3: its headers, edit list (nothing for 300 ticks, then 1200 from media time 400 on), handler `vide` named `v`, and what stands before its tables
abbrev first_heads : List ℕ
first_heads =
    0 ∷ 0 ∷ 2 ∷ 68 ∷ 116 ∷ 114 ∷ 97 ∷ 107 ∷ 0 ∷ 0 ∷ 0 ∷ 92 ∷ 116 ∷ 107 ∷ 104 ∷ 100 ∷ 0 ∷ 0 ∷ 0 ∷ 7
    ∷ 0 ∷ 0 ∷ 0 ∷ 5 ∷ 0 ∷ 0 ∷ 0 ∷ 6 ∷ 0 ∷ 0 ∷ 0 ∷ 3 ∷ 0 ∷ 0 ∷ 0 ∷ 0 ∷ 0 ∷ 0 ∷ 5 ∷ 220
    ∷ 0 ∷ 0 ∷ 0 ∷ 0 ∷ 0 ∷ 0 ∷ 0 ∷ 0 ∷ 255 ∷ 255 ∷ 0 ∷ 2 ∷ 0 ∷ 0 ∷ 0 ∷ 0 ∷ 0 ∷ 1 ∷ 0 ∷ 0
    ∷ 0 ∷ 0 ∷ 0 ∷ 0 ∷ 0 ∷ 0 ∷ 0 ∷ 0 ∷ 0 ∷ 0 ∷ 0 ∷ 0 ∷ 0 ∷ 1 ∷ 0 ∷ 0 ∷ 0 ∷ 0 ∷ 0 ∷ 0
    ∷ 0 ∷ 0 ∷ 0 ∷ 0 ∷ 0 ∷ 0 ∷ 0 ∷ 0 ∷ 64 ∷ 0 ∷ 0 ∷ 0 ∷ 1 ∷ 64 ∷ 0 ∷ 0 ∷ 0 ∷ 240 ∷ 0 ∷ 0
    ∷ 0 ∷ 0 ∷ 0 ∷ 48 ∷ 101 ∷ 100 ∷ 116 ∷ 115 ∷ 0 ∷ 0 ∷ 0 ∷ 40 ∷ 101 ∷ 108 ∷ 115 ∷ 116 ∷ 0 ∷ 0 ∷ 0 ∷ 0
    ∷ 0 ∷ 0 ∷ 0 ∷ 2 ∷ 0 ∷ 0 ∷ 1 ∷ 44 ∷ 255 ∷ 255 ∷ 255 ∷ 255 ∷ 0 ∷ 1 ∷ 0 ∷ 0 ∷ 0 ∷ 0 ∷ 4 ∷ 176
    ∷ 0 ∷ 0 ∷ 1 ∷ 144 ∷ 0 ∷ 1 ∷ 0 ∷ 0 ∷ 0 ∷ 0 ∷ 1 ∷ 167 ∷ 109 ∷ 100 ∷ 105 ∷ 97 ∷ 0 ∷ 0 ∷ 0 ∷ 44
    ∷ 109 ∷ 100 ∷ 104 ∷ 100 ∷ 1 ∷ 0 ∷ 0 ∷ 0 ∷ 0 ∷ 0 ∷ 0 ∷ 1 ∷ 0 ∷ 0 ∷ 0 ∷ 0 ∷ 0 ∷ 0 ∷ 0 ∷ 0
    ∷ 0 ∷ 0 ∷ 0 ∷ 1 ∷ 0 ∷ 0 ∷ 3 ∷ 232 ∷ 0 ∷ 0 ∷ 0 ∷ 0 ∷ 0 ∷ 0 ∷ 7 ∷ 208 ∷ 21 ∷ 199 ∷ 0 ∷ 0
    ∷ 0 ∷ 0 ∷ 0 ∷ 34 ∷ 104 ∷ 100 ∷ 108 ∷ 114 ∷ 0 ∷ 0 ∷ 0 ∷ 0 ∷ 0 ∷ 0 ∷ 0 ∷ 0 ∷ 118 ∷ 105 ∷ 100 ∷ 101
    ∷ 0 ∷ 0 ∷ 0 ∷ 0 ∷ 0 ∷ 0 ∷ 0 ∷ 0 ∷ 0 ∷ 0 ∷ 0 ∷ 0 ∷ 118 ∷ 0 ∷ 0 ∷ 0 ∷ 1 ∷ 81 ∷ 109 ∷ 105
    ∷ 110 ∷ 102 ∷ 0 ∷ 0 ∷ 0 ∷ 20 ∷ 118 ∷ 109 ∷ 104 ∷ 100 ∷ 0 ∷ 0 ∷ 0 ∷ 1 ∷ 0 ∷ 0 ∷ 0 ∷ 0 ∷ 0 ∷ 0
    ∷ 0 ∷ 0 ∷ 0 ∷ 0 ∷ 0 ∷ 36 ∷ 100 ∷ 105 ∷ 110 ∷ 102 ∷ 0 ∷ 0 ∷ 0 ∷ 28 ∷ 100 ∷ 114 ∷ 101 ∷ 102 ∷ 0 ∷ 0
    ∷ 0 ∷ 0 ∷ 0 ∷ 0 ∷ 0 ∷ 1 ∷ 0 ∷ 0 ∷ 0 ∷ 12 ∷ 117 ∷ 114 ∷ 108 ∷ 32 ∷ 0 ∷ 0 ∷ 0 ∷ 1 ∷ []

-- its tables: two entries; 5 samples of 400 ticks; offsets 0, 800, -400 twice and 0; samples 1 and 5 sync; chunks of 2 samples of entry 1, of 1 and of 2 of entry 2
abbrev first_tables : List ℕ
first_tables =
    0 ∷ 0 ∷ 1 ∷ 17 ∷ 115 ∷ 116 ∷ 98 ∷ 108 ∷ 0 ∷ 0 ∷ 0 ∷ 49 ∷ 115 ∷ 116 ∷ 115 ∷ 100 ∷ 0 ∷ 0 ∷ 0 ∷ 0
    ∷ 0 ∷ 0 ∷ 0 ∷ 2 ∷ 0 ∷ 0 ∷ 0 ∷ 17 ∷ 116 ∷ 115 ∷ 116 ∷ 49 ∷ 0 ∷ 0 ∷ 0 ∷ 0 ∷ 0 ∷ 0 ∷ 0 ∷ 1
    ∷ 17 ∷ 0 ∷ 0 ∷ 0 ∷ 16 ∷ 116 ∷ 115 ∷ 116 ∷ 50 ∷ 0 ∷ 0 ∷ 0 ∷ 0 ∷ 0 ∷ 0 ∷ 0 ∷ 1 ∷ 0 ∷ 0 ∷ 0
    ∷ 24 ∷ 115 ∷ 116 ∷ 116 ∷ 115 ∷ 0 ∷ 0 ∷ 0 ∷ 0 ∷ 0 ∷ 0 ∷ 0 ∷ 1 ∷ 0 ∷ 0 ∷ 0 ∷ 5 ∷ 0 ∷ 0 ∷ 1
    ∷ 144 ∷ 0 ∷ 0 ∷ 0 ∷ 48 ∷ 99 ∷ 116 ∷ 116 ∷ 115 ∷ 1 ∷ 0 ∷ 0 ∷ 0 ∷ 0 ∷ 0 ∷ 0 ∷ 4 ∷ 0 ∷ 0 ∷ 0
    ∷ 1 ∷ 0 ∷ 0 ∷ 0 ∷ 0 ∷ 0 ∷ 0 ∷ 0 ∷ 1 ∷ 0 ∷ 0 ∷ 3 ∷ 32 ∷ 0 ∷ 0 ∷ 0 ∷ 2 ∷ 255 ∷ 255 ∷ 254
    ∷ 112 ∷ 0 ∷ 0 ∷ 0 ∷ 1 ∷ 0 ∷ 0 ∷ 0 ∷ 0 ∷ 0 ∷ 0 ∷ 0 ∷ 24 ∷ 115 ∷ 116 ∷ 115 ∷ 115 ∷ 0 ∷ 0 ∷ 0
    ∷ 0 ∷ 0 ∷ 0 ∷ 0 ∷ 2 ∷ 0 ∷ 0 ∷ 0 ∷ 1 ∷ 0 ∷ 0 ∷ 0 ∷ 5 ∷ 0 ∷ 0 ∷ 0 ∷ 52 ∷ 115 ∷ 116 ∷ 115
    ∷ 99 ∷ 0 ∷ 0 ∷ 0 ∷ 0 ∷ 0 ∷ 0 ∷ 0 ∷ 3 ∷ 0 ∷ 0 ∷ 0 ∷ 1 ∷ 0 ∷ 0 ∷ 0 ∷ 2 ∷ 0 ∷ 0 ∷ 0
    ∷ 1 ∷ 0 ∷ 0 ∷ 0 ∷ 2 ∷ 0 ∷ 0 ∷ 0 ∷ 1 ∷ 0 ∷ 0 ∷ 0 ∷ 2 ∷ 0 ∷ 0 ∷ 0 ∷ 3 ∷ 0 ∷ 0 ∷ 0
    ∷ 2 ∷ 0 ∷ 0 ∷ 0 ∷ 2 ∷ 0 ∷ 0 ∷ 0 ∷ 40 ∷ 115 ∷ 116 ∷ 115 ∷ 122 ∷ 0 ∷ 0 ∷ 0 ∷ 0 ∷ 0 ∷ 0 ∷ 0
    ∷ 0 ∷ 0 ∷ 0 ∷ 0 ∷ 5 ∷ 0 ∷ 0 ∷ 0 ∷ 3 ∷ 0 ∷ 0 ∷ 0 ∷ 1 ∷ 0 ∷ 0 ∷ 0 ∷ 2 ∷ 0 ∷ 0 ∷ 0
    ∷ 0 ∷ 0 ∷ 0 ∷ 0 ∷ 1 ∷ 0 ∷ 0 ∷ 0 ∷ 28 ∷ 115 ∷ 116 ∷ 99 ∷ 111 ∷ 0 ∷ 0 ∷ 0 ∷ 0 ∷ 0 ∷ 0 ∷ 0
    ∷ 3 ∷ 0 ∷ 0 ∷ 4 ∷ 111 ∷ 0 ∷ 0 ∷ 4 ∷ 115 ∷ 0 ∷ 0 ∷ 4 ∷ 121 ∷ []

-- its user data
abbrev first_data : List ℕ
first_data =
    0 ∷ 0 ∷ 0 ∷ 9 ∷ 117 ∷ 100 ∷ 116 ∷ 97 ∷ 9 ∷ []

-- track 1: sound, one entry, 3 samples of 4000 ticks and 2 bytes, in chunks of 2 and of 1
abbrev second_track : List ℕ
second_track =
    0 ∷ 0 ∷ 1 ∷ 125 ∷ 116 ∷ 114 ∷ 97 ∷ 107 ∷ 0 ∷ 0 ∷ 0 ∷ 92 ∷ 116 ∷ 107 ∷ 104 ∷ 100 ∷ 0 ∷ 0 ∷ 0 ∷ 3
    ∷ 0 ∷ 0 ∷ 0 ∷ 0 ∷ 0 ∷ 0 ∷ 0 ∷ 0 ∷ 0 ∷ 0 ∷ 0 ∷ 1 ∷ 0 ∷ 0 ∷ 0 ∷ 0 ∷ 0 ∷ 0 ∷ 3 ∷ 132
    ∷ 0 ∷ 0 ∷ 0 ∷ 0 ∷ 0 ∷ 0 ∷ 0 ∷ 0 ∷ 0 ∷ 0 ∷ 0 ∷ 0 ∷ 1 ∷ 0 ∷ 0 ∷ 0 ∷ 0 ∷ 1 ∷ 0 ∷ 0
    ∷ 0 ∷ 0 ∷ 0 ∷ 0 ∷ 0 ∷ 0 ∷ 0 ∷ 0 ∷ 0 ∷ 0 ∷ 0 ∷ 0 ∷ 0 ∷ 1 ∷ 0 ∷ 0 ∷ 0 ∷ 0 ∷ 0 ∷ 0
    ∷ 0 ∷ 0 ∷ 0 ∷ 0 ∷ 0 ∷ 0 ∷ 0 ∷ 0 ∷ 64 ∷ 0 ∷ 0 ∷ 0 ∷ 0 ∷ 0 ∷ 0 ∷ 0 ∷ 0 ∷ 0 ∷ 0 ∷ 0
    ∷ 0 ∷ 0 ∷ 1 ∷ 25 ∷ 109 ∷ 100 ∷ 105 ∷ 97 ∷ 0 ∷ 0 ∷ 0 ∷ 32 ∷ 109 ∷ 100 ∷ 104 ∷ 100 ∷ 0 ∷ 0 ∷ 0 ∷ 0
    ∷ 0 ∷ 0 ∷ 0 ∷ 0 ∷ 0 ∷ 0 ∷ 0 ∷ 0 ∷ 0 ∷ 0 ∷ 31 ∷ 64 ∷ 0 ∷ 0 ∷ 46 ∷ 224 ∷ 85 ∷ 196 ∷ 0 ∷ 0
    ∷ 0 ∷ 0 ∷ 0 ∷ 33 ∷ 104 ∷ 100 ∷ 108 ∷ 114 ∷ 0 ∷ 0 ∷ 0 ∷ 0 ∷ 0 ∷ 0 ∷ 0 ∷ 0 ∷ 115 ∷ 111 ∷ 117 ∷ 110
    ∷ 0 ∷ 0 ∷ 0 ∷ 0 ∷ 0 ∷ 0 ∷ 0 ∷ 0 ∷ 0 ∷ 0 ∷ 0 ∷ 0 ∷ 0 ∷ 0 ∷ 0 ∷ 0 ∷ 208 ∷ 109 ∷ 105 ∷ 110
    ∷ 102 ∷ 0 ∷ 0 ∷ 0 ∷ 16 ∷ 115 ∷ 109 ∷ 104 ∷ 100 ∷ 0 ∷ 0 ∷ 0 ∷ 0 ∷ 0 ∷ 0 ∷ 0 ∷ 0 ∷ 0 ∷ 0 ∷ 0
    ∷ 36 ∷ 100 ∷ 105 ∷ 110 ∷ 102 ∷ 0 ∷ 0 ∷ 0 ∷ 28 ∷ 100 ∷ 114 ∷ 101 ∷ 102 ∷ 0 ∷ 0 ∷ 0 ∷ 0 ∷ 0 ∷ 0 ∷ 0
    ∷ 1 ∷ 0 ∷ 0 ∷ 0 ∷ 12 ∷ 117 ∷ 114 ∷ 108 ∷ 32 ∷ 0 ∷ 0 ∷ 0 ∷ 1 ∷ 0 ∷ 0 ∷ 0 ∷ 148 ∷ 115 ∷ 116 ∷ 98
    ∷ 108 ∷ 0 ∷ 0 ∷ 0 ∷ 32 ∷ 115 ∷ 116 ∷ 115 ∷ 100 ∷ 0 ∷ 0 ∷ 0 ∷ 0 ∷ 0 ∷ 0 ∷ 0 ∷ 1 ∷ 0 ∷ 0 ∷ 0
    ∷ 16 ∷ 116 ∷ 115 ∷ 116 ∷ 51 ∷ 0 ∷ 0 ∷ 0 ∷ 0 ∷ 0 ∷ 0 ∷ 0 ∷ 1 ∷ 0 ∷ 0 ∷ 0 ∷ 24 ∷ 115 ∷ 116 ∷ 116
    ∷ 115 ∷ 0 ∷ 0 ∷ 0 ∷ 0 ∷ 0 ∷ 0 ∷ 0 ∷ 1 ∷ 0 ∷ 0 ∷ 0 ∷ 3 ∷ 0 ∷ 0 ∷ 15 ∷ 160 ∷ 0 ∷ 0 ∷ 0
    ∷ 40 ∷ 115 ∷ 116 ∷ 115 ∷ 99 ∷ 0 ∷ 0 ∷ 0 ∷ 0 ∷ 0 ∷ 0 ∷ 0 ∷ 2 ∷ 0 ∷ 0 ∷ 0 ∷ 1 ∷ 0 ∷ 0 ∷ 0
    ∷ 2 ∷ 0 ∷ 0 ∷ 0 ∷ 1 ∷ 0 ∷ 0 ∷ 0 ∷ 2 ∷ 0 ∷ 0 ∷ 0 ∷ 1 ∷ 0 ∷ 0 ∷ 0 ∷ 1 ∷ 0 ∷ 0 ∷ 0
    ∷ 20 ∷ 115 ∷ 116 ∷ 115 ∷ 122 ∷ 0 ∷ 0 ∷ 0 ∷ 0 ∷ 0 ∷ 0 ∷ 0 ∷ 2 ∷ 0 ∷ 0 ∷ 0 ∷ 3 ∷ 0 ∷ 0 ∷ 0
    ∷ 24 ∷ 115 ∷ 116 ∷ 99 ∷ 111 ∷ 0 ∷ 0 ∷ 0 ∷ 0 ∷ 0 ∷ 0 ∷ 0 ∷ 2 ∷ 0 ∷ 0 ∷ 4 ∷ 117 ∷ 0 ∷ 0 ∷ 4
    ∷ 122 ∷ []

-- user data of the movie, and the samples: in the first second the first track's three, then the second's two; in the second two and one
abbrev tail_of_file : List ℕ
tail_of_file =
    0 ∷ 0 ∷ 0 ∷ 10 ∷ 117 ∷ 100 ∷ 116 ∷ 97 ∷ 1 ∷ 2 ∷ 0 ∷ 0 ∷ 0 ∷ 21 ∷ 109 ∷ 100 ∷ 97 ∷ 116 ∷ 1 ∷ 2
    ∷ 3 ∷ 4 ∷ 5 ∷ 6 ∷ 21 ∷ 22 ∷ 23 ∷ 24 ∷ 7 ∷ 25 ∷ 26 ∷ []

-- the file: 1148 bytes
unfoldable pub example_file : List ℕ
example_file = head_of_file ++ first_heads ++ first_tables ++ first_data ++ second_track ++ tail_of_file

-- the movie
unfoldable pub example_movie : MovieRecord
example_movie = record {
  scale = 600;
  head = record { created = 8589934592; modified = 7; rate = 65536; volume = 256; matrix = unit_matrix; udta = 0 ∷ 0 ∷ 0 ∷ 10 ∷ 117 ∷ 100 ∷ 116 ∷ 97 ∷ 1 ∷ 2 ∷ [] };
  tracks =
      record {
        number = 3;
        head = record {
          flags = 7;
          created = 5;
          modified = 6;
          layer = 65535;
          group = 2;
          volume = 0;
          matrix = unit_matrix;
          width = 20971520;
          height = 15728640;
          media_created = 4294967296;
          media_modified = 1;
          language = 5575;
          handler = codes "vide";
          name = 118 ∷ 0 ∷ [];
          udta = 0 ∷ 0 ∷ 0 ∷ 9 ∷ 117 ∷ 100 ∷ 116 ∷ 97 ∷ 9 ∷ [];
        };
        scale = 1000;
        entries = (0 ∷ 0 ∷ 0 ∷ 17 ∷ 116 ∷ 115 ∷ 116 ∷ 49 ∷ 0 ∷ 0 ∷ 0 ∷ 0 ∷ 0 ∷ 0 ∷ 0 ∷ 1 ∷ 17 ∷ []) ∷ (0 ∷ 0 ∷ 0 ∷ 16 ∷ 116 ∷ 115 ∷ 116 ∷ 50 ∷ 0 ∷ 0 ∷ 0 ∷ 0 ∷ 0 ∷ 0 ∷ 0 ∷ 1 ∷ []) ∷ [];
        samples =
            record { bytes = 1 ∷ 2 ∷ 3 ∷ []; decode = 0; dur = 400; comp = pos 0; sync = true; entry = 1 }
            ∷ record { bytes = 4 ∷ []; decode = 400; dur = 400; comp = pos 1200; sync = false; entry = 1 }
            ∷ record { bytes = 5 ∷ 6 ∷ []; decode = 800; dur = 400; comp = pos 400; sync = false; entry = 2 }
            ∷ record { bytes = []; decode = 1200; dur = 400; comp = pos 800; sync = false; entry = 2 }
            ∷ record { bytes = 7 ∷ []; decode = 1600; dur = 400; comp = pos 1600; sync = true; entry = 2 }
            ∷ [];
        edits = Some (Empty 300 ∷ Media 400 1200 ∷ []);
      }
      ∷ record {
        number = 1;
        head = record {
          flags = 3;
          created = 0;
          modified = 0;
          layer = 0;
          group = 0;
          volume = 256;
          matrix = unit_matrix;
          width = 0;
          height = 0;
          media_created = 0;
          media_modified = 0;
          language = 21956;
          handler = codes "soun";
          name = 0 ∷ [];
          udta = [];
        };
        scale = 8000;
        entries = (0 ∷ 0 ∷ 0 ∷ 16 ∷ 116 ∷ 115 ∷ 116 ∷ 51 ∷ 0 ∷ 0 ∷ 0 ∷ 0 ∷ 0 ∷ 0 ∷ 0 ∷ 1 ∷ []) ∷ [];
        samples =
            record { bytes = 21 ∷ 22 ∷ []; decode = 0; dur = 4000; comp = pos 0; sync = true; entry = 1 }
            ∷ record { bytes = 23 ∷ 24 ∷ []; decode = 4000; dur = 4000; comp = pos 4000; sync = true; entry = 1 }
            ∷ record { bytes = 25 ∷ 26 ∷ []; decode = 8000; dur = 4000; comp = pos 8000; sync = true; entry = 1 }
            ∷ [];
        edits = None;
      }
      ∷ [];
}
