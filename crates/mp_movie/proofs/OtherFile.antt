-- A file in other spellings: the movie box behind the media data and open to the end, sizes of 64 bits, versions 1, boxes in
-- another order and boxes that aren't known, two entries, chunks out of order that share bytes, sizes of 4 bits, signed offsets.
use Rattle.std.specs.Prelude.{ℕ, ◌^◌, pos, true, false, List, [], ◌∷◌, ◌++◌, codes, None}
use Rattle.mp_timeline.specs.Movie.{MovieRecord}

-- a box that is ignored
abbrev pub free : List ℕ
free =
    0 ∷ 0 ∷ 0 ∷ 8 ∷ 102 ∷ 114 ∷ 101 ∷ 101 ∷ []

-- the media data box: its size in 64 bits; the bytes from 24 on
abbrev pub mdat : List ℕ
mdat =
    0 ∷ 0 ∷ 0 ∷ 1 ∷ 109 ∷ 100 ∷ 97 ∷ 116 ∷ 0 ∷ 0 ∷ 0 ∷ 0 ∷ 0 ∷ 0 ∷ 0 ∷ 24 ∷ 50 ∷ 51 ∷ 52 ∷ 53 ∷ 10 ∷ 20 ∷ 21 ∷ 32 ∷ []

-- user data of the movie
abbrev pub movie_udta : List ℕ
movie_udta =
    0 ∷ 0 ∷ 0 ∷ 10 ∷ 117 ∷ 100 ∷ 116 ∷ 97 ∷ 1 ∷ 2 ∷ []

-- user data of the track, and a second one of the movie
abbrev pub track_udta : List ℕ
track_udta =
    0 ∷ 0 ∷ 0 ∷ 9 ∷ 117 ∷ 100 ∷ 116 ∷ 97 ∷ 3 ∷ []

-- version 1 of the track header, with a byte behind its fields; track 77
abbrev pub tkhd : List ℕ
tkhd =
    0 ∷ 0 ∷ 0 ∷ 105 ∷ 116 ∷ 107 ∷ 104 ∷ 100 ∷ 1 ∷ 171 ∷ 205 ∷ 239 ∷ 0 ∷ 0 ∷ 0 ∷ 0 ∷ 0 ∷ 0 ∷ 0 ∷ 5 ∷ 0 ∷ 0 ∷ 0 ∷ 1
    ∷ 0 ∷ 0 ∷ 0 ∷ 0 ∷ 0 ∷ 0 ∷ 0 ∷ 77 ∷ 0 ∷ 0 ∷ 0 ∷ 0 ∷ 0 ∷ 0 ∷ 0 ∷ 0 ∷ 0 ∷ 0 ∷ 0 ∷ 12 ∷ 0 ∷ 0 ∷ 0 ∷ 0
    ∷ 0 ∷ 0 ∷ 0 ∷ 0 ∷ 255 ∷ 255 ∷ 0 ∷ 2 ∷ 0 ∷ 3 ∷ 0 ∷ 0 ∷ 1 ∷ 2 ∷ 3 ∷ 4 ∷ 5 ∷ 6 ∷ 7 ∷ 8 ∷ 9 ∷ 10 ∷ 11 ∷ 12
    ∷ 13 ∷ 14 ∷ 15 ∷ 16 ∷ 17 ∷ 18 ∷ 19 ∷ 20 ∷ 21 ∷ 22 ∷ 23 ∷ 24 ∷ 25 ∷ 26 ∷ 27 ∷ 28 ∷ 29 ∷ 30 ∷ 31 ∷ 32 ∷ 33 ∷ 34 ∷ 35 ∷ 36
    ∷ 1 ∷ 64 ∷ 0 ∷ 0 ∷ 0 ∷ 240 ∷ 0 ∷ 0 ∷ 153 ∷ []

-- an edit list without segments
abbrev pub edts : List ℕ
edts =
    0 ∷ 0 ∷ 0 ∷ 24 ∷ 101 ∷ 100 ∷ 116 ∷ 115 ∷ 0 ∷ 0 ∷ 0 ∷ 16 ∷ 101 ∷ 108 ∷ 115 ∷ 116 ∷ 1 ∷ 0 ∷ 0 ∷ 0 ∷ 0 ∷ 0 ∷ 0 ∷ 0 ∷ []

-- version 1 of the media header; 48000 ticks a second
abbrev pub mdhd : List ℕ
mdhd =
    0 ∷ 0 ∷ 0 ∷ 44 ∷ 109 ∷ 100 ∷ 104 ∷ 100 ∷ 1 ∷ 0 ∷ 0 ∷ 0 ∷ 0 ∷ 0 ∷ 0 ∷ 0 ∷ 0 ∷ 0 ∷ 0 ∷ 1 ∷ 0 ∷ 0 ∷ 0 ∷ 0
    ∷ 0 ∷ 0 ∷ 0 ∷ 2 ∷ 0 ∷ 0 ∷ 187 ∷ 128 ∷ 0 ∷ 0 ∷ 0 ∷ 0 ∷ 0 ∷ 0 ∷ 0 ∷ 3 ∷ 132 ∷ 33 ∷ 0 ∷ 0 ∷ []

-- version 7 of the handler box; `text`, and no name
abbrev pub hdlr : List ℕ
hdlr =
    0 ∷ 0 ∷ 0 ∷ 32 ∷ 104 ∷ 100 ∷ 108 ∷ 114 ∷ 7 ∷ 0 ∷ 0 ∷ 1 ∷ 0 ∷ 0 ∷ 0 ∷ 0 ∷ 116 ∷ 101 ∷ 120 ∷ 116 ∷ 0 ∷ 0 ∷ 0 ∷ 0
    ∷ 0 ∷ 0 ∷ 0 ∷ 0 ∷ 0 ∷ 0 ∷ 0 ∷ 0 ∷ []

-- two data references, the second to the file itself
abbrev pub dref : List ℕ
dref =
    0 ∷ 0 ∷ 0 ∷ 45 ∷ 100 ∷ 114 ∷ 101 ∷ 102 ∷ 0 ∷ 0 ∷ 0 ∷ 0 ∷ 0 ∷ 0 ∷ 0 ∷ 2 ∷ 0 ∷ 0 ∷ 0 ∷ 17 ∷ 117 ∷ 114 ∷ 108 ∷ 32
    ∷ 0 ∷ 0 ∷ 0 ∷ 0 ∷ 104 ∷ 116 ∷ 116 ∷ 112 ∷ 0 ∷ 0 ∷ 0 ∷ 0 ∷ 12 ∷ 117 ∷ 114 ∷ 108 ∷ 32 ∷ 0 ∷ 0 ∷ 0 ∷ 1 ∷ []

-- an entry with data reference index 2
abbrev pub first_entry : List ℕ
first_entry =
    0 ∷ 0 ∷ 0 ∷ 19 ∷ 116 ∷ 120 ∷ 51 ∷ 103 ∷ 9 ∷ 9 ∷ 9 ∷ 9 ∷ 9 ∷ 9 ∷ 0 ∷ 2 ∷ 1 ∷ 2 ∷ 3 ∷ []

-- an entry whose size is written in 64 bits
abbrev pub second_entry : List ℕ
second_entry =
    0 ∷ 0 ∷ 0 ∷ 1 ∷ 97 ∷ 98 ∷ 99 ∷ 100 ∷ 0 ∷ 0 ∷ 0 ∷ 0 ∷ 0 ∷ 0 ∷ 0 ∷ 24 ∷ 0 ∷ 0 ∷ 0 ∷ 0 ∷ 0 ∷ 0 ∷ 0 ∷ 2 ∷ []

-- two entries
abbrev pub stsd_head : List ℕ
stsd_head =
    0 ∷ 0 ∷ 0 ∷ 59 ∷ 115 ∷ 116 ∷ 115 ∷ 100 ∷ 0 ∷ 0 ∷ 0 ∷ 0 ∷ 0 ∷ 0 ∷ 0 ∷ 2 ∷ []

-- 2 samples of 10 ticks, none of 5, 3 of 20; two bytes behind the rows
abbrev pub stts : List ℕ
stts =
    0 ∷ 0 ∷ 0 ∷ 42 ∷ 115 ∷ 116 ∷ 116 ∷ 115 ∷ 0 ∷ 0 ∷ 0 ∷ 0 ∷ 0 ∷ 0 ∷ 0 ∷ 3 ∷ 0 ∷ 0 ∷ 0 ∷ 2 ∷ 0 ∷ 0 ∷ 0 ∷ 10
    ∷ 0 ∷ 0 ∷ 0 ∷ 0 ∷ 0 ∷ 0 ∷ 0 ∷ 5 ∷ 0 ∷ 0 ∷ 0 ∷ 3 ∷ 0 ∷ 0 ∷ 0 ∷ 20 ∷ 238 ∷ 238 ∷ []

-- one offset of 5, one of -10, three of 0
abbrev pub ctts : List ℕ
ctts =
    0 ∷ 0 ∷ 0 ∷ 40 ∷ 99 ∷ 116 ∷ 116 ∷ 115 ∷ 1 ∷ 0 ∷ 0 ∷ 0 ∷ 0 ∷ 0 ∷ 0 ∷ 3 ∷ 0 ∷ 0 ∷ 0 ∷ 1 ∷ 0 ∷ 0 ∷ 0 ∷ 5
    ∷ 0 ∷ 0 ∷ 0 ∷ 1 ∷ 255 ∷ 255 ∷ 255 ∷ 246 ∷ 0 ∷ 0 ∷ 0 ∷ 3 ∷ 0 ∷ 0 ∷ 0 ∷ 0 ∷ []

-- samples 1 and 4
abbrev pub stss : List ℕ
stss =
    0 ∷ 0 ∷ 0 ∷ 24 ∷ 115 ∷ 116 ∷ 115 ∷ 115 ∷ 0 ∷ 0 ∷ 0 ∷ 0 ∷ 0 ∷ 0 ∷ 0 ∷ 2 ∷ 0 ∷ 0 ∷ 0 ∷ 1 ∷ 0 ∷ 0 ∷ 0 ∷ 4 ∷ []

-- from chunk 1 on 2 samples of entry 1, from 3 on 1 of entry 2; no chunk 9
abbrev pub stsc : List ℕ
stsc =
    0 ∷ 0 ∷ 0 ∷ 52 ∷ 115 ∷ 116 ∷ 115 ∷ 99 ∷ 0 ∷ 0 ∷ 0 ∷ 0 ∷ 0 ∷ 0 ∷ 0 ∷ 3 ∷ 0 ∷ 0 ∷ 0 ∷ 1 ∷ 0 ∷ 0 ∷ 0 ∷ 2
    ∷ 0 ∷ 0 ∷ 0 ∷ 1 ∷ 0 ∷ 0 ∷ 0 ∷ 3 ∷ 0 ∷ 0 ∷ 0 ∷ 1 ∷ 0 ∷ 0 ∷ 0 ∷ 2 ∷ 0 ∷ 0 ∷ 0 ∷ 9 ∷ 0 ∷ 0 ∷ 0 ∷ 7
    ∷ 0 ∷ 0 ∷ 0 ∷ 1 ∷ []

-- 5 sizes of 4 bits: 1, 2, 3, 0, 4
abbrev pub stz2 : List ℕ
stz2 =
    0 ∷ 0 ∷ 0 ∷ 23 ∷ 115 ∷ 116 ∷ 122 ∷ 50 ∷ 0 ∷ 0 ∷ 0 ∷ 0 ∷ 0 ∷ 0 ∷ 0 ∷ 4 ∷ 0 ∷ 0 ∷ 0 ∷ 5 ∷ 18 ∷ 48 ∷ 64 ∷ []

-- three chunks, at 28, 29 and 24
abbrev pub co64 : List ℕ
co64 =
    0 ∷ 0 ∷ 0 ∷ 40 ∷ 99 ∷ 111 ∷ 54 ∷ 52 ∷ 0 ∷ 0 ∷ 0 ∷ 0 ∷ 0 ∷ 0 ∷ 0 ∷ 3 ∷ 0 ∷ 0 ∷ 0 ∷ 0 ∷ 0 ∷ 0 ∷ 0 ∷ 28
    ∷ 0 ∷ 0 ∷ 0 ∷ 0 ∷ 0 ∷ 0 ∷ 0 ∷ 29 ∷ 0 ∷ 0 ∷ 0 ∷ 0 ∷ 0 ∷ 0 ∷ 0 ∷ 24 ∷ []

-- a box of a type of 16 bytes more
abbrev pub uuid : List ℕ
uuid =
    0 ∷ 0 ∷ 0 ∷ 26 ∷ 117 ∷ 117 ∷ 105 ∷ 100 ∷ 0 ∷ 1 ∷ 2 ∷ 3 ∷ 4 ∷ 5 ∷ 6 ∷ 7 ∷ 8 ∷ 9 ∷ 10 ∷ 11 ∷ 12 ∷ 13 ∷ 14 ∷ 15
    ∷ 5 ∷ 6 ∷ []

-- version 1 of the movie header; 600 ticks a second
abbrev pub mvhd : List ℕ
mvhd =
    0 ∷ 0 ∷ 0 ∷ 120 ∷ 109 ∷ 118 ∷ 104 ∷ 100 ∷ 1 ∷ 0 ∷ 0 ∷ 0 ∷ 0 ∷ 0 ∷ 0 ∷ 2 ∷ 0 ∷ 0 ∷ 0 ∷ 0 ∷ 0 ∷ 0 ∷ 0 ∷ 0
    ∷ 0 ∷ 0 ∷ 0 ∷ 7 ∷ 0 ∷ 0 ∷ 2 ∷ 88 ∷ 0 ∷ 0 ∷ 0 ∷ 0 ∷ 0 ∷ 0 ∷ 0 ∷ 99 ∷ 0 ∷ 2 ∷ 0 ∷ 0 ∷ 0 ∷ 128 ∷ 0 ∷ 0
    ∷ 0 ∷ 0 ∷ 0 ∷ 0 ∷ 0 ∷ 0 ∷ 0 ∷ 0 ∷ 1 ∷ 2 ∷ 3 ∷ 4 ∷ 5 ∷ 6 ∷ 7 ∷ 8 ∷ 9 ∷ 10 ∷ 11 ∷ 12 ∷ 13 ∷ 14 ∷ 15 ∷ 16
    ∷ 17 ∷ 18 ∷ 19 ∷ 20 ∷ 21 ∷ 22 ∷ 23 ∷ 24 ∷ 25 ∷ 26 ∷ 27 ∷ 28 ∷ 29 ∷ 30 ∷ 31 ∷ 32 ∷ 33 ∷ 34 ∷ 35 ∷ 36 ∷ 0 ∷ 0 ∷ 0 ∷ 0
    ∷ 0 ∷ 0 ∷ 0 ∷ 0 ∷ 0 ∷ 0 ∷ 0 ∷ 0 ∷ 0 ∷ 0 ∷ 0 ∷ 0 ∷ 0 ∷ 0 ∷ 0 ∷ 0 ∷ 0 ∷ 0 ∷ 0 ∷ 0 ∷ 0 ∷ 0 ∷ 0 ∷ 9 ∷ []

-- the headers of the containers
abbrev pub moov_head : List ℕ
moov_head = 0 ∷ 0 ∷ 0 ∷ 0 ∷ 109 ∷ 111 ∷ 111 ∷ 118 ∷ []

abbrev pub trak_head : List ℕ
trak_head = 0 ∷ 0 ∷ 2 ∷ 93 ∷ 116 ∷ 114 ∷ 97 ∷ 107 ∷ []

abbrev pub mdia_head : List ℕ
mdia_head = 0 ∷ 0 ∷ 1 ∷ 193 ∷ 109 ∷ 100 ∷ 105 ∷ 97 ∷ []

abbrev pub minf_head : List ℕ
minf_head = 0 ∷ 0 ∷ 1 ∷ 109 ∷ 109 ∷ 105 ∷ 110 ∷ 102 ∷ []

abbrev pub dinf_head : List ℕ
dinf_head = 0 ∷ 0 ∷ 0 ∷ 61 ∷ 100 ∷ 105 ∷ 110 ∷ 102 ∷ []

abbrev pub stbl_head : List ℕ
stbl_head = 0 ∷ 0 ∷ 1 ∷ 40 ∷ 115 ∷ 116 ∷ 98 ∷ 108 ∷ []

-- the file
unfoldable pub other_file : List ℕ
other_file =
    free ++ mdat ++ moov_head ++ trak_head ++ track_udta ++ mdia_head ++ minf_head ++ stbl_head ++ co64 ++ stz2 ++ free ++ stsc ++ stss ++ ctts ++ stts
    ++ stsd_head ++ first_entry ++ second_entry ++ dinf_head ++ free ++ dref ++ hdlr ++ mdhd ++ movie_udta ++ edts ++ tkhd ++ uuid ++ mvhd ++ movie_udta ++ track_udta

abbrev pub matrix : List ℕ
matrix =
    1 ∷ 2 ∷ 3 ∷ 4 ∷ 5 ∷ 6 ∷ 7 ∷ 8 ∷ 9 ∷ 10 ∷ 11 ∷ 12 ∷ 13 ∷ 14 ∷ 15 ∷ 16 ∷ 17 ∷ 18 ∷ 19 ∷ 20 ∷ 21 ∷ 22 ∷ 23 ∷ 24
    ∷ 25 ∷ 26 ∷ 27 ∷ 28 ∷ 29 ∷ 30 ∷ 31 ∷ 32 ∷ 33 ∷ 34 ∷ 35 ∷ 36 ∷ []

-- its movie
unfoldable pub other_movie : MovieRecord
other_movie = record {
  scale = 600;
  head = record { created = 2 ^ 33; modified = 7; rate = 0x20000; volume = 0x80; matrix = matrix; udta = movie_udta };
  tracks =
      record {
        number = 77;
        head = record {
          flags = 0xABCDEF;
          created = 5;
          modified = 2 ^ 32;
          layer = 0xFFFF;
          group = 2;
          volume = 3;
          matrix = matrix;
          width = 0x1400000;
          height = 0xF00000;
          media_created = 1;
          media_modified = 2;
          language = 0x8421;
          handler = codes "text";
          name = [];
          udta = track_udta;
        };
        scale = 48000;
        entries =
            (0 ∷ 0 ∷ 0 ∷ 19 ∷ 116 ∷ 120 ∷ 51 ∷ 103 ∷ 9 ∷ 9 ∷ 9 ∷ 9 ∷ 9 ∷ 9 ∷ 0 ∷ 1 ∷ 1 ∷ 2 ∷ 3 ∷ [])
            ∷ (0 ∷ 0 ∷ 0 ∷ 1 ∷ 97 ∷ 98 ∷ 99 ∷ 100 ∷ 0 ∷ 0 ∷ 0 ∷ 0 ∷ 0 ∷ 0 ∷ 0 ∷ 24 ∷ 0 ∷ 0 ∷ 0 ∷ 0 ∷ 0 ∷ 0 ∷ 0 ∷ 1 ∷ [])
            ∷ [];
        samples =
            record { bytes = 10 ∷ []; decode = 0; dur = 10; comp = pos 5; sync = true; entry = 1 }
            ∷ record { bytes = 20 ∷ 21 ∷ []; decode = 10; dur = 10; comp = pos 0; sync = false; entry = 1 }
            ∷ record { bytes = 20 ∷ 21 ∷ 32 ∷ []; decode = 20; dur = 20; comp = pos 20; sync = false; entry = 1 }
            ∷ record { bytes = []; decode = 40; dur = 20; comp = pos 40; sync = true; entry = 1 }
            ∷ record { bytes = 50 ∷ 51 ∷ 52 ∷ 53 ∷ []; decode = 60; dur = 20; comp = pos 60; sync = false; entry = 2 }
            ∷ [];
        edits = None;
      }
      ∷ [];
}
