-- A whole file of one sample of sound, byte by byte, and the movie that it presents.
use Rattle.std.specs.Int.{w32, to_be_bytes}
use Rattle.std.specs.Prelude.{ℕ, ◌+◌, length, replicate, pos, true, List, [], ◌∷◌, ◌++◌, map, flat_map, slice_set, codes, None}
use Rattle.mp_timeline.specs.Movie.{MovieRecord}

-- the file type box: 28 bytes
abbrev pub ftyp : List ℕ
ftyp =
    0 ∷ 0 ∷ 0 ∷ 28 ∷ 102 ∷ 116 ∷ 121 ∷ 112 ∷ 105 ∷ 115 ∷ 111 ∷ 109 ∷ 0 ∷ 0 ∷ 0 ∷ 1 ∷ 105 ∷ 115 ∷ 111 ∷ 109
    ∷ 105 ∷ 115 ∷ 111 ∷ 52 ∷ 109 ∷ 112 ∷ 52 ∷ 50 ∷ []

-- the movie header: 108 bytes; 1000 ticks a second
abbrev pub mvhd : List ℕ
mvhd =
    0 ∷ 0 ∷ 0 ∷ 108 ∷ 109 ∷ 118 ∷ 104 ∷ 100 ∷ 0 ∷ 0 ∷ 0 ∷ 0 ∷ 0 ∷ 0 ∷ 0 ∷ 0 ∷ 0 ∷ 0 ∷ 0 ∷ 0
    ∷ 0 ∷ 0 ∷ 3 ∷ 232 ∷ 0 ∷ 0 ∷ 0 ∷ 24 ∷ 0 ∷ 1 ∷ 0 ∷ 0 ∷ 1 ∷ 0 ∷ 0 ∷ 0 ∷ 0 ∷ 0 ∷ 0 ∷ 0
    ∷ 0 ∷ 0 ∷ 0 ∷ 0 ∷ 0 ∷ 1 ∷ 0 ∷ 0 ∷ 0 ∷ 0 ∷ 0 ∷ 0 ∷ 0 ∷ 0 ∷ 0 ∷ 0 ∷ 0 ∷ 0 ∷ 0 ∷ 0
    ∷ 0 ∷ 1 ∷ 0 ∷ 0 ∷ 0 ∷ 0 ∷ 0 ∷ 0 ∷ 0 ∷ 0 ∷ 0 ∷ 0 ∷ 0 ∷ 0 ∷ 0 ∷ 0 ∷ 64 ∷ 0 ∷ 0 ∷ 0
    ∷ 0 ∷ 0 ∷ 0 ∷ 0 ∷ 0 ∷ 0 ∷ 0 ∷ 0 ∷ 0 ∷ 0 ∷ 0 ∷ 0 ∷ 0 ∷ 0 ∷ 0 ∷ 0 ∷ 0 ∷ 0 ∷ 0 ∷ 0
    ∷ 0 ∷ 0 ∷ 0 ∷ 0 ∷ 0 ∷ 0 ∷ 0 ∷ 2 ∷ []

-- the track header: 92 bytes; track 1
abbrev pub tkhd : List ℕ
tkhd =
    0 ∷ 0 ∷ 0 ∷ 92 ∷ 116 ∷ 107 ∷ 104 ∷ 100 ∷ 0 ∷ 0 ∷ 0 ∷ 3 ∷ 0 ∷ 0 ∷ 0 ∷ 0 ∷ 0 ∷ 0 ∷ 0 ∷ 0
    ∷ 0 ∷ 0 ∷ 0 ∷ 1 ∷ 0 ∷ 0 ∷ 0 ∷ 0 ∷ 0 ∷ 0 ∷ 0 ∷ 24 ∷ 0 ∷ 0 ∷ 0 ∷ 0 ∷ 0 ∷ 0 ∷ 0 ∷ 0
    ∷ 0 ∷ 0 ∷ 0 ∷ 0 ∷ 1 ∷ 0 ∷ 0 ∷ 0 ∷ 0 ∷ 1 ∷ 0 ∷ 0 ∷ 0 ∷ 0 ∷ 0 ∷ 0 ∷ 0 ∷ 0 ∷ 0 ∷ 0
    ∷ 0 ∷ 0 ∷ 0 ∷ 0 ∷ 0 ∷ 1 ∷ 0 ∷ 0 ∷ 0 ∷ 0 ∷ 0 ∷ 0 ∷ 0 ∷ 0 ∷ 0 ∷ 0 ∷ 0 ∷ 0 ∷ 0 ∷ 0
    ∷ 64 ∷ 0 ∷ 0 ∷ 0 ∷ 0 ∷ 0 ∷ 0 ∷ 0 ∷ 0 ∷ 0 ∷ 0 ∷ 0 ∷ []

-- the media header: 32 bytes; 44100 ticks a second
abbrev pub mdhd : List ℕ
mdhd =
    0 ∷ 0 ∷ 0 ∷ 32 ∷ 109 ∷ 100 ∷ 104 ∷ 100 ∷ 0 ∷ 0 ∷ 0 ∷ 0 ∷ 0 ∷ 0 ∷ 0 ∷ 0 ∷ 0 ∷ 0 ∷ 0 ∷ 0
    ∷ 0 ∷ 0 ∷ 172 ∷ 68 ∷ 0 ∷ 0 ∷ 4 ∷ 0 ∷ 85 ∷ 196 ∷ 0 ∷ 0 ∷ []

-- the handler box: 33 bytes; `soun`, and the name of one byte 0
abbrev pub hdlr : List ℕ
hdlr =
    0 ∷ 0 ∷ 0 ∷ 33 ∷ 104 ∷ 100 ∷ 108 ∷ 114 ∷ 0 ∷ 0 ∷ 0 ∷ 0 ∷ 0 ∷ 0 ∷ 0 ∷ 0 ∷ 115 ∷ 111 ∷ 117 ∷ 110
    ∷ 0 ∷ 0 ∷ 0 ∷ 0 ∷ 0 ∷ 0 ∷ 0 ∷ 0 ∷ 0 ∷ 0 ∷ 0 ∷ 0 ∷ 0 ∷ []

-- the sound media header: 16 bytes
abbrev pub smhd : List ℕ
smhd =
    0 ∷ 0 ∷ 0 ∷ 16 ∷ 115 ∷ 109 ∷ 104 ∷ 100 ∷ 0 ∷ 0 ∷ 0 ∷ 0 ∷ 0 ∷ 0 ∷ 0 ∷ 0 ∷ []

-- the data information box: 36 bytes; one reference, to the file itself
abbrev pub dinf : List ℕ
dinf =
    0 ∷ 0 ∷ 0 ∷ 36 ∷ 100 ∷ 105 ∷ 110 ∷ 102 ∷ 0 ∷ 0 ∷ 0 ∷ 28 ∷ 100 ∷ 114 ∷ 101 ∷ 102 ∷ 0 ∷ 0 ∷ 0 ∷ 0
    ∷ 0 ∷ 0 ∷ 0 ∷ 1 ∷ 0 ∷ 0 ∷ 0 ∷ 12 ∷ 117 ∷ 114 ∷ 108 ∷ 32 ∷ 0 ∷ 0 ∷ 0 ∷ 1 ∷ []

-- the sample entry: 75 bytes; two channels of AAC
abbrev pub mp4a : List ℕ
mp4a =
    0 ∷ 0 ∷ 0 ∷ 75 ∷ 109 ∷ 112 ∷ 52 ∷ 97 ∷ 0 ∷ 0 ∷ 0 ∷ 0 ∷ 0 ∷ 0 ∷ 0 ∷ 1 ∷ 0 ∷ 0 ∷ 0 ∷ 0
    ∷ 0 ∷ 0 ∷ 0 ∷ 0 ∷ 0 ∷ 2 ∷ 0 ∷ 16 ∷ 0 ∷ 0 ∷ 0 ∷ 0 ∷ 172 ∷ 68 ∷ 0 ∷ 0 ∷ 0 ∷ 0 ∷ 0 ∷ 39
    ∷ 101 ∷ 115 ∷ 100 ∷ 115 ∷ 0 ∷ 0 ∷ 0 ∷ 0 ∷ 3 ∷ 25 ∷ 0 ∷ 0 ∷ 0 ∷ 4 ∷ 17 ∷ 64 ∷ 21 ∷ 0 ∷ 0 ∷ 0
    ∷ 0 ∷ 0 ∷ 0 ∷ 0 ∷ 0 ∷ 0 ∷ 0 ∷ 0 ∷ 5 ∷ 2 ∷ 18 ∷ 16 ∷ 6 ∷ 1 ∷ 2 ∷ []

-- the sample description box, in front of its one entry
abbrev pub stsd_head : List ℕ
stsd_head =
    0 ∷ 0 ∷ 0 ∷ 91 ∷ 115 ∷ 116 ∷ 115 ∷ 100 ∷ 0 ∷ 0 ∷ 0 ∷ 0 ∷ 0 ∷ 0 ∷ 0 ∷ 1 ∷ []

-- one sample of 1024 ticks
abbrev pub stts : List ℕ
stts =
    0 ∷ 0 ∷ 0 ∷ 24 ∷ 115 ∷ 116 ∷ 116 ∷ 115 ∷ 0 ∷ 0 ∷ 0 ∷ 0 ∷ 0 ∷ 0 ∷ 0 ∷ 1 ∷ 0 ∷ 0 ∷ 0 ∷ 1
    ∷ 0 ∷ 0 ∷ 4 ∷ 0 ∷ []

-- from chunk 1 on: one sample of entry 1
abbrev pub stsc : List ℕ
stsc =
    0 ∷ 0 ∷ 0 ∷ 28 ∷ 115 ∷ 116 ∷ 115 ∷ 99 ∷ 0 ∷ 0 ∷ 0 ∷ 0 ∷ 0 ∷ 0 ∷ 0 ∷ 1 ∷ 0 ∷ 0 ∷ 0 ∷ 1
    ∷ 0 ∷ 0 ∷ 0 ∷ 1 ∷ 0 ∷ 0 ∷ 0 ∷ 1 ∷ []

-- one sample, and all have 2 bytes
abbrev pub stsz : List ℕ
stsz =
    0 ∷ 0 ∷ 0 ∷ 20 ∷ 115 ∷ 116 ∷ 115 ∷ 122 ∷ 0 ∷ 0 ∷ 0 ∷ 0 ∷ 0 ∷ 0 ∷ 0 ∷ 2 ∷ 0 ∷ 0 ∷ 0 ∷ 1 ∷ []

-- one chunk, at 576
abbrev pub stco : List ℕ
stco =
    0 ∷ 0 ∷ 0 ∷ 20 ∷ 115 ∷ 116 ∷ 99 ∷ 111 ∷ 0 ∷ 0 ∷ 0 ∷ 0 ∷ 0 ∷ 0 ∷ 0 ∷ 1 ∷ 0 ∷ 0 ∷ 2 ∷ 64 ∷ []

-- the media data box: the sample
abbrev pub mdat : List ℕ
mdat =
    0 ∷ 0 ∷ 0 ∷ 10 ∷ 109 ∷ 100 ∷ 97 ∷ 116 ∷ 170 ∷ 187 ∷ []

-- the headers of the containers
abbrev pub stbl_head : List ℕ
stbl_head =
    0 ∷ 0 ∷ 0 ∷ 191 ∷ 115 ∷ 116 ∷ 98 ∷ 108 ∷ []

abbrev pub minf_head : List ℕ
minf_head =
    0 ∷ 0 ∷ 0 ∷ 251 ∷ 109 ∷ 105 ∷ 110 ∷ 102 ∷ []

abbrev pub mdia_head : List ℕ
mdia_head =
    0 ∷ 0 ∷ 1 ∷ 68 ∷ 109 ∷ 100 ∷ 105 ∷ 97 ∷ []

abbrev pub trak_head : List ℕ
trak_head =
    0 ∷ 0 ∷ 1 ∷ 168 ∷ 116 ∷ 114 ∷ 97 ∷ 107 ∷ []

abbrev pub moov_head : List ℕ
moov_head =
    0 ∷ 0 ∷ 2 ∷ 28 ∷ 109 ∷ 111 ∷ 111 ∷ 118 ∷ []

-- the boxes in the track box
abbrev pub track_boxes : List ℕ
track_boxes =
    tkhd ++ mdia_head ++ mdhd ++ hdlr ++ minf_head ++ smhd ++ dinf ++ stbl_head ++ stsd_head ++ mp4a ++ stts ++ stsc ++ stsz ++ stco

-- the file: 578 bytes
unfoldable pub example_file : List ℕ
example_file = ftyp ++ moov_head ++ mvhd ++ trak_head ++ track_boxes ++ mdat

-- the same with the track twice, the second time with this number
unfoldable pub two_tracks : ℕ → List ℕ
two_tracks number =
    ftyp ++ (0 ∷ 0 ∷ 3 ∷ 196 ∷ codes "moov") ++ mvhd ++ trak_head ++ track_boxes ++ trak_head ++ slice_set track_boxes 23 number ++ mdat

-- the same with an edit list: one segment of 24 ticks, from media time 0 on
abbrev pub edts : List ℕ
edts =
    (0 ∷ 0 ∷ 0 ∷ 36 ∷ codes "edts") ++ (0 ∷ 0 ∷ 0 ∷ 28 ∷ codes "elst") ++ (0 ∷ 0 ∷ 0 ∷ 0 ∷ 0 ∷ 0 ∷ 0 ∷ 1 ∷ [])
    ++ (0 ∷ 0 ∷ 0 ∷ 24 ∷ 0 ∷ 0 ∷ 0 ∷ 0 ∷ 0 ∷ 1 ∷ 0 ∷ 0 ∷ [])

unfoldable pub with_edits : List ℕ
with_edits = ftyp ++ (0 ∷ 0 ∷ 2 ∷ 64 ∷ codes "moov") ++ mvhd ++ (0 ∷ 0 ∷ 1 ∷ 204 ∷ codes "trak") ++ edts ++ track_boxes ++ mdat

-- that file with another byte at a place
unfoldable pub edited : ℕ → ℕ → List ℕ
edited at byte = slice_set with_edits at byte

-- a box of that type
abbrev pub boxed : List ℕ → List ℕ → List ℕ
boxed kind body = to_be_bytes w32 (8 + length body) ++ kind ++ body

-- a data information box with a reference whose body has so many bytes
abbrev pub dref_box : ℕ → List ℕ
dref_box len = boxed (codes "dinf") (boxed (codes "dref") (0 ∷ 0 ∷ 0 ∷ 0 ∷ 0 ∷ 0 ∷ 0 ∷ 1 ∷ boxed (codes "url ") (replicate len 0)))

-- user data of that byte
abbrev pub udta : ℕ → List ℕ
udta byte = boxed (codes "udta") (byte ∷ [])

-- the file with these edit boxes, this data information box, and these boxes behind the media
unfoldable pub file_with : List ℕ → List ℕ → List ℕ → List ℕ
file_with edits references behind =
    let information = boxed (codes "minf") (smhd ++ references ++ stbl_head ++ stsd_head ++ mp4a ++ stts ++ stsc ++ stsz ++ stco) in
    ftyp ++ boxed (codes "moov") (mvhd ++ boxed (codes "trak") (edits ++ tkhd ++ boxed (codes "mdia") (mdhd ++ hdlr ++ information) ++ behind)) ++ mdat

abbrev pub unit_matrix : List ℕ
unit_matrix =
    0 ∷ 1 ∷ 0 ∷ 0 ∷ 0 ∷ 0 ∷ 0 ∷ 0 ∷ 0 ∷ 0 ∷ 0 ∷ 0 ∷ 0 ∷ 0 ∷ 0 ∷ 0 ∷ 0 ∷ 1 ∷ 0 ∷ 0
    ∷ 0 ∷ 0 ∷ 0 ∷ 0 ∷ 0 ∷ 0 ∷ 0 ∷ 0 ∷ 0 ∷ 0 ∷ 0 ∷ 0 ∷ 64 ∷ 0 ∷ 0 ∷ 0 ∷ []

-- its movie
unfoldable pub example_movie : MovieRecord
example_movie = record {
  scale = 1000;
  head = record { created = 0; modified = 0; rate = 0x10000; volume = 0x100; matrix = unit_matrix; udta = [] };
  tracks =
      record {
        number = 1;
        head = record {
          flags = 3;
          created = 0;
          modified = 0;
          layer = 0;
          group = 0;
          volume = 0x100;
          matrix = unit_matrix;
          width = 0;
          height = 0;
          media_created = 0;
          media_modified = 0;
          language = 0x55C4;
          handler = codes "soun";
          name = 0 ∷ [];
          udta = [];
        };
        scale = 44100;
        entries = mp4a ∷ [];
        samples = record { bytes = 0xAA ∷ 0xBB ∷ []; decode = 0; dur = 1024; comp = pos 0; sync = true; entry = 1 } ∷ [];
        edits = None;
      }
      ∷ [];
}

-- the file with another byte at a place
unfoldable pub with_byte : ℕ → ℕ → List ℕ
with_byte at byte = slice_set example_file at byte

-- the bytes of all samples, the scales of the tracks, and the durations of all samples
abbrev pub sample_bytes : MovieRecord → List (List ℕ)
sample_bytes movie = flat_map (λ track. map (λ sample. sample.bytes) track.samples) movie.tracks

abbrev pub track_scales : MovieRecord → List ℕ
track_scales movie = map (λ track. track.scale) movie.tracks

abbrev pub sample_durations : MovieRecord → List ℕ
sample_durations movie = flat_map (λ track. map (λ sample. sample.dur) track.samples) movie.tracks
