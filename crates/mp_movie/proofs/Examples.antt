-- Files that are given byte by byte present their movies; with another byte or another box they present another one, or have a fault.
use Rattle.std.proofs.Common.{◌≡◌, ℕ, ◌++◌, [], ◌∷◌, Option, Some, None, refl}
use Rattle.std.specs.Prelude.{List, map, slice_set}
use Rattle.std.specs.Option.{option_map}
use Rattle.mp_ports.specs.declared.code.Code.TheVariants.{BoxCut, BoxMissing, BoxTwice, BoxVersion, ChunkMap, CountMismatch, EditFlags, EditRate, EditTime, EntryIndex, External, SampleOutside, TableLength, TrackId}
use Rattle.mp_ports.specs.Checks.{bad_at}
use Rattle.mp_boxes.specs.Number.{u16_at, u32_at, u64_at, kind_at}
use Rattle.mp_boxes.specs.Reading.{next_bytes, next_u16, next_u32, next_u64, next_time}
use Rattle.mp_boxes.specs.Boxes.{walk}
use Rattle.mp_boxes.specs.FullBox.{rows_of, table_fault}
use Rattle.mp_headers.specs.MovieHeader.{mvhd_from}
use Rattle.mp_headers.specs.TrackHeader.{tkhd_from}
use Rattle.mp_headers.specs.MediaHeader.{mdhd_from}
use Rattle.mp_chunks.specs.Sizes.{stsz_of, stz2_of}
use Rattle.mp_chunks.specs.Chunks.{chunk_offsets_of, stsc_of, run_fault, runs_fault, run_of_chunk, runs_of_chunks}
use Rattle.mp_chunks.specs.Places.{chunk_of, sample_of as placed_sample, samples_of as placed_samples}
use Rattle.mp_chunks.specs.Samples.{map_fault}
use Rattle.mp_timeline.specs.declared.segment.Segment.{Segment}
use Rattle.mp_timeline.specs.declared.segment.Segment.TheVariants.{Empty, Media}
use Rattle.mp_timeline.specs.Movie.{MovieRecord}
use Rattle.mp_movie.specs.Children.{children, one, at_most_one, one_of_two, user_data}
use Rattle.mp_movie.specs.TrackBoxes.{boxes_of}
use Rattle.mp_entries.specs.Description.{stsd_of}
use Rattle.mp_entries.specs.Reference.{dref_of}
use Rattle.mp_movie.specs.Entries.{local_references, references_fault, entries_fault, entries_of}
use Rattle.mp_movie.specs.SampleTable.{table_of, samples_of, counts_fault, places_fault}
use Rattle.mp_movie.specs.Edits.{edits_of, edits_fault}
use Rattle.mp_movie.specs.Tracks.{track_of, tables_fault, track_fault, tracks_fault}
use Rattle.mp_movie.specs.Present.{top_boxes, one_moov, movie_fault, first_fault, movie_of, present}
use Rattle.mp_movie.proofs.ExampleFile.{dinf, dref_box, edited, edts, example_file, example_movie, file_with, sample_bytes, sample_durations, track_scales, two_tracks, udta, with_byte, with_edits}
use Rattle.mp_movie.proofs.OtherFile.{other_file, other_movie}

-- the file as this program writes it, and one in other spellings
example_is_read : present example_file ≡ Some example_movie
unfolding u16_at u32_at u64_at kind_at next_bytes next_u16 next_u32 next_u64 next_time mvhd_from tkhd_from mdhd_from walk rows_of table_fault stsz_of stz2_of chunk_offsets_of stsc_of run_fault runs_fault run_of_chunk runs_of_chunks chunk_of placed_sample placed_samples map_fault children one at_most_one one_of_two user_data boxes_of dref_of stsd_of local_references references_fault entries_fault entries_of table_of samples_of counts_fault places_fault edits_of edits_fault track_of tables_fault track_fault tracks_fault top_boxes one_moov movie_fault first_fault movie_of present example_file example_movie other_file other_movie two_tracks with_edits with_byte edited file_with
example_is_read = refl

other_is_read : present other_file ≡ Some other_movie
unfolding u16_at u32_at u64_at kind_at next_bytes next_u16 next_u32 next_u64 next_time mvhd_from tkhd_from mdhd_from walk rows_of table_fault stsz_of stz2_of chunk_offsets_of stsc_of run_fault runs_fault run_of_chunk runs_of_chunks chunk_of placed_sample placed_samples map_fault children one at_most_one one_of_two user_data boxes_of dref_of stsd_of local_references references_fault entries_fault entries_of table_of samples_of counts_fault places_fault edits_of edits_fault track_of tables_fault track_fault tracks_fault top_boxes one_moov movie_fault first_fault movie_of present example_file example_movie other_file other_movie two_tracks with_edits with_byte edited file_with
other_is_read = refl

abbrev numbers : MovieRecord → List ℕ
numbers movie = map (λ track. track.number) movie.tracks

abbrev edit_lists : MovieRecord → List (Option (List Segment))
edit_lists movie = map (λ track. track.edits) movie.tracks

abbrev track_data : MovieRecord → List (List ℕ)
track_data movie = map (λ track. track.head.udta) movie.tracks

-- files that present other movies
record AreOtherMovies : Type 0 where
  tracks : option_map numbers (present (two_tracks 2)) ≡ Some (1 ∷ 2 ∷ [])
  -- `trax` is no track
  no_track : option_map numbers (present (with_byte 151 120)) ≡ Some []
  edits : option_map edit_lists (present with_edits) ≡ Some (Some (Media 0 24 ∷ []) ∷ [])
  -- the media time −1
  empty : option_map edit_lists (present (slice_set (slice_set (slice_set (edited 180 255) 181 255) 182 255) 183 255)) ≡ Some (Some (Empty 24 ∷ []) ∷ [])
  -- an edit list of no entries
  no_edits : option_map edit_lists (present (edited 175 0)) ≡ Some (None ∷ [])
  -- of two boxes of user data the first
  first_data : option_map track_data (present (file_with [] dinf (udta 1 ++ udta 2))) ≡ Some (udta 1 ∷ [])
  -- a reference with a further flag
  reference : present (with_byte 376 3) ≡ Some example_movie
  -- the place of the chunk is short by the header of the box
  bytes : option_map sample_bytes (present (with_byte 567 56)) ≡ Some ((0 ∷ 0 ∷ []) ∷ [])
  scale : option_map track_scales (present (with_byte 275 69)) ≡ Some (44101 ∷ [])
  duration : option_map sample_durations (present (with_byte 499 1)) ≡ Some (1025 ∷ [])

other_movies : AreOtherMovies
unfolding u16_at u32_at u64_at kind_at next_bytes next_u16 next_u32 next_u64 next_time mvhd_from tkhd_from mdhd_from walk rows_of table_fault stsz_of stz2_of chunk_offsets_of stsc_of run_fault runs_fault run_of_chunk runs_of_chunks chunk_of placed_sample placed_samples map_fault children one at_most_one one_of_two user_data boxes_of dref_of stsd_of local_references references_fault entries_fault entries_of table_of samples_of counts_fault places_fault edits_of edits_fault track_of tables_fault track_fault tracks_fault top_boxes one_moov movie_fault first_fault movie_of present example_file example_movie other_file other_movie two_tracks with_edits with_byte edited file_with
other_movies = record {
  tracks = refl;
  no_track = refl;
  edits = refl;
  empty = refl;
  no_edits = refl;
  first_data = refl;
  reference = refl;
  bytes = refl;
  scale = refl;
  duration = refl;
}

-- files that have a fault: its code and its place
record AreFaults : Type 0 where
  -- the size of a container is off by one
  container : first_fault (with_byte 380 192) ≡ Some (bad_at BoxCut 377)
  -- no data information box
  missing : first_fault (with_byte 345 111) ≡ Some (bad_at BoxMissing 568)
  -- another data reference index
  reference : first_fault (with_byte 416 2) ≡ Some (bad_at EntryIndex 401)
  -- a data reference to another file
  elsewhere : first_fault (with_byte 376 0) ≡ Some (bad_at External 401)
  -- a data reference more is said to be there
  references : first_fault (with_byte 364 2) ≡ Some (bad_at TableLength 349)
  references_version : first_fault (with_byte 357 1) ≡ Some (bad_at BoxVersion 349)
  -- a data reference of three bytes
  references_long : first_fault (file_with [] (dref_box 3) []) ≡ Some (bad_at TableLength 349)
  -- an entry more is said to be there
  entries : first_fault (with_byte 400 2) ≡ Some (bad_at TableLength 385)
  entries_version : first_fault (with_byte 393 1) ≡ Some (bad_at BoxVersion 385)
  -- a sample that ends behind the file
  outside : first_fault (with_byte 543 3) ≡ Some (bad_at SampleOutside 548)
  -- a chunk one byte further on
  place : first_fault (with_byte 567 65) ≡ Some (bad_at SampleOutside 548)
  -- a duration for one sample more
  durations : first_fault (with_byte 495 2) ≡ Some (bad_at CountMismatch 476)
  -- a chunk of one sample more
  chunk : first_fault (with_byte 523 2) ≡ Some (bad_at ChunkMap 500)
  -- no run for chunk 1
  first_chunk : first_fault (with_byte 519 2) ≡ Some (bad_at ChunkMap 500)
  -- an entry that is not there
  entry : first_fault (with_byte 527 2) ≡ Some (bad_at EntryIndex 500)
  -- a version of the table that is not known
  version : first_fault (with_byte 484 1) ≡ Some (bad_at BoxVersion 476)
  -- track number 0
  number : first_fault (with_byte 175 0) ≡ Some (bad_at TrackId 152)
  -- the number of an earlier track
  number_twice : first_fault (two_tracks 1) ≡ Some (bad_at TrackId 576)
  -- a second edit box
  edits_twice : first_fault (file_with (edts ++ edts) dinf []) ≡ Some (bad_at BoxTwice 188)
  edit_version : first_fault (edited 168 2) ≡ Some (bad_at BoxVersion 160)
  edit_flags : first_fault (edited 171 1) ≡ Some (bad_at EditFlags 160)
  -- the media time −2
  edit_time : first_fault (slice_set (slice_set (slice_set (edited 180 255) 181 255) 182 255) 183 254) ≡ Some (bad_at EditTime 160)
  edit_rate : first_fault (edited 185 2) ≡ Some (bad_at EditRate 160)

faults : AreFaults
unfolding u16_at u32_at u64_at kind_at next_bytes next_u16 next_u32 next_u64 next_time mvhd_from tkhd_from mdhd_from walk rows_of table_fault stsz_of stz2_of chunk_offsets_of stsc_of run_fault runs_fault run_of_chunk runs_of_chunks chunk_of placed_sample placed_samples map_fault children one at_most_one one_of_two user_data boxes_of dref_of stsd_of local_references references_fault entries_fault entries_of table_of samples_of counts_fault places_fault edits_of edits_fault track_of tables_fault track_fault tracks_fault top_boxes one_moov movie_fault first_fault movie_of present example_file example_movie other_file other_movie two_tracks with_edits with_byte edited file_with
faults = record {
  container = refl;
  missing = refl;
  reference = refl;
  elsewhere = refl;
  references = refl;
  references_version = refl;
  references_long = refl;
  entries = refl;
  entries_version = refl;
  outside = refl;
  place = refl;
  durations = refl;
  chunk = refl;
  first_chunk = refl;
  entry = refl;
  version = refl;
  number = refl;
  number_twice = refl;
  edits_twice = refl;
  edit_version = refl;
  edit_flags = refl;
  edit_time = refl;
  edit_rate = refl;
}
