-- The file of a movie of two tracks, computed from its definition, and the movie that its bytes present.
use Rattle.std.proofs.Common.{◌≡◌, Some, refl}
use Rattle.mp_boxes.specs.Number.{u16_at, u32_at, u64_at, kind_at}
use Rattle.mp_boxes.specs.Reading.{next_bytes, next_u16, next_u32, next_u64, next_time}
use Rattle.mp_boxes.specs.Boxes.{walk}
use Rattle.mp_boxes.specs.FullBox.{rows_of, table_fault}
use Rattle.mp_boxes.specs.Field.{box_bytes, boxes_bytes}
use Rattle.mp_headers.specs.MovieHeader.{mvhd_from}
use Rattle.mp_headers.specs.TrackHeader.{tkhd_from}
use Rattle.mp_headers.specs.MediaHeader.{mdhd_from}
use Rattle.mp_entries.specs.Description.{stsd_of}
use Rattle.mp_entries.specs.Reference.{dref_of}
use Rattle.mp_times.specs.Written.{runs_body, stss_body}
use Rattle.mp_chunks.specs.Written.{runs_of, stsc_body, stsz_body, offsets_body}
use Rattle.mp_chunks.specs.Sizes.{stsz_of}
use Rattle.mp_chunks.specs.Chunks.{chunk_offsets_of, stsc_of, run_fault, runs_fault, run_of_chunk, runs_of_chunks}
use Rattle.mp_chunks.specs.Places.{chunk_of, sample_of as placed_sample, samples_of as placed_samples}
use Rattle.mp_chunks.specs.Samples.{map_fault}
use Rattle.mp_movie.specs.Children.{children, one, at_most_one, one_of_two, user_data}
use Rattle.mp_movie.specs.TrackBoxes.{boxes_of}
use Rattle.mp_movie.specs.Entries.{local_references, references_fault, entries_fault, entries_of}
use Rattle.mp_movie.specs.SampleTable.{table_of, samples_of, counts_fault, places_fault}
use Rattle.mp_movie.specs.Edits.{edits_of, edits_fault}
use Rattle.mp_movie.specs.Tracks.{track_of, tables_fault, track_fault, tracks_fault}
use Rattle.mp_movie.specs.Present.{top_boxes, one_moov, movie_fault, first_fault, movie_of, present}
use Rattle.mp_layout.specs.Example.{example_file, example_movie}
use Rattle.mp_interleave.specs.Order.{chunk_order}
use Rattle.mp_interleave.specs.Samples.{chunks_of, keys_of}
use Rattle.mp_layout.specs.Order.{payload}
use Rattle.mp_layout.specs.File.{mdat_head, payload_place, wide_tracks, file_bytes}

pub example_is_written : file_bytes example_movie 1000 ≡ example_file
unfolding box_bytes boxes_bytes runs_body stss_body runs_of stsc_body stsz_body offsets_body chunk_order keys_of chunks_of payload mdat_head payload_place wide_tracks file_bytes example_movie example_file
example_is_written = refl

pub example_is_read : present example_file ≡ Some example_movie
unfolding u16_at u32_at u64_at kind_at next_bytes next_u16 next_u32 next_u64 next_time mvhd_from tkhd_from mdhd_from walk rows_of table_fault stsz_of chunk_offsets_of stsc_of run_fault runs_fault run_of_chunk runs_of_chunks chunk_of placed_sample placed_samples map_fault children one at_most_one one_of_two user_data boxes_of dref_of stsd_of local_references references_fault entries_fault entries_of table_of samples_of counts_fault places_fault edits_of edits_fault track_of tables_fault track_fault tracks_fault top_boxes one_moov movie_fault first_fault movie_of present example_file example_movie
example_is_read = refl
