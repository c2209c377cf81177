-- Where no check of a movie box fails, its tables stand for its movie.
use Rattle.std.proofs.Common.{◌≡◌, ℕ, List, [], ◌∷◌, ◌++◌, get_or, map, None, refl, sym, ap, ◌∙◌}
use Rattle.mp_boxes.specs.Boxes.{Box}
use Rattle.mp_boxes.specs.Reading.{value_or}
use Rattle.mp_chunks.specs.Samples.{TablesGiveSamples, samples_by}
use Rattle.mp_times.specs.Times.{stts_of}
use Rattle.mp_timeline.specs.Movie.{SampleRecord}
use Rattle.mp_movie.specs.Present.{movie_checks, movie_fault, movie_of, traks_in}
use Rattle.mp_movie.specs.SampleTable.{bodies_in, composition_offsets_of, count_in, samples_of as table_samples, sync_marks_of, table_of}
use Rattle.mp_movie.specs.StandsFor.{samples_of, track_for, with_samples}
use Rattle.mp_movie.specs.TrackBoxes.{boxes_of}
use Rattle.mp_movie.specs.Tracks.{track_fault, track_of, tracks_fault}
use Rattle.mp_read.specs.Columns.{columns_in}
use Rattle.mp_read.specs.Law.{TablesStandForMovies}
use Rattle.mp_read.specs.Movie.{movie_tables}
use Rattle.mp_read.specs.Parts.{placed_track}
use Rattle.mp_read.specs.Track.{samples_in, tables_of}
use Rattle.mp_read.proofs.SamplesStand.{samples_are}
use Rattle.mp_read.proofs.TracksPass.{are_counted, durations_len, places_len, track_passes}
use Rattle.mp_read.proofs.WithinFile.{all_hold}

same_samples : TablesGiveSamples → (files : List (List ℕ)) (file size : ℕ) (earlier : List Box) (trak : Box) → track_fault size earlier trak ≡ None
    → samples_of files (placed_track file (tables_of trak)) ≡ table_samples (get_or files file []) (table_of (boxes_of trak))
unfolding tables_of columns_in table_of
same_samples law files file size earlier trak e =
    let boxes = boxes_of trak in
    let counted = are_counted (samples_in earlier) boxes (track_passes size earlier trak e).counts in
    samples_are files file (tables_of trak) (value_or [] (stts_of boxes.stts.body)) (composition_offsets_of (count_in boxes) boxes.ctts) (sync_marks_of (count_in boxes) boxes.stss) (samples_by (bodies_in boxes))
    (durations_len (samples_in earlier) boxes counted ∙ sym (places_len law (samples_in earlier) boxes counted))

track_stands : TablesGiveSamples → (files : List (List ℕ)) (file size : ℕ) (earlier : List Box) (trak : Box) → track_fault size earlier trak ≡ None
    → track_for files (placed_track file (tables_of trak)) ≡ track_of (get_or files file []) trak
unfolding tables_of track_of
track_stands law files file size earlier trak e =
    ap (λ (samples : List SampleRecord). with_samples (placed_track file (tables_of trak)) samples) (same_samples law files file size earlier trak e)

tracks_stand : TablesGiveSamples → (files : List (List ℕ)) (file size : ℕ) (earlier traks : List Box) → tracks_fault size earlier traks ≡ None
    → map (track_for files) (map (placed_track file) (map tables_of traks)) ≡ map (track_of (get_or files file [])) traks
unfolding tracks_fault
tracks_stand law files file size earlier [] e = refl
tracks_stand law files file size earlier (trak ∷ traks) e =
    let each = all_hold (track_fault size earlier trak ∷ tracks_fault size (earlier ++ trak ∷ []) traks ∷ []) e in
    rw (track_stands law files file size earlier trak each.0, tracks_stand law files file size (earlier ++ trak ∷ []) traks each.1.0) refl

pub movies_stand : TablesGiveSamples → TablesStandForMovies
unfolding movie_fault movie_tables movie_of
movies_stand law files file size moov e = rw (tracks_stand law files file size [] (traks_in moov) (all_hold (movie_checks size moov) e).1.1.1.1.1.1.1.0) refl
