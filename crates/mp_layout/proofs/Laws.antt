-- What the law of the format rests on: the laws of the crates below, and where the samples of a track stand.
use Rattle.std.specs.Prelude.{◌≡◌, ℕ, ◌+◌, false, List, [], ◌∷◌, ◌++◌, length, map, take, drop, None, codes}
use Rattle.mp_ports.specs.Checks.{first_code}
use Rattle.mp_boxes.specs.Field.{Part, optional}
use Rattle.mp_boxes.specs.Table.{BoxesHaveLengths}
use Rattle.mp_boxes.specs.Parts.{PartsAreRead}
use Rattle.mp_boxes.specs.Laws.{BoxesAreRead, HeadsAreRead}
use Rattle.mp_headers.specs.Laws.{HeadersAreRead}
use Rattle.mp_headers.specs.MovieHeader.{mvhd}
use Rattle.mp_headers.specs.TrackHeader.{tkhd}
use Rattle.mp_times.specs.Law.{TimesAreRead}
use Rattle.mp_times.specs.Written.{ctts, stss, stts}
use Rattle.mp_chunks.specs.Samples.{Bodies, chunks_fault_of, outside_fault, samples_by}
use Rattle.mp_chunks.specs.Sizes.{sample_count, size_checks}
use Rattle.mp_chunks.specs.Places.{SamplePlace}
use Rattle.mp_timeline.specs.Movie.{MovieRecord, SampleRecord, TrackRecord}
use Rattle.mp_chunks.specs.Written.{chunk_offsets, head_of, offsets_body, stsc, stsc_body, stsz, stsz_body}
use Rattle.mp_movie.specs.Columns.{composition_offsets, durations, sizes, sync_marks}
use Rattle.mp_movie.specs.Heads.{movie_fields, track_fields}
use Rattle.mp_entries.specs.Description.{DescriptionsAreRead, stsd}
use Rattle.mp_entries.specs.Reference.{ReferencesAreRead}
use Rattle.mp_layout.specs.Tables.{Placing}
use Rattle.mp_edits.specs.EditBox.{EditsAreRead, edts}
use Rattle.mp_layout.specs.Moov.{mdia, traks, with_user_data}

-- of boxes
pub record BoxLaws : Type 0 where
  pub cuts : BoxesAreRead
  pub parts : PartsAreRead
  pub heads : HeadsAreRead
  pub lengths : BoxesHaveLengths

-- all of these
pub record Laws : Type 0 where
  pub boxes : BoxLaws
  pub headers : HeadersAreRead
  pub references : ReferencesAreRead
  pub entries : DescriptionsAreRead
  pub times : TimesAreRead
  pub edits : EditsAreRead

-- the bytes at a place of a file
abbrev pub bytes_at : List ℕ → SamplePlace → List ℕ
bytes_at file place = take place.size (drop place.from file)

-- in the file the samples of a track stand where its tables say
pub record IsPlaced (file : List ℕ) (entries : ℕ) (samples : List SampleRecord) (bodies : Bodies) : Type 0 where
  pub plain : bodies.compact ≡ false
  pub sizes : first_code (size_checks false bodies.sizes) ≡ None
  pub count : sample_count bodies.sizes ≡ length samples
  pub mapped : (stsc_place offsets_place : ℕ) → chunks_fault_of entries stsc_place offsets_place bodies ≡ None
  pub inside : outside_fault (length file) (samples_by bodies) ≡ None
  pub bytes : map (bytes_at file) (samples_by bodies) ≡ map (λ sample. sample.bytes) samples
  pub kinds : map (λ place. place.kind) (samples_by bodies) ≡ map (λ sample. sample.entry) samples

-- the bodies that are written for a track
abbrev pub written_bodies : TrackRecord → Placing → Bodies
written_bodies track placing = record {
  stsc = stsc_body (map head_of placing.chunks);
  sizes = stsz_body (sizes track.samples);
  compact = false;
  offsets = offsets_body placing.wide (map head_of placing.chunks);
  wide = placing.wide;
}

-- and so those of all tracks, the first at that position
abbrev pub ArePlaced : List ℕ → (ℕ → Placing) → ℕ → List TrackRecord → Type 0
ArePlaced file placing position [] = Unit
ArePlaced file placing position (track ∷ tracks) = IsPlaced file (length track.entries) track.samples (written_bodies track (placing position)) × ArePlaced file placing (position + 1) tracks

-- ---- the boxes in a box

-- those of a sample table
abbrev pub stbl_parts : TrackRecord → Placing → List Part
stbl_parts track placing =
    stsd track.entries
    ∷ stts (durations track.samples)
    ∷ optional (ctts (composition_offsets track.samples))
    ++ optional (stss (sync_marks track.samples))
    ++ stsc (map head_of placing.chunks)
    ∷ stsz (sizes track.samples)
    ∷ chunk_offsets placing.wide (map head_of placing.chunks)
    ∷ []

-- those of a track, but for its user data
abbrev pub trak_parts : ℕ → TrackRecord → Placing → List Part
trak_parts movie_scale track placing = tkhd (track_fields movie_scale track) ∷ optional (edts track.edits) ++ mdia track placing ∷ []

-- the movie box, with its tracks placed so
abbrev pub moov_by : MovieRecord → (ℕ → Placing) → Part
moov_by movie placing = with_user_data (codes "moov") (mvhd (movie_fields movie) ∷ traks movie.scale placing 0 movie.tracks) movie.head.udta
