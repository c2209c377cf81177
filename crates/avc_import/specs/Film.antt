-- The pictures of a stream without fault in its units, and their movie (ISO/IEC 14496-15, 5.3).
use Rattle.std.specs.Prelude.{ℕ, ℤ, pos, ◌+◌, ◌-◌, ◌*◌, ◌^◌, ◌==◌, nat_lt, nat_le, Bool, if◌then◌else◌, List, [], ◌∷◌, ◌++◌, length, map, take, drop, get_or, sum_by, codes, Option, Some, None, Result, Err}
use Rattle.std.specs.List.{flat_map, list_any, range_with_len}
use Rattle.std.specs.Int.{w32, to_be_bytes}
use Rattle.mp_ports.specs.Checks.{bad_at, unless}
use Rattle.mp_ports.specs.declared.code.Code.{Code}
use Rattle.mp_ports.specs.declared.code.Code.TheVariants.{PocTie, NoPicture, ScaleLimit, DeltaLimit, OffsetLimit, DurationLimit, StartLimit, SizeLimit}
use Rattle.mp_ports.specs.declared.fault.Bad.{Bad}
use Rattle.mp_boxes.specs.Field.{box_bytes}
use Rattle.mp_entries.specs.Avc1.{avc1_entry}
use Rattle.mp_edits.specs.Segments.{starts_late, total}
use Rattle.mp_edits.specs.EditBox.{segments_in}
use Rattle.mp_timeline.specs.declared.segment.Segment.{Segment}
use Rattle.mp_timeline.specs.declared.segment.Segment.TheVariants.{Media}
use Rattle.mp_timeline.specs.Movie.{SampleRecord, TrackHeadRecord, MovieRecord}
use Rattle.mp_timeline.specs.Plain.{plain_movie_head, plain_track_head}
use Rattle.mp_movie.specs.Placed.{plain_scale}
use Rattle.avc_units.specs.declared.reader.UnitSpan.{UnitSpan}
use Rattle.avc_sets.specs.Set.{SequenceSet}
use Rattle.avc_sets.specs.Configuration.{configuration}
use Rattle.avc_slices.specs.declared.slice.Slice.{Slice}
use Rattle.avc_order.specs.declared.access.NalUnit.{NalUnit}
use Rattle.avc_order.specs.Access.{first_slices, kept, pictures}
use Rattle.avc_order.specs.Count.{counts_of, nothing, rule_of}
use Rattle.avc_order.specs.Sequence.{is_sync}
use Rattle.avc_import.specs.declared.rate.Rate.{Rate}
use Rattle.avc_import.specs.declared.schedule.Duration.{Duration}
use Rattle.avc_import.specs.declared.schedule.Schedule.{Schedule}
use Rattle.avc_import.specs.Sets.{SequenceUnit}
use Rattle.avc_import.specs.Unit.{Known}
use Rattle.avc_import.specs.Ranking.{first_tie, latest, shown_at}
use Rattle.avc_import.specs.Times.{lasting, least_whole, ticks_in, together}

-- its sets, and of each picture its count, whether it is an IDR picture, and the units that are kept of it
pub record Film : Type 0 where
  pub sequence : SequenceUnit
  pub picture_units : List (List ℕ)
  pub counts : List ℤ
  pub syncs : List Bool
  pub parts : List (List UnitSpan)

-- which pictures are IDR pictures, by their first slices
abbrev pub marks : List (Slice × UnitSpan) → List Bool
marks firsts = map (λ (p : Slice × UnitSpan). p.0.idr) firsts

-- the units of a picture's sample
abbrev pub part_of : List (NalUnit × UnitSpan) → List UnitSpan
part_of picture = map (λ (u : NalUnit × UnitSpan). u.1) (kept picture)

-- by the first slices of its pictures
abbrev pub film_by : Known → SequenceUnit → List (Slice × UnitSpan) → Film
film_by known sequence firsts = record {
  sequence = sequence;
  picture_units = known.sets.units;
  counts = counts_of (rule_of sequence.fields) nothing (map (λ (p : Slice × UnitSpan). p.0) firsts);
  syncs = marks firsts;
  parts = map part_of (pictures known.units);
}

-- the place of the picture whose count an earlier one of its sequence has, by that of its first slice
abbrev pub tie_at : List (Slice × UnitSpan) → Option ℕ → Option Bad
tie_at firsts None = None
tie_at firsts (Some k) = Some (bad_at PocTie (get_or (map (λ (p : Slice × UnitSpan). p.1.from) firsts) k 0))

-- a film without a tie
abbrev pub untied : List (Slice × UnitSpan) → Film → Result Film Bad
untied firsts film = unless (tie_at firsts (first_tie film.counts film.syncs (length film.counts))) film

-- the film of a stream that has a picture; its set stands before the picture
abbrev pub film_of_sets : Known → Option SequenceUnit → Result Film Bad
film_of_sets known None = Err (bad_at NoPicture 0)
film_of_sets known (Some sequence) =
    if length (first_slices known.units) == 0
    then Err (bad_at NoPicture 0)
    else untied (first_slices known.units) (film_by known sequence (first_slices known.units))

unfoldable pub film_of : Known → Result Film Bad
film_of known = film_of_sets known known.sets.sequence

-- ---- times

-- of so many pictures, which last this long and are shown so late; edits are in the least multiple of 1000 in which all pictures together are
-- whole
abbrev pub scheduled : Duration → ℕ → ℕ → Schedule
scheduled time pictures delay =
    let movie_scale = if delay == 0 then plain_scale else least_whole plain_scale (together pictures time) in
    record {
      scale = least_whole 1 time;
      ticks = ticks_in (least_whole 1 time) time;
      delay = delay;
      movie_scale = movie_scale;
      lasts = ticks_in movie_scale (together pictures time);
    }

abbrev pub schedule : Option Rate → Film → Schedule
schedule rate film = scheduled (lasting rate film.sequence.fields.tick) (length film.counts) (latest film.counts film.syncs (length film.counts))

-- showing begins with the picture that is shown first
abbrev pub edits : Schedule → Option (List Segment)
edits s = if s.delay == 0 then None else Some (Media (s.delay * s.ticks) s.lasts ∷ [])

-- the time from decoding a picture to showing it
abbrev pub offset : Film → Schedule → ℕ → ℕ
offset film s k = (shown_at film.counts film.syncs k + s.delay - k) * s.ticks

-- how many bytes a picture's sample has
abbrev pub part_len : List UnitSpan → ℕ
part_len part = sum_by (λ (u : UnitSpan). 4 + u.len) part

-- a sample is longer than 32 bits say
abbrev pub is_long : List UnitSpan → Bool
is_long part = nat_lt (2 ^ 32 - 1) (part_len part)

-- the limits, in order
abbrev pub limit_checks : Film → Schedule → List (Bool × Code)
limit_checks film s =
    (nat_lt (2 ^ 32 - 1) s.movie_scale, ScaleLimit)
    ∷ (nat_lt (2 ^ 32 - 1) s.ticks, DeltaLimit)
    ∷ (list_any (λ k. nat_lt (2 ^ 32 - 1) (offset film s k)) (range_with_len 0 (length film.counts)), OffsetLimit)
    ∷ (nat_le (2 ^ 62) (total (segments_in (edits s))), DurationLimit)
    ∷ (list_any starts_late (segments_in (edits s)), StartLimit)
    ∷ (list_any is_long film.parts, SizeLimit)
    ∷ []

-- ---- the movie

-- a unit of a sample, behind its length
abbrev pub unit_bytes : List ℕ → UnitSpan → List ℕ
unit_bytes file u = to_be_bytes w32 u.len ++ take u.len (drop u.from file)

-- the bytes of a sample
unfoldable pub part_bytes : List ℕ → List UnitSpan → List ℕ
part_bytes file part = flat_map (unit_bytes file) part

-- picture k
abbrev pub sample : Film → Schedule → ℕ → List ℕ → SampleRecord
sample film s k bytes = record {
  bytes = bytes;
  decode = k * s.ticks;
  dur = s.ticks;
  comp = pos ((shown_at film.counts film.syncs k + s.delay) * s.ticks);
  sync = is_sync film.syncs k;
  entry = 1;
}

-- the pictures from number k on, whose samples have these bytes
unfoldable pub samples_from : Film → Schedule → ℕ → List (List ℕ) → List SampleRecord
samples_from film s k [] = []
samples_from film s k (bytes ∷ parts) = sample film s k bytes ∷ samples_from film s (k + 1) parts

-- the sample entry
unfoldable pub entry_bytes : Film → List ℕ
entry_bytes film =
    box_bytes (avc1_entry (configuration film.sequence.bytes film.sequence.fields film.picture_units) film.sequence.fields.width film.sequence.fields.height)

-- a track of pictures of that width and height, which are in 16.16
abbrev pub picture_head : SequenceSet → TrackHeadRecord
picture_head s = record (plain_track_head (codes "vide")) { width = s.width * 65536; height = s.height * 65536 }

-- a movie of one such track, whose samples have these bytes
unfoldable pub film_movie : Film → Schedule → List (List ℕ) → MovieRecord
film_movie film s parts = record {
  scale = s.movie_scale;
  head = plain_movie_head;
  tracks = (record {
    number = 1;
    head = picture_head film.sequence.fields;
    scale = s.scale;
    entries = entry_bytes film ∷ [];
    samples = samples_from film s 0 parts;
    edits = edits s;
  }) ∷ [];
}
