-- A movie that stands for others passes the limits that its parts pass.
use Rattle.std.proofs.Common.{◌≡◌, ℕ, ℤ, pos, ◌+◌, Bool, ◌||◌, List, [], ◌∷◌, length, map, Option, refl, sym, ap, ◌∙◌}
use Rattle.std.specs.List.{AllByRecursion, list_any, sum_by}
use Rattle.std.proofs.lemmas.List.{length-map}
use Rattle.std.proofs.lemmas.List.Sums.{sum_by-cons}
use Rattle.mp_ports.specs.declared.code.Code.TheVariants.{DeltaLimit, OffsetLimit, DurationLimit, StartLimit, SizeLimit, EntryLimit, SegmentLimit}
use Rattle.mp_timeline.specs.Movie.{MovieRecord, TrackRecord}
use Rattle.mp_movie.specs.PartsFit.{first_limit, passes}
use Rattle.mp_movie.specs.PartsLaw.{ColumnsAreKept}
use Rattle.mp_movie.specs.Placed.{PlacedMovie, PlacedTrack, sample_count}
use Rattle.mp_movie.specs.StandsFor.{Hold, HoldTrack, samples_of, stands_for, track_for}
use Rattle.mp_movie.specs.WholeParts.{AreColumns}
use Rattle.track_ops.specs.Limits.{by_columns, limit}
use Rattle.cut_op.proofs.Needing.{any-map}

-- a track by its columns alone
abbrev pub without_pieces : PlacedTrack → PlacedTrack
without_pieces track = record track { counts = []; pieces = [] }

count_same : (tracks : List PlacedTrack) → sample_count (map without_pieces tracks) ≡ sample_count tracks
count_same [] = refl
count_same (track ∷ tracks) =
    sum_by-cons (λ (t : PlacedTrack). length t.deltas) (without_pieces track) (map without_pieces tracks)
    ∙ (ap (λ (n : ℕ). length track.deltas + n) (count_same tracks) ∙ sym (sum_by-cons (λ (t : PlacedTrack). length t.deltas) track tracks))

pub same_limits : (movie : PlacedMovie) → first_limit (record movie { tracks = map without_pieces movie.tracks }) ≡ first_limit movie
same_limits movie =
    rw (
      any-map (passes DeltaLimit) without_pieces movie.tracks,
      any-map (passes OffsetLimit) without_pieces movie.tracks,
      any-map (passes DurationLimit) without_pieces movie.tracks,
      any-map (passes StartLimit) without_pieces movie.tracks,
      any-map (passes SizeLimit) without_pieces movie.tracks,
      count_same movie.tracks,
      length-map movie.tracks without_pieces,
      any-map (passes EntryLimit) without_pieces movie.tracks,
      any-map (passes SegmentLimit) without_pieces movie.tracks,
    )
    refl

columns_same : ColumnsAreKept → (files : List (List ℕ)) (track : PlacedTrack) → AreColumns track → HoldTrack (map length files) track → by_columns (track_for files track) ≡ without_pieces track
columns_same law files track columns held =
    let deltas = law.durations files track columns in
    let offsets = law.offsets files track columns in
    let syncs = law.syncs files track columns in
    let kinds = law.kinds files track columns in
    let sizes = law.sizes files track columns held in
    λ i. record {
      number = track.number;
      head = track.head;
      scale = track.scale;
      entries = track.entries;
      deltas = deltas i;
      offsets = offsets i;
      syncs = syncs i;
      kinds = kinds i;
      sizes = sizes i;
      counts = [];
      pieces = [];
      edits = track.edits;
    }

tracks_same : ColumnsAreKept → (files : List (List ℕ)) (tracks : List PlacedTrack) → AllByRecursion AreColumns tracks → AllByRecursion (HoldTrack (map length files)) tracks
    → map by_columns (map (track_for files) tracks) ≡ map without_pieces tracks
tracks_same law files [] columns held = refl
tracks_same law files (track ∷ tracks) columns held = rw (columns_same law files track columns.0 held.0, tracks_same law files tracks columns.1 held.1) refl

pub stands_limits : ColumnsAreKept → (files : List (List ℕ)) (movie : PlacedMovie) → AllByRecursion AreColumns movie.tracks → Hold (map length files) movie → limit (stands_for files movie) ≡ first_limit movie
stands_limits law files movie columns held =
    ap (λ (tracks : List PlacedTrack). first_limit (record { scale = movie.scale; head = movie.head; tracks = tracks })) (tracks_same law files movie.tracks columns held) ∙ same_limits movie
