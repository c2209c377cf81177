-- Well-formed parts stand for a well-formed movie.
use Rattle.std.proofs.Common.{◌≡◌, ℕ, ℤ, zero, suc, pos, ◌+◌, ◌-◌, ◌*◌, ◌^◌, ◌<◌, ◌≤◌, min, max, List, [], ◌∷◌, length, map, take, get_or, refl, sym, ap, ◌∙◌, arith, subst, Option}
use Rattle.std.specs.Prelude.{slice_index, sum, unsigned_abs}
use Rattle.std.specs.List.{AllByRecursion, range_with_len, sum_by}
use Rattle.std.proofs.lemmas.Int.{ints}
use Rattle.std.proofs.lemmas.List.{length-map}
use Rattle.std.proofs.lemmas.List.Sums.{fold_more}
use Rattle.mp_boxes.specs.Table.{capped}
use Rattle.mp_timeline.specs.Movie.{SampleRecord, TrackRecord, MovieRecord}
use Rattle.mp_movie.specs.Durations.{greatest, track_duration}
use Rattle.mp_movie.specs.WellFormed.{AreConsecutive, AreDistinct, HasEntry, IsWellFormed, IsWellFormedTrack}
use Rattle.mp_movie.specs.Placed.{PlacedTrack, PlacedMovie, naturals}
use Rattle.mp_movie.specs.StandsFor.{sample_at, samples_of, stands_for, track_for}
use Rattle.mp_movie.specs.WholeParts.{AreColumns, AreParts, bare_track}
use Rattle.mp_movie.proofs.ColumnsAreKept.{kind_at}

-- the longest of durations that 64 bits hold
longest_fits : (scale : ℕ) (tracks : List TrackRecord) → greatest (map (track_duration scale) tracks) < 2 ^ 64
longest_fits scale [] = omega arith
longest_fits scale (track ∷ tracks) = let rest = longest_fits scale tracks in omega (arith, rest)

-- the time of the next sample
pub next_time : (durations : List ℕ) (k : ℕ) → k < length durations → sum (take (k + 1) durations) ≡ sum (take k durations) + slice_index durations k
next_time durations k lt = fold_more (λ (a : ℕ) (x : ℕ). a + x) 0 durations k 0 lt

times_from : (files : List (List ℕ)) (track : PlacedTrack) (decode k m : ℕ) → k + m ≤ length track.deltas → decode ≡ sum (take k (naturals track.deltas))
    → AreConsecutive decode (map (sample_at files track) (range_with_len k m))
unfolding sample_at
times_from files track decode k zero le at = tt
times_from files track decode k (suc m) le at =
    let long = length-map track.deltas unsigned_abs in
    (sym at, times_from files track (decode + slice_index (naturals track.deltas) k) (k + 1) m (omega (arith, le)) (ap (λ (d : ℕ). d + slice_index (naturals track.deltas) k) at ∙ sym (next_time (naturals track.deltas) k (omega (arith, le, long)))))

-- what holds of each sample
samples_from : (P : SampleRecord → Type 0) (files : List (List ℕ)) (track : PlacedTrack) (k m : ℕ) → k + m ≤ length track.deltas → ((i : ℕ) → i < length track.deltas → P (sample_at files track i))
    → AllByRecursion P (map (sample_at files track) (range_with_len k m))
samples_from P files track k zero le each = tt
samples_from P files track k (suc m) le each = (each k (omega (arith, le)), samples_from P files track (k + 1) m (omega (arith, le)) each)

pub each_sample : (P : SampleRecord → Type 0) (files : List (List ℕ)) (track : PlacedTrack) → ((i : ℕ) → i < length track.deltas → P (sample_at files track i)) → AllByRecursion P (samples_of files track)
unfolding samples_of
each_sample P files track each = samples_from P files track 0 (length track.deltas) (omega arith) each

times_are : (files : List (List ℕ)) (track : PlacedTrack) → AreConsecutive 0 (samples_of files track)
unfolding samples_of
times_are files track = times_from files track 0 0 (length track.deltas) (omega arith) refl

has_entry : (files : List (List ℕ)) (track : PlacedTrack) (i : ℕ) → AreColumns track → i < length track.deltas → HasEntry (length track.entries) (sample_at files track i)
has_entry files track i h lt =
    let number = h.kinds i (pos 0) (omega (arith, h.kinds_len)) in
    let same = kind_at files track i h lt in
    let some = number.some in
    let known = number.known in
    record { some = omega (arith, ints, some, same); known = omega (arith, ints, known, same) }

track_is : (files : List (List ℕ)) (scale : ℕ) (track : PlacedTrack) → IsWellFormedTrack scale (bare_track track) → AreColumns track → IsWellFormedTrack scale (track_for files track)
track_is files scale track bare columns = record {
  number = bare.number;
  header = record {
    flags = bare.header.flags;
    created = bare.header.created;
    modified = bare.header.modified;
    number = bare.header.number;
    duration = omega arith;
    layer = bare.header.layer;
    group = bare.header.group;
    volume = bare.header.volume;
    matrix = bare.header.matrix;
    width = bare.header.width;
    height = bare.header.height;
  };
  media = record {
    created = bare.media.created;
    modified = bare.media.modified;
    some_scale = bare.media.some_scale;
    timescale = bare.media.timescale;
    duration = omega arith;
    language = bare.media.language;
  };
  handler = bare.handler;
  udta = bare.udta;
  entries = bare.entries;
  times = times_are files track;
  kinds = each_sample (HasEntry (length track.entries)) files track (λ i lt. has_entry files track i columns lt);
  edits = bare.edits;
}

tracks_are : (files : List (List ℕ)) (scale : ℕ) (tracks : List PlacedTrack) → AllByRecursion (IsWellFormedTrack scale) (map bare_track tracks) → AllByRecursion AreColumns tracks
    → AllByRecursion (IsWellFormedTrack scale) (map (track_for files) tracks)
tracks_are files scale [] bare columns = tt
tracks_are files scale (track ∷ tracks) bare columns = (track_is files scale track bare.0 columns.0, tracks_are files scale tracks bare.1 columns.1)

-- the numbers are the same
numbers_are : (files : List (List ℕ)) (tracks : List PlacedTrack) → map (λ (t : TrackRecord). t.number) (map bare_track tracks) ≡ map (λ (t : TrackRecord). t.number) (map (track_for files) tracks)
numbers_are files [] = refl
numbers_are files (track ∷ tracks) = ap (λ (numbers : List ℕ). track.number ∷ numbers) (numbers_are files tracks)

pub well_formed : (files : List (List ℕ)) (movie : PlacedMovie) → AreParts movie → IsWellFormed (stands_for files movie)
well_formed files movie h = record {
  header = record {
    created = h.bare.header.created;
    modified = h.bare.header.modified;
    some_scale = h.bare.header.some_scale;
    timescale = h.bare.header.timescale;
    duration = longest_fits movie.scale (map (track_for files) movie.tracks);
    rate = h.bare.header.rate;
    volume = h.bare.header.volume;
    matrix = h.bare.header.matrix;
    next_track = omega arith;
  };
  udta = h.bare.udta;
  tracks = tracks_are files movie.scale movie.tracks h.bare.tracks h.columns;
  distinct = subst AreDistinct (numbers_are files movie.tracks) h.bare.distinct;
}
