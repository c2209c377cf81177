-- The track of a film's pictures: what it is, and what it stands for.
use Rattle.std.proofs.Common.{◌≡◌, ℕ, ℤ, pos, ◌+◌, ◌-◌, ◌*◌, ◌^◌, ◌<◌, ◌≤◌, All, List, [], ◌∷◌, ◌++◌, length, map, drop, get_or, refl, sym, ap, ◌∙◌, arith, append_assoc, append-nil, length-append}
use Rattle.std.specs.Prelude.{sum, sum_by, unsigned_abs}
use Rattle.std.specs.List.{AllByRecursion, flat_map}
use Rattle.std.specs.Int.{w32, FitsUnsigned}
use Rattle.std.proofs.lemmas.Int.{ints}
use Rattle.std.proofs.lemmas.List.{map-append, at_drop_more, drop_all}
use Rattle.std.proofs.lemmas.List.Sums.{sum_by_push, sum-map}
use Rattle.std.proofs.lemmas.List.Elements.{All-push}
use Rattle.mp_timeline.specs.Movie.{SampleRecord}
use Rattle.mp_pieces.specs.declared.piece.Piece.{Piece}
use Rattle.mp_pieces.specs.Piece.{piece_bytes, piece_len}
use Rattle.mp_movie.specs.Placed.{PlacedTrack, naturals}
use Rattle.mp_movie.specs.PartsLaw.{SamplesFollow}
use Rattle.mp_movie.specs.StandsFor.{samples_of, with_samples}
use Rattle.mp_movie.specs.WholeParts.{AreColumns}
use Rattle.avc_units.specs.declared.reader.UnitSpan.{UnitSpan}
use Rattle.avc_order.specs.Sequence.{is_sync}
use Rattle.avc_import.specs.declared.schedule.Schedule.{Schedule}
use Rattle.avc_import.specs.Ranking.{shown_at}
use Rattle.avc_import.specs.Film.{Film, offset, part_bytes, part_len, sample, samples_from, unit_bytes}
use Rattle.avc_import.specs.Pictures.{piece_of}
use Rattle.avc_import.specs.Places.{with_part, with_parts}
use Rattle.avc_import.proofs.Limiting.{length-piece}

-- ---- what stays, and what grows

pub track_stays : (file : ℕ) (film : Film) (s : Schedule) (k : ℕ) (parts : List (List UnitSpan)) (track : PlacedTrack) (samples : List SampleRecord)
    → with_samples (with_parts file film s k parts track) samples ≡ with_samples track samples
unfolding with_parts
track_stays file film s k [] track samples = refl
track_stays file film s k (part ∷ parts) track samples = track_stays file film s (k + 1) parts (with_part file film s k part track) samples

pub pieces_are : (file : ℕ) (film : Film) (s : Schedule) (k : ℕ) (parts : List (List UnitSpan)) (track : PlacedTrack)
    → (with_parts file film s k parts track).pieces ≡ track.pieces ++ map (piece_of file) (flat_map (λ (part : List UnitSpan). part) parts)
unfolding with_parts
pieces_are file film s k [] track = sym (append-nil track.pieces)
pieces_are file film s k (part ∷ parts) track =
    pieces_are file film s (k + 1) parts (with_part file film s k part track)
    ∙ append_assoc track.pieces (map (piece_of file) part) (map (piece_of file) (flat_map (λ (part : List UnitSpan). part) parts))
    ∙ ap (λ (t : List Piece). track.pieces ++ t) (sym (map-append (piece_of file) part (flat_map (λ (part : List UnitSpan). part) parts)))

pub count_is : (file : ℕ) (film : Film) (s : Schedule) (k : ℕ) (parts : List (List UnitSpan)) (track : PlacedTrack)
    → length (with_parts file film s k parts track).deltas ≡ length track.deltas + length parts
unfolding with_parts
count_is file film s k [] track = omega arith
count_is file film s k (part ∷ parts) track =
    let rest = count_is file film s (k + 1) parts (with_part file film s k part track) in
    omega (arith, rest, length-append track.deltas (pos s.ticks ∷ []))

-- one picture after another
pub parts_step : (file : ℕ) (film : Film) (s : Schedule) (k : ℕ) (parts : List (List UnitSpan)) (track next : PlacedTrack) → k < length parts
    → next ≡ with_part file film s k (get_or parts k []) track → with_parts file film s (k + 1) (drop (k + 1) parts) next ≡ with_parts file film s k (drop k parts) track
unfolding with_parts
parts_step file film s k parts track next inside is =
    ap (with_parts file film s (k + 1) (drop (k + 1) parts)) is
    ∙ sym (at_drop_more (λ (rest : List (List UnitSpan)). with_parts file film s k rest track) parts k [] inside)

pub parts_done : (file : ℕ) (film : Film) (s : Schedule) (k : ℕ) (parts : List (List UnitSpan)) (track : PlacedTrack) → length parts ≤ k → with_parts file film s k (drop k parts) track ≡ track
unfolding with_parts
parts_done file film s k parts track past = rw (drop_all k parts past) refl

-- ---- what it stands for

bytes_are : (files : List (List ℕ)) (file : ℕ) (part : List UnitSpan) → flat_map (piece_bytes files) (map (piece_of file) part) ≡ part_bytes (get_or files file []) part
unfolding part_bytes
bytes_are files file [] = refl
bytes_are files file (u ∷ part) = ap (λ (t : List ℕ). unit_bytes (get_or files file []) u ++ t) (bytes_are files file part)

lasted : (deltas : List ℤ) (ticks : ℕ) → sum (naturals (deltas ++ pos ticks ∷ [])) ≡ sum (naturals deltas) + ticks
lasted deltas ticks =
    sum-map unsigned_abs (deltas ++ pos ticks ∷ []) ∙ sum_by_push unsigned_abs deltas (pos ticks) ∙ ap (λ (n : ℕ). n + ticks) (sym (sum-map unsigned_abs deltas))

times_both : (a b ticks : ℕ) → (a + b) * ticks ≡ a * ticks + b * ticks
times_both a b ticks = omega arith

-- from decoding a picture to showing it
composed : (k m ticks : ℕ) → k ≤ m → k * ticks + (m - k) * ticks ≡ m * ticks
composed k m ticks le =
    let sum : k + (m - k) ≡ m = omega (arith, le) in
    sym (times_both k (m - k) ticks) ∙ ap (λ (n : ℕ). n * ticks) sum

next_time : (k ticks : ℕ) → k * ticks + ticks ≡ (k + 1) * ticks
next_time k ticks = omega arith

pub samples_are : (files : List (List ℕ)) (file : ℕ) (film : Film) (s : Schedule) (k : ℕ) (parts : List (List UnitSpan)) (track : PlacedTrack) → SamplesFollow → AreColumns track
    → length track.entries ≡ 1 → sum (naturals track.deltas) ≡ k * s.ticks → ((j : ℕ) → j < k + length parts → j ≤ shown_at film.counts film.syncs j + s.delay)
    → samples_of files (with_parts file film s k parts track) ≡ samples_of files track ++ samples_from film s k (map (part_bytes (get_or files file [])) parts)
unfolding with_parts samples_from
samples_are files file film s k [] track law columns one decode late = sym (append-nil (samples_of files track))
samples_are files file film s k (part ∷ parts) track law columns one decode late =
    samples_are files file film s (k + 1) parts (with_part file film s k part track) law
    (law.columns track s.ticks 1 (pos (offset film s k)) (is_sync film.syncs k) (map (piece_of file) part) columns (omega arith) (omega (arith, one))) one
    (lasted track.deltas s.ticks ∙ ap (λ (n : ℕ). n + s.ticks) decode ∙ next_time k s.ticks) (λ j inside. late j (omega (arith, inside)))
    ∙ ap (λ (t : List SampleRecord). t ++ samples_from film s (k + 1) (map (part_bytes (get_or files file [])) parts))
    (law.samples files track s.ticks 1 (pos (offset film s k)) (is_sync film.syncs k) (map (piece_of file) part) columns
    ∙ ap (λ (x : SampleRecord). samples_of files track ++ x ∷ []) sample_is)
    ∙ append_assoc (samples_of files track) (sample film s k (part_bytes (get_or files file []) part) ∷ []) (samples_from film s (k + 1) (map (part_bytes (get_or files file [])) parts))
  where
    next : ℕ → ℕ → List ℕ → SampleRecord
    next decode comp bytes = record { bytes = bytes; decode = decode; dur = s.ticks; comp = pos comp; sync = is_sync film.syncs k; entry = 1 }

    here : ℕ
    here = sum (naturals track.deltas)

    comp_is : here + offset film s k ≡ (shown_at film.counts film.syncs k + s.delay) * s.ticks
    comp_is = ap (λ (n : ℕ). n + offset film s k) decode ∙ composed k (shown_at film.counts film.syncs k + s.delay) s.ticks (late k (omega arith))

    sample_is : next here (here + offset film s k) (flat_map (piece_bytes files) (map (piece_of file) part)) ≡ sample film s k (part_bytes (get_or files file []) part)
    sample_is = rw (comp_is, decode, bytes_are files file part) refl

-- ---- limits

-- its numbers fit 32 bits
pub record AreSmall (track : PlacedTrack) : Type 0 where
  pub durations : All (FitsUnsigned w32) track.deltas
  pub offsets : All (FitsUnsigned w32) track.offsets
  pub sizes : All (FitsUnsigned w32) track.sizes

pub small_is : (file : ℕ) (film : Film) (s : Schedule) (k : ℕ) (parts : List (List UnitSpan)) (track : PlacedTrack) → AreSmall track → s.ticks < 2 ^ 32
    → ((j : ℕ) → j < k + length parts → offset film s j < 2 ^ 32) → AllByRecursion (λ (part : List UnitSpan). part_len part < 2 ^ 32) parts → AreSmall (with_parts file film s k parts track)
unfolding with_parts
small_is file film s k [] track small ticks offsets sizes = small
small_is file film s k (part ∷ parts) track small ticks offsets sizes =
    small_is file film s (k + 1) parts (with_part file film s k part track) more ticks (λ j inside. offsets j (omega (arith, inside))) sizes.1
  where
    more : AreSmall (with_part file film s k part track)
    more = record {
      durations = All-push (FitsUnsigned w32) track.deltas (pos s.ticks) small.durations (fits s.ticks ticks);
      offsets = All-push (FitsUnsigned w32) track.offsets (pos (offset film s k)) small.offsets (fits (offset film s k) (offsets k (omega arith)));
      sizes = All-push (FitsUnsigned w32) track.sizes (pos (sum_by piece_len (map (piece_of file) part))) small.sizes (fits (sum_by piece_len (map (piece_of file) part)) (rw (length-piece file part) sizes.0));
    }
      where
        fits : (n : ℕ) → n < 2 ^ 32 → FitsUnsigned w32 (pos n)
        fits n small = (grind (arith, ints), grind (arith, ints))
