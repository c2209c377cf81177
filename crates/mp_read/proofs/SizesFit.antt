-- The sizes of samples in tables of bytes fit 32 bits.
use Rattle.std.proofs.Common.{◌≡◌, ℕ, zero, suc, pos, ◌+◌, ◌-◌, ◌^◌, ◌<◌, Bool, true, false, List, [], ◌∷◌, ◌++◌, All, length, map, take, drop, replicate, get_or, sym, subst, ◌∙◌, arith, None}
use Rattle.std.specs.Prelude.{if◌then◌else◌, ◌==◌, codes, slice_index}
use Rattle.std.specs.Int.{w32, FitsUnsigned}
use Rattle.std.specs.List.{AllByRecursion}
use Rattle.std.specs.Str.{bytes_eq}
use Rattle.std.proofs.lemmas.Int.{ints}
use Rattle.std.proofs.lemmas.List.{get_or-map, length-map}
use Rattle.std.proofs.lemmas.List.Elements.{All-from_recursion}
use Rattle.mp_boxes.specs.Boxes.{Box, IsBytes}
use Rattle.mp_boxes.specs.FullBox.{rows_of}
use Rattle.mp_boxes.specs.Number.{u16_at, u32_at}
use Rattle.mp_chunks.specs.Places.{SamplePlace, no_sample}
use Rattle.mp_chunks.specs.Samples.{TablesGiveSamples, samples_by}
use Rattle.mp_chunks.specs.Sizes.{common_size, field_bits, halves, sample_count as count_of_sizes, sizes_of, stsz_of, stz2_of}
use Rattle.mp_movie.specs.Children.{boxes_in}
use Rattle.mp_movie.specs.Present.{movie_checks, movie_fault, traks_in}
use Rattle.mp_movie.specs.SampleTable.{bodies_in}
use Rattle.mp_movie.specs.TrackBoxes.{TrackBoxes, boxes_of}
use Rattle.mp_movie.specs.Tracks.{track_fault, tracks_fault}
use Rattle.mp_read.specs.Columns.{columns_in}
use Rattle.mp_read.specs.Law.{TablesHaveSizes}
use Rattle.mp_read.specs.Movie.{MovieTablesRecord, movie_tables}
use Rattle.mp_read.specs.Parts.{HasSizes}
use Rattle.mp_read.specs.Track.{samples_in, tables_of}
use Rattle.mp_read.proofs.BytesStay.{dropped, taken}
use Rattle.mp_read.proofs.ByteBoxes.{AreBytes, children_are, filtered, track_boxes_are}
use Rattle.mp_read.proofs.Ranges.{u16_below, u32_below}
use Rattle.mp_read.proofs.TracksPass.{are_counted, places_len, track_passes}
use Rattle.mp_read.proofs.WithinFile.{all_hold}

pub rows_bytes : (count width : ℕ) (bytes : List ℕ) → IsBytes bytes → AllByRecursion IsBytes (rows_of count width bytes)
unfolding rows_of
rows_bytes zero width bytes are = tt
rows_bytes (suc count) width bytes are = (taken width bytes are, rows_bytes count width (drop width bytes) (dropped width bytes are))

mapped_below : (f : List ℕ → ℕ) (bound : ℕ) → ((row : List ℕ) → IsBytes row → f row < bound) → (rows : List (List ℕ)) → AllByRecursion IsBytes rows → AllByRecursion (λ x. x < bound) (map f rows)
mapped_below f bound each [] are = tt
mapped_below f bound each (row ∷ rows) are = (each row are.0, mapped_below f bound each rows are.1)

copies_below : (bound n x : ℕ) → x < bound → AllByRecursion (λ y. y < bound) (replicate n x)
copies_below bound zero x lt = tt
copies_below bound (suc n) x lt = (lt, copies_below bound n x lt)

taken_below : (bound n : ℕ) (xs : List ℕ) → AllByRecursion (λ x. x < bound) xs → AllByRecursion (λ x. x < bound) (take n xs)
taken_below bound zero xs all = tt
taken_below bound (suc n) [] all = tt
taken_below bound (suc n) (x ∷ xs) all = (all.0, taken_below bound n xs all.1)

bytes_below : (xs : List ℕ) → IsBytes xs → AllByRecursion (λ x. x < 2 ^ 32) xs
bytes_below [] are = tt
bytes_below (x ∷ xs) are = let byte = are zero in (omega (arith, byte), bytes_below xs (λ i. are (suc i)))

halves_below : (xs : List ℕ) → IsBytes xs → AllByRecursion (λ x. x < 2 ^ 32) (halves xs)
halves_below [] are = tt
halves_below (x ∷ xs) are = let byte = are zero in (omega (arith, byte), (omega (arith, byte), halves_below xs (λ i. are (suc i))))

either_below : (b : Bool) (xs ys : List ℕ) → AllByRecursion (λ x. x < 2 ^ 32) xs → AllByRecursion (λ x. x < 2 ^ 32) ys → AllByRecursion (λ x. x < 2 ^ 32) (if b then xs else ys)
either_below true xs ys some others = some
either_below false xs ys some others = others

pub sizes_below : (compact : Bool) (body : List ℕ) → IsBytes body → AllByRecursion (λ size. size < 2 ^ 32) (sizes_of compact body)
unfolding stsz_of stz2_of
sizes_below false body are =
    either_below (common_size body == 0) _ _
    (mapped_below (λ row. u32_at row 0) (2 ^ 32) (λ row bytes. u32_below row 0 bytes) (rows_of (count_of_sizes body) 4 (drop 12 body)) (rows_bytes (count_of_sizes body) 4 (drop 12 body) (dropped 12 body are)))
    (copies_below (2 ^ 32) (count_of_sizes body) (common_size body) (u32_below body 4 are))
sizes_below true body are =
    let text = drop 12 body in
    let bytes = dropped 12 body are in
    let count = count_of_sizes body in
    either_below (field_bits body == 4) _ _ (taken_below (2 ^ 32) count (halves text) (halves_below text bytes))
    (either_below (field_bits body == 8) _ _ (taken_below (2 ^ 32) count text (bytes_below text bytes))
    (mapped_below (λ row. u16_at row 0) (2 ^ 32) (λ row are. let short = u16_below row 0 are in omega (arith, short)) (rows_of count 2 text) (rows_bytes count 2 text bytes)))

-- ---- the sizes of samples

pub fits_field : (n : ℕ) → n < 2 ^ 32 → FitsUnsigned w32 (pos n)
fits_field n lt = (omega (arith, ints), omega (arith, ints))

pub sizes_fit : TablesGiveSamples → (boxes : TrackBoxes) → IsBytes boxes.sizes.body → All (FitsUnsigned w32) (map (λ place. pos place.size) (samples_by (bodies_in boxes)))
sizes_fit law boxes bytes i d lt =
    let samples = samples_by (bodies_in boxes) in
    let sizes = sizes_of (bodies_in boxes).compact boxes.sizes.body in
    let inside : i < length samples = omega (arith, lt, length-map samples (λ (place : SamplePlace). pos place.size)) in
    let len : length samples ≡ length sizes = law.count (bodies_in boxes) in
    let listed : i < length sizes = omega (arith, inside, len) in
    let same : (get_or samples i no_sample).size ≡ slice_index sizes i = law.size (bodies_in boxes) i inside in
    let item : get_or (map (λ (place : SamplePlace). pos place.size) samples) i d ≡ pos (get_or samples i no_sample).size = get_or-map (λ (place : SamplePlace). pos place.size) samples i no_sample d inside in
    let small = All-from_recursion (λ (size : ℕ). size < 2 ^ 32) sizes (sizes_below (bodies_in boxes).compact boxes.sizes.body bytes) i 0 listed in
    subst (FitsUnsigned w32) (sym item) (fits_field (get_or samples i no_sample).size (rw same small))

track_sizes : TablesGiveSamples → (size : ℕ) (earlier : List Box) (trak : Box) → AreBytes trak → track_fault size earlier trak ≡ None → HasSizes (tables_of trak)
unfolding tables_of columns_in
track_sizes law size earlier trak bytes e =
    let boxes = boxes_of trak in
    let samples = samples_by (bodies_in boxes) in
    let counted = are_counted (samples_in earlier) boxes (track_passes size earlier trak e).counts in
    let few = counted.few in
    let count = places_len law (samples_in earlier) boxes counted in
    let from = length-map samples (λ (place : SamplePlace). place.from) in
    record {
      few = omega (arith, few, count, from);
      each = length-map samples (λ (place : SamplePlace). pos place.size) ∙ sym from;
      fit = sizes_fit law boxes (track_boxes_are trak bytes.body).sizes;
    }

tracks_sizes : TablesGiveSamples → (size : ℕ) (earlier traks : List Box) → AllByRecursion AreBytes traks → tracks_fault size earlier traks ≡ None → AllByRecursion HasSizes (map tables_of traks)
unfolding tracks_fault
tracks_sizes law size earlier [] bytes e = tt
tracks_sizes law size earlier (trak ∷ traks) bytes e =
    let each = all_hold (track_fault size earlier trak ∷ tracks_fault size (earlier ++ trak ∷ []) traks ∷ []) e in
    (track_sizes law size earlier trak bytes.0 each.0, tracks_sizes law size (earlier ++ trak ∷ []) traks bytes.1 each.1.0)

box_sizes : TablesGiveSamples → (size : ℕ) (moov : Box) → IsBytes moov.body → movie_fault size moov ≡ None → AllByRecursion HasSizes (movie_tables moov).tracks
unfolding movie_fault movie_tables
box_sizes law size moov bytes e =
    let traks = filtered AreBytes (λ box. bytes_eq box.kind (codes "trak")) (boxes_in moov) (children_are moov bytes) in
    tracks_sizes law size [] (traks_in moov) traks (all_hold (movie_checks size moov) e).1.1.1.1.1.1.1.0

pub have_sizes : TablesGiveSamples → TablesHaveSizes
have_sizes law size movie h = subst (λ (m : MovieTablesRecord). AllByRecursion HasSizes m.tracks) (sym h.is) (box_sizes law size h.moov h.bytes h.passes)
