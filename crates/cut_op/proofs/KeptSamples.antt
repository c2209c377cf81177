-- The samples of a part of a track, in ticks of another scale, are those of the whole, moved together.
use Rattle.std.proofs.Common.{◌≡◌, ℕ, ℤ, zero, suc, pos, negsuc, neg_ℤ, ◌+◌, ◌-◌, ◌*◌, ◌<◌, ◌≤◌, ◌+ℤ◌, ◌-ℤ◌, ◌*ℤ◌, List, [], ◌∷◌, ◌++◌, length, map, take, drop, get_or, refl, sym, ap, ◌∙◌, arith, subst, Some}
use Rattle.std.specs.Prelude.{slice_index, slice_index_or, slice_range, sum, unsigned_abs, All}
use Rattle.std.specs.List.{flat_map, range_with_len}
use Rattle.std.proofs.Math.IntN.{negsuc-*ℤ-pos}
use Rattle.std.proofs.Math.Nat.{add-mul}
use Rattle.std.proofs.lemmas.Int.{ints}
use Rattle.std.proofs.lemmas.List.{drop-drop, drop-map, drop-take, get_or-drop, get_or-map, get_or-take, length-drop, length-map, length-take-le, take-map, take-take}
use Rattle.std.proofs.lemmas.List.Sums.{fold_more, sum_by-cons}
use Rattle.mp_pieces.specs.declared.piece.Piece.{Piece}
use Rattle.mp_pieces.specs.Piece.{piece_bytes}
use Rattle.mp_timeline.specs.declared.segment.Segment.{Segment}
use Rattle.mp_timeline.specs.Movie.{SampleRecord}
use Rattle.mp_times.specs.Sync.{is_sync}
use Rattle.mp_times.specs.Times.{composition_time, decode_time}
use Rattle.mp_movie.specs.Placed.{PlacedTrack, naturals}
use Rattle.mp_movie.specs.StandsFor.{pieces_at, pieces_of, sample_at, samples_of}
use Rattle.mp_movie.specs.WholeParts.{AreColumns}
use Rattle.cut_op.specs.Placed.{kept_pieces, moved_offset, placed_cut}
use Rattle.cut_op.proofs.Units.{add-times}

-- ---- parts of lists

pub get_or-slice : {A : Type 0} (xs : List A) (from to i : ℕ) (d : A) → i < to - from → get_or (slice_range xs from to) i d ≡ get_or xs (from + i) d
get_or-slice xs from to i d lt = get_or-take (to - from) (drop from xs) i d lt ∙ get_or-drop from xs i d

pub length-slice : {A : Type 0} (xs : List A) (from to : ℕ) → to ≤ length xs → length (slice_range xs from to) ≡ to - from
length-slice xs from to le = length-take-le (to - from) (drop from xs) (omega (arith, le, length-drop from xs))

pub slice-map : {A B : Type 0} (f : A → B) (xs : List A) (from to : ℕ) → slice_range (map f xs) from to ≡ map f (slice_range xs from to)
slice-map f xs from to = ap (take (to - from)) (drop-map f from xs) ∙ take-map f (to - from) (drop from xs)

-- some items of a part
slice-in : {A : Type 0} (xs : List A) (a b s n : ℕ) → a ≤ s → s + n ≤ b → take n (drop (s - a) (take (b - a) (drop a xs))) ≡ take n (drop s xs)
slice-in xs a b s n low high =
    let long : b - a ≡ s - a + (b - s) = omega (arith, low, high) in
    let place : a + (s - a) ≡ s = omega (arith, low) in
    ap (λ (m : ℕ). take n (drop (s - a) (take m (drop a xs)))) long
    ∙ (ap (take n) (drop-take (s - a) (b - s) (drop a xs))
    ∙ (take-take n (b - s) (drop (s - a) (drop a xs)) (omega (arith, high))
    ∙ ap (take n) (drop-drop (s - a) a xs ∙ ap (λ (k : ℕ). drop k xs) place)))

-- ---- sums of parts

pub sum-next : (ns : List ℕ) (k : ℕ) → k < length ns → sum (take (k + 1) ns) ≡ sum (take k ns) + slice_index ns k
sum-next ns k lt = fold_more (λ (a : ℕ) (x : ℕ). a + x) 0 ns k 0 lt

pub part_sum : (ns : List ℕ) (from to i : ℕ) → to ≤ length ns → from + i ≤ to → sum (take i (slice_range ns from to)) + sum (take from ns) ≡ sum (take (from + i) ns)
part_sum ns from to zero inside le =
    let place : from ≡ from + 0 = omega arith in
    let nothing : 0 + sum (take from ns) ≡ sum (take from ns) = omega arith in
    nothing ∙ ap (λ (k : ℕ). sum (take k ns)) place
part_sum ns from to (suc i) inside le =
    let before = part_sum ns from to i inside (omega (arith, le)) in
    let next : suc i ≡ i + 1 = omega arith in
    let place : from + (i + 1) ≡ from + i + 1 = omega arith in
    let long = length-slice ns from to inside in
    let here = sum-next (slice_range ns from to) i (omega (arith, long, le)) in
    let there = sum-next ns (from + i) (omega (arith, inside, le)) in
    let item = get_or-slice ns from to i 0 (omega (arith, le)) in
    rw (next, place, here, there) (omega (arith, before, item))

pub sum-grows : (ns : List ℕ) (k n : ℕ) → k + n ≤ length ns → sum (take k ns) ≤ sum (take (k + n) ns)
sum-grows ns k zero le = let place : k + 0 ≡ k = omega arith in rw (place) (omega arith)
sum-grows ns k (suc n) le =
    let before = sum-grows ns k n (omega (arith, le)) in
    let place : k + suc n ≡ k + n + 1 = omega arith in
    rw (place, sum-next ns (k + n) (omega (arith, le))) (omega (arith, before))

pub sum-rises : (ns : List ℕ) (a b : ℕ) → a ≤ b → b ≤ length ns → sum (take a ns) ≤ sum (take b ns)
sum-rises ns a b le inside =
    let place : a + (b - a) ≡ b = omega (arith, le) in
    subst (λ (k : ℕ). sum (take a ns) ≤ sum (take k ns)) place (sum-grows ns a (b - a) (omega (arith, inside, place)))

sum-times : (k : ℕ) (ns : List ℕ) → sum (map (λ n. n * k) ns) ≡ sum ns * k
sum-times k [] = omega arith
sum-times k (n ∷ ns) =
    sum_by-cons (λ (x : ℕ). x) (n * k) (map (λ n. n * k) ns)
    ∙ (ap (λ (x : ℕ). n * k + x) (sum-times k ns) ∙ (sym (add-mul n (sum ns) k) ∙ ap (λ (x : ℕ). x * k) (sym (sum_by-cons (λ (x : ℕ). x) n ns))))

-- ---- numbers in ticks of another scale

pub abs-times : (z : ℤ) (k : ℕ) → unsigned_abs (z *ℤ pos k) ≡ unsigned_abs z * k
abs-times (pos n) k = refl
abs-times (negsuc n) k = ap unsigned_abs (negsuc-*ℤ-pos n k) ∙ below (suc n * k)
  where
    below : (m : ℕ) → unsigned_abs (neg_ℤ (pos m)) ≡ m
    below zero = refl
    below (suc m) = refl

pub naturals-slice : (xs : List ℤ) (from to : ℕ) → naturals (slice_range xs from to) ≡ slice_range (naturals xs) from to
naturals-slice xs from to = sym (slice-map unsigned_abs xs from to)

pub naturals-times : (k : ℕ) (xs : List ℤ) → naturals (map (λ x. x *ℤ pos k) xs) ≡ map (λ n. n * k) (naturals xs)
naturals-times k [] = refl
naturals-times k (x ∷ xs) = rw (abs-times x k, naturals-times k xs) refl

-- ---- one sample

-- a sample by so many ticks earlier, in ticks of a scale that is greater by a factor, composed so many of these later
abbrev pub recast : (first factor ahead : ℕ) → SampleRecord → SampleRecord
recast first factor ahead sample = record sample {
  decode = (sample.decode - first) * factor;
  dur = sample.dur * factor;
  comp = (sample.comp -ℤ pos first) *ℤ pos factor +ℤ pos ahead;
}

module _ (files : List (List ℕ)) (track : PlacedTrack) (from to scale factor ahead : ℕ) (edits : List Segment) (columns : AreColumns track) (order : from ≤ to) (inside : to ≤ length track.deltas) where
  abbrev pub new : PlacedTrack
  new = placed_cut from to scale factor ahead edits track

  abbrev pub first : ℕ
  first = sum (take from (naturals track.deltas))

  durations : naturals new.deltas ≡ map (λ n. n * factor) (slice_range (naturals track.deltas) from to)
  durations = naturals-times factor (slice_range track.deltas from to) ∙ ap (map (λ (n : ℕ). n * factor)) (naturals-slice track.deltas from to)

  long : length (naturals track.deltas) ≡ length track.deltas
  long = length-map track.deltas unsigned_abs

  decode_is : (i : ℕ) → from + i ≤ to → decode_time (naturals new.deltas) i ≡ (decode_time (naturals track.deltas) (from + i) - first) * factor
  decode_is i le =
      let part = part_sum (naturals track.deltas) from to i (omega (arith, inside, long)) le in
      let whole : sum (take i (slice_range (naturals track.deltas) from to)) ≡ decode_time (naturals track.deltas) (from + i) - first = omega (arith, part) in
      ap (λ (ns : List ℕ). sum (take i ns)) durations
      ∙ (ap sum (take-map (λ (n : ℕ). n * factor) i (slice_range (naturals track.deltas) from to))
      ∙ (sum-times factor (take i (slice_range (naturals track.deltas) from to)) ∙ ap (λ (x : ℕ). x * factor) whole))

  dur_is : (i : ℕ) → i < to - from → slice_index (naturals new.deltas) i ≡ slice_index (naturals track.deltas) (from + i) * factor
  dur_is i lt =
      ap (λ (ns : List ℕ). slice_index ns i) durations
      ∙ (get_or-map (λ (n : ℕ). n * factor) (slice_range (naturals track.deltas) from to) i 0 0 (omega (arith, lt, inside, long, length-slice (naturals track.deltas) from to (omega (arith, inside, long))))
      ∙ ap (λ (x : ℕ). x * factor) (get_or-slice (naturals track.deltas) from to i 0 lt))

  offset_is : (i : ℕ) → i < to - from → slice_index_or new.offsets i (pos 0) ≡ moved_offset factor ahead (slice_index_or track.offsets (from + i) (pos 0))
  offset_is i lt =
      let many = columns.offsets_len in
      get_or-map (moved_offset factor ahead) (slice_range track.offsets from to) i (pos 0) (pos 0) (omega (arith, lt, inside, many, length-slice track.offsets from to (omega (arith, inside, many))))
      ∙ ap (moved_offset factor ahead) (get_or-slice track.offsets from to i (pos 0) lt)

  comp_is : (i : ℕ) → i < to - from → composition_time (naturals new.deltas) new.offsets i ≡ (composition_time (naturals track.deltas) track.offsets (from + i) -ℤ pos first) *ℤ pos factor +ℤ pos ahead
  comp_is i lt =
      let grows = sum-grows (naturals track.deltas) from i (omega (arith, lt, inside, long)) in
      ap (λ (n : ℕ). pos n +ℤ slice_index_or new.offsets i (pos 0)) (decode_is i (omega (arith, lt)))
      ∙ (ap (λ (z : ℤ). pos ((decode_time (naturals track.deltas) (from + i) - first) * factor) +ℤ z) (offset_is i lt)
      ∙ moved (decode_time (naturals track.deltas) (from + i)) first (slice_index_or track.offsets (from + i) (pos 0)) grows)
    where
      moved : (d b : ℕ) (o : ℤ) → b ≤ d → pos ((d - b) * factor) +ℤ (o *ℤ pos factor +ℤ pos ahead) ≡ ((pos d +ℤ o) -ℤ pos b) *ℤ pos factor +ℤ pos ahead
      moved d b o le =
          let back : (pos d +ℤ o) -ℤ pos b ≡ pos (d - b) +ℤ o = omega (arith, ints, le) in
          let product : (pos (d - b) +ℤ o) *ℤ pos factor ≡ pos ((d - b) * factor) +ℤ o *ℤ pos factor = add-times (pos (d - b)) o factor in
          rw (back, product) (omega (arith, ints))

  pub pieces_are : (i : ℕ) → i < to - from → pieces_at (naturals new.counts) new.pieces i ≡ pieces_at (naturals track.counts) track.pieces (from + i)
  unfolding pieces_at
  pieces_are i lt =
      let many = columns.counts_len in
      let counts = naturals track.counts in
      let count : length counts ≡ length track.deltas = length-map track.counts unsigned_abs ∙ many in
      let part = part_sum counts from to i (omega (arith, inside, count)) (omega (arith, lt)) in
      let low = sum-grows counts from i (omega (arith, lt, inside, count)) in
      let next = sum-next counts (from + i) (omega (arith, lt, inside, count)) in
      let rest : from + i + 1 + (to - (from + i + 1)) ≡ to = omega (arith, lt) in
      let high = subst (λ (k : ℕ). sum (take (from + i + 1) counts) ≤ sum (take k counts)) rest (sum-grows counts (from + i + 1) (to - (from + i + 1)) (omega (arith, inside, count, rest))) in
      let before : sum (take i (slice_range counts from to)) ≡ sum (take (from + i) counts) - sum (take from counts) = omega (arith, part) in
      rw (naturals-slice track.counts from to, get_or-slice counts from to i 0 lt, before)
      (slice-in track.pieces (sum (take from counts)) (sum (take to counts)) (sum (take (from + i) counts)) (slice_index counts (from + i)) low (omega (arith, high, next)))

  sync_is : (i : ℕ) → i < to - from → slice_index_or new.syncs i (pos 0) ≡ slice_index_or track.syncs (from + i) (pos 0)
  sync_is i lt = get_or-slice track.syncs from to i (pos 0) lt

  kind_is : (i : ℕ) → i < to - from → slice_index (naturals new.kinds) i ≡ slice_index (naturals track.kinds) (from + i)
  kind_is i lt = ap (λ (ns : List ℕ). slice_index ns i) (naturals-slice track.kinds from to) ∙ get_or-slice (naturals track.kinds) from to i 0 lt

  one_sample : (i : ℕ) → i < to - from → sample_at files new i ≡ recast first factor ahead (sample_at files track (from + i))
  unfolding sample_at
  one_sample i lt =
      let decode = decode_is i (omega (arith, lt)) in
      let dur = dur_is i lt in
      let comp = comp_is i lt in
      let bytes = ap (flat_map (piece_bytes files)) (pieces_are i lt) in
      let sync = ap is_sync (sync_is i lt) in
      let entry = kind_is i lt in
      λ k. record { bytes = bytes k; decode = decode k; dur = dur k; comp = comp k; sync = sync k; entry = entry k }

-- ---- all samples

range-from : {A : Type 0} (f g : ℕ → A) (a b n : ℕ) → ((i : ℕ) → i < n → f (a + i) ≡ g (b + i)) → map f (range_with_len a n) ≡ map g (range_with_len b n)
range-from f g a b zero each = refl
range-from f g a b (suc n) each =
    let left : a + 0 ≡ a = omega arith in
    let right : b + 0 ≡ b = omega arith in
    let here : f a ≡ g b = sym (ap f left) ∙ (each 0 (omega arith) ∙ ap g right) in
    rw (here, range-from f g (a + 1) (b + 1) n (λ i lt. let x : a + 1 + i ≡ a + (i + 1) = omega arith in let y : b + (i + 1) ≡ b + 1 + i = omega arith in ap f x ∙ (each (i + 1) (omega (arith, lt)) ∙ ap g y))) refl

drop-range : (k a n : ℕ) → drop k (range_with_len a n) ≡ range_with_len (a + k) (n - k)
drop-range zero a n =
    let x : a ≡ a + 0 = omega arith in
    let y : n ≡ n - 0 = omega arith in
    ap (λ (b : ℕ). range_with_len b n) x ∙ ap (range_with_len (a + 0)) y
drop-range (suc k) a zero = let none : 0 ≡ 0 - suc k = omega arith in ap (range_with_len (a + suc k)) none
drop-range (suc k) a (suc n) =
    let x : a + 1 + k ≡ a + suc k = omega arith in
    let y : n - k ≡ suc n - suc k = omega arith in
    drop-range k (a + 1) n ∙ (ap (λ (b : ℕ). range_with_len b (n - k)) x ∙ ap (range_with_len (a + suc k)) y)

take-range : (k a n : ℕ) → k ≤ n → take k (range_with_len a n) ≡ range_with_len a k
take-range zero a n le = refl
take-range (suc k) a zero le = absurd (omega arith)
take-range (suc k) a (suc n) le = ap (λ (xs : List ℕ). a ∷ xs) (take-range k (a + 1) n (omega (arith, le)))

pub slice-range : (from to n : ℕ) → to ≤ n → slice_range (range_with_len 0 n) from to ≡ range_with_len from (to - from)
slice-range from to n le =
    let x : 0 + from ≡ from = omega arith in
    ap (take (to - from)) (drop-range from 0 n ∙ ap (λ (a : ℕ). range_with_len a (n - from)) x) ∙ take-range (to - from) from (n - from) (omega (arith, le))

pub kept_are_samples : (files : List (List ℕ)) (track : PlacedTrack) (from to scale factor ahead : ℕ) (edits : List Segment) → AreColumns track → from ≤ to → to ≤ length track.deltas
    → samples_of files (placed_cut from to scale factor ahead edits track) ≡ map (recast (sum (take from (naturals track.deltas))) factor ahead) (slice_range (samples_of files track) from to)
unfolding samples_of
kept_are_samples files track from to scale factor ahead edits columns order inside =
    let moved = recast (sum (take from (naturals track.deltas))) factor ahead in
    let count : length (placed_cut from to scale factor ahead edits track).deltas ≡ to - from = length-map (slice_range track.deltas from to) (λ delta. delta *ℤ pos factor) ∙ length-slice track.deltas from to inside in
    ap (λ (n : ℕ). map (sample_at files (placed_cut from to scale factor ahead edits track)) (range_with_len 0 n)) count
    ∙ (range-from (sample_at files (placed_cut from to scale factor ahead edits track)) (λ i. moved (sample_at files track i)) 0 from (to - from)
    (λ i lt. let x : 0 + i ≡ i = omega arith in ap (sample_at files (placed_cut from to scale factor ahead edits track)) x ∙ one_sample files track from to scale factor ahead edits columns order inside i lt)
    ∙ (sym (map-twice moved (sample_at files track) (range_with_len from (to - from)))
    ∙ ap (map moved) (ap (map (sample_at files track)) (sym (slice-range from to (length track.deltas) inside)) ∙ sym (slice-map (sample_at files track) (range_with_len 0 (length track.deltas)) from to))))
  where
    map-twice : {A B C : Type 0} (f : B → C) (g : A → B) (xs : List A) → map f (map g xs) ≡ map (λ x. f (g x)) xs
    map-twice f g [] = refl
    map-twice f g (x ∷ xs) = ap (λ (ys : List _). f (g x) ∷ ys) (map-twice f g xs)
