-- The parts of a track stay well formed where a part of its samples is kept.
use Rattle.std.proofs.Common.{◌≡◌, ◌≢◌, ℕ, ℤ, zero, suc, pos, negsuc, ◌+◌, ◌-◌, ◌*◌, ◌^◌, ◌<◌, ◌≤◌, ◌*ℤ◌, ◌≤ℤ◌, List, [], ◌∷◌, length, map, take, drop, get_or, Option, Some, None, refl, sym, ap, subst, ◌∙◌, arith}
use Rattle.std.specs.Prelude.{All, slice_index_or, slice_range, sum, sum_by, unsigned_abs}
use Rattle.std.proofs.lemmas.Int.{ints}
use Rattle.std.proofs.lemmas.List.{get_or-map, length-map, take_all}
use Rattle.std.proofs.lemmas.List.Elements.{All-drop, All-take}
use Rattle.std.proofs.lemmas.List.Sums.{sum_by-take-le}
use Rattle.mp_pieces.specs.declared.piece.Piece.{Piece}
use Rattle.mp_pieces.specs.Piece.{piece_len}
use Rattle.mp_times.specs.Written.{IsMark}
use Rattle.mp_timeline.specs.declared.segment.Segment.{Segment}
use Rattle.mp_movie.specs.Placed.{PlacedTrack, naturals}
use Rattle.mp_movie.specs.StandsFor.{pieces_of}
use Rattle.mp_movie.specs.WellFormed.{IsWellFormedTrack}
use Rattle.mp_movie.specs.WholeParts.{AreColumns, IsEntryNumber, IsNatural, bare_track}
use Rattle.cut_op.specs.Placed.{kept_pieces, moved_offset, placed_cut}
use Rattle.cut_op.proofs.KeptSamples.{get_or-slice, length-slice, naturals-slice, part_sum, pieces_are, sum-rises}

pub all_slice : {A : Type 0} (P : A → Type 0) (xs : List A) (from to : ℕ) → All P xs → All P (slice_range xs from to)
all_slice P xs from to all = All-take P (to - from) (drop from xs) (All-drop P from xs all)

natural_times : (z : ℤ) (k : ℕ) → IsNatural z → IsNatural (z *ℤ pos k)
natural_times (pos n) k h = omega (arith, ints)
natural_times (negsuc n) k h = absurd (omega (arith, ints, h))

module _ (track : PlacedTrack) (from to scale factor ahead : ℕ) (edits : List Segment) (h : AreColumns track) (order : from ≤ to) (inside : to ≤ length track.deltas) where
  abbrev pub cut : PlacedTrack
  cut = placed_cut from to scale factor ahead edits track

  many : length cut.deltas ≡ to - from
  many = length-map (slice_range track.deltas from to) (λ delta. delta *ℤ pos factor) ∙ length-slice track.deltas from to inside

  long : (column : List ℤ) → length column ≡ length track.deltas → length (slice_range column from to) ≡ length cut.deltas
  long column same = length-slice column from to (omega (arith, inside, same)) ∙ sym many

  deltas_natural : All IsNatural cut.deltas
  deltas_natural = λ k d lt.
      let short : k < length (slice_range track.deltas from to) = omega (arith, lt, length-map (slice_range track.deltas from to) (λ delta. delta *ℤ pos factor)) in
      subst IsNatural (sym (get_or-map (λ delta. delta *ℤ pos factor) (slice_range track.deltas from to) k (pos 0) d short))
      (natural_times (get_or (slice_range track.deltas from to) k (pos 0)) factor (all_slice IsNatural track.deltas from to h.deltas k (pos 0) short))

  pieces_counted : sum (naturals cut.counts) ≡ length cut.pieces
  pieces_counted =
      let counts = naturals track.counts in
      let same = h.counts_len in
      let count : length counts ≡ length track.deltas = length-map track.counts unsigned_abs ∙ same in
      let all : from + (to - from) ≡ to = omega (arith, order) in
      let part = part_sum counts from to (to - from) (omega (arith, inside, count)) (omega (arith, order)) in
      let whole = take_all (to - from) (slice_range counts from to) (omega (arith, length-slice counts from to (omega (arith, inside, count)))) in
      let end : sum (take (from + (to - from)) counts) ≡ sum (take to counts) = ap (λ (n : ℕ). sum (take n counts)) all in
      let most = sum_by-take-le (λ (n : ℕ). n) counts to in
      let held = h.counted in
      let left : sum (naturals cut.counts) ≡ sum (take (to - from) (slice_range counts from to)) = ap sum (naturals-slice track.counts from to ∙ sym whole) in
      let right = length-slice track.pieces (sum (take from counts)) (sum (take to counts)) (omega (arith, most, held)) in
      omega (arith, left, part, end, right)

  pub cut_columns : AreColumns cut
  cut_columns = record {
    deltas = deltas_natural;
    offsets_len = length-map (slice_range track.offsets from to) (moved_offset factor ahead) ∙ long track.offsets h.offsets_len;
    syncs_len = long track.syncs h.syncs_len;
    syncs = all_slice IsMark track.syncs from to h.syncs;
    kinds_len = long track.kinds h.kinds_len;
    kinds = all_slice (IsEntryNumber (length track.entries)) track.kinds from to h.kinds;
    counts_len = long track.counts h.counts_len;
    counts = all_slice IsNatural track.counts from to h.counts;
    counted = pieces_counted;
    sizes_len = long track.sizes h.sizes_len;
    sizes = λ before lt.
        let short : before < to - from = omega (arith, lt, many) in
        get_or-slice track.sizes from to before (pos 0) short
        ∙ (h.sizes (from + before) (omega (arith, short, inside))
        ∙ ap (λ (ps : List Piece). pos (sum_by piece_len ps)) (sym (pieces_are [] track from to scale factor ahead edits h order inside before short)));
  }

-- in a movie of another scale
pub cut_bare : (old new : ℕ) (track : PlacedTrack) (from to scale factor ahead : ℕ) (edits : List Segment) → IsWellFormedTrack old (bare_track track) → 0 < scale → scale < 2 ^ 32 → edits ≢ []
    → IsWellFormedTrack new (bare_track (placed_cut from to scale factor ahead edits track))
cut_bare old new track from to scale factor ahead edits h positive short some = record {
  number = h.number;
  header = record {
    flags = h.header.flags;
    created = h.header.created;
    modified = h.header.modified;
    number = h.header.number;
    duration = omega arith;
    layer = h.header.layer;
    group = h.header.group;
    volume = h.header.volume;
    matrix = h.header.matrix;
    width = h.header.width;
    height = h.header.height;
  };
  media = record {
    created = h.media.created;
    modified = h.media.modified;
    some_scale = positive;
    timescale = short;
    duration = omega arith;
    language = h.media.language;
  };
  handler = h.handler;
  udta = h.udta;
  entries = h.entries;
  times = tt;
  kinds = tt;
  edits = λ is. some (ap (from_some []) is);
}
  where
    from_some : List Segment → Option (List Segment) → List Segment
    from_some other None = other
    from_some other (Some one) = one
