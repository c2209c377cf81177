use Rattle.std.proofs.Common.{rules, ◌≡◌, ◌+◌, ◌*◌, ◌<◌, ◌≤◌, ◌^◌, ℕ, ℤ, List, length, take, get_or, pos, ◌+ℤ◌, ◌≤ℤ◌, ◌<ℤ◌, Bool, suc, w64, to_z, of_z, subst, sym, ap, ◌∙◌, arith}
use Rattle.std.specs.Prelude.{sum, unsigned_abs, slice_index}
use Rattle.std.specs.Int.{w32, w128, FitsUnsigned}
use Rattle.std.proofs.lemmas.Int.{ints, to_z-of_z}
use Rattle.std.proofs.lemmas.List.{get_or-map, length-map}
use Rattle.mp_times.specs.Sync.{is_sync}
use Rattle.mp_movie.specs.Durations.{not_before_start}
use Rattle.mp_movie.specs.Placed.{naturals}
use Rattle.mp_clip.specs.declared.touching.Span.{Span}
use Rattle.cut_op.specs.declared.kept.Found.{Found}
use Rattle.cut_op.specs.Found.{begin_of, found_next, is_marked, is_touched}
use Rattle.cut_op.specs.Items.{AreLeft}
use Rattle.cut_op.specs.Reach.{touches_any}
use Rattle.cut_op.proofs.Finding.{AreFound, all_are_kept, one_found}
use Rattle.cut_op.proofs.FrontSums.{by_recursion, front_short, natural_of}
use Rattle.cut_op.proofs.KeptSamples.{sum-next}
use Rattle.cut_op.proofs.kept.kept_range.Goals as goal
use Rattle.cut_op.proofs.kept.kept_range.Goals.{After-next-delta, After-next-offset, After-next-mark}

-- the items that are read
delta_of : (c : After-next-delta) → (c.next-delta.result ≡ get_or c.args.track.now.deltas c.loop-before.before (pos 0)) × AreLeft c.args.track.now.deltas (c.loop-before.before + 1) c.next-delta.new.self.cursor c.next-delta.new.self.run
delta_of c =
    subst (λ (items : List ℤ). (place : ℕ) → place < length items → AreLeft items place c.loop-before.deltas.cursor c.loop-before.deltas.run
    → (c.next-delta.result ≡ get_or items place (pos 0)) × AreLeft items (place + 1) c.next-delta.new.self.cursor c.next-delta.new.self.run)
    c.loop-before.invariant.deltas_column c.next-delta.ensures.item c.loop-before.before (search rules) c.loop-before.invariant.deltas

offset_of : (c : After-next-offset) → (c.next-offset.result ≡ get_or c.args.track.now.offsets c.loop-before.before (pos 0)) × AreLeft c.args.track.now.offsets (c.loop-before.before + 1) c.next-offset.new.self.cursor c.next-offset.new.self.run
offset_of c =
    let lt : c.loop-before.before < length c.args.track.now.deltas = search rules in
    let many = c.requires.track.columns.offsets_len in
    subst (λ (items : List ℤ). (place : ℕ) → place < length items → AreLeft items place c.loop-before.offsets.cursor c.loop-before.offsets.run
    → (c.next-offset.result ≡ get_or items place (pos 0)) × AreLeft items (place + 1) c.next-offset.new.self.cursor c.next-offset.new.self.run)
    c.loop-before.invariant.offsets_column c.next-offset.ensures.item c.loop-before.before (omega (arith, lt, many)) c.loop-before.invariant.offsets

mark_of : (c : After-next-mark) → (c.next-mark.result ≡ get_or c.args.track.now.syncs c.loop-before.before (pos 0)) × AreLeft c.args.track.now.syncs (c.loop-before.before + 1) c.next-mark.new.self.cursor c.next-mark.new.self.run
mark_of c =
    let lt : c.loop-before.before < length c.args.track.now.deltas = search rules in
    let many = c.requires.track.columns.syncs_len in
    subst (λ (items : List ℤ). (place : ℕ) → place < length items → AreLeft items place c.loop-before.syncs.cursor c.loop-before.syncs.run
    → (c.next-mark.result ≡ get_or items place (pos 0)) × AreLeft items (place + 1) c.next-mark.new.self.cursor c.next-mark.new.self.run)
    c.loop-before.invariant.syncs_column c.next-mark.ensures.item c.loop-before.before (omega (arith, lt, many)) c.loop-before.invariant.syncs

pub next_decode-decode-requires-clause-early : goal.next_decode-decode-requires-clause-early
next_decode-decode-requires-clause-early c =
    let lt : c.loop-before.before < length c.args.track.now.deltas = search rules in
    let most : length c.args.track.now.deltas ≤ 8388608 = search rules in
    let short = front_short c.args.track.now.deltas c.loop-before.before (by_recursion (FitsUnsigned w32) c.args.track.now.deltas c.requires.track.deltas) in
    omega (arith, c.loop-before.invariant.decode, short, lt, most)

pub loop-before-preserved : goal.loop-before-preserved
loop-before-preserved c =
    let track = c.args.track.now in
    let before = c.loop-before.before in
    let p = (goal.at.loop-before-preserved c).After-next-delta in
    let q = (goal.at.loop-before-preserved c).After-next-offset in
    let r = (goal.at.loop-before-preserved c).After-next-mark in
    let lt : c.loop-before.before < length c.args.track.now.deltas = search rules in
    let sums : ℕ = sum (take before (naturals track.deltas)) in
    let delta : to_z w64 (of_z w64 c.next-delta.result) ≡ get_or track.deltas before (pos 0) = to_z-of_z w64 c.next-delta.result (search rules) ∙ (delta_of p).0 in
    let offset : to_z w64 (of_z w64 c.next-offset.result) ≡ get_or track.offsets before (pos 0) = to_z-of_z w64 c.next-offset.result (search rules) ∙ (offset_of q).0 in
    let mark : to_z w64 (of_z w64 c.next-mark.result) ≡ get_or track.syncs before (pos 0) = to_z-of_z w64 c.next-mark.result (search rules) ∙ (mark_of r).0 in
    let number : slice_index (naturals track.deltas) before ≡ unsigned_abs (get_or track.deltas before (pos 0)) = get_or-map unsigned_abs track.deltas before (pos 0) 0 lt in
    let natural : get_or track.deltas before (pos 0) ≡ pos (slice_index (naturals track.deltas) before) = natural_of (get_or track.deltas before (pos 0)) (c.requires.track.columns.deltas before (pos 0) lt) ∙ ap pos (sym number) in
    let start : to_z w128 (of_z w128 c.start_of.result) ≡ begin_of track before =
    to_z-of_z w128 c.start_of.result (search rules) ∙ (c.start_of.ensures.start ∙ (ap (λ (n : ℕ). pos n +ℤ to_z w64 (of_z w64 c.next-offset.result)) c.loop-before.invariant.decode ∙ ap (λ (z : ℤ). pos sums +ℤ z) offset)) in
    record {
      deltas_column = search rules;
      offsets_column = search rules;
      syncs_column = search rules;
      deltas = (delta_of p).1;
      offsets = (offset_of q).1;
      syncs = (mark_of r).1;
      decode =
          c.next_decode-decode.ensures
          ∙ (ap (λ (n : ℕ). n + unsigned_abs (to_z w64 (of_z w64 c.next-delta.result))) c.loop-before.invariant.decode
          ∙ (ap (λ (z : ℤ). sums + unsigned_abs z) delta
          ∙ (ap (λ (n : ℕ). sums + n) (sym number) ∙ sym (sum-next (naturals track.deltas) before (omega (arith, lt, length-map track.deltas unsigned_abs))))));
      inside = search rules;
      found = λ those order.
          let sync_is : c.is_sync.result ≡ is_marked track before = c.is_sync.ensures ∙ ap is_sync mark in
          let needed_is : c.is_touched-needed.result ≡ is_touched those track before =
          c.is_touched-needed.ensures those order
          ∙ (ap (λ (z : ℤ). touches_any (not_before_start z) (not_before_start (z +ℤ to_z w64 (of_z w64 c.next-delta.result))) those) start
          ∙ ap (λ (z : ℤ). touches_any (not_before_start (begin_of track before)) (not_before_start (begin_of track before +ℤ z)) those) (delta ∙ natural)) in
          let next : suc before ≡ before + 1 = omega arith in
          subst (λ (k : ℕ). AreFound (is_marked track) (is_touched those track) k c.next-found.result) next
          (subst (λ (found : Found). AreFound (is_marked track) (is_touched those track) (suc before) found) (sym c.next-found.ensures)
          (one_found (is_marked track) (is_touched those track) before c.loop-before.found c.is_sync.result c.is_touched-needed.result sync_is needed_is (c.loop-before.invariant.found those order)));
    }

pub returns : goal.returns
returns c = λ those order.
    let all : c.loop-before.before ≡ length c.args.track.now.deltas = search rules in
    all_are_kept those c.args.track.now c.loop-before.before c.range_of.result.from c.range_of.result.to c.loop-before.found all (c.loop-before.invariant.found those order) c.range_of.ensures.from c.range_of.ensures.to
