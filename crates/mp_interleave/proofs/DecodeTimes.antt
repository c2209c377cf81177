-- When samples are decoded, and how many in a row are of one window and entry.
use Rattle.std.proofs.Common.{◌≡◌, ◌≢◌, ◌&&◌, ℕ, ℤ, zero, suc, pos, negsuc, ◌+◌, ◌-◌, ◌*◌, ◌/◌, ◌^◌, ◌<◌, ◌≤◌, ◌≤ℤ◌, ◌+ℤ◌, ◌==◌, Bool, true, false, List, [], ◌∷◌, ◌++◌, length, map, take, drop, replicate, get_or, Some, None, inl, inr, refl, sym, ap, subst, ◌∙◌, arith}
use Rattle.std.specs.Prelude.{All, fold, slice_index, slice_index_or, sum, unsigned_abs}
use Rattle.std.specs.Int.{w32, FitsUnsigned}
use Rattle.std.specs.List.{AllByRecursion, range_with_len}
use Rattle.std.proofs.lemmas.Bool.{cases_lt, eq-eqb, ne_eqb}
use Rattle.std.proofs.lemmas.Int.{ints}
use Rattle.std.proofs.Math.Nat.{div-lt_iff_lt-mul, le-div_iff_mul-le}
use Rattle.std.proofs.Math.Seq.{take-add}
use Rattle.std.proofs.lemmas.List.{get_or-drop, get_or-replicate, get_or_append_left, length-replicate}
use Rattle.std.proofs.lemmas.List.Elements.{All-take, recursion_from_All}
use Rattle.std.proofs.lemmas.List.Folds.{sum_by-replicate}
use Rattle.std.proofs.lemmas.List.Sums.{sum_by-append, sum_by-cons, sum_by-take-le}
use Rattle.mp_columns.specs.declared.columns.TheConstants.{MOST_ITEMS}
use Rattle.mp_columns.specs.declared.run.Run.{Run}
use Rattle.mp_columns.specs.Numbers.{total}
use Rattle.mp_columns.specs.Runs.{IsLongestRun}
use Rattle.mp_times.specs.Times.{decode_time}
use Rattle.mp_movie.specs.CanBeWritten.{CanBeWritten}
use Rattle.mp_movie.specs.Placed.{PlacedTrack, naturals}
use Rattle.mp_movie.specs.WholeParts.{IsNatural}
use Rattle.mp_interleave.specs.Order.{Key, key_at, track_keys, window_at}
use Rattle.mp_interleave.specs.Left.{AreEqual, run_len, same_as, window_from}
use Rattle.mp_interleave.proofs.SampleKeys.{quotient-rises}

-- ---- sums of durations

naturals-front : (n : ℕ) (column : List ℤ) → naturals (take n column) ≡ take n (naturals column)
naturals-front zero column = refl
naturals-front (suc n) [] = refl
naturals-front (suc n) (item ∷ column) = ap (λ (numbers : List ℕ). unsigned_abs item ∷ numbers) (naturals-front n column)

naturals-rest : (n : ℕ) (column : List ℤ) → naturals (drop n column) ≡ drop n (naturals column)
naturals-rest zero column = refl
naturals-rest (suc n) [] = refl
naturals-rest (suc n) (item ∷ column) = naturals-rest n column

total-from : (n : ℕ) (xs : List ℤ) → AllByRecursion IsNatural xs → fold ◌+ℤ◌ (pos n) xs ≡ pos (fold (λ (a : ℕ) (x : ℕ). a + x) n (naturals xs))
total-from n [] all = refl
total-from n (pos x ∷ xs) all = total-from (n + x) xs all.1
total-from n (negsuc x ∷ xs) all = absurd (omega (arith, all.0))

pub time-is : (column : List ℤ) (count : ℕ) → All IsNatural column → total (take count column) ≡ pos (sum (take count (naturals column)))
time-is column count natural =
    total-from 0 (take count column) (recursion_from_All IsNatural (take count column) (All-take IsNatural count column natural)) ∙ ap (λ (numbers : List ℕ). pos (sum numbers)) (naturals-front count column)

sum-within : (xs : List ℤ) → AllByRecursion (FitsUnsigned w32) xs → sum (naturals xs) ≤ length xs * (2 ^ 32 - 1)
sum-within [] all = omega arith
sum-within (x ∷ xs) all = omega (arith, small x all.0, sum-within xs all.1, sum_by-cons (λ (n : ℕ). n) (unsigned_abs x) (naturals xs))
  where
    small : (x : ℤ) → FitsUnsigned w32 x → unsigned_abs x ≤ 2 ^ 32 - 1
    small (pos n) fits = omega (arith, ints, fits.1)
    small (negsuc n) fits = absurd (omega (arith, ints, fits.0))

-- all samples are over before the last tick
pub sum-short : (track : PlacedTrack) → CanBeWritten track → length track.deltas ≤ MOST_ITEMS → sum (naturals track.deltas) < 2 ^ 55
sum-short track can few = omega (arith, sum-within track.deltas (recursion_from_All (FitsUnsigned w32) track.deltas can.deltas), few)

pub time-within : (durations : List ℕ) (count : ℕ) → decode_time durations count ≤ sum durations
time-within durations count = sum_by-take-le (λ (n : ℕ). n) durations count

time-more : (durations : List ℕ) (count more : ℕ) → decode_time durations (count + more) ≡ decode_time durations count + sum (take more (drop count durations))
time-more durations count more = ap sum (take-add count more durations) ∙ sum_by-append (λ (n : ℕ). n) (take count durations) (take more (drop count durations))

time-rises : (durations : List ℕ) (count more : ℕ) → decode_time durations count ≤ decode_time durations (count + more)
time-rises durations count more = omega (arith, time-more durations count more)

-- along a run of equal durations
front-replicate : (k count : ℕ) (value : ℤ) (rest : List ℤ) → k ≤ count → take k (naturals (replicate count value ++ rest)) ≡ replicate k (unsigned_abs value)
front-replicate zero count value rest le = refl
front-replicate (suc k) zero value rest le = absurd (omega (arith, le))
front-replicate (suc k) (suc count) value rest le = ap (λ (numbers : List ℕ). unsigned_abs value ∷ numbers) (front-replicate k count value rest (omega (arith, le)))

run-time : (deltas : List ℤ) (from to k : ℕ) (run : Run) → IsLongestRun deltas from to run → k ≤ run.count → decode_time (naturals deltas) (from + k) ≡ decode_time (naturals deltas) from + k * unsigned_abs run.value
run-time deltas from to k run is le =
    let items : take k (drop from (naturals deltas)) ≡ replicate k (unsigned_abs run.value)
    = ap (take k) (sym (naturals-rest from deltas) ∙ ap naturals is.equal) ∙ front-replicate k run.count run.value (drop to deltas) le in
    time-more (naturals deltas) from k ∙ ap (λ (n : ℕ). decode_time (naturals deltas) from + n) (ap sum items ∙ sum_by-replicate (λ (n : ℕ). n) k (unsigned_abs run.value))

-- ---- the samples that are decoded before a tick

-- what holds below a number and at it holds below the next
pub below-more : (P : ℕ → Type 0) (n : ℕ) → ((i : ℕ) → i < n → P i) → P n → (i : ℕ) → i < n + 1 → P i
below-more P n below at i lt = elim (cases_lt i n) [
  | inl before ↦ below i before
  | inr behind ↦ let is : n ≡ i = omega (arith, lt, behind) in subst P is at
]

-- so many samples from the one on before which there are `before` were walked over: they are decoded before `end`
pub record AreWalked (deltas : List ℤ) (before count time cursor end : ℕ) : Type 0 where
  pub time_is : time ≡ decode_time (naturals deltas) (before + count)
  pub cursor_is : cursor ≡ before + count
  pub earlier : (i : ℕ) → i < count → decode_time (naturals deltas) (before + i) < end

pub walk-start : (deltas : List ℤ) (before time cursor end : ℕ) → time ≡ decode_time (naturals deltas) before → cursor ≡ before → AreWalked deltas before 0 time cursor end
walk-start deltas before time cursor end at is = record {
  time_is = at ∙ ap (decode_time (naturals deltas)) (omega arith);
  cursor_is = omega (arith, is);
  earlier = λ i lt. absurd (omega (arith, lt));
}

-- the time after some steps along the next run
pub time-on : (deltas : List ℤ) (before count time cursor end to steps : ℕ) (run : Run) → AreWalked deltas before count time cursor end → IsLongestRun deltas cursor to run → steps ≤ run.count
    → time + steps * unsigned_abs run.value ≡ decode_time (naturals deltas) (before + (count + steps))
time-on deltas before count time cursor end to steps run w is le =
    let at : decode_time (naturals deltas) (cursor + steps) ≡ decode_time (naturals deltas) cursor + steps * unsigned_abs run.value = run-time deltas cursor to steps run is le in
    let here : cursor + steps ≡ before + (count + steps) = omega (arith, w.cursor_is) in
    let time_is : time ≡ decode_time (naturals deltas) cursor = w.time_is ∙ ap (decode_time (naturals deltas)) (sym w.cursor_is) in
    ap (λ (n : ℕ). n + steps * unsigned_abs run.value) time_is ∙ (sym at ∙ ap (decode_time (naturals deltas)) here)

pub earlier-on : (deltas : List ℤ) (before count time cursor end to steps : ℕ) (run : Run) → AreWalked deltas before count time cursor end → IsLongestRun deltas cursor to run → steps ≤ run.count
    → ((i : ℕ) → i < steps → time + i * unsigned_abs run.value < end) → (i : ℕ) → i < count + steps → decode_time (naturals deltas) (before + i) < end
earlier-on deltas before count time cursor end to steps run w is le along i lt = elim (cases_lt i count) [
  | inl old ↦ w.earlier i old
  | inr new ↦
      let at = time-on deltas before count time cursor end to (i - count) run w is (omega (arith, lt, new, le)) in
      let same : before + (count + (i - count)) ≡ before + i = omega (arith, new) in
      subst (λ (n : ℕ). n < end) (at ∙ ap (decode_time (naturals deltas)) same) (along (i - count) (omega (arith, lt, new)))
]

pub walk-on : (deltas : List ℤ) (before count time cursor end to steps : ℕ) (run : Run) → AreWalked deltas before count time cursor end → IsLongestRun deltas cursor to run → steps ≡ run.count
    → ((i : ℕ) → i < steps → time + i * unsigned_abs run.value < end) → AreWalked deltas before (count + steps) (time + steps * unsigned_abs run.value) to end
walk-on deltas before count time cursor end to steps run w is all along = record {
  time_is = time-on deltas before count time cursor end to steps run w is (omega (arith, all));
  cursor_is = omega (arith, is.end, w.cursor_is, all);
  earlier = earlier-on deltas before count time cursor end to steps run w is (omega (arith, all)) along;
}

-- ---- the end of a window

between : (a b : ℕ) → a ≤ b → b < a + 1 → b ≡ a
between a b le lt = omega (arith, le, lt)

not-zero : (millis : ℕ) → 0 < millis → (millis == 0) ≡ false
not-zero millis some = grind arith

pub end-inside : (millis scale decode unit end : ℕ) → 0 < millis → unit ≡ scale * millis → 0 < unit → ((time : ℕ) → time < end → time * 1000 < (decode * 1000 / unit + 1) * unit)
    → (time : ℕ) → decode ≤ time → time < end → window_at millis scale time ≡ window_at millis scale decode
end-inside millis scale decode unit end some is positive before time le lt =
    let at : time * 1000 / unit ≡ decode * 1000 / unit
    = between (decode * 1000 / unit) (time * 1000 / unit) (quotient-rises (decode * 1000) (time * 1000) unit (omega (arith, le))) ((div-lt_iff_lt-mul positive).1 (before time lt)) in
    rw (not-zero millis some) (subst (λ (u : ℕ). time * 1000 / u ≡ decode * 1000 / u) is at)

pub end-behind : (millis scale decode unit end : ℕ) → 0 < millis → unit ≡ scale * millis → 0 < unit → ((time : ℕ) → end ≤ time → (decode * 1000 / unit + 1) * unit ≤ time * 1000)
    → (time : ℕ) → end ≤ time → window_at millis scale time ≢ window_at millis scale decode
end-behind millis scale decode unit end some is positive behind time le =
    let at : decode * 1000 / unit + 1 ≤ time * 1000 / unit = (le-div_iff_mul-le positive).1 (behind time le) in
    rw (not-zero millis some) (subst (λ (u : ℕ). time * 1000 / u ≢ decode * 1000 / u) is (λ e. absurd (later (decode * 1000 / unit) (time * 1000 / unit) at e)))
  where
    later : (a b : ℕ) → a + 1 ≤ b → b ≡ a → ⊥
    later a b le e = omega (arith, le, e)

-- ---- the keys from a sample on

drop-range : (f : ℕ → Key) (from k n m target : ℕ) → n ≡ k + m → from + k ≡ target → drop k (map f (range_with_len from n)) ≡ map f (range_with_len target m)
drop-range f from zero n m target e at =
    let same : n ≡ m = omega (arith, e) in
    let start : from ≡ target = omega (arith, at) in
    ap (λ (k : ℕ). map f (range_with_len from k)) same ∙ ap (λ (a : ℕ). map f (range_with_len a m)) start
drop-range f from (suc k) zero m target e at = absurd (omega (arith, e))
drop-range f from (suc k) (suc n) m target e at = drop-range f (from + 1) k n m target (omega (arith, e)) (omega (arith, at))

pub keys-from : (millis : ℕ) (track : PlacedTrack) (before m : ℕ) → length track.deltas ≡ before + m → drop before (track_keys millis track) ≡ map (key_at millis track) (range_with_len before m)
unfolding track_keys
keys-from millis track before m e = drop-range (key_at millis track) 0 before (length track.deltas) m before e (omega arith)

pub window-there : (millis : ℕ) (track : PlacedTrack) (before : ℕ) → before < length track.deltas
    → Some (window_at millis track.scale (decode_time (naturals track.deltas) before)) ≡ window_from (drop before (track_keys millis track))
window-there millis track before lt =
    let m = length track.deltas - (before + 1) in
    rw (keys-from millis track before (suc m) (omega (arith, lt))) refl

pub window-none : (millis : ℕ) (track : PlacedTrack) (before : ℕ) → before ≡ length track.deltas → None ≡ window_from (drop before (track_keys millis track))
window-none millis track before e = rw (keys-from millis track before 0 (omega (arith, e))) refl

-- ---- a run of one window and entry

-- equal items in a row
pub equal-run : (items : List ℤ) (from to : ℕ) (run : Run) → IsLongestRun items from to run → AreEqual items from run.count
equal-run items from to run is = record {
  some = is.some;
  inside = omega (arith, is.inside, is.end);
  equal = λ i lt. at i lt ∙ sym first;
  other = λ lt e. is.other (omega (arith, is.end, lt)) (subst (λ (n : ℕ). slice_index_or items n (pos 0) ≡ run.value) (sym is.end) (e ∙ first));
}
  where
    at : (i : ℕ) → i < run.count → slice_index_or items (from + i) (pos 0) ≡ run.value
    at i lt =
        sym (get_or-drop from items i (pos 0)) ∙ (ap (λ (l : List ℤ). get_or l i (pos 0)) is.equal
        ∙ (get_or_append_left (replicate run.count run.value) (drop to items) (pos 0) i (omega (arith, lt, length-replicate run.count run.value)) ∙ get_or-replicate run.count i run.value (pos 0) lt))

    first : slice_index_or items from (pos 0) ≡ run.value
    first = subst (λ (n : ℕ). slice_index_or items n (pos 0) ≡ run.value) (omega arith) (at 0 is.some)

abbrev is_like : Key → Key → Bool
is_like one key = (one.window == key.window) && (one.entry == key.entry)

same-run : (f : ℕ → Key) (key : Key) (from n m : ℕ) → n ≤ m → ((i : ℕ) → i < n → is_like (f (from + i)) key ≡ true) → (n < m → is_like (f (from + n)) key ≡ false)
    → same_as key (map f (range_with_len from m)) ≡ n
same-run f key from zero zero le alike other = refl
same-run f key from zero (suc m) le alike other =
    let at : from + 0 ≡ from = omega arith in
    rw (subst (λ (k : ℕ). is_like (f k) key ≡ false) at (other (omega arith))) refl
same-run f key from (suc n) zero le alike other = absurd (omega (arith, le))
same-run f key from (suc n) (suc m) le alike other =
    let at : from + 0 ≡ from = omega arith in
    let rest = same-run f key (from + 1) n m (omega (arith, le)) (λ i lt. subst (λ (k : ℕ). is_like (f k) key ≡ true) (next from i) (alike (suc i) (omega (arith, lt)))) (λ lt. subst (λ (k : ℕ). is_like (f k) key ≡ false) (next from n) (other (omega (arith, lt)))) in
    rw (subst (λ (k : ℕ). is_like (f k) key ≡ true) at (alike 0 (omega arith))) (omega (arith, rest))
  where
    next : (from i : ℕ) → from + suc i ≡ (from + 1) + i
    next from i = omega arith

and-true : (a b c d : ℕ) → a ≡ b → c ≡ d → ((a == b) && (c == d)) ≡ true
and-true a b c d e f = rw (eq-eqb a b e, eq-eqb c d f) refl

and-false-first : (a b : ℕ) (other : Bool) → (a ≡ b → ⊥) → ((a == b) && other) ≡ false
and-false-first a b other ne = rw (ne_eqb a b ne) refl

and-false-second : (first : Bool) (c d : ℕ) → (c ≡ d → ⊥) → (first && (c == d)) ≡ false
and-false-second true c d ne = ne_eqb c d ne
and-false-second false c d ne = refl

-- the numbers of entries
kind-at : (kinds : List ℤ) (i : ℕ) → slice_index (naturals kinds) i ≡ unsigned_abs (slice_index_or kinds i (pos 0))
kind-at [] i = refl
kind-at (kind ∷ kinds) zero = refl
kind-at (kind ∷ kinds) (suc i) = kind-at kinds i

positive-other : (one other : ℤ) → pos 1 ≤ℤ one → pos 1 ≤ℤ other → one ≢ other → unsigned_abs one ≡ unsigned_abs other → ⊥
positive-other (pos a) (pos b) p q ne e = ne (ap pos e)
positive-other (pos a) (negsuc b) p q ne e = omega (arith, ints, q)
positive-other (negsuc a) other p q ne e = omega (arith, ints, p)

pub run-is : (millis : ℕ) (track : PlacedTrack) (before most count end : ℕ) → CanBeWritten track → sum (naturals track.deltas) < 2 ^ 55 → before < length track.deltas → AreEqual track.kinds before most
    → ((time : ℕ) → decode_time (naturals track.deltas) before ≤ time → time < end → window_at millis track.scale time ≡ window_at millis track.scale (decode_time (naturals track.deltas) before))
    → ((time : ℕ) → time < 2 ^ 55 → end ≤ time → window_at millis track.scale time ≢ window_at millis track.scale (decode_time (naturals track.deltas) before))
    → count ≤ most → ((i : ℕ) → i < count → decode_time (naturals track.deltas) (before + i) < end) → (count < most → end ≤ decode_time (naturals track.deltas) (before + count))
    → count ≡ run_len (drop before (track_keys millis track))
run-is millis track before most zero end can short lt equal inside behind le earlier later =
    let at : before + 0 ≡ before = omega arith in
    let past = subst (λ (n : ℕ). end ≤ decode_time (naturals track.deltas) n) at (later equal.some) in
    absurd (behind (decode_time (naturals track.deltas) before) (omega (arith, short, time-within (naturals track.deltas) before)) past refl)
run-is millis track before most (suc count) end can short lt equal inside behind le earlier later =
    let m = length track.deltas - (before + 1) in
    let long = can.columns.kinds_len in
    let run = same-run (key_at millis track) (key_at millis track before) (before + 1) count m (omega (arith, le, lt, equal.inside, long)) alike (other m (omega (arith, lt))) in
    rw (keys-from millis track before (suc m) (omega (arith, lt))) (omega (arith, run))
  where
    next : (i : ℕ) → before + suc i ≡ (before + 1) + i
    next i = omega arith

    alike : (i : ℕ) → i < count → is_like (key_at millis track ((before + 1) + i)) (key_at millis track before) ≡ true
    alike i at =
        let there = earlier (suc i) (omega (arith, at)) in
        subst (λ (n : ℕ). is_like (key_at millis track n) (key_at millis track before) ≡ true) (next i)
        (and-true _ _ _ _
        (inside (decode_time (naturals track.deltas) (before + suc i)) (time-rises (naturals track.deltas) before (suc i)) there)
        (kind-at track.kinds (before + suc i) ∙ (ap unsigned_abs (equal.equal (suc i) (omega (arith, at, le))) ∙ sym (kind-at track.kinds before))))

    other : (m : ℕ) → length track.deltas ≡ before + suc m → count < m → is_like (key_at millis track ((before + 1) + count)) (key_at millis track before) ≡ false
    other m len at = subst (λ (n : ℕ). is_like (key_at millis track n) (key_at millis track before) ≡ false) (next count) (elim (cases_lt (suc count) most) [
      | inl fewer ↦
          and-false-first _ _ _
          (behind (decode_time (naturals track.deltas) (before + suc count)) (omega (arith, short, time-within (naturals track.deltas) (before + suc count))) (later fewer))
      | inr all ↦
          let is : most ≡ suc count = omega (arith, le, all) in
          let long = can.columns.kinds_len in
          let inside_there : before + suc count < length track.kinds = omega (arith, long, len, at) in
          let there = subst (λ (n : ℕ). slice_index_or track.kinds (before + n) (pos 0) ≢ slice_index_or track.kinds before (pos 0)) is (equal.other (omega (arith, is, inside_there))) in
          and-false-second _ _ _
          (λ e. positive-other (slice_index_or track.kinds (before + suc count) (pos 0)) (slice_index_or track.kinds before (pos 0))
          (can.columns.kinds (before + suc count) (pos 0) inside_there).some
          (can.columns.kinds before (pos 0) (omega (arith, long, lt))).some
          there
          (sym (kind-at track.kinds (before + suc count)) ∙ (e ∙ kind-at track.kinds before)))
    ])

-- the same, of the parts of the code
pub run-of : (millis : ℕ) (track : PlacedTrack) (before most count end scale decode : ℕ) (deltas kinds : List ℤ) → scale ≡ track.scale → deltas ≡ track.deltas → kinds ≡ track.kinds
    → decode ≡ decode_time (naturals track.deltas) before → CanBeWritten track → sum (naturals track.deltas) < 2 ^ 55 → before < length track.deltas → AreEqual kinds before most
    → ((time : ℕ) → decode ≤ time → time < end → window_at millis scale time ≡ window_at millis scale decode)
    → ((time : ℕ) → time < 2 ^ 55 → end ≤ time → window_at millis scale time ≢ window_at millis scale decode)
    → count ≤ most → ((i : ℕ) → i < count → decode_time (naturals deltas) (before + i) < end) → (count < most → end ≤ decode_time (naturals deltas) (before + count))
    → count ≡ run_len (drop before (track_keys millis track))
run-of millis track before most count end scale decode deltas kinds s d k t can short lt equal inside behind le earlier later =
    run-is millis track before most count end can short lt
    (subst (λ (items : List ℤ). AreEqual items before most) k equal)
    (subst (λ (x : ℕ). (time : ℕ) → decode_time (naturals track.deltas) before ≤ time → time < end → window_at millis x time ≡ window_at millis x (decode_time (naturals track.deltas) before)) s
    (subst (λ (x : ℕ). (time : ℕ) → x ≤ time → time < end → window_at millis scale time ≡ window_at millis scale x) t inside))
    (subst (λ (x : ℕ). (time : ℕ) → time < 2 ^ 55 → end ≤ time → window_at millis x time ≢ window_at millis x (decode_time (naturals track.deltas) before)) s
    (subst (λ (x : ℕ). (time : ℕ) → time < 2 ^ 55 → end ≤ time → window_at millis scale time ≢ window_at millis scale x) t behind))
    le
    (subst (λ (items : List ℤ). (i : ℕ) → i < count → decode_time (naturals items) (before + i) < end) d earlier)
    (subst (λ (items : List ℤ). count < most → end ≤ decode_time (naturals items) (before + count)) d later)

pub same-time : (time steps value delta count : ℕ) → delta ≡ value → count ≡ steps → time + steps * value ≡ time + delta * count
same-time time steps value delta count e f = rw (e, f) (omega arith)
