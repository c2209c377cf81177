-- Within the limits 64 bits hold the ticks of a track.
use Rattle.std.proofs.Common.{◌≡◌, ℕ, ◌-◌, ◌^◌, ◌<◌, ◌≤◌, ◌&&◌, max, not, Bool, true, false, ℤ, pos, negsuc, All, List, [], ◌∷◌, FitsSigned, w64, refl, arith, inl, inr}
use Rattle.std.specs.Prelude.{fold, unsigned_abs}
use Rattle.std.specs.List.{list_all}
use Rattle.std.proofs.lemmas.Bool.{cases_Bool, leb-false, leb-true, ltb-false, ltb-true}
use Rattle.std.proofs.lemmas.Int.{fits_signed_from_abs}
use Rattle.std.proofs.lemmas.List.Elements.{All-cons, All-nil}
use Rattle.mp_timeline.specs.declared.segment.Segment.{Segment}
use Rattle.mp_timeline.specs.declared.segment.Segment.TheVariants.{Empty, Media}
use Rattle.mp_edits.specs.Segments.{starts_late}
use Rattle.mp_times.specs.Written.{is_unsigned}
use Rattle.mp_movie.specs.PartsFit.{is_long, is_signed, is_wide}
use Rattle.mp_columns.specs.Numbers.{largest}
use Rattle.track_ops.specs.KeptTimes.{CanStart, FitsIn, column_in_scale, some_late_in}
use Rattle.track_ops.specs.Scales.{in_scale}
use Rattle.track_ops.specs.Ticks.{signed_in_scale, starting}
use Rattle.track_ops.proofs.LeastScales.{both}
use Rattle.track_ops.proofs.Lists.{neither}

small_fits : (z : ℤ) → unsigned_abs z < 2 ^ 33 → FitsSigned w64 z
small_fits z small = fits_signed_from_abs w64 z (omega (arith, small))

fold_more : (start : ℕ) (xs : List ℤ) → start ≤ fold (λ (m : ℕ) (x : ℤ). max m (unsigned_abs x)) start xs
fold_more start [] = omega arith
fold_more start (x ∷ xs) = let rest = fold_more (max start (unsigned_abs x)) xs in omega (arith, rest)

each_small : (old new start most : ℕ) (xs : List ℤ) → fold (λ (m : ℕ) (x : ℤ). max m (unsigned_abs x)) start (column_in_scale old new xs) ≤ most → most < 2 ^ 33 → All (FitsIn old new) xs
each_small old new start most [] le below = All-nil (FitsIn old new)
each_small old new start most (x ∷ xs) le below =
    let more = fold_more (max start (unsigned_abs (signed_in_scale old new x))) (column_in_scale old new xs) in
    All-cons (FitsIn old new) x xs (small_fits (signed_in_scale old new x) (omega (arith, le, below, more))) (each_small old new (max start (unsigned_abs (signed_in_scale old new x))) most xs le below)

pub short_fits : (old new : ℕ) (deltas : List ℤ) → is_long (column_in_scale old new deltas) ≡ false → All (FitsIn old new) deltas
short_fits old new deltas short = each_small old new 0 (2 ^ 32 - 1) deltas (ltb-false (2 ^ 32 - 1) (largest (column_in_scale old new deltas)) short) (omega arith)

tested_fit : (test : ℤ → Bool) (old new : ℕ) (xs : List ℤ) → ((z : ℤ) → test z ≡ true → unsigned_abs z < 2 ^ 33) → list_all test (column_in_scale old new xs) ≡ true → All (FitsIn old new) xs
tested_fit test old new [] small all = All-nil (FitsIn old new)
tested_fit test old new (x ∷ xs) small all =
    let each = both (test (signed_in_scale old new x)) (list_all test (column_in_scale old new xs)) all in
    All-cons (FitsIn old new) x xs (small_fits (signed_in_scale old new x) (small (signed_in_scale old new x) each.0)) (tested_fit test old new xs small each.1)

unsigned_small : (z : ℤ) → is_unsigned z ≡ true → unsigned_abs z < 2 ^ 33
unsigned_small (pos n) test = let le = leb-true n (2 ^ 32 - 1) test in omega (arith, le)
unsigned_small (negsuc n) test = cc

signed_small : (z : ℤ) → is_signed z ≡ true → unsigned_abs z < 2 ^ 33
signed_small (pos n) test = let lt = ltb-true n (2 ^ 31) test in omega (arith, lt)
signed_small (negsuc n) test = let lt = ltb-true n (2 ^ 31) test in omega (arith, lt)

one_holds : (a b : Bool) → (not a && not b) ≡ false → a ≡ false → b ≡ true
one_holds a true none first = refl
one_holds true false none first = cc
one_holds false false none first = cc

pub narrow_fits : (old new : ℕ) (offsets : List ℤ) → is_wide (column_in_scale old new offsets) ≡ false → All (FitsIn old new) offsets
narrow_fits old new offsets narrow =
    elim (cases_Bool (list_all is_unsigned (column_in_scale old new offsets))) [
      | inl all ↦ tested_fit is_unsigned old new offsets unsigned_small all
      | inr none ↦ tested_fit is_signed old new offsets signed_small (one_holds _ (list_all is_signed (column_in_scale old new offsets)) narrow none)
    ]

pub early_fits : (old new : ℕ) (edits : List Segment) → some_late_in old new edits ≡ false → All (CanStart old new) edits
early_fits old new [] none = All-nil (CanStart old new)
early_fits old new (segment ∷ edits) none =
    let each = neither (starts_late (starting old new segment)) (some_late_in old new edits) none in
    All-cons (CanStart old new) segment edits (one segment each.0) (early_fits old new edits each.1)
  where
    one : (segment : Segment) → starts_late (starting old new segment) ≡ false → CanStart old new segment
    one (Empty dur) early = tt
    one (Media start dur) early = let lt = leb-false (2 ^ 62) (in_scale old new start) early in omega (arith, lt)
