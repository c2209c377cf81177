-- The tracks of a plan can be cut in place.
use Rattle.std.proofs.Common.{◌≡◌, ℕ, ℤ, zero, suc, pos, negsuc, ◌+◌, ◌-◌, ◌*◌, ◌^◌, ◌<◌, ◌≤◌, ◌*ℤ◌, ◌+ℤ◌, max, Bool, true, false, ltb, leb, not, ◌&&◌, ◌||◌, List, [], ◌∷◌, length, map, get_or, Option, Some, None, refl, sym, ap, subst, ◌∙◌, arith, inl, inr}
use Rattle.std.specs.Prelude.{All, FitsSigned, slice_range, unsigned_abs}
use Rattle.std.specs.Int.{w32, w64, FitsUnsigned}
use Rattle.std.specs.List.{AllByRecursion, AllZip, list_all, list_any}
use Rattle.std.proofs.lemmas.Bool.{leb-true, ltb-false, ltb-true}
use Rattle.std.proofs.lemmas.Int.{fits_signed_from_abs, ints}
use Rattle.mp_frac.specs.declared.time.Frac.{Frac}
use Rattle.mp_ports.specs.declared.code.Code.TheVariants.{DeltaLimit, OffsetLimit}
use Rattle.mp_times.specs.Written.{FitOffsets, is_unsigned}
use Rattle.mp_movie.specs.CanBeWritten.{CanBeWritten}
use Rattle.mp_movie.specs.PartsFit.{first_limit, is_long, is_signed, is_wide, limits, passes}
use Rattle.mp_movie.specs.Placed.{PlacedMovie, PlacedTrack}
use Rattle.cut_op.specs.declared.plan.Plan.{Plan}
use Rattle.cut_op.specs.declared.plan.TrackPlan.{TrackPlan}
use Rattle.cut_op.specs.Placed.{FitsOffset, moved_offset}
use Rattle.cut_op.specs.Planned.{CanApply, IsPlan, PlansTrack, placed_by, placed_movie, placed_tracks}
use Rattle.cut_op.proofs.CutParts.{all_slice}
use Rattle.cut_op.proofs.FillingPlans.{all_at}
use Rattle.cut_op.proofs.KeptRuns.{is_short, long_is}
use Rattle.cut_op.proofs.MadeMovies.{none_holds}
use Rattle.cut_op.proofs.PlannedMovies.{CanBePlanned, HasShortScale}

-- ---- one number

neither_so : (b : Bool) → not b ≡ true → b ≡ false
neither_so true is = cc
neither_so false is = refl

not_so : (b : Bool) → not b ≡ false → b ≡ true
not_so true is = refl
not_so false is = cc

short_fits : (z : ℤ) → is_short z ≡ true → FitsSigned w64 z
short_fits z is = let le = ltb-false (2 ^ 32 - 1) (max 0 (unsigned_abs z)) (neither_so (ltb (2 ^ 32 - 1) (max 0 (unsigned_abs z))) is) in fits_signed_from_abs w64 z (omega (arith, le))

unsigned_fits : (z : ℤ) → is_unsigned z ≡ true → FitsOffset z
unsigned_fits (pos n) is = let le = leb-true n (2 ^ 32 - 1) is in record { low = omega (arith, ints); high = omega (arith, ints, le) }
unsigned_fits (negsuc n) is = cc

signed_fits : (z : ℤ) → is_signed z ≡ true → FitsOffset z
signed_fits (pos n) is = let lt = ltb-true n (2 ^ 31) is in record { low = omega (arith, ints); high = omega (arith, ints, lt) }
signed_fits (negsuc n) is = let lt = ltb-true n (2 ^ 31) is in record { low = omega (arith, ints, lt); high = omega (arith, ints) }

-- ---- all of a list

two : (a b : Bool) → (a && b) ≡ true → (a ≡ true) × (b ≡ true)
two true true is = (refl, refl)
two true false is = cc
two false b is = cc

all_pass : (p : ℤ → Bool) (P : ℤ → Type 0) → ((z : ℤ) → p z ≡ true → P z) → (xs : List ℤ) → list_all p xs ≡ true → AllByRecursion P xs
all_pass p P each [] is = tt
all_pass p P each (x ∷ xs) is = let parts = two (p x) (list_all p xs) is in (each x parts.0, all_pass p P each xs parts.1)

mapped : {A : Type 0} (P : ℤ → Type 0) (f : A → ℤ) (xs : List A) → AllByRecursion P (map f xs) → AllByRecursion (λ x. P (f x)) xs
mapped P f [] all = tt
mapped P f (x ∷ xs) all = (all.0, mapped P f xs all.1)

each_at : {A : Type 0} (P : A → Type 0) (xs : List A) → AllByRecursion P xs → All P xs
each_at P xs all = λ k d lt. all_at P xs k d lt all

offsets_fit : (xs : List ℤ) → is_wide xs ≡ false → AllByRecursion FitsOffset xs
offsets_fit xs is = by (list_all is_unsigned xs) refl
  where
    signed : not (list_all is_signed xs) ≡ false → AllByRecursion FitsOffset xs
    signed none = all_pass is_signed FitsOffset signed_fits xs (not_so (list_all is_signed xs) none)

    by : (b : Bool) → list_all is_unsigned xs ≡ b → AllByRecursion FitsOffset xs
    by true so = all_pass is_unsigned FitsOffset unsigned_fits xs so
    by false so = signed (sym (ap (λ (b : Bool). not b && not (list_all is_signed xs)) so) ∙ is)

old_fits : (offsets : List ℤ) → FitOffsets offsets → All FitsOffset offsets
old_fits offsets (inl fit) = λ k d lt. let one = fit k d lt in record { low = omega (arith, ints, one); high = omega (arith, ints, one) }
old_fits offsets (inr fit) = λ k d lt. let one = fit k d lt in record { low = omega (arith, ints, one); high = omega (arith, ints, one) }

-- ---- tracks

short_scale : (files : List (List ℕ)) (old new : ℕ) (from to : Frac) (track : PlacedTrack) (plan : TrackPlan) → PlansTrack files old new from to track plan → HasShortScale plan
short_scale files old new from to track plan planned =
    let is = planned.is.scale in
    let within = planned.is.is_shape.media_scale.1 in
    record { some = subst (λ (n : ℕ). 0 < n) (sym is) planned.is.is_shape.media_scale.0.some; short = omega (arith, is, within) }

some_factor : (scale factor new : ℕ) → new ≡ scale * factor → 0 < new → 0 < factor
some_factor scale zero new is some = let none : scale * 0 ≡ 0 = omega arith in absurd (omega (arith, is, none, some))
some_factor scale (suc factor) new is some = omega arith

can_apply : (files : List (List ℕ)) (old new : ℕ) (from to : Frac) (track : PlacedTrack) (plan : TrackPlan) → CanBeWritten track → PlansTrack files old new from to track plan
    → is_long (map (λ delta. delta *ℤ pos plan.factor) (slice_range track.deltas plan.kept.from plan.kept.to)) ≡ false → is_wide (map (moved_offset plan.factor plan.ahead) (slice_range track.offsets plan.kept.from plan.kept.to)) ≡ false
    → CanApply track plan
can_apply files old new from to track plan can planned short narrow =
    let deltas = map (λ delta. delta *ℤ pos plan.factor) (slice_range track.deltas plan.kept.from plan.kept.to) in
    record {
      columns = can.columns;
      order = planned.is.order;
      inside = planned.is.inside;
      some = some_factor track.scale plan.factor plan.scale planned.is.factor (short_scale files old new from to track plan planned).some;
      deltas = each_at _ (slice_range track.deltas plan.kept.from plan.kept.to)
          (mapped (FitsSigned w64) (λ delta. delta *ℤ pos plan.factor) (slice_range track.deltas plan.kept.from plan.kept.to) (all_pass is_short (FitsSigned w64) short_fits deltas (not_so (list_all is_short deltas) (sym (long_is deltas) ∙ short))));
      old = all_slice FitsOffset track.offsets plan.kept.from plan.kept.to (old_fits track.offsets can.offsets);
      offsets = each_at _ (slice_range track.offsets plan.kept.from plan.kept.to)
          (mapped FitsOffset (moved_offset plan.factor plan.ahead) (slice_range track.offsets plan.kept.from plan.kept.to) (offsets_fit (map (moved_offset plan.factor plan.ahead) (slice_range track.offsets plan.kept.from plan.kept.to)) narrow));
    }

neither : (a b : Bool) → (a || b) ≡ false → (a ≡ false) × (b ≡ false)
neither false b none = (refl, none)
neither true b none = cc

module _ (files : List (List ℕ)) (old new : ℕ) (from to : Frac) where
  all_can_apply : (tracks : List PlacedTrack) (plans : List TrackPlan) → AllByRecursion CanBeWritten tracks → AllZip (PlansTrack files old new from to) tracks plans → list_any (passes DeltaLimit) (placed_tracks plans tracks) ≡ false
      → list_any (passes OffsetLimit) (placed_tracks plans tracks) ≡ false → AllZip CanApply tracks plans
  all_can_apply [] [] can planned short narrow = tt
  all_can_apply [] (plan ∷ plans) can planned short narrow = absurd planned
  all_can_apply (track ∷ tracks) [] can planned short narrow = absurd planned
  all_can_apply (track ∷ tracks) (plan ∷ plans) can planned short narrow =
      let deltas = neither (passes DeltaLimit (placed_by plan track)) (list_any (passes DeltaLimit) (placed_tracks plans tracks)) short in
      let offsets = neither (passes OffsetLimit (placed_by plan track)) (list_any (passes OffsetLimit) (placed_tracks plans tracks)) narrow in
      (can_apply files old new from to track plan can.0 planned.0 deltas.0 offsets.0, all_can_apply tracks plans can.1 planned.1 deltas.1 offsets.1)

  short_scales : (tracks : List PlacedTrack) (plans : List TrackPlan) → AllZip (PlansTrack files old new from to) tracks plans → AllByRecursion HasShortScale plans
  short_scales [] [] planned = tt
  short_scales [] (plan ∷ plans) planned = absurd planned
  short_scales (track ∷ tracks) [] planned = tt
  short_scales (track ∷ tracks) (plan ∷ plans) planned = (short_scale files old new from to track plan planned.0, short_scales tracks plans planned.1)

pub plan_can_apply : (files : List (List ℕ)) (from to : Frac) (movie : PlacedMovie) (plan : Plan) → AllByRecursion CanBeWritten movie.tracks → IsPlan files from to movie plan → AllZip CanApply movie.tracks plan.tracks.items
plan_can_apply files from to movie plan can is =
    let none = none_holds (limits (placed_movie plan movie)) is.fits in
    all_can_apply files movie.scale plan.scale from to movie.tracks plan.tracks.items can is.tracks none.0 none.1.0

pub plan_scales : (files : List (List ℕ)) (from to : Frac) (movie : PlacedMovie) (plan : Plan) → IsPlan files from to movie plan → AllByRecursion HasShortScale plan.tracks.items
plan_scales files from to movie plan is = short_scales files movie.scale plan.scale from to movie.tracks plan.tracks.items is.tracks

pub all_can_be_planned : (tracks : List PlacedTrack) → AllByRecursion CanBeWritten tracks → AllByRecursion CanBePlanned tracks
all_can_be_planned [] can = tt
all_can_be_planned (track ∷ tracks) can = (record { some = can.0.scale; columns = can.0.columns }, all_can_be_planned tracks can.1)
