-- The movie that the plans of its tracks make, with edits of their own or as they are filled in.
use Rattle.std.proofs.Common.{◌≡◌, ℕ, zero, suc, ◌+◌, ◌*◌, ◌/◌, ◌^◌, ◌<◌, ◌≤◌, Bool, true, false, cond, leb, ◌||◌, List, [], ◌∷◌, ◌++◌, length, map, Option, Some, None, refl, sym, ap, subst, ◌∙◌, arith}
use Rattle.std.specs.Prelude.{IfSome, option_map, Result, Ok, Err}
use Rattle.std.specs.Int.{◌∣◌}
use Rattle.std.specs.List.{AllByRecursion, AllZip, Contains, flat_map}
use Rattle.std.proofs.lemmas.Bool.{leb-false, ltb-false}
use Rattle.std.proofs.lemmas.List.Sums.{sum_by-cons}
use Rattle.mp_frac.specs.declared.time.Frac.{Frac}
use Rattle.mp_frac.specs.Law.{WholenessIsDivision}
use Rattle.mp_frac.specs.Time.{IsWhole}
use Rattle.mp_ports.specs.declared.code.Code.{Code}
use Rattle.mp_ports.specs.declared.code.Code.TheVariants.{BadRange, DeltaLimit, DurationLimit, OffsetLimit, ScaleLimit, StartLimit}
use Rattle.mp_ports.specs.declared.fault.Bad.{Bad}
use Rattle.mp_ports.specs.Checks.{first_code, unless}
use Rattle.mp_columns.specs.declared.columns.TheConstants.{MOST_ITEMS}
use Rattle.mp_timeline.specs.declared.segment.Segment.{Segment}
use Rattle.mp_timeline.specs.Movie.{MovieRecord, TrackRecord}
use Rattle.mp_movie.specs.CanBeWritten.{CanBeWritten}
use Rattle.mp_movie.specs.Limits.{most_tracks}
use Rattle.mp_movie.specs.PartsFit.{first_limit, limits}
use Rattle.mp_movie.specs.PartsLaw.{ColumnsAreKept}
use Rattle.mp_movie.specs.Placed.{PlacedMovie, PlacedTrack, sample_count}
use Rattle.mp_movie.specs.StandsFor.{Hold, HoldTrack, stands_for, track_for}
use Rattle.mp_movie.specs.WholeParts.{AreColumns}
use Rattle.mp_shown.specs.Fractions.{is_before}
use Rattle.mp_clip.specs.declared.shape.ClipShape.{ClipShape}
use Rattle.track_ops.specs.Law.{LeastScalesAreFound}
use Rattle.track_ops.specs.Limits.{limit, settled_to}
use Rattle.track_ops.specs.Told.{all_some, or_empty}
use Rattle.cut_op.specs.declared.limits.Passed.{Passed}
use Rattle.cut_op.specs.declared.plan.Plan.{Plan}
use Rattle.cut_op.specs.declared.plan.TrackPlan.{TrackPlan}
use Rattle.cut_op.specs.Cut.{cut, cut_codes, cut_movie, cut_scale, cut_settled, in_movie_scale}
use Rattle.cut_op.specs.Placed.{placed_cut}
use Rattle.cut_op.specs.Planned.{AreFilled, ArePlanned, CanEdit, HasEdits, HasScale, IsFilled, IsPlan, IsTrackPlan, MakePlans, MakesPlan, PlansTrack, any_passed, either_of, first_passed, placed_by, placed_movie, placed_tracks}
use Rattle.cut_op.proofs.AllScales.{lasts, multiple_of, scale_found, whole_lasts}
use Rattle.cut_op.proofs.CutParts.{cut_columns}
use Rattle.cut_op.proofs.CutScales.{all_parted}
use Rattle.cut_op.proofs.CutSettles.{cut_is_placed}
use Rattle.cut_op.proofs.MadePlans.{can_be_told, fewer, has_passed, held}
use Rattle.cut_op.proofs.MovieLimits.{HasPassed, limit_is}
use Rattle.cut_op.proofs.SameLimits.{stands_limits}

-- none of the checks holds
pub none_holds : (checks : List (Bool × Code)) → first_code checks ≡ None → AllByRecursion (λ check. check.0 ≡ false) checks
none_holds [] none = tt
none_holds ((holds, code) ∷ checks) none = by holds none (none_holds checks)
  where
    by : (b : Bool) → cond b (Some code) (first_code checks) ≡ None → (first_code checks ≡ None → AllByRecursion (λ check. check.0 ≡ false) checks) → AllByRecursion (λ check. check.0 ≡ false) ((b, code) ∷ checks)
    by true none rest = cc
    by false none rest = (refl, rest none)

pub few_samples : (movie : PlacedMovie) → first_limit movie ≡ None → sample_count movie.tracks ≤ MOST_ITEMS
few_samples movie none = ltb-false MOST_ITEMS (sample_count movie.tracks) (none_holds (limits movie) none).1.1.1.1.1.0

pub few_tracks : (movie : PlacedMovie) → first_limit movie ≡ None → length movie.tracks ≤ most_tracks
few_tracks movie none = ltb-false most_tracks (length movie.tracks) (none_holds (limits movie) none).1.1.1.1.1.1.0

-- a plan with edits makes the same of a track
filled_plan : (files : List (List ℕ)) (movie : ℕ) (from to : Frac) (track : PlacedTrack) (plan now : TrackPlan) (shape : ClipShape) → now ≡ record plan { edits = now.edits } → IsTrackPlan files movie from to track shape plan → IsTrackPlan files movie from to track shape now
filled_plan files movie from to track plan now shape same is = subst (IsTrackPlan files movie from to track shape) (sym same) (record {
  order = is.order;
  inside = is.inside;
  kept = is.kept;
  is_shape = is.is_shape;
  scale = is.scale;
  factor = is.factor;
  back = is.back;
  ahead = is.ahead;
})

module _ (found : LeastScalesAreFound) (law : WholenessIsDivision) (files : List (List ℕ)) (old new : ℕ) (from to : Frac) (some_old : 0 < old) (some_from : 0 < from.d) (some_to : 0 < to.d) (some_new : 0 < new) (multiple : old ∣ new) where
  -- tracks that are made of others by their cut, and pass so much
  pub record AreMade (tracks : List PlacedTrack) (all : List Passed) (placed : List PlacedTrack) : Type 0 where
    pub cuts : all_some (map (cut_settled old new from to) (map (track_for files) tracks)) ≡ Some (map (track_for files) placed)
    pub passed : AllZip HasPassed placed all
    pub columns : AllByRecursion AreColumns placed
    pub held : (sizes : List ℕ) → AllByRecursion (HoldTrack sizes) tracks → AllByRecursion (HoldTrack sizes) placed
    pub count : sample_count placed ≤ sample_count tracks
    pub many : length placed ≡ length tracks

  none_made : AreMade [] [] []
  none_made = record { cuts = refl; passed = tt; columns = tt; held = λ sizes h. h; count = omega arith; many = refl }

  abbrev pub every : TrackRecord → List Frac
  every = lasts files old from to some_old some_from some_to

  divides_new : (track : PlacedTrack) (plan : TrackPlan) (passed : Passed) → CanBeWritten track → AllByRecursion (IsWhole new) (every (track_for files track)) → (makes : MakesPlan files old new from to track plan passed) → makes.shape.movie_scale ∣ new
  divides_new track plan passed can whole makes = multiple_of files old from to some_old some_from some_to track makes.shape new some_new can.scale multiple whole makes.is.is_shape

  made_more : (track : PlacedTrack) (plan : TrackPlan) (passed : Passed) (tracks : List PlacedTrack) (all : List Passed) (placed : List PlacedTrack) (edits : List Segment) → CanBeWritten track
      → AllByRecursion (IsWhole new) (every (track_for files track)) → MakesPlan files old new from to track plan passed → HasEdits files old new from to track plan edits → AreMade tracks all placed
      → AreMade (track ∷ tracks) (passed ∷ all) (placed_cut plan.kept.from plan.kept.to plan.scale plan.factor plan.ahead edits track ∷ placed)
  made_more track plan passed tracks all placed edits can whole makes has rest =
      let divides = divides_new track plan passed can whole makes in
      let one = placed_cut plan.kept.from plan.kept.to plan.scale plan.factor plan.ahead edits track in
      let here = cut_is_placed files old new from to track makes.shape plan some_old some_from some_to can.scale can.columns makes.is edits found has in
      let less = fewer files old new from to track plan passed can makes edits has divides in
      let count = rest.count in
      let sum = sum_by-cons (λ (t : PlacedTrack). length t.deltas) one placed in
      let whole_sum = sum_by-cons (λ (t : PlacedTrack). length t.deltas) track tracks in
      record {
        cuts =
            ap (λ (o : Option TrackRecord). all_some (o ∷ map (cut_settled old new from to) (map (track_for files) tracks))) here
            ∙ ap (option_map (λ (items : List TrackRecord). track_for files one ∷ items)) rest.cuts;
        passed = (has_passed files old new from to track plan passed can makes edits has divides, rest.passed);
        columns = (cut_columns track plan.kept.from plan.kept.to plan.scale plan.factor plan.ahead edits can.columns makes.is.order makes.is.inside, rest.columns);
        held = λ sizes h. (held files old new from to track plan passed can makes edits has divides sizes h.0, rest.held sizes h.1);
        count = omega (arith, sum, whole_sum, less, count);
        many = ap (λ (n : ℕ). suc n) rest.many;
      }

  -- there are such tracks
  pub record CanMake (tracks : List PlacedTrack) (all : List Passed) : Type 0 where
    pub placed : List PlacedTrack
    pub are : AreMade tracks all placed

  pub can_make : (tracks : List PlacedTrack) (plans : List TrackPlan) (all : List Passed) → AllByRecursion CanBeWritten tracks → AllByRecursion (IsWhole new) (flat_map every (map (track_for files) tracks)) → MakePlans files old new from to tracks plans all
      → CanMake tracks all
  can_make [] [] [] can whole make = record { placed = []; are = none_made }
  can_make [] [] (passed ∷ all) can whole make = absurd make
  can_make [] (plan ∷ plans) all can whole make = absurd make
  can_make (track ∷ tracks) [] all can whole make = absurd make
  can_make (track ∷ tracks) (plan ∷ plans) [] can whole make = absurd make
  can_make (track ∷ tracks) (plan ∷ plans) (passed ∷ all) can whole make =
      let parts = all_parted (IsWhole new) (every (track_for files track)) (flat_map every (map (track_for files) tracks)) whole in
      let rest = can_make tracks plans all can.1 parts.1 make.1 in
      let told = can_be_told law files old new from to track plan make.0.shape make.0.is some_new (divides_new track plan passed can.0 parts.0 make.0)
      (whole_lasts files old from to some_old some_from some_to track new some_new can.0.scale parts.0) in
      let has : HasEdits files old new from to track plan (or_empty told.made) = record { made = told.made; told = told.told; are = refl } in
      record { placed = placed_cut plan.kept.from plan.kept.to plan.scale plan.factor plan.ahead (or_empty told.made) track ∷ rest.placed; are = made_more track plan passed tracks all rest.placed (or_empty told.made) can.0 parts.0 make.0 has rest.are }

  -- those of plans that are filled in
  pub are_made : (tracks : List PlacedTrack) (plans now : List TrackPlan) (all : List Passed) → AllByRecursion CanBeWritten tracks → AllByRecursion (IsWhole new) (flat_map every (map (track_for files) tracks)) → MakePlans files old new from to tracks plans all
      → AreFilled files old new from to tracks plans now → AreMade tracks all (placed_tracks now tracks) × AllZip (PlansTrack files old new from to) tracks now
  are_made [] [] [] [] can whole make filled = (none_made, tt)
  are_made [] [] [] (passed ∷ all) can whole make filled = absurd make
  are_made [] [] (one ∷ now) all can whole make filled = absurd filled
  are_made [] (plan ∷ plans) now all can whole make filled = absurd make
  are_made (track ∷ tracks) [] now all can whole make filled = absurd make
  are_made (track ∷ tracks) (plan ∷ plans) now [] can whole make filled = absurd make
  are_made (track ∷ tracks) (plan ∷ plans) [] (passed ∷ all) can whole make filled = absurd filled
  are_made (track ∷ tracks) (plan ∷ plans) (one ∷ now) (passed ∷ all) can whole make filled =
      let parts = all_parted (IsWhole new) (every (track_for files track)) (flat_map every (map (track_for files) tracks)) whole in
      let rest = are_made tracks plans now all can.1 parts.1 make.1 filled.1 in
      let same = filled.0.same in
      let made = made_more track plan passed tracks all (placed_tracks now tracks) one.edits.items can.0 parts.0 make.0 filled.0.has rest.0 in
      let is = filled_plan files old from to track plan one make.0.shape same make.0.is in (
        subst (λ (t : PlacedTrack). AreMade (track ∷ tracks) (passed ∷ all) (t ∷ placed_tracks now tracks)) (sym (ap (λ (p : TrackPlan). placed_cut p.kept.from p.kept.to p.scale p.factor p.ahead one.edits.items track) same)) made,
        (record { shape = make.0.shape; is = is; has = has_of track plan one same filled.0.has }, rest.1),
      )
    where
      has_of : (track : PlacedTrack) (plan one : TrackPlan) → one ≡ record plan { edits = one.edits } → HasEdits files old new from to track plan one.edits.items → HasEdits files old new from to track one one.edits.items
      has_of track plan one same has = subst (λ (p : TrackPlan). HasEdits files old new from to track p one.edits.items) (sym same) (record { made = has.made; told = has.told; are = has.are })

  -- where no limit is passed, edits can be told
  can_edit : (tracks : List PlacedTrack) (plans : List TrackPlan) (all : List Passed) → AllByRecursion CanBeWritten tracks → AllByRecursion (IsWhole new) (flat_map every (map (track_for files) tracks)) → MakePlans files old new from to tracks plans all
      → (any_passed all).total ≡ false → (any_passed all).starts ≡ false → AllZip (CanEdit files old new from to) tracks plans
  can_edit [] [] [] can whole make short early = tt
  can_edit [] [] (passed ∷ all) can whole make short early = absurd make
  can_edit [] (plan ∷ plans) all can whole make short early = absurd make
  can_edit (track ∷ tracks) [] all can whole make short early = absurd make
  can_edit (track ∷ tracks) (plan ∷ plans) [] can whole make short early = absurd make
  can_edit (track ∷ tracks) (plan ∷ plans) (passed ∷ all) can whole make short early =
      let parts = all_parted (IsWhole new) (every (track_for files track)) (flat_map every (map (track_for files) tracks)) whole in
      let total = neither passed.total (any_passed all).total short in
      let starts = neither passed.starts (any_passed all).starts early in
      let long : leb (2 ^ 62) (make.0.shape.total * (new / make.0.shape.movie_scale)) ≡ false = sym (ap (λ (p : Passed). p.total) make.0.passed_is) ∙ total.0 in
      let late : leb (2 ^ 62 + plan.back) make.0.shape.greatest ≡ false = sym (ap (λ (p : Passed). p.starts) make.0.passed_is) ∙ starts.0 in (
        record {
          shape = make.0.shape;
          is = make.0.is;
          multiple = divides_new track plan passed can.0 parts.0 make.0;
          short = leb-false (2 ^ 62) (make.0.shape.total * (new / make.0.shape.movie_scale)) long;
          early = leb-false (2 ^ 62 + plan.back) make.0.shape.greatest late;
          room = make.0.room;
        },
        can_edit tracks plans all can.1 parts.1 make.1 total.1 starts.1,
      )
    where
      neither : (a b : Bool) → (a || b) ≡ false → (a ≡ false) × (b ≡ false)
      neither false b none = (refl, none)
      neither true b none = cc

  pub all_can_edit : (tracks : List PlacedTrack) (plans : List TrackPlan) (passed : Passed) → AllByRecursion CanBeWritten tracks → AllByRecursion (IsWhole new) (flat_map every (map (track_for files) tracks)) → ArePlanned files old new from to tracks plans passed
      → first_passed passed ≡ None → AllZip (CanEdit files old new from to) tracks plans
  all_can_edit tracks plans passed can whole planned none =
      let tests = none_holds ((passed.durations, DeltaLimit) ∷ (passed.offsets, OffsetLimit) ∷ (passed.total, DurationLimit) ∷ (passed.starts, StartLimit) ∷ []) none in
      can_edit tracks plans planned.all can whole planned.each (sym (ap (λ (p : Passed). p.total) planned.passed_is) ∙ tests.1.1.0) (sym (ap (λ (p : Passed). p.starts) planned.passed_is) ∙ tests.1.1.1.0)

-- ---- the movie

module _ (found : LeastScalesAreFound) (law : WholenessIsDivision) (files : List (List ℕ)) (from to : Frac) (movie : PlacedMovie) (new : ℕ) (some_old : 0 < movie.scale) (some_from : 0 < from.d) (some_to : 0 < to.d) (can : AllByRecursion CanBeWritten movie.tracks)
    (fits : first_limit movie ≡ None) (before : is_before from to ≡ true) (has : HasScale files movie.scale from to movie.tracks new) where
  scale_is : cut_scale from to (stands_for files movie) ≡ Some new
  scale_is = scale_found files movie.scale from to some_old some_from some_to found movie.tracks new can has

  -- the first limit that is passed
  pub is_refused : ColumnsAreKept → Hold (map length files) movie → (plans : List TrackPlan) (passed : Passed) (code : Code) → ArePlanned files movie.scale new from to movie.tracks plans passed → first_passed passed ≡ Some code
      → cut from to (stands_for files movie) ≡ Err code
  is_refused columns held plans passed code planned is =
      let made = can_make found law files movie.scale new from to some_old some_from some_to has.0.some has.0.serves.multiple movie.tracks plans planned.all can has.0.serves.whole planned.each in
      let placed : PlacedMovie = record movie { scale = new; tracks = made.placed } in
      let samples = few_samples movie fits in
      let count = made.are.count in
      let tracks = few_tracks movie fits in
      let many = made.are.many in
      let cuts : cut_movie from to (stands_for files movie) ≡ Some (stands_for files placed) =
      ap (in_movie_scale from to (stands_for files movie)) scale_is ∙ ap (option_map (λ (all : List TrackRecord). record (stands_for files movie) { scale = new; tracks = all })) made.are.cuts in
      let limit_found : limit (stands_for files placed) ≡ Some code =
      stands_limits columns files placed made.are.columns (made.are.held (map length files) held)
      ∙ (limit_is placed planned.all made.are.passed (omega (arith, samples, count)) (omega (arith, tracks, many)) ∙ (ap first_passed (sym planned.passed_is) ∙ is)) in
      ap (λ (b : Bool). cond b (settled_to (λ (settled : MovieRecord). settled) (cut_movie from to (stands_for files movie))) (Err BadRange)) before
      ∙ (ap (settled_to (λ (settled : MovieRecord). settled)) cuts ∙ ap (λ (code : Option Code). unless code (stands_for files placed)) limit_found)

  -- or the plan
  pub is_planned : (plans : List TrackPlan) (passed : Passed) (plan : Plan) → plan.scale ≡ new → ArePlanned files movie.scale new from to movie.tracks plans passed → first_passed passed ≡ None
      → AreFilled files movie.scale new from to movie.tracks plans plan.tracks.items → IsPlan files from to movie plan
  is_planned plans passed plan scale planned none filled =
      let made = are_made found law files movie.scale new from to some_old some_from some_to has.0.some has.0.serves.multiple movie.tracks plans plan.tracks.items planned.all can has.0.serves.whole planned.each filled in
      let samples = few_samples movie fits in
      let count = made.0.count in
      let tracks = few_tracks movie fits in
      let many = made.0.many in
      let within = has.1 in
      record {
        before = before;
        scale = scale_is ∙ ap Some (sym scale);
        some = subst (λ (n : ℕ). 0 < n) (sym scale) has.0.some;
        short = omega (arith, scale, within);
        tracks = subst (λ (n : ℕ). AllZip (PlansTrack files movie.scale n from to) movie.tracks plan.tracks.items) (sym scale) made.1;
        fits = limit_is (placed_movie plan movie) planned.all made.0.passed (omega (arith, samples, count)) (omega (arith, tracks, many)) ∙ (ap first_passed (sym planned.passed_is) ∙ none);
      }

-- ---- refusals before

pub range_refused : (files : List (List ℕ)) (from to : Frac) (movie : PlacedMovie) → is_before from to ≡ false → cut from to (stands_for files movie) ≡ Err BadRange
range_refused files from to movie is = ap (λ (b : Bool). cond b (settled_to (λ (settled : MovieRecord). settled) (cut_movie from to (stands_for files movie))) (Err BadRange)) is

pub scale_refused : (files : List (List ℕ)) (from to : Frac) (movie : PlacedMovie) → is_before from to ≡ true → cut_movie from to (stands_for files movie) ≡ None → cut from to (stands_for files movie) ≡ Err ScaleLimit
scale_refused files from to movie before none =
    ap (λ (b : Bool). cond b (settled_to (λ (settled : MovieRecord). settled) (cut_movie from to (stands_for files movie))) (Err BadRange)) before
    ∙ ap (settled_to (λ (settled : MovieRecord). settled)) none

-- a code that is passed is one of a cut's
pub passed_code : (passed : Passed) (code : Code) → first_passed passed ≡ Some code → Contains cut_codes code
passed_code passed code is = by passed.durations passed.offsets passed.total passed.starts is
  where
    same : (a b : Code) → Some a ≡ Some b → a ≡ b
    same a b e = ap (value_or a) e
      where
        value_or : Code → Option Code → Code
        value_or other None = other
        value_or other (Some one) = one

    by : (a b c d : Bool) → first_code ((a, DeltaLimit) ∷ (b, OffsetLimit) ∷ (c, DurationLimit) ∷ (d, StartLimit) ∷ []) ≡ Some code → Contains cut_codes code
    by true b c d is = (2, omega arith, same DeltaLimit code is)
    by false true c d is = (3, omega arith, same OffsetLimit code is)
    by false false true d is = (4, omega arith, same DurationLimit code is)
    by false false false true is = (5, omega arith, same StartLimit code is)
    by false false false false is = cc

-- a refusal says so
pub says : {P Q : Bad → Type 0} (found : Option Bad) → IfSome found P → ((bad : Bad) → P bad → Q bad) → IfSome found Q
says None has then = tt
says (Some bad) has then = then bad has

-- with one track more
planned_more : (files : List (List ℕ)) (movie new : ℕ) (from to : Frac) (tracks : List PlacedTrack) (plans : List TrackPlan) (all : List Passed) (track : PlacedTrack) (plan : TrackPlan) (passed : Passed) → MakePlans files movie new from to tracks plans all
    → MakesPlan files movie new from to track plan passed → MakePlans files movie new from to (tracks ++ track ∷ []) (plans ++ plan ∷ []) (all ++ passed ∷ [])
planned_more files movie new from to [] [] [] track plan passed make is = (is, tt)
planned_more files movie new from to [] [] (q ∷ all) track plan passed make is = absurd make
planned_more files movie new from to [] (p ∷ plans) all track plan passed make is = absurd make
planned_more files movie new from to (t ∷ tracks) [] all track plan passed make is = absurd make
planned_more files movie new from to (t ∷ tracks) (p ∷ plans) [] track plan passed make is = absurd make
planned_more files movie new from to (t ∷ tracks) (p ∷ plans) (q ∷ all) track plan passed make is = (make.0, planned_more files movie new from to tracks plans all track plan passed make.1 is)

any_more : (all : List Passed) (passed : Passed) → any_passed (all ++ passed ∷ []) ≡ either_of (any_passed all) passed
any_more [] passed = λ i. record {
  durations = none passed.durations i;
  offsets = none passed.offsets i;
  total = none passed.total i;
  starts = none passed.starts i;
}
  where
    none : (b : Bool) → (b || false) ≡ b
    none true = refl
    none false = refl
any_more (q ∷ all) passed = ap (either_of q) (any_more all passed) ∙ assoc
  where
    three : (a b c : Bool) → (a || (b || c)) ≡ ((a || b) || c)
    three true b c = refl
    three false b c = refl

    assoc : either_of q (either_of (any_passed all) passed) ≡ either_of (either_of q (any_passed all)) passed
    assoc = λ i. record {
      durations = three q.durations (any_passed all).durations passed.durations i;
      offsets = three q.offsets (any_passed all).offsets passed.offsets i;
      total = three q.total (any_passed all).total passed.total i;
      starts = three q.starts (any_passed all).starts passed.starts i;
    }

pub are_planned_more : (files : List (List ℕ)) (movie new : ℕ) (from to : Frac) (tracks : List PlacedTrack) (plans now : List TrackPlan) (passed next : Passed) (track : PlacedTrack) (plan : TrackPlan) (more : Passed)
    → ArePlanned files movie new from to tracks plans passed → MakesPlan files movie new from to track plan more → now ≡ plans ++ plan ∷ [] → next ≡ either_of passed more
    → ArePlanned files movie new from to (tracks ++ track ∷ []) now next
are_planned_more files movie new from to tracks plans now passed next track plan more planned makes now_is next_is = record {
  all = planned.all ++ more ∷ [];
  each = subst (λ (ps : List TrackPlan). MakePlans files movie new from to (tracks ++ track ∷ []) ps (planned.all ++ more ∷ [])) (sym now_is) (planned_more files movie new from to tracks plans planned.all track plan more planned.each makes);
  passed_is = next_is ∙ (ap (λ (p : Passed). either_of p more) planned.passed_is ∙ sym (any_more planned.all more));
}
