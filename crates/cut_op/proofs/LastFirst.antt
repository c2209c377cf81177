-- Tracks that are cut one after another, the last one first.
use Rattle.std.proofs.Common.{◌≡◌, ℕ, zero, suc, ◌+◌, ◌<◌, ◌≤◌, List, [], ◌∷◌, ◌++◌, length, take, drop, get_or, set, refl, sym, ap, subst, ◌∙◌, arith}
use Rattle.std.specs.List.{AllZip}
use Rattle.std.proofs.lemmas.List.{drop_all, drop_more, drop-set-lt, get_or_at, get_or-take, length-append, length-set, length-take-le, take_all, take_more, take-append-le, take-set-le, take-take}
use Rattle.std.proofs.lemmas.Grind.{get_or-set_at}
use Rattle.mp_movie.specs.Placed.{PlacedTrack}
use Rattle.cut_op.specs.declared.plan.TrackPlan.{TrackPlan}
use Rattle.cut_op.specs.Planned.{CanApply, placed_by, placed_tracks}
use Rattle.cut_op.proofs.FillingPlans.{zip_at}

-- the tracks behind a place are cut, the others are as they were; the plans before it are left
pub record AreCutBehind (plans left : List TrackPlan) (old now : List PlacedTrack) : Type 0 where
  pub left_is : left ≡ take (length left) plans
  pub few : length left ≤ length plans
  pub many : length plans ≡ length old
  pub long : length now ≡ length old
  pub front : take (length left) now ≡ take (length left) old
  pub behind : drop (length left) now ≡ placed_tracks (drop (length left) plans) (drop (length left) old)

as_many : (tracks : List PlacedTrack) (plans : List TrackPlan) → AllZip CanApply tracks plans → length plans ≡ length tracks
as_many [] [] can = refl
as_many [] (plan ∷ plans) can = absurd can
as_many (track ∷ tracks) [] can = absurd can
as_many (track ∷ tracks) (plan ∷ plans) can = ap (λ (n : ℕ). suc n) (as_many tracks plans can.1)

pub none_cut : (plans : List TrackPlan) (tracks : List PlacedTrack) → AllZip CanApply tracks plans → AreCutBehind plans plans tracks tracks
none_cut plans tracks can =
    let many = as_many tracks plans can in
    let nothing : drop (length plans) tracks ≡ [] = drop_all (length plans) tracks (omega (arith, many)) in
    let none : drop (length plans) plans ≡ [] = drop_all (length plans) plans (omega arith) in
    record {
      left_is = sym (take_all (length plans) plans (omega arith));
      few = omega arith;
      many = many;
      long = refl;
      front = refl;
      behind = nothing ∙ sym (ap (λ (ps : List TrackPlan). placed_tracks ps (drop (length plans) tracks)) none ∙ nothing);
    }

pub all_cut : (plans left : List TrackPlan) (old now : List PlacedTrack) → length left ≡ 0 → AreCutBehind plans left old now → now ≡ placed_tracks plans old
all_cut plans left old now none are =
    ap (λ (n : ℕ). drop n now) (sym none) ∙ (are.behind ∙ (ap (λ (n : ℕ). placed_tracks (drop n plans) (drop (length left) old)) none ∙ ap (λ (n : ℕ). placed_tracks plans (drop n old)) none))

-- the track in the place of the last plan that is left can be cut so
pub next_can : (plans left rest : List TrackPlan) (old now : List PlacedTrack) (plan : TrackPlan) (d : PlacedTrack) → AllZip CanApply old plans → left ≡ rest ++ plan ∷ [] → AreCutBehind plans left old now → CanApply (get_or now (length rest) d) plan
next_can plans left rest old now plan d can popped are =
    let n : ℕ = length rest in
    let count : length left ≡ n + 1 = ap length popped ∙ length-append rest (plan ∷ []) in
    let few = are.few in
    let here : n < length plans = omega (arith, count, few) in
    let whole : rest ++ plan ∷ [] ≡ take n plans ++ get_or plans n plan ∷ [] = sym popped ∙ (are.left_is ∙ (ap (λ (k : ℕ). take k plans) count ∙ take_more plans n plan here)) in
    let short : length (take n plans) ≡ n = length-take-le n plans (omega (arith, here)) in
    let plan_is : plan ≡ get_or plans n plan = sym (get_or_at rest plan [] plan n refl) ∙ (ap (λ (xs : List TrackPlan). get_or xs n plan) whole ∙ get_or_at (take n plans) (get_or plans n plan) [] plan n short) in
    let fronts : take (n + 1) now ≡ take (n + 1) old = subst (λ (k : ℕ). take k now ≡ take k old) count are.front in
    let same : get_or now n d ≡ get_or old n d = sym (get_or-take (n + 1) now n d (omega arith)) ∙ (ap (λ (xs : List PlacedTrack). get_or xs n d) fronts ∙ get_or-take (n + 1) old n d (omega arith)) in
    subst (λ (t : PlacedTrack). CanApply t plan) (sym same) (subst (CanApply (get_or old n d)) (sym plan_is) (zip_at CanApply old plans n d plan here can))

-- the last plan that is left, and the track in its place
pub one_cut : (plans left rest : List TrackPlan) (old now : List PlacedTrack) (plan : TrackPlan) (d made : PlacedTrack) → left ≡ rest ++ plan ∷ [] → AreCutBehind plans left old now → made ≡ placed_by plan (get_or now (length rest) d)
    → AreCutBehind plans rest old (set now (length rest) made)
one_cut plans left rest old now plan d made popped are is =
    let n : ℕ = length rest in
    let count : length left ≡ n + 1 = ap length popped ∙ length-append rest (plan ∷ []) in
    let few = are.few in
    let many = are.many in
    let long = are.long in
    let here : n < length plans = omega (arith, count, few) in
    let there : n < length old = omega (arith, here, many) in
    let now_there : n < length now = omega (arith, there, long) in
    let whole : rest ++ plan ∷ [] ≡ take n plans ++ get_or plans n plan ∷ [] = sym popped ∙ (are.left_is ∙ (ap (λ (k : ℕ). take k plans) count ∙ take_more plans n plan here)) in
    let short : length (take n plans) ≡ n = length-take-le n plans (omega (arith, here)) in
    let front_is : rest ≡ take n plans = sym (take-all-front n rest (plan ∷ []) refl) ∙ (ap (take n) whole ∙ take-all-front n (take n plans) (get_or plans n plan ∷ []) short) in
    let plan_is : plan ≡ get_or plans n plan = sym (get_or_at rest plan [] plan n refl) ∙ (ap (λ (xs : List TrackPlan). get_or xs n plan) whole ∙ get_or_at (take n plans) (get_or plans n plan) [] plan n short) in
    let fronts : take (n + 1) now ≡ take (n + 1) old = subst (λ (k : ℕ). take k now ≡ take k old) count are.front in
    let same : get_or now n d ≡ get_or old n d = sym (get_or-take (n + 1) now n d (omega arith)) ∙ (ap (λ (xs : List PlacedTrack). get_or xs n d) fronts ∙ get_or-take (n + 1) old n d (omega arith)) in
    let behind : drop (n + 1) now ≡ placed_tracks (drop (n + 1) plans) (drop (n + 1) old) = subst (λ (k : ℕ). drop k now ≡ placed_tracks (drop k plans) (drop k old)) count are.behind in
    let set_there : n < length (set now n made) = omega (arith, now_there, length-set now n made) in
    record {
      left_is = front_is;
      few = omega (arith, here);
      many = many;
      long = length-set now n made ∙ long;
      front =
          take-set-le n now n made (omega arith)
          ∙ (sym (take-take n (n + 1) now (omega arith)) ∙ (ap (take n) fronts ∙ take-take n (n + 1) old (omega arith)));
      behind =
          drop_more (set now n made) n made set_there
          ∙ (ap (λ (t : PlacedTrack). t ∷ drop (n + 1) (set now n made)) (get_or-set_at now n n made made refl now_there)
          ∙ (ap (λ (ts : List PlacedTrack). made ∷ ts) (drop-set-lt (n + 1) now n made (omega arith) ∙ behind)
          ∙ (ap (λ (t : PlacedTrack). t ∷ placed_tracks (drop (n + 1) plans) (drop (n + 1) old)) (is ∙ (ap (λ (p : TrackPlan). placed_by p (get_or now n d)) plan_is ∙ ap (placed_by (get_or plans n plan)) same))
          ∙ sym (ap (λ (ps : List TrackPlan). placed_tracks ps (drop n old)) (drop_more plans n plan here) ∙ ap (placed_tracks (get_or plans n plan ∷ drop (n + 1) plans)) (drop_more old n d there)))));
    }
  where
    take-all-front : {A : Type 0} (n : ℕ) (xs ys : List A) → length xs ≡ n → take n (xs ++ ys) ≡ xs
    take-all-front n xs ys is = take-append-le n xs ys (omega (arith, is)) ∙ take_all n xs (omega (arith, is))
