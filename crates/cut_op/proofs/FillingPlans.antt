-- Plans that get their edits one after another.
use Rattle.std.proofs.Common.{◌≡◌, ℕ, zero, suc, ◌+◌, ◌<◌, ◌≤◌, List, [], ◌∷◌, ◌++◌, length, take, drop, get_or, set, refl, sym, ap, subst, ◌∙◌, arith}
use Rattle.std.specs.List.{AllByRecursion, AllZip}
use Rattle.std.proofs.lemmas.List.{drop_more, drop-set-lt, length-set, take_all, take_more, take_more_set, take-append-drop}
use Rattle.mp_frac.specs.declared.time.Frac.{Frac}
use Rattle.mp_movie.specs.Placed.{PlacedTrack}
use Rattle.cut_op.specs.declared.plan.TrackPlan.{TrackPlan}
use Rattle.cut_op.specs.Planned.{AreFilled, IsFilled}

-- what holds of all items holds of one
pub all_at : {A : Type 0} (P : A → Type 0) (xs : List A) (k : ℕ) (d : A) → k < length xs → AllByRecursion P xs → P (get_or xs k d)
all_at P [] k d lt all = absurd (omega (arith, lt))
all_at P (x ∷ xs) zero d lt all = all.0
all_at P (x ∷ xs) (suc k) d lt all = all_at P xs k d (omega (arith, lt)) all.1

pub zip_at : {A B : Type 0} (R : A → B → Type 0) (xs : List A) (ys : List B) (k : ℕ) (d : A) (e : B) → k < length ys → AllZip R xs ys → R (get_or xs k d) (get_or ys k e)
zip_at R [] [] k d e lt all = absurd (omega (arith, lt))
zip_at R [] (y ∷ ys) k d e lt all = absurd all
zip_at R (x ∷ xs) [] k d e lt all = absurd all
zip_at R (x ∷ xs) (y ∷ ys) zero d e lt all = all.0
zip_at R (x ∷ xs) (y ∷ ys) (suc k) d e lt all = zip_at R xs ys k d e (omega (arith, lt)) all.1

pub zip_long : {A B : Type 0} (R : A → B → Type 0) (xs : List A) (ys : List B) → AllZip R xs ys → length xs ≡ length ys
zip_long R [] [] all = refl
zip_long R [] (y ∷ ys) all = absurd all
zip_long R (x ∷ xs) [] all = absurd all
zip_long R (x ∷ xs) (y ∷ ys) all = ap (λ (n : ℕ). suc n) (zip_long R xs ys all.1)

-- an item with those before it and behind it
pub split_at : {A : Type 0} (xs : List A) (k : ℕ) (x : A) → k < length xs → x ≡ get_or xs k x → take k xs ++ x ∷ drop (k + 1) xs ≡ xs
split_at {A} xs k x lt is = ap (λ (y : A). take k xs ++ y ∷ drop (k + 1) xs) is ∙ (ap (λ (ys : List A). take k xs ++ ys) (sym (drop_more xs k x lt)) ∙ take-append-drop k xs)

pub front_more : {A : Type 0} (xs : List A) (k : ℕ) (x : A) → k < length xs → x ≡ get_or xs k x → take (k + 1) xs ≡ take k xs ++ x ∷ []
front_more {A} xs k x lt is = take_more xs k x lt ∙ ap (λ (y : A). take k xs ++ y ∷ []) (sym is)

-- lists that are the same from a place on have the same there
pub same_at : (xs ys : List TrackPlan) (k : ℕ) (d : TrackPlan) → k < length xs → k < length ys → drop k xs ≡ drop k ys → get_or xs k d ≡ get_or ys k d
same_at xs ys k d lt lt' rest =
    let heads : get_or xs k d ∷ drop (k + 1) xs ≡ get_or ys k d ∷ drop (k + 1) ys = sym (drop_more xs k d lt) ∙ (rest ∙ drop_more ys k d lt') in
    cc

pub rest_at : (xs ys : List TrackPlan) (k : ℕ) (x d : TrackPlan) → k < length xs → k < length ys → drop k xs ≡ drop k ys → drop (k + 1) (set xs k x) ≡ drop (k + 1) ys
rest_at xs ys k x d lt lt' rest =
    let heads : get_or xs k d ∷ drop (k + 1) xs ≡ get_or ys k d ∷ drop (k + 1) ys = sym (drop_more xs k d lt) ∙ (rest ∙ drop_more ys k d lt') in
    let tails : drop (k + 1) xs ≡ drop (k + 1) ys = cc in
    drop-set-lt (k + 1) xs k x (omega arith) ∙ tails

module _ (files : List (List ℕ)) (old new : ℕ) (from to : Frac) where
  filled_more : (tracks : List PlacedTrack) (plans now : List TrackPlan) (track : PlacedTrack) (plan one : TrackPlan) → AreFilled files old new from to tracks plans now → IsFilled files old new from to track plan one
      → AreFilled files old new from to (tracks ++ track ∷ []) (plans ++ plan ∷ []) (now ++ one ∷ [])
  filled_more [] [] [] track plan one filled is = (is, tt)
  filled_more [] [] (n ∷ now) track plan one filled is = absurd filled
  filled_more [] (p ∷ plans) now track plan one filled is = absurd filled
  filled_more (t ∷ tracks) [] now track plan one filled is = absurd filled
  filled_more (t ∷ tracks) (p ∷ plans) [] track plan one filled is = absurd filled
  filled_more (t ∷ tracks) (p ∷ plans) (n ∷ now) track plan one filled is = (filled.0, filled_more tracks plans now track plan one filled.1 is)

  pub filled_long : (tracks : List PlacedTrack) (plans now : List TrackPlan) → AreFilled files old new from to tracks plans now → length now ≡ length plans
  filled_long [] [] [] filled = refl
  filled_long [] [] (n ∷ now) filled = absurd filled
  filled_long [] (p ∷ plans) now filled = absurd filled
  filled_long (t ∷ tracks) [] now filled = absurd filled
  filled_long (t ∷ tracks) (p ∷ plans) [] filled = absurd filled
  filled_long (t ∷ tracks) (p ∷ plans) (n ∷ now) filled = ap (λ (k : ℕ). suc k) (filled_long tracks plans now filled.1)

  -- the plans before a place have their edits, the others are as they were
  pub record AreFilledTo (tracks : List PlacedTrack) (plans now : List TrackPlan) (at : ℕ) : Type 0 where
    pub done : AreFilled files old new from to (take at tracks) (take at plans) (take at now)

  pub one_filled : (tracks : List PlacedTrack) (plans now : List TrackPlan) (at : ℕ) (track : PlacedTrack) (plan one : TrackPlan) → length plans ≡ length tracks → length now ≡ length plans → at < length plans → drop at now ≡ drop at plans
      → track ≡ get_or tracks at track → plan ≡ get_or now at plan → AreFilledTo tracks plans now at → IsFilled files old new from to track plan one → AreFilledTo tracks plans (set now at one) (at + 1)
  one_filled tracks plans now at track plan one many long lt rest track_is plan_is filled is =
      let heads : get_or now at plan ∷ drop (at + 1) now ≡ get_or plans at plan ∷ drop (at + 1) plans = sym (drop_more now at plan (omega (arith, lt, long))) ∙ (rest ∙ drop_more plans at plan lt) in
      let same : get_or now at plan ≡ get_or plans at plan = cc in
      let more = filled_more (take at tracks) (take at plans) (take at now) track plan one filled.done is in
      record {
        done =
            subst (λ (ts : List PlacedTrack). AreFilled files old new from to ts (take (at + 1) plans) (take (at + 1) (set now at one))) (sym (take_more tracks at track (omega (arith, lt, many)) ∙ ap (λ (t : PlacedTrack). take at tracks ++ t ∷ []) (sym track_is)))
            (subst (λ (ps : List TrackPlan). AreFilled files old new from to (take at tracks ++ track ∷ []) ps (take (at + 1) (set now at one))) (sym (take_more plans at plan lt ∙ ap (λ (p : TrackPlan). take at plans ++ p ∷ []) (sym (plan_is ∙ same))))
            (subst (λ (ns : List TrackPlan). AreFilled files old new from to (take at tracks ++ track ∷ []) (take at plans ++ plan ∷ []) ns) (sym (take_more_set now at one (omega (arith, lt, long)))) more));
      }

  pub all_filled : (tracks : List PlacedTrack) (plans now : List TrackPlan) (at : ℕ) → length plans ≡ length tracks → length now ≡ length plans → length plans ≤ at → AreFilledTo tracks plans now at → AreFilled files old new from to tracks plans now
  all_filled tracks plans now at many long past filled =
      subst (λ (ts : List PlacedTrack). AreFilled files old new from to ts plans now) (take_all at tracks (omega (arith, past, many)))
      (subst (λ (ps : List TrackPlan). AreFilled files old new from to (take at tracks) ps now) (take_all at plans past)
      (subst (λ (ns : List TrackPlan). AreFilled files old new from to (take at tracks) (take at plans) ns) (take_all at now (omega (arith, past, long))) filled.done))
