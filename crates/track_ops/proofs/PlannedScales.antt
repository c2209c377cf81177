-- The scale that is found is that of the command, and so are its refusals.
use Rattle.std.proofs.Common.{◌≡◌, ◌≢◌, ℕ, pos, ◌<◌, Bool, true, false, List, [], ◌∷◌, ◌++◌, length, Option, Some, None, refl, sym, ap, ◌∙◌, subst, arith}
use Rattle.std.specs.Prelude.{Result, Ok, Err, IfSome, if◌then◌else◌}
use Rattle.std.specs.List.{AllByRecursion, list_any}
use Rattle.std.specs.Int.{◌∣◌}
use Rattle.std.proofs.Math.Nat.{dvd_refl}
use Rattle.mp_frac.specs.Divisors.{LimitedBy, most}
use Rattle.mp_frac.specs.Law.{WholenessIsDivision}
use Rattle.mp_frac.specs.Time.{IsLeastWhole, in_ticks}
use Rattle.mp_ports.specs.declared.code.Code.{Code}
use Rattle.mp_ports.specs.declared.code.Code.TheVariants.{IdLimit, NoTrack}
use Rattle.mp_ports.specs.declared.fault.Bad.{Bad}
use Rattle.mp_ports.specs.Checks.{bad_at, placed, unless}
use Rattle.mp_movie.specs.Placed.{PlacedTrack, PlacedMovie}
use Rattle.mp_movie.specs.PartsFit.{first_limit}
use Rattle.mp_movie.specs.WholeParts.{AreParts}
use Rattle.track_ops.specs.declared.chosen.Choice.{Choice}
use Rattle.track_ops.specs.declared.summary.Summary.{Summary}
use Rattle.track_ops.specs.Adding.{is_above, unless_empty}
use Rattle.track_ops.specs.Kept.{kept_chosen, kept_durations, kept_joined, kept_lead, kept_numbers, numbered}
use Rattle.track_ops.specs.Numbers.{numbers_for}
use Rattle.track_ops.specs.Summed.{IsPlan, IsSummary, added_scale, joined_scale, kept_scale}
use Rattle.track_ops.proofs.AddedParts.{given}
use Rattle.track_ops.proofs.JoinedScales.{scale_settles}

all_of : {A : Type 0} (P : Type 0) → P → (xs : List A) → AllByRecursion (λ x. P) xs
all_of P h [] = tt
all_of P h (x ∷ xs) = (h, all_of P h xs)

owns : (movie other : PlacedMovie) (lead : ℕ) → lead ≡ (kept_lead movie other).scale → AllByRecursion (λ t. movie.scale ∣ lead) (kept_durations movie.tracks)
owns movie other lead is = by movie.tracks is
  where
    by : (tracks : List PlacedTrack) → lead ≡ (unless_empty tracks movie other).scale → AllByRecursion (λ t. movie.scale ∣ lead) (kept_durations tracks)
    by [] same = tt
    by (track ∷ tracks) same = all_of (movie.scale ∣ lead) (subst (λ (x : ℕ). movie.scale ∣ x) (sym same) (dvd_refl movie.scale)) (kept_durations (track ∷ tracks))

pub scale_found : WholenessIsDivision → (movie other : PlacedMovie) (tracks : List PlacedTrack) (added : Summary) (lead old : ℕ) (result : Option ℕ) → AreParts movie → AreParts other → lead ≡ (kept_lead movie other).scale → 0 < lead
    → old ≡ other.scale → IsSummary tracks added → LimitedBy most (IsLeastWhole lead (in_ticks (pos added.divisor) old)) result
    → joined_scale movie other tracks ≡ kept_scale (kept_joined movie other tracks (given movie tracks)) result
scale_found law movie other tracks added lead old result h g is some same sum least =
    ap (kept_scale (kept_joined movie other tracks (given movie tracks)))
    (rw (sym is)
    (scale_settles law movie.scale other.scale lead added.divisor (kept_durations movie.tracks) (kept_durations tracks) result h.bare.header.some_scale g.bare.header.some_scale some (owns movie other lead is) sum.divisor
    (subst (λ (x : ℕ). LimitedBy most (IsLeastWhole lead (in_ticks (pos added.divisor) x)) result) same least)))

-- the first limit, behind the scale
pub limit_behind : (kept : ℕ → PlacedMovie) (scale : ℕ) (limit : Option Code) → limit ≡ first_limit (kept scale) → kept_scale kept (Some scale) ≡ unless limit scale
limit_behind kept scale limit is = ap (λ (code : Option Code). unless code scale) (sym is)

-- ---- the refusals before

some_tracks : (tracks : List PlacedTrack) (added : Summary) → IsSummary tracks added → 0 < added.tracks → tracks ≢ []
some_tracks tracks added sum some = λ none. let e = sum.tracks in let n : length tracks ≡ 0 = ap length none in absurd (omega (arith, e, n, some))

pub no_tracks : (movie other : PlacedMovie) (tracks : List PlacedTrack) (added : Summary) → IsSummary tracks added → added.tracks ≡ 0 → added_scale movie other tracks ≡ Err NoTrack
no_tracks movie other [] added sum none = refl
no_tracks movie other (track ∷ tracks) added sum none = let e = sum.tracks in absurd (omega (arith, e, none))

numbers_fit : (numbers more all : List ℕ) → numbered numbers more ≡ Ok all → (list_any is_above more ≡ false) × (all ≡ numbers ++ more)
numbers_fit numbers more all is = by (list_any is_above more) refl is
  where
    by : (b : Bool) → list_any is_above more ≡ b → (if b then Err (bad_at IdLimit 0) else Ok (numbers ++ more)) ≡ Ok all → (list_any is_above more ≡ false) × (all ≡ numbers ++ more)
    by true some wrong = cc
    by false none right = (none, cc)

numbers_refused : (numbers more : List ℕ) (bad : Bad) → numbered numbers more ≡ Err bad → (list_any is_above more ≡ true) × (bad ≡ bad_at IdLimit 0)
numbers_refused numbers more bad is = by (list_any is_above more) refl is
  where
    by : (b : Bool) → list_any is_above more ≡ b → (if b then Err (bad_at IdLimit 0) else Ok (numbers ++ more)) ≡ Err bad → (list_any is_above more ≡ true) × (bad ≡ bad_at IdLimit 0)
    by true some right = (some, cc)
    by false none wrong = cc

pub refused_numbers : (movie other : PlacedMovie) (tracks : List PlacedTrack) (added : Summary) (why : Option Bad) → IsSummary tracks added → 0 < added.tracks
    → IfSome why (λ bad. numbered (kept_numbers movie.tracks) (given movie tracks) ≡ Err bad) → IfSome why (λ bad. placed 0 (added_scale movie other tracks) ≡ Err bad)
refused_numbers movie other tracks added None sum some is = tt
refused_numbers movie other [] added (Some bad) sum some is = absurd (some_tracks [] added sum some refl)
refused_numbers movie other (track ∷ tracks) added (Some bad) sum some is =
    let found = numbers_refused (kept_numbers movie.tracks) (given movie (track ∷ tracks)) bad is in
    rw (found.0, found.1) refl

pub scale_behind : (movie other : PlacedMovie) (tracks : List PlacedTrack) (added : Summary) (all : List ℕ) → IsSummary tracks added → 0 < added.tracks → numbered (kept_numbers movie.tracks) (given movie tracks) ≡ Ok all
    → added_scale movie other tracks ≡ joined_scale movie other tracks
scale_behind movie other [] added all sum some is = absurd (some_tracks [] added sum some refl)
scale_behind movie other (track ∷ tracks) added all sum some is = rw (numbers_fit (kept_numbers movie.tracks) (given movie (track ∷ tracks)) all is).0 refl

-- ---- by what was read of the two movies

pub refused_told : (movie other : PlacedMovie) (choice : Choice) (first second third : List PlacedTrack) (added : Summary) (why : Option Bad) → first ≡ other.tracks → second ≡ movie.tracks → third ≡ other.tracks
    → IsSummary (kept_chosen choice first) added → 0 < added.tracks → IfSome why (λ bad. numbered (kept_numbers second) (numbers_for (kept_numbers second) (kept_numbers (kept_chosen choice third))) ≡ Err bad)
    → IfSome why (λ bad. placed 0 (added_scale movie other (kept_chosen choice other.tracks)) ≡ Err bad)
refused_told movie other choice first second third added why p q r sum some is =
    refused_numbers movie other (kept_chosen choice other.tracks) added why (subst (λ (ts : List PlacedTrack). IsSummary (kept_chosen choice ts) added) p sum) some
    (subst (λ (ts : List PlacedTrack). IfSome why (λ bad. numbered (kept_numbers movie.tracks) (numbers_for (kept_numbers movie.tracks) (kept_numbers (kept_chosen choice ts))) ≡ Err bad)) r
    (subst (λ (ts : List PlacedTrack). IfSome why (λ bad. numbered (kept_numbers ts) (numbers_for (kept_numbers ts) (kept_numbers (kept_chosen choice third))) ≡ Err bad)) q is))

pub numbers_told : (movie other : PlacedMovie) (choice : Choice) (second third : List PlacedTrack) (all : List ℕ) → second ≡ movie.tracks → third ≡ other.tracks
    → numbered (kept_numbers second) (numbers_for (kept_numbers second) (kept_numbers (kept_chosen choice third))) ≡ Ok all → numbered (kept_numbers movie.tracks) (given movie (kept_chosen choice other.tracks)) ≡ Ok all
numbers_told movie other choice second third all q r is =
    subst (λ (ts : List PlacedTrack). numbered (kept_numbers movie.tracks) (numbers_for (kept_numbers movie.tracks) (kept_numbers (kept_chosen choice ts))) ≡ Ok all) r
    (subst (λ (ts : List PlacedTrack). numbered (kept_numbers ts) (numbers_for (kept_numbers ts) (kept_numbers (kept_chosen choice third))) ≡ Ok all) q is)

pub scale_told : (movie other : PlacedMovie) (choice : Choice) (first second third : List PlacedTrack) (added : Summary) (all : List ℕ) (found : Result ℕ Code) → first ≡ other.tracks → second ≡ movie.tracks → third ≡ other.tracks
    → IsSummary (kept_chosen choice first) added → 0 < added.tracks → numbered (kept_numbers second) (numbers_for (kept_numbers second) (kept_numbers (kept_chosen choice third))) ≡ Ok all
    → found ≡ joined_scale movie other (kept_chosen choice other.tracks) → placed 0 (added_scale movie other (kept_chosen choice other.tracks)) ≡ placed 0 found
scale_told movie other choice first second third added all found p q r sum some is scale =
    ap (placed 0)
    (scale_behind movie other (kept_chosen choice other.tracks) added all (subst (λ (ts : List PlacedTrack). IsSummary (kept_chosen choice ts) added) p sum) some (numbers_told movie other choice second third all q r is)
    ∙ sym scale)

pub plan_told : (movie other : PlacedMovie) (choice : Choice) (second third : List PlacedTrack) (all : List ℕ) (scale : ℕ) → second ≡ movie.tracks → third ≡ other.tracks
    → numbered (kept_numbers second) (numbers_for (kept_numbers second) (kept_numbers (kept_chosen choice third))) ≡ Ok all → 0 < scale → IsPlan movie (kept_chosen choice other.tracks) scale all
plan_told movie other choice second third all scale q r is some =
    let fit = numbers_fit (kept_numbers movie.tracks) (given movie (kept_chosen choice other.tracks)) all (numbers_told movie other choice second third all q r is) in
    record { numbers = fit.1; below = fit.0; some = some }

pub none_told : (movie other : PlacedMovie) (choice : Choice) (first : List PlacedTrack) (added : Summary) → first ≡ other.tracks → IsSummary (kept_chosen choice first) added → added.tracks ≡ 0
    → placed 0 (added_scale movie other (kept_chosen choice other.tracks)) ≡ Err (bad_at NoTrack 0)
none_told movie other choice first added p sum none =
    ap (placed 0) (no_tracks movie other (kept_chosen choice other.tracks) added (subst (λ (ts : List PlacedTrack). IsSummary (kept_chosen choice ts) added) p sum) none)
