-- What tracks are together, one track after another.
use Rattle.std.proofs.Common.{◌≡◌, ℕ, ◌+◌, ◌*◌, ◌<◌, max, Bool, true, false, List, [], ◌∷◌, ◌++◌, length, map, take, get_or, if◌then◌else◌, refl, sym, ap, ◌∙◌, subst, arith}
use Rattle.std.specs.List.{AllByRecursion}
use Rattle.std.specs.Int.{◌∣◌}
use Rattle.std.proofs.Math.Nat.{dvd_refl, dvd-zero, dvd_trans}
use Rattle.std.proofs.lemmas.List.{length-append, map-append, append-nil, append_assoc, take_more}
use Rattle.mp_timeline.specs.declared.segment.Segment.{Segment}
use Rattle.std.proofs.lemmas.List.Sums.{sum_by-append, sum_by-cons}
use Rattle.mp_frac.specs.Divisors.{IsGreatestCommon}
use Rattle.mp_edits.specs.EditBox.{segments_in}
use Rattle.mp_edits.specs.Segments.{duration}
use Rattle.mp_movie.specs.Durations.{greatest}
use Rattle.mp_movie.specs.Placed.{PlacedTrack}
use Rattle.track_ops.specs.declared.chosen.Choice.{Choice}
use Rattle.track_ops.specs.declared.chosen.Choice.TheVariants.{All}
use Rattle.track_ops.specs.declared.summary.Summary.{Summary}
use Rattle.track_ops.specs.Adding.{is_chosen}
use Rattle.track_ops.specs.Kept.{kept_chosen, kept_durations, lasts}
use Rattle.track_ops.specs.Summed.{IsSummary, IsSummaryMore}
use Rattle.track_ops.proofs.JoinedScales.{all_joined}

abbrev Times : ℕ → ℕ → ℕ → Type 0
Times factor divisor number = divisor ∣ number * factor

pub front_of : {A : Type 0} (P : A → Type 0) (xs ys : List A) → AllByRecursion P (xs ++ ys) → AllByRecursion P xs
front_of P [] ys all = tt
front_of P (x ∷ xs) ys all = (all.0, front_of P xs ys all.1)

pub back_of : {A : Type 0} (P : A → Type 0) (xs ys : List A) → AllByRecursion P (xs ++ ys) → AllByRecursion P ys
back_of P [] ys all = all
back_of P (x ∷ xs) ys all = back_of P xs ys all.1

pub each_divided : (less more : ℕ) (numbers : List ℕ) → less ∣ more → AllByRecursion (λ number. more ∣ number) numbers → AllByRecursion (λ number. less ∣ number) numbers
each_divided less more [] h all = tt
each_divided less more (number ∷ numbers) h all = (dvd_trans less h all.0, each_divided less more numbers h all.1)

-- numbers in front are as good as their divisor
pub divisor_joined : (xs ys : List ℕ) (first all : ℕ) → IsGreatestCommon xs first → IsGreatestCommon (first ∷ ys) all → IsGreatestCommon (xs ++ ys) all
divisor_joined xs ys first all front both = record {
  divides = all_joined (λ number. all ∣ number) xs ys (each_divided all first xs both.divides.0 front.divides) both.divides.1;
  divided = λ factor divisor each.
      both.divided factor divisor (front.divided factor divisor (front_of (Times factor divisor) xs ys each), back_of (Times factor divisor) xs ys each);
}

pub divisor_none : IsGreatestCommon [] 0
divisor_none = record { divides = tt; divided = λ factor divisor each. nothing factor divisor }
  where
    nothing : (factor divisor : ℕ) → divisor ∣ 0 * factor
    nothing factor divisor = let none : 0 * factor ≡ 0 = omega arith in rw none (dvd-zero divisor)

pub divisor_alone : (number : ℕ) → IsGreatestCommon (number ∷ []) number
divisor_alone number = record { divides = (dvd_refl number, tt); divided = λ factor divisor all. all.0 }

greatest_push : (numbers : List ℕ) (number : ℕ) → greatest (numbers ++ number ∷ []) ≡ max (greatest numbers) number
greatest_push [] number = omega arith
greatest_push (n ∷ numbers) number = let rest = greatest_push numbers number in omega (arith, rest)

durations_push : (tracks : List PlacedTrack) (track : PlacedTrack) → kept_durations (tracks ++ track ∷ []) ≡ kept_durations tracks ++ map duration (segments_in track.edits)
durations_push [] track = append-nil (map duration (segments_in track.edits))
durations_push (t ∷ tracks) track =
    ap (λ (behind : List ℕ). map duration (segments_in t.edits) ++ behind) (durations_push tracks track)
    ∙ sym (append_assoc (map duration (segments_in t.edits)) (kept_durations tracks) (map duration (segments_in track.edits)))

pub no_summary : (summary : Summary) → summary.tracks ≡ 0 → summary.samples ≡ 0 → summary.divisor ≡ 0 → summary.longest ≡ 0 → IsSummary [] summary
no_summary summary tracks samples divisor longest = record {
  tracks = omega (arith, tracks);
  samples = omega (arith, samples);
  divisor = subst (IsGreatestCommon []) (sym divisor) divisor_none;
  longest = omega (arith, longest);
}

pub one_more : (tracks : List PlacedTrack) (track : PlacedTrack) (before summary : Summary) → IsSummary tracks before → IsSummaryMore before track summary → IsSummary (tracks ++ track ∷ []) summary
one_more tracks track before summary h more = record {
  tracks = let a = h.tracks in let b = more.tracks in omega (arith, a, b, length-append tracks (track ∷ []));
  samples =
      let a = h.samples in
      let b = more.samples in
      omega (arith, a, b, sum_by-append (λ (t : PlacedTrack). length t.deltas) tracks (track ∷ []), sum_by-cons (λ (t : PlacedTrack). length t.deltas) track []);
  divisor = subst (λ (numbers : List ℕ). IsGreatestCommon numbers summary.divisor) (sym (durations_push tracks track)) (divisor_joined _ _ before.divisor summary.divisor h.divisor more.divisor);
  longest =
      let a = h.longest in
      let b = more.longest in
      let c = ap greatest (map-append lasts tracks (track ∷ [])) in
      let d = greatest_push (map lasts tracks) (lasts track) in
      omega (arith, a, b, c, d);
}

pub divisor_more : (number : ℕ) (edits : List Segment) (i divisor next : ℕ) (d : Segment) → i < length edits → IsGreatestCommon (number ∷ map duration (take i edits)) divisor
    → IsGreatestCommon (divisor ∷ duration (get_or edits i d) ∷ []) next → IsGreatestCommon (number ∷ map duration (take (i + 1) edits)) next
divisor_more number edits i divisor next d lt so is =
    subst (λ (xs : List ℕ). IsGreatestCommon (number ∷ xs) next) (sym (ap (map duration) (take_more edits i d lt) ∙ map-append duration (take i edits) (get_or edits i d ∷ [])))
    (divisor_joined (number ∷ map duration (take i edits)) (duration (get_or edits i d) ∷ []) divisor next so is)

-- the chosen ones, with one track behind
pub chosen_push : (choice : Choice) (tracks : List PlacedTrack) (track : PlacedTrack) → is_chosen choice track.number track.head.handler ≡ true → kept_chosen choice (tracks ++ track ∷ []) ≡ kept_chosen choice tracks ++ track ∷ []
chosen_push choice [] track is = rw is refl
chosen_push choice (t ∷ tracks) track is = by (is_chosen choice t.number t.head.handler) (chosen_push choice tracks track is)
  where
    by : (b : Bool) → kept_chosen choice (tracks ++ track ∷ []) ≡ kept_chosen choice tracks ++ track ∷ []
        → (if b then t ∷ kept_chosen choice (tracks ++ track ∷ []) else kept_chosen choice (tracks ++ track ∷ [])) ≡ (if b then t ∷ kept_chosen choice tracks else kept_chosen choice tracks) ++ track ∷ []
    by true rest = ap (λ (ts : List PlacedTrack). t ∷ ts) rest
    by false rest = rest

pub chosen_same : (choice : Choice) (tracks : List PlacedTrack) (track : PlacedTrack) → is_chosen choice track.number track.head.handler ≡ false → kept_chosen choice (tracks ++ track ∷ []) ≡ kept_chosen choice tracks
chosen_same choice [] track is = rw is refl
chosen_same choice (t ∷ tracks) track is = by (is_chosen choice t.number t.head.handler) (chosen_same choice tracks track is)
  where
    by : (b : Bool) → kept_chosen choice (tracks ++ track ∷ []) ≡ kept_chosen choice tracks
        → (if b then t ∷ kept_chosen choice (tracks ++ track ∷ []) else kept_chosen choice (tracks ++ track ∷ [])) ≡ (if b then t ∷ kept_chosen choice tracks else kept_chosen choice tracks)
    by true rest = ap (λ (ts : List PlacedTrack). t ∷ ts) rest
    by false rest = rest

pub all_chosen : (tracks : List PlacedTrack) → kept_chosen All tracks ≡ tracks
all_chosen [] = refl
all_chosen (track ∷ tracks) = ap (λ (ts : List PlacedTrack). track ∷ ts) (all_chosen tracks)
