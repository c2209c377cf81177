-- The first limit that two movies pass together, by what each was summed up to.
use Rattle.std.proofs.Common.{◌≡◌, ℕ, ◌+◌, ◌*◌, ◌^◌, ◌<◌, ◌||◌, nat_le, nat_lt, Bool, false, List, [], ◌∷◌, ◌++◌, length, map, Option, None, refl, sym, ap, ◌∙◌, subst, arith}
use Rattle.std.specs.List.{AllByRecursion, list_any}
use Rattle.std.specs.Int.{◌∣◌}
use Rattle.std.proofs.Math.Nat.{dvd_trans, dvd-mul_left_of_dvd, mul-dvd-mul_right}
use Rattle.std.proofs.lemmas.Bool.{leb-false, ltb-false}
use Rattle.std.proofs.lemmas.List.{length-map}
use Rattle.mp_columns.specs.declared.columns.TheConstants.{MOST_ITEMS}
use Rattle.mp_ports.specs.declared.code.Code.{Code}
use Rattle.mp_ports.specs.declared.code.Code.TheVariants.{DurationLimit, SampleLimit, TrackLimit}
use Rattle.mp_ports.specs.Checks.{first_code}
use Rattle.mp_timeline.specs.declared.segment.Segment.{Segment}
use Rattle.mp_edits.specs.EditBox.{segments_in}
use Rattle.mp_edits.specs.Segments.{duration}
use Rattle.mp_movie.specs.Durations.{greatest}
use Rattle.mp_movie.specs.Limits.{most_tracks}
use Rattle.mp_movie.specs.Placed.{PlacedTrack, PlacedMovie, sample_count}
use Rattle.mp_movie.specs.PartsFit.{first_limit, limits, passes}
use Rattle.mp_movie.specs.WholeParts.{AreParts}
use Rattle.track_ops.specs.declared.chosen.Choice.{Choice}
use Rattle.track_ops.specs.declared.chosen.Choice.TheVariants.{All}
use Rattle.track_ops.specs.declared.summary.Summary.{Summary}
use Rattle.track_ops.specs.Adding.{is_chosen, unless_empty}
use Rattle.track_ops.specs.Kept.{kept_chosen, kept_durations, kept_joined, kept_lead, kept_numbers, kept_renumbered, lasts}
use Rattle.track_ops.specs.Summed.{IsSummary}
use Rattle.track_ops.proofs.AddedLimits.{limit_joined, same_three}
use Rattle.track_ops.proofs.AddedParts.{given, map_renumbered}
use Rattle.track_ops.proofs.GivenNumbers.{as_many}
use Rattle.track_ops.proofs.LimitsStay.{none_holds}
use Rattle.track_ops.proofs.Lists.{fewer_kept, neither, none_kept, sum_kept}
use Rattle.track_ops.proofs.LongEdits.{AreWhole, some_long}
use Rattle.track_ops.proofs.Summaries.{all_chosen}

-- where no edit list is too long, the longest isn't
pub greatest_short : (tracks : List PlacedTrack) → list_any (passes DurationLimit) tracks ≡ false → greatest (map lasts tracks) < 2 ^ 62
greatest_short [] none = omega arith
greatest_short (track ∷ tracks) none =
    let both = neither (passes DurationLimit track) (list_any (passes DurationLimit) tracks) none in
    let first = leb-false (2 ^ 62) (lasts track) both.0 in
    let rest = greatest_short tracks both.1 in
    omega (arith, first, rest)

pub multiples_whole : (old new : ℕ) (segments : List Segment) → old ∣ new → AreWhole old new segments
multiples_whole old new [] h = tt
multiples_whole old new (segment ∷ segments) h = (dvd-mul_left_of_dvd old h (duration segment), multiples_whole old new segments h)

all_multiples : (old new : ℕ) (tracks : List PlacedTrack) → old ∣ new → AllByRecursion (λ track. AreWhole old new (segments_in track.edits)) tracks
all_multiples old new [] h = tt
all_multiples old new (track ∷ tracks) h = (multiples_whole old new (segments_in track.edits) h, all_multiples old new tracks h)

own_whole : (movie other : PlacedMovie) (scale : ℕ) → (kept_lead movie other).scale ∣ scale → AllByRecursion (λ track. AreWhole movie.scale scale (segments_in track.edits)) movie.tracks
own_whole movie other scale h = by movie.tracks h
  where
    by : (tracks : List PlacedTrack) → (unless_empty tracks movie other).scale ∣ scale → AllByRecursion (λ track. AreWhole movie.scale scale (segments_in track.edits)) tracks
    by [] h = tt
    by (track ∷ tracks) h = all_multiples movie.scale scale (track ∷ tracks) h

front_divided : (divisor : ℕ) (segments : List Segment) (more : List ℕ) → AllByRecursion (λ n. divisor ∣ n) (map duration segments ++ more)
    → AllByRecursion (λ segment. divisor ∣ duration segment) segments × AllByRecursion (λ n. divisor ∣ n) more
front_divided divisor [] more all = (tt, all)
front_divided divisor (segment ∷ segments) more all =
    let rest = front_divided divisor segments more all.1 in
    ((all.0, rest.0), rest.1)

divided_whole : (old new divisor : ℕ) (segments : List Segment) → old ∣ divisor * new → AllByRecursion (λ segment. divisor ∣ duration segment) segments → AreWhole old new segments
divided_whole old new divisor [] h all = tt
divided_whole old new divisor (segment ∷ segments) h all = (dvd_trans old h (mul-dvd-mul_right divisor all.0 new), divided_whole old new divisor segments h all.1)

chosen_whole : (old new divisor : ℕ) (numbers : List ℕ) (tracks : List PlacedTrack) → old ∣ divisor * new → AllByRecursion (λ n. divisor ∣ n) (kept_durations tracks)
    → AllByRecursion (λ track. AreWhole old new (segments_in track.edits)) (kept_renumbered numbers tracks)
chosen_whole old new divisor [] tracks h all = tt
chosen_whole old new divisor (number ∷ numbers) [] h all = tt
chosen_whole old new divisor (number ∷ numbers) (track ∷ tracks) h all =
    let both = front_divided divisor (segments_in track.edits) (kept_durations tracks) all in
    (divided_whole old new divisor (segments_in track.edits) h both.0, chosen_whole old new divisor numbers tracks h both.1)

pub limit_found : (movie other : PlacedMovie) (choice : Choice) (own added : Summary) (scale : ℕ) → AreParts movie → AreParts other → first_limit movie ≡ None → first_limit other ≡ None
    → IsSummary (kept_chosen All movie.tracks) own → IsSummary (kept_chosen choice other.tracks) added → (kept_lead movie other).scale ∣ scale → other.scale ∣ added.divisor * scale
    → first_limit (kept_joined movie other (kept_chosen choice other.tracks) (given movie (kept_chosen choice other.tracks)) scale)
    ≡ first_code (
    (nat_le (2 ^ 62 * movie.scale) (own.longest * scale) || nat_le (2 ^ 62 * other.scale) (added.longest * scale), DurationLimit)
    ∷ (nat_lt 8388608 (own.samples + added.samples), SampleLimit)
    ∷ (nat_lt 64 (own.tracks + added.tracks), TrackLimit)
    ∷ []
    )
limit_found movie other choice own added scale h g fits fit owned chosen multiple whole =
    let tracks = kept_chosen choice other.tracks in
    let tests = none_holds (limits movie) fits in
    let others = none_holds (limits other) fit in
    let few = ltb-false MOST_ITEMS (sample_count movie.tracks) tests.1.1.1.1.1.0 in
    let few_tracks = ltb-false most_tracks (length movie.tracks) tests.1.1.1.1.1.1.0 in
    let other_few = ltb-false MOST_ITEMS (sample_count other.tracks) others.1.1.1.1.1.0 in
    let other_tracks = ltb-false most_tracks (length other.tracks) others.1.1.1.1.1.1.0 in
    let less = sum_kept (λ (t : PlacedTrack). length t.deltas) test other.tracks in
    let fewer = fewer_kept test other.tracks in
    let short = greatest_short movie.tracks tests.1.1.0 in
    let other_short = greatest_short tracks (none_kept (passes DurationLimit) test other.tracks others.1.1.0) in
    let mine : IsSummary movie.tracks own = subst (λ (ts : List PlacedTrack). IsSummary ts own) (all_chosen movie.tracks) owned in
    let longest : own.longest ≡ greatest (map lasts movie.tracks) = let e = mine.longest in omega (arith, e, short) in
    let other_longest : added.longest ≡ greatest (map lasts tracks) = let e = chosen.longest in omega (arith, e, other_short) in
    let samples : own.samples ≡ sample_count movie.tracks = let e = mine.samples in omega (arith, e, few) in
    let other_samples : added.samples ≡ sample_count tracks = let e = chosen.samples in omega (arith, e, other_few, less) in
    let count : own.tracks ≡ length movie.tracks = let e = mine.tracks in omega (arith, e, few_tracks) in
    let other_count : added.tracks ≡ length tracks = let e = chosen.tracks in omega (arith, e, other_tracks, fewer) in
    limit_joined movie other choice (given movie tracks) scale fits fit many
    ∙ same_three _ _ _ _ _ _
    (either _ _ _ _ (some_long movie.scale scale movie.tracks h.bare.header.some_scale (own_whole movie other scale multiple) ∙ ap (λ (n : ℕ). nat_le (2 ^ 62 * movie.scale) (n * scale)) (sym longest))
    (some_long other.scale scale (kept_renumbered (given movie tracks) tracks) g.bare.header.some_scale (chosen_whole other.scale scale added.divisor (given movie tracks) tracks whole chosen.divisor.divides)
    ∙ ap (λ (n : ℕ). nat_le (2 ^ 62 * other.scale) (n * scale)) (ap greatest (map_renumbered lasts (λ number track. refl) (given movie tracks) tracks many) ∙ sym other_longest)))
    (ap (λ (n : ℕ). nat_lt MOST_ITEMS n) (add _ _ _ _ (sym samples) (sym other_samples))) (ap (λ (n : ℕ). nat_lt most_tracks n) (add _ _ _ _ (sym count) (sym other_count)))
  where
    test : PlacedTrack → Bool
    test track = is_chosen choice track.number track.head.handler

    many : length (given movie (kept_chosen choice other.tracks)) ≡ length (kept_chosen choice other.tracks)
    many = as_many (kept_numbers movie.tracks) (kept_numbers (kept_chosen choice other.tracks)) ∙ length-map (kept_chosen choice other.tracks) (λ (t : PlacedTrack). t.number)

    either : (a b c d : Bool) → a ≡ c → b ≡ d → (a || b) ≡ (c || d)
    either a b c d p q = rw (p, q) refl

    add : (a b c d : ℕ) → a ≡ c → b ≡ d → a + b ≡ c + d
    add a b c d p q = omega (arith, p, q)

-- by what was read of the two movies
pub limit_told : (movie other : PlacedMovie) (choice : Choice) (own added : Summary) (scale old other_old : ℕ) (own_long added_long : Bool) (result : Option Code) → AreParts movie → AreParts other → first_limit movie ≡ None
    → first_limit other ≡ None → IsSummary (kept_chosen All movie.tracks) own → IsSummary (kept_chosen choice other.tracks) added → (kept_lead movie other).scale ∣ scale → other.scale ∣ added.divisor * scale → old ≡ movie.scale
    → other_old ≡ other.scale → own_long ≡ nat_le (2 ^ 62 * old) (own.longest * scale) → added_long ≡ nat_le (2 ^ 62 * other_old) (added.longest * scale)
    → result
    ≡ first_code ((own_long || added_long, DurationLimit) ∷ (nat_lt 8388608 (own.samples + added.samples), SampleLimit) ∷ (nat_lt 64 (own.tracks + added.tracks), TrackLimit) ∷ [])
    → result ≡ first_limit (kept_joined movie other (kept_chosen choice other.tracks) (given movie (kept_chosen choice other.tracks)) scale)
limit_told movie other choice own added scale old other_old own_long added_long result h g fits fit owned chosen multiple whole same other_same long other_long is =
    is
    ∙ (same_three _ _ _ _ _ _ (or _ _ _ _ (long ∙ ap (λ (x : ℕ). nat_le (2 ^ 62 * x) (own.longest * scale)) same) (other_long ∙ ap (λ (x : ℕ). nat_le (2 ^ 62 * x) (added.longest * scale)) other_same)) refl refl
    ∙ sym (limit_found movie other choice own added scale h g fits fit owned chosen multiple whole))
  where
    or : (a b c d : Bool) → a ≡ c → b ≡ d → (a || b) ≡ (c || d)
    or a b c d p q = rw (p, q) refl

-- what is counted together fits 64 bits
pub few_together : (movie other : PlacedMovie) (choice : Choice) (own added : Summary) → first_limit movie ≡ None → first_limit other ≡ None → IsSummary (kept_chosen All movie.tracks) own → IsSummary (kept_chosen choice other.tracks) added
    → (own.samples + added.samples < 2 ^ 64) × (own.tracks + added.tracks < 2 ^ 64)
few_together movie other choice own added fits fit owned chosen =
    let tests = none_holds (limits movie) fits in
    let others = none_holds (limits other) fit in
    let few = ltb-false MOST_ITEMS (sample_count movie.tracks) tests.1.1.1.1.1.0 in
    let few_tracks = ltb-false most_tracks (length movie.tracks) tests.1.1.1.1.1.1.0 in
    let other_few = ltb-false MOST_ITEMS (sample_count other.tracks) others.1.1.1.1.1.0 in
    let other_tracks = ltb-false most_tracks (length other.tracks) others.1.1.1.1.1.1.0 in
    let less = sum_kept (λ (t : PlacedTrack). length t.deltas) test other.tracks in
    let fewer = fewer_kept test other.tracks in
    let mine : IsSummary movie.tracks own = subst (λ (ts : List PlacedTrack). IsSummary ts own) (all_chosen movie.tracks) owned in
    let a = mine.samples in
    let b = chosen.samples in
    let c = mine.tracks in
    let d = chosen.tracks in
    (omega (arith, a, b, few, other_few, less), omega (arith, c, d, few_tracks, other_tracks, fewer))
  where
    test : PlacedTrack → Bool
    test track = is_chosen choice track.number track.head.handler
