-- No limit is passed exactly where none of the tests holds; what each of them then says.
use Rattle.std.proofs.Common.{◌≡◌, ℕ, ◌+◌, ◌*◌, ◌-◌, ◌^◌, ◌<◌, ◌≤◌, ◌||◌, Bool, true, false, List, [], ◌∷◌, length, Option, Some, None, if◌then◌else◌, refl, sym, arith, nat_lt}
use Rattle.std.specs.Prelude.{sum}
use Rattle.std.specs.List.{AllByRecursion, list_any}
use Rattle.std.proofs.lemmas.Bool.{ltb-false}
use Rattle.std.proofs.lemmas.List.Sums.{sum_by-cons}
use Rattle.mp_ports.specs.declared.code.Code.{Code}
use Rattle.mp_ports.specs.Checks.{first_code}
use Rattle.mp_columns.specs.declared.columns.TheConstants.{MOST_ITEMS}
use Rattle.mp_columns.specs.Numbers.{largest}
use Rattle.mp_movie.specs.Placed.{PlacedTrack, PlacedMovie, naturals, payload_len, sample_count}
use Rattle.mp_movie.specs.WholeParts.{AreColumns, AreParts}
use Rattle.mp_ports.specs.declared.code.Code.TheVariants.{SizeLimit}
use Rattle.mp_movie.specs.PartsFit.{first_limit, limits, passes}
use Rattle.mp_movie.proofs.ColumnsInNumbers.{each_within, sum_within}

-- none of the tests holds
abbrev pub NoneHolds : List (Bool × Code) → Type 0
NoneHolds checks = AllByRecursion (λ check. check.0 ≡ false) checks

guarded : (test : Bool) (code : Code) (more : Option Code) → (if test then Some code else more) ≡ None → (test ≡ false) × (more ≡ None)
guarded true code more none = (cc, cc)
guarded false code more none = (refl, none)

pub none_holds : (checks : List (Bool × Code)) → first_code checks ≡ None → NoneHolds checks
none_holds [] none = tt
none_holds (check ∷ checks) none =
    let first = guarded check.0 check.1 (first_code checks) none in
    (first.0, none_holds checks first.1)

pub no_code : (checks : List (Bool × Code)) → NoneHolds checks → first_code checks ≡ None
no_code [] none = refl
no_code (check ∷ checks) none = rw none.0 (no_code checks none.1)

neither : (a b : Bool) → (a || b) ≡ false → (a ≡ false) × (b ≡ false)
neither true b none = (cc, cc)
neither false b none = (refl, none)

-- a test that none passes is passed by no one of them
pub each_fails : {A : Type 0} (test : A → Bool) (xs : List A) → list_any test xs ≡ false → AllByRecursion (λ x. test x ≡ false) xs
each_fails test [] none = tt
each_fails test (x ∷ xs) none =
    let both = neither (test x) (list_any test xs) none in
    (both.0, each_fails test xs both.1)

pub none_passes : {A : Type 0} (test : A → Bool) (xs : List A) → AllByRecursion (λ x. test x ≡ false) xs → list_any test xs ≡ false
none_passes test [] all = refl
none_passes test (x ∷ xs) all = rw all.0 (none_passes test xs all.1)

-- within the limits there aren't too many samples
pub few_samples : (movie : PlacedMovie) → first_limit movie ≡ None → sample_count movie.tracks ≤ MOST_ITEMS
few_samples movie fits = ltb-false MOST_ITEMS (sample_count movie.tracks) (none_holds (limits movie) fits).1.1.1.1.1.0

-- nor too many bytes
bytes_of : (tracks : List PlacedTrack) → AllByRecursion AreColumns tracks → AllByRecursion (λ track. passes SizeLimit track ≡ false) tracks → payload_len tracks ≤ sample_count tracks * (2 ^ 32 - 1)
bytes_of [] columns short = omega arith
bytes_of (track ∷ tracks) columns short =
    let size = sum_within (2 ^ 32 - 1) track.sizes (each_within (2 ^ 32 - 1) track.sizes (ltb-false (2 ^ 32 - 1) (largest track.sizes) short.0)) in
    let rest = bytes_of tracks columns.1 short.1 in
    let long = columns.0.sizes_len in
    omega (arith, long, size, rest, sum_by-cons (λ (t : PlacedTrack). length t.deltas) track tracks, sum_by-cons (λ (t : PlacedTrack). sum (naturals t.sizes)) track tracks)

pub few_bytes : (movie : PlacedMovie) → AreParts movie → first_limit movie ≡ None → payload_len movie.tracks < 2 ^ 55
few_bytes movie whole fits =
    let few = few_samples movie fits in
    let bytes = bytes_of movie.tracks whole.columns (each_fails (passes SizeLimit) movie.tracks (none_holds (limits movie) fits).1.1.1.1.0) in
    omega (arith, few, bytes)
