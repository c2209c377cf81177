-- Movies that stay within the limits.
use Rattle.std.proofs.Common.{◌≡◌, ◌≤◌, Bool, true, false, List, [], ◌∷◌, length, Option, None, Some, if◌then◌else◌, refl, arith}
use Rattle.std.specs.List.{AllByRecursion, list_any}
use Rattle.std.proofs.lemmas.Bool.{ltb-false, le-ltb}
use Rattle.mp_columns.specs.declared.columns.TheConstants.{MOST_ITEMS}
use Rattle.mp_ports.specs.declared.code.Code.{Code}
use Rattle.mp_ports.specs.declared.code.Code.TheVariants.{DeltaLimit, SizeLimit, EntryLimit, SegmentLimit, OffsetLimit, DurationLimit, StartLimit}
use Rattle.mp_ports.specs.Checks.{first_code}
use Rattle.mp_movie.specs.Limits.{most_tracks}
use Rattle.mp_movie.specs.Placed.{PlacedMovie, sample_count}
use Rattle.mp_movie.specs.PartsFit.{first_limit, limits, passes}

abbrev NoneHolds : List (Bool × Code) → Type 0
NoneHolds checks = AllByRecursion (λ check. check.0 ≡ false) checks

guarded : (test : Bool) (code : Code) (more : Option Code) → (if test then Some code else more) ≡ None → (test ≡ false) × (more ≡ None)
guarded true code more none = (cc, cc)
guarded false code more none = (refl, none)

pub none_holds : (checks : List (Bool × Code)) → first_code checks ≡ None → NoneHolds checks
none_holds [] none = tt
none_holds (check ∷ checks) none =
    let first = guarded check.0 check.1 (first_code checks) none in
    (first.0, none_holds checks first.1)

pub no_code : (checks : List (Bool × Code)) → NoneHolds checks → first_code checks ≡ None
no_code [] none = refl
no_code (check ∷ checks) none = rw none.0 (no_code checks none.1)

-- of the code of each limit of tracks
pub record EachLimit (P : Code → Type 0) : Type 0 where
  pub delta : P DeltaLimit
  pub offset : P OffsetLimit
  pub duration : P DurationLimit
  pub start : P StartLimit
  pub size : P SizeLimit
  pub entry : P EntryLimit
  pub segment : P SegmentLimit

-- tracks pass no limit of that code where the others pass none
abbrev pub NoMore : PlacedMovie → PlacedMovie → Code → Type 0
NoMore movie other code = list_any (passes code) other.tracks ≡ false → list_any (passes code) movie.tracks ≡ false

-- the movie fits where its tracks pass no more limits than those of the other, and it has no more samples and tracks
pub still_fits : (movie other : PlacedMovie) → first_limit other ≡ None → EachLimit (NoMore movie other) → sample_count movie.tracks ≤ sample_count other.tracks → length movie.tracks ≤ length other.tracks
    → first_limit movie ≡ None
still_fits movie other fits each samples tracks =
    let tests = none_holds (limits other) fits in
    let few = ltb-false MOST_ITEMS (sample_count other.tracks) tests.1.1.1.1.1.0 in
    let few_tracks = ltb-false most_tracks (length other.tracks) tests.1.1.1.1.1.1.0 in
    no_code (limits movie) (
      each.delta tests.0,
      (
        each.offset tests.1.0,
        (
          each.duration tests.1.1.0,
          (
            each.start tests.1.1.1.0,
            (
              each.size tests.1.1.1.1.0,
              (
                le-ltb MOST_ITEMS (sample_count movie.tracks) (omega (arith, few, samples)),
                (
                  le-ltb most_tracks (length movie.tracks) (omega (arith, few_tracks, tracks)),
                  (each.entry tests.1.1.1.1.1.1.1.0, (each.segment tests.1.1.1.1.1.1.1.1.0, tt)),
                ),
              ),
            ),
          ),
        ),
      ),
    )
