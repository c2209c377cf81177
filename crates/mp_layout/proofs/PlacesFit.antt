-- Each place of a track that isn't among the wide ones fits 32 bits.
use Rattle.std.proofs.Common.{◌≡◌, ℕ, zero, suc, ◌+◌, ◌-◌, ◌^◌, ◌<◌, ◌≤◌, Bool, true, false, cond, ◌&&◌, ◌||◌, ◌==◌, List, [], ◌∷◌, ◌++◌, length, map, filter, get_or, refl, sym, ap, ◌∙◌, arith}
use Rattle.std.specs.Prelude.{nat_le}
use Rattle.std.specs.List.{list_all, range_with_len, AllByRecursion}
use Rattle.std.proofs.lemmas.Bool.{and_parts}
use Rattle.std.proofs.lemmas.List.FromFn.{get_or-map-range_with_len, length-map-range_with_len}
use Rattle.mp_chunks.specs.Written.{PlacedChunk, PlacesChangeNoLength}
use Rattle.mp_timeline.specs.Movie.{MovieRecord}
use Rattle.mp_interleave.specs.Samples.{SampleChunk}
use Rattle.mp_layout.specs.Order.{chunk_bytes, chunks_at, placed}
use Rattle.mp_layout.specs.File.{Within, is_closed, payload_place, sets_of, wide_tracks}
use Rattle.mp_layout.proofs.FrontLengths.{place-rises}

-- ---- sets of tracks

abbrev HasLength : ℕ → List Bool → Type 0
HasLength n set = length set ≡ n

all-append : (P : List Bool → Type 0) (sets others : List (List Bool)) → AllByRecursion P sets → AllByRecursion P others → AllByRecursion P (sets ++ others)
all-append P [] others all more = more
all-append P (set ∷ sets) others all more = (all.0, all-append P sets others all.1 more)

one-flag : (flag : Bool) (n : ℕ) (sets : List (List Bool)) → AllByRecursion (HasLength n) sets → AllByRecursion (HasLength (suc n)) (map (λ set. flag ∷ set) sets)
one-flag flag n [] all = tt
one-flag flag n (set ∷ sets) all = (ap suc all.0, one-flag flag n sets all.1)

sets-len : (n : ℕ) → AllByRecursion (HasLength n) (sets_of n)
sets-len zero = (refl, tt)
sets-len (suc n) =
    all-append (HasLength (suc n)) (map (λ set. false ∷ set) (sets_of n)) (map (λ set. true ∷ set) (sets_of n)) (one-flag false n (sets_of n) (sets-len n)) (one-flag true n (sets_of n) (sets-len n))

-- what all sets have, each of them has
holds-each : (sets all : List (List Bool)) → ((position : ℕ) → list_all (λ set. get_or set position true) all ≡ true → list_all (λ set. get_or set position true) sets ≡ true)
    → AllByRecursion (λ set. (position : ℕ) → list_all (λ other. get_or other position true) all ≡ true → get_or set position true ≡ true) sets
holds-each [] all whole = tt
holds-each (set ∷ sets) all whole = (
  (λ position e. (and_parts (get_or set position true) (list_all (λ other. get_or other position true) sets) (whole position e)).0),
  holds-each sets all (λ position e. (and_parts (get_or set position true) (list_all (λ other. get_or other position true) sets) (whole position e)).1),
)

-- ---- closed sets

-- a closed set, which has what all of them have
record IsOneOf (closed : List Bool → Bool) (n : ℕ) (all : List (List Bool)) (set : List Bool) : Type 0 where
  pub len : length set ≡ n
  pub closed_set : closed set ≡ true
  pub has : (position : ℕ) → list_all (λ other. get_or other position true) all ≡ true → get_or set position true ≡ true

each-one : (closed : List Bool → Bool) (n : ℕ) (all sets : List (List Bool)) → AllByRecursion (HasLength n) sets
    → AllByRecursion (λ set. (position : ℕ) → list_all (λ other. get_or other position true) all ≡ true → get_or set position true ≡ true) (filter closed sets) → AllByRecursion (IsOneOf closed n all) (filter closed sets)
each-one closed n all [] long has = tt
each-one closed n all (set ∷ sets) long has = by (closed set) refl has (each-one closed n all sets long.1)
  where
    by : (b : Bool) → closed set ≡ b → AllByRecursion (λ set. (position : ℕ) → list_all (λ other. get_or other position true) all ≡ true → get_or set position true ≡ true) (cond b (set ∷ filter closed sets) (filter closed sets))
        → (AllByRecursion (λ set. (position : ℕ) → list_all (λ other. get_or other position true) all ≡ true → get_or set position true ≡ true) (filter closed sets) → AllByRecursion (IsOneOf closed n all) (filter closed sets))
        → AllByRecursion (IsOneOf closed n all) (cond b (set ∷ filter closed sets) (filter closed sets))
    by true is has more = (record { len = long.0; closed_set = is; has = has.0 }, more has.1)
    by false is has more = more has

-- one that lacks the track
record Lacks (closed : List Bool → Bool) (n : ℕ) (all : List (List Bool)) (position : ℕ) : Type 0 where
  pub set : List Bool
  pub one : IsOneOf closed n all set
  pub lacks : get_or set position true ≡ false

lacking : (closed : List Bool → Bool) (n : ℕ) (all : List (List Bool)) (position : ℕ) (sets : List (List Bool)) → AllByRecursion (IsOneOf closed n all) sets → list_all (λ set. get_or set position true) sets ≡ false
    → Lacks closed n all position
lacking closed n all position [] each e = absurd (no_false e)
  where
    no_false : true ≡ false → ⊥
    no_false e = cc
lacking closed n all position (set ∷ sets) each e = by (get_or set position true) refl e (λ rest. lacking closed n all position sets each.1 rest)
  where
    by : (b : Bool) → get_or set position true ≡ b → (b && list_all (λ other. get_or other position true) sets) ≡ false → (list_all (λ other. get_or other position true) sets ≡ false → Lacks closed n all position)
        → Lacks closed n all position
    by true is e more = more e
    by false is e more = record { set = set; one = each.0; lacks = is }

-- ---- flags

flag-inside : (set : List Bool) (position : ℕ) → get_or set position false ≡ true → position < length set
flag-inside [] position e = absurd (no_true e)
  where
    no_true : false ≡ true → ⊥
    no_true e = cc
flag-inside (flag ∷ set) zero e = omega arith
flag-inside (flag ∷ set) (suc position) e = omega (arith, flag-inside set position e)

pub same-flag : (set : List Bool) (position : ℕ) → position < length set → get_or set position true ≡ get_or set position false
same-flag [] position lt = absurd (omega arith)
same-flag (flag ∷ set) zero lt = refl
same-flag (flag ∷ set) (suc position) lt = same-flag set position (omega arith)

-- ---- places

pub passes-at : (test : ℕ → Bool) (from n k at : ℕ) → list_all test (range_with_len from n) ≡ true → k < n → from + k ≡ at → test at ≡ true
passes-at test from zero k at e lt is = absurd (omega arith)
passes-at test from (suc n) zero at e lt is = let here : at ≡ from = omega arith in rw here ((and_parts _ _ e).0)
passes-at test from (suc n) (suc k) at e lt is = passes-at test (from + 1) n k at ((and_parts _ _ e).1) (omega arith) (omega arith)

fits-le : (place : ℕ) → nat_le place (2 ^ 32 - 1) ≡ true → place < 2 ^ 32
fits-le place e = grind arith

-- it fits 32 bits
abbrev pub IsNear : PlacedChunk → Type 0
IsNear chunk = chunk.place < 2 ^ 32

fits-before : (position a b : ℕ) (chunks : List SampleChunk) → a ≤ b → list_all (λ chunk. nat_le chunk.place (2 ^ 32 - 1)) (chunks_at position b chunks) ≡ true → AllByRecursion IsNear (chunks_at position a chunks)
fits-before position a b [] le e = tt
fits-before position a b (chunk ∷ chunks) le e = by (chunk.track == position) (λ rest. fits-before position (a + length (chunk_bytes chunk)) (b + length (chunk_bytes chunk)) chunks (omega (arith, le)) rest) e
  where
    by : (own : Bool) → (list_all (λ chunk. nat_le chunk.place (2 ^ 32 - 1)) (chunks_at position (b + length (chunk_bytes chunk)) chunks) ≡ true → AllByRecursion IsNear (chunks_at position (a + length (chunk_bytes chunk)) chunks))
        → list_all (λ chunk. nat_le chunk.place (2 ^ 32 - 1)) (cond own (placed b chunk ∷ chunks_at position (b + length (chunk_bytes chunk)) chunks) (chunks_at position (b + length (chunk_bytes chunk)) chunks)) ≡ true
        → AllByRecursion IsNear (cond own (placed a chunk ∷ chunks_at position (a + length (chunk_bytes chunk)) chunks) (chunks_at position (a + length (chunk_bytes chunk)) chunks))
    by true rest e =
        let both = and_parts (nat_le b (2 ^ 32 - 1)) (list_all (λ chunk. nat_le chunk.place (2 ^ 32 - 1)) (chunks_at position (b + length (chunk_bytes chunk)) chunks)) e in
        (omega (arith, le, fits-le b both.0), rest both.1)
    by false rest e = rest e

-- ---- the wide tracks

record IsFit (movie : MovieRecord) (chunks : List SampleChunk) (position : ℕ) (wide : List Bool) : Type 0 where
  pub set : List Bool
  pub within : Within wide set
  pub fits : list_all (λ chunk. nat_le chunk.place (2 ^ 32 - 1)) (chunks_at position (payload_place movie chunks set) chunks) ≡ true

closed-fits : (movie : MovieRecord) (chunks : List SampleChunk) (position : ℕ) (set : List Bool) → is_closed movie chunks set ≡ true → position < length movie.tracks → get_or set position true ≡ false
    → list_all (λ chunk. nat_le chunk.place (2 ^ 32 - 1)) (chunks_at position (payload_place movie chunks set) chunks) ≡ true
closed-fits movie chunks position set closed lt lacks =
    let test = λ (at : ℕ). get_or set at true || list_all (λ chunk. nat_le chunk.place (2 ^ 32 - 1)) (chunks_at at (payload_place movie chunks set) chunks) in
    let at : test position ≡ true = passes-at test 0 (length movie.tracks) position position closed lt (omega arith) in
    or_second (get_or set position true) _ lacks at
  where
    or_second : (a b : Bool) → a ≡ false → (a || b) ≡ true → b ≡ true
    or_second true b lacks e = absurd (no_false lacks)
      where
        no_false : true ≡ false → ⊥
        no_false e = cc
    or_second false b lacks e = e

fit-set : (movie : MovieRecord) (chunks : List SampleChunk) (position : ℕ) → position < length movie.tracks → get_or (wide_tracks movie chunks) position false ≡ false → IsFit movie chunks position (wide_tracks movie chunks)
unfolding wide_tracks
fit-set movie chunks position lt narrow =
    let n = length movie.tracks in
    let closed = filter (is_closed movie chunks) (sets_of n) in
    let flag = λ (at : ℕ). list_all (λ (set : List Bool). get_or set at true) closed in
    let wide = map flag (range_with_len 0 n) in
    let lacks : flag position ≡ false = sym (get_or-map-range_with_len flag 0 n position position false lt (omega arith)) ∙ narrow in
    let found = lacking (is_closed movie chunks) n closed position closed (each-one (is_closed movie chunks) n closed (sets_of n) (sets-len n) (holds-each closed closed (λ at e. e))) lacks in
    record {
      set = found.set;
      within = λ at e.
          let inside : at < n = omega (arith, flag-inside wide at e, length-map-range_with_len flag 0 n) in
          let all : flag at ≡ true = sym (get_or-map-range_with_len flag 0 n at at false inside (omega arith)) ∙ e in
          sym (same-flag found.set at (omega (arith, inside, found.one.len))) ∙ found.one.has at all;
      fits = closed-fits movie chunks position found.set found.one.closed_set lt found.lacks;
    }

pub places-fit : PlacesChangeNoLength → (movie : MovieRecord) (chunks : List SampleChunk) (position : ℕ) → position < length movie.tracks → get_or (wide_tracks movie chunks) position false ≡ false
    → AllByRecursion IsNear (chunks_at position (payload_place movie chunks (wide_tracks movie chunks)) chunks)
places-fit law movie chunks position lt narrow =
    let fit = fit-set movie chunks position lt narrow in
    fits-before position (payload_place movie chunks (wide_tracks movie chunks)) (payload_place movie chunks fit.set) chunks (place-rises law movie chunks (wide_tracks movie chunks) fit.set fit.within) fit.fits
