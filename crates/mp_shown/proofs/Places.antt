-- A moment's place in the media, and the tick that holds it.
use Rattle.std.proofs.Common.{◌≡◌, ℕ, zero, suc, ◌+◌, ◌-◌, ◌*◌, ◌/◌, ◌<◌, ◌≤◌, Bool, true, false, cond, ltb, List, [], ◌∷◌, map, Option, Some, None, ℤ, pos, negsuc, ◌+ℤ◌, ◌*ℤ◌, not, ◌&&◌, refl, sym, ap, ◌∙◌, arith, inl, inr}
use Rattle.std.specs.Prelude.{int_lt, neg_ℤ, option_map, nat_lt, if◌then◌else◌}
use Rattle.std.proofs.lemmas.Bool.{cases_lt, lt-ltb, le-ltb}
use Rattle.std.proofs.lemmas.Int.{ints}
use Rattle.std.proofs.Math.Nat.{mul_comm, mul_assoc, add-mul, div-lt_iff_lt-mul, mul-add-div_right, mul-div-mul_right, div-mul-le_self, le-div_iff_mul-le}
use Rattle.mp_timeline.specs.declared.segment.Segment.{Segment}
use Rattle.mp_timeline.specs.declared.segment.Segment.TheVariants.{Empty, Media}
use Rattle.mp_timeline.specs.Movie.{SampleRecord}
use Rattle.mp_shown.specs.declared.place.Place.{Place}
use Rattle.mp_shown.specs.Place.{place_in, place_of, ticks_of, in_ticks_of}
use Rattle.mp_shown.specs.Segments.{in_unit, whole_media}
use Rattle.mp_shown.specs.Shown.{media_time, is_at, is_at_some, numbers_where}

pub lt-times : (a b k : ℕ) → 0 < k → a < b → a * k < b * k
lt-times a b k some lt = grind arith

pub le-times : (a b k : ℕ) → a ≤ b → a * k ≤ b * k
le-times a b k le = grind arith

pub times_some : (a b : ℕ) → 0 < a → 0 < b → 0 < a * b
times_some a b p q = grind arith

pub ltb-times : (a b k : ℕ) → 0 < k → ltb (a * k) (b * k) ≡ ltb a b
ltb-times a b k some = elim (cases_lt a b) [
  | inl lt ↦ lt-ltb _ _ (lt-times a b k some lt) ∙ sym (lt-ltb a b lt)
  | inr le ↦ le-ltb _ _ (le-times b a k le) ∙ sym (le-ltb a b le)
]

pub sub-times : (t u k : ℕ) → u ≤ t → t * k - u * k ≡ (t - u) * k
sub-times t u k le =
    let whole : t * k ≡ (t - u) * k + u * k = ap (λ (x : ℕ). x * k) (split t u le) ∙ add-mul (t - u) u k in
    omega (arith, whole)
  where
    split : (a b : ℕ) → b ≤ a → a ≡ a - b + b
    split a b h = omega arith

lasts : (dur s d : ℕ) → dur * (s * d) ≡ dur * d * s
lasts dur s d = omega arith

-- the time of the media at a place, in the unit
abbrev pub time_of : (a s : ℕ) → Place → ℕ
time_of a s place = place.start * a + place.within * s

pub place_time : (a s d : ℕ) (edits : List Segment) (moment : ℕ) → 0 < s
    → media_time (map (in_unit a (s * d)) edits) (moment * s) ≡ option_map (time_of a s) (place_in d edits moment)
place_time a s d [] moment some = refl
place_time a s d (Empty dur ∷ edits) moment some = rw (lasts dur s d, ltb-times moment (dur * d) s some) (elim (cases_lt moment (dur * d)) [
  | inl lt ↦ rw (lt-ltb moment (dur * d) lt) refl
  | inr le ↦ rw (le-ltb moment (dur * d) le, sub-times moment (dur * d) s le) (place_time a s d edits (moment - dur * d) some)
])
place_time a s d (Media start dur ∷ edits) moment some = rw (lasts dur s d, ltb-times moment (dur * d) s some) (elim (cases_lt moment (dur * d)) [
  | inl lt ↦ rw (lt-ltb moment (dur * d) lt) refl
  | inr le ↦ rw (le-ltb moment (dur * d) le, sub-times moment (dur * d) s le) (place_time a s d edits (moment - dur * d) some)
])

ticks_at : (scale tick : ℕ) (place : Option Place) → 0 < tick → in_ticks_of tick (option_map (time_of tick scale) place) ≡ option_map (ticks_of scale tick) place
ticks_at scale tick None some = refl
ticks_at scale tick (Some place) some = ap (λ (x : ℕ). Some x) (mul-add-div_right some place.start (place.within * scale))

-- by an edit list, the tick is that of the place
pub tick_of_place : (movie scale d n : ℕ) (edits : List Segment) → 0 < movie → 0 < scale → 0 < d
    → in_ticks_of (movie * d) (media_time (map (in_unit (movie * d) (scale * d)) edits) (n * (movie * scale))) ≡ option_map (ticks_of scale (movie * d)) (place_in d edits (n * movie))
tick_of_place movie scale d n edits some_movie some some_d =
    ap (λ (t : ℕ). in_ticks_of (movie * d) (media_time (map (in_unit (movie * d) (scale * d)) edits) t)) (sym (mul_assoc n movie scale))
    ∙ (ap (in_ticks_of (movie * d)) (place_time (movie * d) scale d edits (n * movie) some) ∙ ticks_at scale (movie * d) (place_in d edits (n * movie)) (times_some movie d some_movie some_d))

-- without one, it is that of the moment, as long as the media lasts
media-cond : (length moment : ℕ) → media_time (whole_media length) moment ≡ cond (ltb moment length) (Some moment) None
media-cond length moment = elim (cases_lt 0 length) [
  | inl lt ↦ let front : 0 + moment ≡ moment = omega arith in rw (lt-ltb 0 length lt, front) refl
  | inr le ↦ rw (le-ltb 0 length le, le-ltb moment length (omega (arith, le))) refl
]

pub tick_of_media : (movie scale d n length : ℕ) → 0 < movie → 0 < scale → 0 < d
    → in_ticks_of (movie * d) (media_time (whole_media (length * (movie * d))) (n * (movie * scale))) ≡ cond (ltb (n * scale) (length * d)) (Some (n * scale / d)) None
tick_of_media movie scale d n length some_movie some some_d =
    ap (in_ticks_of (movie * d)) (media-cond (length * (movie * d)) (n * (movie * scale)))
    ∙ (rw (lasts length movie d, turn, ltb-times (n * scale) (length * d) movie some_movie) (by (ltb (n * scale) (length * d))))
  where
    turn : n * (movie * scale) ≡ n * scale * movie
    turn = omega arith

    floor : n * scale * movie / (movie * d) ≡ n * scale / d
    floor = ap (λ (x : ℕ). n * scale * movie / x) (mul_comm movie d) ∙ mul-div-mul_right (n * scale) d some_movie

    by : (b : Bool) → in_ticks_of (movie * d) (cond b (Some (n * scale * movie)) None) ≡ cond b (Some (n * scale / d)) None
    by true = ap (λ (x : ℕ). Some x) floor
    by false = refl

-- ---- a sample is at a time where it is at the tick that holds the time

pub none_before : (time ticks : ℕ) → int_lt (pos time) (neg_ℤ (pos ticks)) ≡ false
none_before time zero = le-ltb time 0 (omega arith)
none_before time (suc ticks) = refl

floor-lt : (time tick : ℕ) (z : ℤ) → 0 < tick → int_lt (pos (time / tick)) (z *ℤ pos 1) ≡ int_lt (pos time) (z *ℤ pos tick)
floor-lt time tick (pos n) some = rw one (elim (cases_lt (time / tick) n) [
  | inl lt ↦ lt-ltb (time / tick) n lt ∙ sym (lt-ltb time (n * tick) ((div-lt_iff_lt-mul some).0 lt))
  | inr le ↦ le-ltb (time / tick) n le ∙ sym (le-ltb time (n * tick) ((le-div_iff_mul-le some).0 le))
])
  where
    one : n * 1 ≡ n
    one = omega arith
floor-lt time tick (negsuc n) some = none_before (time / tick) (suc n * 1) ∙ sym (none_before time (suc n * tick))

pub tick_kept : (tick : ℕ) (time : Option ℕ) (sample : SampleRecord) → 0 < tick → is_at_some 1 (in_ticks_of tick time) sample ≡ is_at_some tick time sample
tick_kept tick None sample some = refl
tick_kept tick (Some time) sample some = rw (floor-lt time tick sample.comp some, floor-lt time tick (sample.comp +ℤ pos sample.dur) some) refl

-- ---- the numbers of samples

pub same_numbers : (p q : SampleRecord → Bool) (number : ℕ) (samples : List SampleRecord) → ((sample : SampleRecord) → p sample ≡ q sample)
    → numbers_where p number samples ≡ numbers_where q number samples
same_numbers p q number [] same = refl
same_numbers p q number (sample ∷ samples) same = rw (same sample, same_numbers p q (number + 1) samples same) refl

pub no_numbers : (p : SampleRecord → Bool) (number : ℕ) (samples : List SampleRecord) → ((sample : SampleRecord) → p sample ≡ false) → numbers_where p number samples ≡ []
no_numbers p number [] none = refl
no_numbers p number (sample ∷ samples) none = rw (none sample) (no_numbers p (number + 1) samples none)
