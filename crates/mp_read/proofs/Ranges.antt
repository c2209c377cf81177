-- Numbers that are read fit their fields, and the fields of headers are in their ranges.
use Rattle.std.proofs.Common.{◌≡◌, ℕ, ◌+◌, ◌^◌, ◌<◌, Bool, true, false, nat_lt, List, [], ◌∷◌, length, take, drop, None, Result, Ok, Err, refl, subst, arith}
use Rattle.std.specs.Prelude.{◌==◌, if◌then◌else◌}
use Rattle.std.proofs.lemmas.Bool.{ltb-false}
use Rattle.std.proofs.lemmas.List.{length-take-le}
use Rattle.mp_ports.specs.declared.code.Code.{Code}
use Rattle.mp_ports.specs.declared.code.Code.TheVariants.{ScaleZero, TableLength}
use Rattle.mp_ports.specs.Checks.{first_code, placed, unless, ◌>>=◌}
use Rattle.mp_boxes.specs.Boxes.{IsBytes}
use Rattle.mp_boxes.specs.FullBox.{first_field, flags}
use Rattle.mp_boxes.specs.Number.{u16_at, u32_at, u64_at}
use Rattle.mp_boxes.specs.Reading.{next_bytes, next_time, next_u16, next_u32, next_u64, value_or}
use Rattle.mp_headers.specs.declared.movie_header.Mvhd.{Mvhd}
use Rattle.mp_headers.specs.declared.track_header.Tkhd.{Tkhd}
use Rattle.mp_headers.specs.declared.media_header.Mdhd.{Mdhd}
use Rattle.mp_headers.specs.Matrix.{matrix_len}
use Rattle.mp_headers.specs.MovieHeader.{IsMvhd, mvhd_fields, mvhd_from, mvhd_of}
use Rattle.mp_headers.specs.TrackHeader.{IsTkhd, tkhd_fields, tkhd_from, tkhd_of}
use Rattle.mp_headers.specs.MediaHeader.{IsMdhd, mdhd_fields, mdhd_from, mdhd_of}
use Rattle.mp_headers.specs.Times.{wide_times}
use Rattle.mp_movie.specs.Readings.{fault_of}
use Rattle.mp_read.proofs.BytesStay.{dropped, taken}

pub u16_below : (xs : List ℕ) (at : ℕ) → IsBytes xs → u16_at xs at < 2 ^ 16
unfolding u16_at
u16_below xs at b = omega (arith, b at, b (at + 1))

pub u32_below : (xs : List ℕ) (at : ℕ) → IsBytes xs → u32_at xs at < 2 ^ 32
unfolding u32_at
u32_below xs at b = omega (arith, b at, b (at + 1), b (at + 2), b (at + 3))

u64_below : (xs : List ℕ) (at : ℕ) → IsBytes xs → u64_at xs at < 2 ^ 64
unfolding u64_at
u64_below xs at b = omega (arith, b at, b (at + 1), b (at + 2), b (at + 3), b (at + 4), b (at + 5), b (at + 6), b (at + 7))

-- a number below a bound, and bytes behind it
record IsNumber (bound : ℕ) (next : ℕ × List ℕ) : Type 0 where
  fits : next.0 < bound
  rest : IsBytes next.1

record AreSome (count : ℕ) (next : List ℕ × List ℕ) : Type 0 where
  len : length next.0 ≡ count
  some : IsBytes next.0
  rest : IsBytes next.1

bytes_next : (count : ℕ) (text : List ℕ) (next : List ℕ × List ℕ) → IsBytes text → next_bytes count text ≡ Ok next → AreSome count next
unfolding next_bytes
bytes_next count text next bytes e = by (nat_lt (length text) count) refl e
  where
    by : (b : Bool) → nat_lt (length text) count ≡ b → (if b then Err TableLength else Ok (take count text, drop count text)) ≡ Ok next → AreSome count next
    by true lt e = absurd cc
    by false lt e =
        let is : (take count text, drop count text) ≡ next = cc in
        subst (AreSome count) is (record { len = length-take-le count text (ltb-false _ _ lt); some = taken count text bytes; rest = dropped count text bytes })

u16_next : (text : List ℕ) (next : ℕ × List ℕ) → IsBytes text → next_u16 text ≡ Ok next → IsNumber (2 ^ 16) next
unfolding next_u16
u16_next text next bytes e = by (next_bytes 2 text) refl e
  where
    by : (r : Result (List ℕ × List ℕ) Code) → next_bytes 2 text ≡ r → (r >>= λ found. Ok (u16_at found.0 0, found.1)) ≡ Ok next → IsNumber (2 ^ 16) next
    by (Ok found) q same =
        let some = bytes_next 2 text found bytes q in
        let is : (u16_at found.0 0, found.1) ≡ next = cc in
        subst (IsNumber (2 ^ 16)) is (record { fits = u16_below found.0 0 some.some; rest = some.rest })
    by (Err code) q same = absurd cc

u32_next : (text : List ℕ) (next : ℕ × List ℕ) → IsBytes text → next_u32 text ≡ Ok next → IsNumber (2 ^ 32) next
unfolding next_u32
u32_next text next bytes e = by (next_bytes 4 text) refl e
  where
    by : (r : Result (List ℕ × List ℕ) Code) → next_bytes 4 text ≡ r → (r >>= λ found. Ok (u32_at found.0 0, found.1)) ≡ Ok next → IsNumber (2 ^ 32) next
    by (Ok found) q same =
        let some = bytes_next 4 text found bytes q in
        let is : (u32_at found.0 0, found.1) ≡ next = cc in
        subst (IsNumber (2 ^ 32)) is (record { fits = u32_below found.0 0 some.some; rest = some.rest })
    by (Err code) q same = absurd cc

u64_next : (text : List ℕ) (next : ℕ × List ℕ) → IsBytes text → next_u64 text ≡ Ok next → IsNumber (2 ^ 64) next
unfolding next_u64
u64_next text next bytes e = by (next_bytes 8 text) refl e
  where
    by : (r : Result (List ℕ × List ℕ) Code) → next_bytes 8 text ≡ r → (r >>= λ found. Ok (u64_at found.0 0, found.1)) ≡ Ok next → IsNumber (2 ^ 64) next
    by (Ok found) q same =
        let some = bytes_next 8 text found bytes q in
        let is : (u64_at found.0 0, found.1) ≡ next = cc in
        subst (IsNumber (2 ^ 64)) is (record { fits = u64_below found.0 0 some.some; rest = some.rest })
    by (Err code) q same = absurd cc

time_next : (wide : Bool) (text : List ℕ) (next : ℕ × List ℕ) → IsBytes text → next_time wide text ≡ Ok next → IsNumber (2 ^ 64) next
unfolding next_time
time_next true text next bytes e = u64_next text next bytes e
time_next false text next bytes e = let n = u32_next text next bytes e in let fits = n.fits in record { fits = omega arith; rest = n.rest }

-- ---- the headers

-- what holds of a value holds of what is given, step by step
pub bind_then : {A B E : Type 0} (P : A → Type 0) (Q : B → Type 0) (r : Result A E) (f : A → Result B E) → ((x : A) → r ≡ Ok x → P x) → ((x : A) → P x → (y : B) → f x ≡ Ok y → Q y) → (y : B) → (r >>= f) ≡ Ok y → Q y
bind_then P Q (Ok x) f first next y e = next x (first x refl) y e
bind_then P Q (Err bad) f first next y e = absurd cc

time_then : {B : Type 0} (Q : B → Type 0) (wide : Bool) (text : List ℕ) (f : ℕ × List ℕ → Result B Code) → IsBytes text → ((n : ℕ × List ℕ) → IsNumber (2 ^ 64) n → (y : B) → f n ≡ Ok y → Q y) → (y : B) → (next_time wide text >>= f) ≡ Ok y → Q y
time_then Q wide text f bytes next = bind_then (IsNumber (2 ^ 64)) Q (next_time wide text) f (λ n e. time_next wide text n bytes e) next

u32_then : {B : Type 0} (Q : B → Type 0) (text : List ℕ) (f : ℕ × List ℕ → Result B Code) → IsBytes text → ((n : ℕ × List ℕ) → IsNumber (2 ^ 32) n → (y : B) → f n ≡ Ok y → Q y) → (y : B) → (next_u32 text >>= f) ≡ Ok y → Q y
u32_then Q text f bytes next = bind_then (IsNumber (2 ^ 32)) Q (next_u32 text) f (λ n e. u32_next text n bytes e) next

u16_then : {B : Type 0} (Q : B → Type 0) (text : List ℕ) (f : ℕ × List ℕ → Result B Code) → IsBytes text → ((n : ℕ × List ℕ) → IsNumber (2 ^ 16) n → (y : B) → f n ≡ Ok y → Q y) → (y : B) → (next_u16 text >>= f) ≡ Ok y → Q y
u16_then Q text f bytes next = bind_then (IsNumber (2 ^ 16)) Q (next_u16 text) f (λ n e. u16_next text n bytes e) next

bytes_then : {B : Type 0} (Q : B → Type 0) (count : ℕ) (text : List ℕ) (f : List ℕ × List ℕ → Result B Code) → IsBytes text → ((n : List ℕ × List ℕ) → AreSome count n → (y : B) → f n ≡ Ok y → Q y) → (y : B) → (next_bytes count text >>= f) ≡ Ok y → Q y
bytes_then Q count text f bytes next = bind_then (AreSome count) Q (next_bytes count text) f (λ n e. bytes_next count text n bytes e) next

ok_then : {A : Type 0} (Q : A → Type 0) (x : A) → Q x → (y : A) → (let f : A → Result A Code = λ v. Ok v in f x ≡ f y) → Q y
ok_then Q x q y e = let same : x ≡ y = cc in subst Q same q

scale_then : {A : Type 0} (Q : A → Type 0) (scale : ℕ) (x : A) → (0 < scale → Q x) → (y : A) → unless (first_code ((scale == 0, ScaleZero) ∷ [])) x ≡ Ok y → Q y
scale_then Q scale x holds y e = by (scale == 0) refl e
  where
    by : (b : Bool) → (scale == 0) ≡ b → unless (first_code ((b, ScaleZero) ∷ [])) x ≡ Ok y → Q y
    by true z e = absurd cc
    by false z e = ok_then Q x (holds (grind arith)) y e

mvhd_fits : (wide : Bool) (text : List ℕ) → IsBytes text → (m : Mvhd) → mvhd_from wide text ≡ Ok m → IsMvhd m
unfolding mvhd_from
mvhd_fits wide text bytes =
    time_then IsMvhd wide (text) _ bytes (λ a created.
    time_then IsMvhd wide (a.1) _ created.rest (λ b modified.
    u32_then IsMvhd (b.1) _ modified.rest (λ c timescale.
    time_then IsMvhd wide (c.1) _ timescale.rest (λ d duration.
    u32_then IsMvhd (d.1) _ duration.rest (λ e rate.
    u16_then IsMvhd (e.1) _ rate.rest (λ f volume.
    bytes_then IsMvhd 10 (f.1) _ volume.rest (λ g reserved.
    bytes_then IsMvhd matrix_len (g.1) _ reserved.rest (λ h matrix.
    bytes_then IsMvhd 24 (h.1) _ matrix.rest (λ i predefined.
    u32_then IsMvhd (i.1) _ predefined.rest (λ j next_track.
    scale_then IsMvhd c.0 _ (λ some. record {
      created = created.fits;
      modified = modified.fits;
      some_scale = some;
      timescale = timescale.fits;
      duration = duration.fits;
      rate = rate.fits;
      volume = volume.fits;
      matrix = matrix.len;
      next_track = next_track.fits;
    })))))))))))

mdhd_fits : (wide : Bool) (text : List ℕ) → IsBytes text → (m : Mdhd) → mdhd_from wide text ≡ Ok m → IsMdhd m
unfolding mdhd_from
mdhd_fits wide text bytes =
    time_then IsMdhd wide (text) _ bytes (λ a created.
    time_then IsMdhd wide (a.1) _ created.rest (λ b modified.
    u32_then IsMdhd (b.1) _ modified.rest (λ c timescale.
    time_then IsMdhd wide (c.1) _ timescale.rest (λ d duration.
    u16_then IsMdhd (d.1) _ duration.rest (λ e language.
    bytes_then IsMdhd 2 (e.1) _ language.rest (λ f predefined.
    scale_then IsMdhd c.0 _ (λ some. record {
      created = created.fits;
      modified = modified.fits;
      some_scale = some;
      timescale = timescale.fits;
      duration = duration.fits;
      language = language.fits;
    })))))))

tkhd_fits : (bits : ℕ) (wide : Bool) (text : List ℕ) → IsBytes text → bits < 2 ^ 24 → (t : Tkhd) → tkhd_from bits wide text ≡ Ok t → IsTkhd t
unfolding tkhd_from
tkhd_fits bits wide text bytes small =
    time_then IsTkhd wide (text) _ bytes (λ a created.
    time_then IsTkhd wide (a.1) _ created.rest (λ b modified.
    u32_then IsTkhd (b.1) _ modified.rest (λ c number.
    bytes_then IsTkhd 4 (c.1) _ number.rest (λ d first.
    time_then IsTkhd wide (d.1) _ first.rest (λ e duration.
    bytes_then IsTkhd 8 (e.1) _ duration.rest (λ f second.
    u16_then IsTkhd (f.1) _ second.rest (λ g layer.
    u16_then IsTkhd (g.1) _ layer.rest (λ h group.
    u16_then IsTkhd (h.1) _ group.rest (λ i volume.
    bytes_then IsTkhd 2 (i.1) _ volume.rest (λ j third.
    bytes_then IsTkhd matrix_len (j.1) _ third.rest (λ k matrix.
    u32_then IsTkhd (k.1) _ matrix.rest (λ l width.
    u32_then IsTkhd (l.1) _ width.rest (λ m height.
    ok_then IsTkhd _ (record {
      flags = small;
      created = created.fits;
      modified = modified.fits;
      number = number.fits;
      duration = duration.fits;
      layer = layer.fits;
      group = group.fits;
      volume = volume.fits;
      matrix = matrix.len;
      width = width.fits;
      height = height.fits;
    }))))))))))))))

-- ---- read at any place

-- what is read without a fault at one place is read at another
given : {A : Type 0} (P : A → Type 0) (place other : ℕ) (none : A) (r : Result A Code) → ((value : A) → r ≡ Ok value → P value) → fault_of (placed place r) ≡ None → P (value_or none (placed other r))
given P place other none (Ok value) holds e = holds value refl
given P place other none (Err code) holds e = absurd cc

pub mvhd_is : (place : ℕ) (body : List ℕ) → IsBytes body → fault_of (mvhd_of place body) ≡ None → IsMvhd (mvhd_fields body)
mvhd_is place body bytes e =
    given IsMvhd place 0 _ (wide_times body >>= λ wide. mvhd_from wide (drop first_field body))
    (bind_then (λ wide. Unit {0}) IsMvhd (wide_times body) (λ wide. mvhd_from wide (drop first_field body)) (λ wide q. tt) (λ wide t m is. mvhd_fits wide (drop first_field body) (dropped first_field body bytes) m is)) e

pub mdhd_is : (place : ℕ) (body : List ℕ) → IsBytes body → fault_of (mdhd_of place body) ≡ None → IsMdhd (mdhd_fields body)
mdhd_is place body bytes e =
    given IsMdhd place 0 _ (wide_times body >>= λ wide. mdhd_from wide (drop first_field body))
    (bind_then (λ wide. Unit {0}) IsMdhd (wide_times body) (λ wide. mdhd_from wide (drop first_field body)) (λ wide q. tt) (λ wide t m is. mdhd_fits wide (drop first_field body) (dropped first_field body bytes) m is)) e

pub tkhd_is : (place : ℕ) (body : List ℕ) → IsBytes body → fault_of (tkhd_of place body) ≡ None → IsTkhd (tkhd_fields body)
tkhd_is place body bytes e =
    given IsTkhd place 0 _ (wide_times body >>= λ wide. tkhd_from (flags body) wide (drop first_field body))
    (bind_then (λ wide. Unit {0}) IsTkhd (wide_times body) (λ wide. tkhd_from (flags body) wide (drop first_field body)) (λ wide q. tt) (λ wide u t is. tkhd_fits (flags body) wide (drop first_field body) (dropped first_field body bytes) (omega arith) t is)) e
