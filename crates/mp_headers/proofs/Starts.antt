-- The version, the flags and the times of a header that is written are read.
use Rattle.std.proofs.Common.{◌≡◌, ℕ, ◌+◌, ◌<◌, ◌^◌, Bool, true, false, ltb, ◌||◌, List, ◌++◌, length, Ok, Result, refl, arith}
use Rattle.std.specs.Prelude.{if◌then◌else◌}
use Rattle.std.proofs.lemmas.Bool.{or_parts, le-ltb, ltb-false}
use Rattle.std.proofs.lemmas.Nat.{from_be_bytes-to_be_bytes_4}
use Rattle.mp_ports.specs.declared.code.Code.{Code}
use Rattle.mp_ports.specs.Checks.{◌>>=◌}
use Rattle.mp_boxes.specs.Number.{u32_at}
use Rattle.mp_boxes.specs.Field.{field_bytes, version_and_flags}
use Rattle.mp_boxes.specs.FullBox.{flags, version}
use Rattle.mp_boxes.specs.Reading.{FitsTime}
use Rattle.mp_headers.specs.Times.{wide_times}
use Rattle.mp_headers.specs.Version.{is_wide, last_narrow}

-- a value that is read is handed on
pub handed_on : {A B : Type 0} (first : Result A Code) (value : A) (next : A → Result B Code) (whole : Result B Code) → first ≡ Ok value → next value ≡ whole → (first >>= next) ≡ whole
handed_on first value next whole e g = rw e g

-- ---- version and flags

start : Bool → ℕ → List ℕ → List ℕ
start wide bits rest = field_bytes (version_and_flags wide bits) ++ rest

number-is : (wide : Bool) (bits : ℕ) (rest : List ℕ) → bits < 2 ^ 24 → u32_at (start wide bits rest) 0 ≡ (if wide then 2 ^ 24 else 0) + bits
unfolding u32_at start
number-is true bits rest lt = from_be_bytes-to_be_bytes_4 (2 ^ 24 + bits) (omega arith)
number-is false bits rest lt = from_be_bytes-to_be_bytes_4 (0 + bits) (omega arith)

pub flags-are : (wide : Bool) (bits : ℕ) (rest : List ℕ) → bits < 2 ^ 24 → flags (field_bytes (version_and_flags wide bits) ++ rest) ≡ bits
unfolding start
flags-are true bits rest lt = rw (number-is true bits rest lt) (omega arith)
flags-are false bits rest lt = rw (number-is false bits rest lt) (omega arith)

version-is : (wide : Bool) (bits : ℕ) (rest : List ℕ) → bits < 2 ^ 24 → version (start wide bits rest) ≡ (if wide then 1 else 0)
version-is true bits rest lt = rw (number-is true bits rest lt) (omega arith)
version-is false bits rest lt = rw (number-is false bits rest lt) (omega arith)

long : (wide : Bool) (bits : ℕ) (rest : List ℕ) → ltb (length (start wide bits rest)) 4 ≡ false
unfolding start
long wide bits rest = le-ltb _ _ (omega arith)

width-is : (wide : Bool) (bits : ℕ) (rest : List ℕ) → bits < 2 ^ 24 → wide_times (start wide bits rest) ≡ Ok wide
width-is true bits rest lt = rw (long true bits rest, version-is true bits rest lt) refl
width-is false bits rest lt = rw (long false bits rest, version-is false bits rest lt) refl

pub width-read : (wide : Bool) (bits : ℕ) (rest : List ℕ) → bits < 2 ^ 24 → wide_times (field_bytes (version_and_flags wide bits) ++ rest) ≡ Ok wide
unfolding start
width-read wide bits rest lt = width-is wide bits rest lt

-- ---- times

-- the times of a header fit its version
pub record FitTimes (wide : Bool) (created modified duration : ℕ) : Type 0 where
  pub first : FitsTime wide created
  pub second : FitsTime wide modified
  pub third : FitsTime wide duration

pub fit_times : (c m d : ℕ) → c < 2 ^ 64 → m < 2 ^ 64 → d < 2 ^ 64 → FitTimes (is_wide c m d) c m d
fit_times c m d hc hm hd = by (is_wide c m d) refl
  where
    by : (wide : Bool) → is_wide c m d ≡ wide → FitTimes wide c m d
    by true e = record { first = hc; second = hm; third = hd }
    by false e =
        let p = or_parts (ltb last_narrow c) (ltb last_narrow m || ltb last_narrow d) e in
        let q = or_parts (ltb last_narrow m) (ltb last_narrow d) p.1 in
        record { first = omega (arith, ltb-false _ _ p.0); second = omega (arith, ltb-false _ _ q.0); third = omega (arith, ltb-false _ _ q.1) }
