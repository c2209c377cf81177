-- A field that was written is read, and what is behind it is left.
use Rattle.std.proofs.Common.{◌≡◌, ℕ, ◌^◌, ◌<◌, Bool, true, false, ltb, List, [], ◌++◌, length, Ok, refl, arith}
use Rattle.std.specs.Int.{w16, w32, w64, to_be_bytes}
use Rattle.std.proofs.lemmas.Bool.{le-ltb}
use Rattle.std.proofs.lemmas.List.{take_at, drop_at, length-append}
use Rattle.mp_boxes.specs.Field.{field_bytes, time}
use Rattle.mp_boxes.specs.Reading.{next_bytes, next_u16, next_u32, next_u64, next_time, FitsTime}
use Rattle.mp_boxes.proofs.NumbersAreRead.{u16_at-written, u32_at-written, u64_at-written}

pub bytes-next : (count : ℕ) (text rest : List ℕ) → length text ≡ count → next_bytes count (text ++ rest) ≡ Ok (text, rest)
unfolding next_bytes
bytes-next count text rest len =
    let enough : ltb (length (text ++ rest)) count ≡ false = le-ltb _ _ (omega (arith, length-append text rest)) in
    rw (enough, take_at text rest count len, drop_at text rest count len) refl

pub two-next : (n : ℕ) (rest : List ℕ) → n < 2 ^ 16 → next_u16 (to_be_bytes w16 n ++ rest) ≡ Ok (n, rest)
unfolding next_u16
two-next n rest lt = rw (bytes-next 2 (to_be_bytes w16 n) rest refl, u16_at-written n [] lt) refl

pub four-next : (n : ℕ) (rest : List ℕ) → n < 2 ^ 32 → next_u32 (to_be_bytes w32 n ++ rest) ≡ Ok (n, rest)
unfolding next_u32
four-next n rest lt = rw (bytes-next 4 (to_be_bytes w32 n) rest refl, u32_at-written n [] lt) refl

eight-next : (n : ℕ) (rest : List ℕ) → n < 2 ^ 64 → next_u64 (to_be_bytes w64 n ++ rest) ≡ Ok (n, rest)
unfolding next_u64
eight-next n rest lt = rw (bytes-next 8 (to_be_bytes w64 n) rest refl, u64_at-written n [] lt) refl

pub time-next : (wide : Bool) (ticks : ℕ) (rest : List ℕ) → FitsTime wide ticks → next_time wide (field_bytes (time wide ticks) ++ rest) ≡ Ok (ticks, rest)
unfolding next_time
time-next true ticks rest fits = eight-next ticks rest fits
time-next false ticks rest fits = four-next ticks rest fits
