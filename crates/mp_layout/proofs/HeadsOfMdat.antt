-- How long the header of `mdat` is.
use Rattle.std.proofs.Common.{◌≡◌, ℕ, ◌+◌, ◌<◌, ◌≤◌, ◌^◌, length, codes, refl, arith}
use Rattle.std.proofs.lemmas.Bool.{le-ltb, lt-ltb}
use Rattle.mp_boxes.specs.Header.{head_bytes}
use Rattle.mp_layout.specs.File.{mdat_head}

-- how long it is, and that it is the header of a box of that length and of so many bytes
pub record IsHeadLen (payload bytes : ℕ) : Type 0 where
  pub len : bytes ≡ length (mdat_head payload)
  pub head : head_bytes (codes "mdat") (bytes + payload) ≡ mdat_head payload

pub short-head : (payload : ℕ) → 8 + payload < 2 ^ 32 → IsHeadLen payload 8
unfolding mdat_head
short-head payload short = record { len = rw (lt-ltb (8 + payload) (2 ^ 32) short, lt-ltb (8 + payload) (2 ^ 32) short) refl; head = rw (lt-ltb (8 + payload) (2 ^ 32) short, lt-ltb (8 + payload) (2 ^ 32) short) refl }

pub long-head : (payload : ℕ) → 2 ^ 32 ≤ 8 + payload → IsHeadLen payload 16
unfolding mdat_head
long-head payload long =
    record { len = rw (le-ltb (8 + payload) (2 ^ 32) long, le-ltb (16 + payload) (2 ^ 32) (omega arith)) refl; head = rw (le-ltb (8 + payload) (2 ^ 32) long) refl }
