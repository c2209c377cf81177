-- The header that is written, where its size fits 32 bits and where it takes 64.
use Rattle.std.proofs.Common.{◌≡◌, ℕ, ◌^◌, ◌<◌, List, ◌++◌, refl, arith}
use Rattle.std.specs.Int.{w32, w64, to_be_bytes}
use Rattle.std.proofs.lemmas.Bool.{le-ltb, lt-ltb}
use Rattle.mp_boxes.specs.Header.{head_bytes}

pub head_bytes-short : (kind : List ℕ) (len : ℕ) → len < 2 ^ 32 → head_bytes kind len ≡ to_be_bytes w32 len ++ kind
head_bytes-short kind len h = rw (lt-ltb len (2 ^ 32) h) refl

pub head_bytes-long : (kind : List ℕ) (len : ℕ) → (len < 2 ^ 32 → ⊥) → head_bytes kind len ≡ to_be_bytes w32 1 ++ kind ++ to_be_bytes w64 len
head_bytes-long kind len h = rw (le-ltb len (2 ^ 32) (omega arith)) refl
