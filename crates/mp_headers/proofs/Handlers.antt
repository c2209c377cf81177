-- A handler and a name that are written are read.
use Rattle.std.proofs.Common.{◌≡◌, ◌≢◌, ℕ, ◌≤◌, Bool, true, false, List, [], ◌∷◌, length, ltb, Ok, refl, arith}
use Rattle.std.specs.Prelude.{codes}
use Rattle.std.specs.Str.{bytes_eq}
use Rattle.std.proofs.lemmas.Bool.{le-ltb}
use Rattle.std.proofs.lemmas.List.{append-nil}
use Rattle.std.proofs.lemmas.Slice.Eq.{bytes_eq-Decides}
use Rattle.mp_boxes.specs.Number.{kind_at}
use Rattle.mp_headers.specs.Handler.{handler_of, hdlr, hdlr_of, name_of, name_place, IsHandler}

-- different bytes aren't equal by test
differ : (xs ys : List ℕ) → xs ≢ ys → bytes_eq xs ys ≡ false
differ xs ys other = by (bytes_eq xs ys) refl
  where
    by : (b : Bool) → bytes_eq xs ys ≡ b → bytes_eq xs ys ≡ false
    by true e = absurd (other ((bytes_eq-Decides xs ys).0 e))
    by false e = e

handler-read : (handler name : List ℕ) → length handler ≡ 4 → handler_of (hdlr handler name).body ≡ handler
unfolding kind_at
handler-read (a ∷ b ∷ c ∷ d ∷ []) name e = refl
handler-read [] name e = absurd cc
handler-read (a ∷ []) name e = absurd cc
handler-read (a ∷ b ∷ []) name e = absurd cc
handler-read (a ∷ b ∷ c ∷ []) name e = absurd cc
handler-read (a ∷ b ∷ c ∷ d ∷ x ∷ xs) name e = absurd cc

pub name-read : (handler name : List ℕ) → length handler ≡ 4 → name_of (hdlr handler name).body ≡ name
name-read (a ∷ b ∷ c ∷ d ∷ []) name e = append-nil name
name-read [] name e = absurd cc
name-read (a ∷ []) name e = absurd cc
name-read (a ∷ b ∷ []) name e = absurd cc
name-read (a ∷ b ∷ c ∷ []) name e = absurd cc
name-read (a ∷ b ∷ c ∷ d ∷ x ∷ xs) name e = absurd cc

long : (handler name : List ℕ) → length handler ≡ 4 → name_place ≤ length (hdlr handler name).body
long (a ∷ b ∷ c ∷ d ∷ []) name e = omega arith
long [] name e = absurd cc
long (a ∷ []) name e = absurd cc
long (a ∷ b ∷ []) name e = absurd cc
long (a ∷ b ∷ c ∷ []) name e = absurd cc
long (a ∷ b ∷ c ∷ d ∷ x ∷ xs) name e = absurd cc

pub hdlr-read : (name handler : List ℕ) (base : ℕ) → IsHandler handler → hdlr_of base (hdlr handler name).body ≡ Ok handler
hdlr-read name handler base h =
    let enough : ltb (length (hdlr handler name).body) name_place ≡ false = le-ltb _ _ (long handler name h.four) in
    rw (enough, handler-read handler name h.four, differ handler (codes "hint") h.not_hint) refl
