-- A walk through two tables is one through the first, and then one through the second.
use Rattle.std.proofs.Common.{◌≡◌, ℕ, List, Option, Some, None, refl, Ok, Err}
use Rattle.avc_units.specs.declared.elements.ElementFail.{ElementFail}
use Rattle.avc_units.specs.Reading.{read}
use Rattle.avc_units.specs.Bits.{Kind}
use Rattle.avc_units.specs.Table.{Table, ◌>>=◌, walk, and_then, after}
use Rattle.avc_units.specs.Table.Table.{Done, Fail, Element}
use Rattle.avc_units.proofs.Numbers.{number_shorter, code_shorter}

pub walk_done : {A : Type 0} (x : A) (bits : List ℕ) → walk (Done x) bits ≡ Ok (x, bits)
unfolding walk
walk_done x bits = refl

pub walk_fail : {A : Type 0} (fail : ElementFail) (bits : List ℕ) → walk {A = A} (Fail fail) bits ≡ Err fail
unfolding walk
walk_fail fail bits = refl

pub walk_bind : {A B : Type 0} (t : Table A) (f : A → Table B) (bits : List ℕ) → walk (t >>= f) bits ≡ and_then (walk t bits) (λ x rest. walk (f x) rest)
unfolding walk ◌>>=◌
walk_bind (Done x) f bits = refl
walk_bind (Fail fail) f bits = refl
walk_bind (Element kind more) f bits = go (read kind bits) (λ v rest. walk_bind (more v) f rest)
  where
    go : (o : Option (ℕ × List ℕ)) → ((v : ℕ) (rest : List ℕ) → walk (more v >>= f) rest ≡ and_then (walk (more v) rest) (λ x r. walk (f x) r))
        → after o (λ v rest. walk (more v >>= f) rest) ≡ and_then (after o (λ v rest. walk (more v) rest)) (λ x r. walk (f x) r)
    go None h = refl
    go (Some p) h = h p.0 p.1

pub walk_element : {A : Type 0} (kind : Kind) (more : ℕ → Table A) (bits : List ℕ) → walk (Element kind more) bits ≡ after (read kind bits) (λ v rest. walk (more v) rest)
unfolding walk
walk_element kind more bits = refl

-- a walk, table by table, and how many bits it leaves
pub ruleset walking = (walk_bind, walk_element, walk_done, walk_fail, number_shorter, code_shorter)
