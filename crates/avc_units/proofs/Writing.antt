-- What is written is read, and what is read was written so.
use Rattle.std.proofs.Common.{◌≡◌, ℕ, zero, suc, ◌+◌, ◌<◌, ◌≤◌, ◌⊎◌, inl, inr, List, [], ◌∷◌, ◌++◌, length, take, drop, replicate, Option, Some, None, Result, refl, sym, ap, ◌∙◌, append_assoc, arith}
use Rattle.std.proofs.lemmas.List.{take_at, drop_at, take-append-drop, length-append, length-take-le, length-drop}
use Rattle.std.proofs.lemmas.Nat.Bits.{bit_at-lt}
use Rattle.avc_units.specs.declared.elements.ElementFail.{ElementFail}
use Rattle.avc_units.specs.Bits.{bits_of, number, Kind, IsCode, IsWritten}
use Rattle.avc_units.specs.Reading.{read, zeros_of}
use Rattle.avc_units.specs.Bits.Kind.{U, Ue}
use Rattle.avc_units.specs.Table.{Table, Says, walk, said}
use Rattle.avc_units.specs.Table.Table.{Done, Fail, Element}
use Rattle.avc_units.proofs.Numbers.{read_all, read_is, code_read, code_is}

abbrev AreBits : List ℕ → Type 0
AreBits [] = Unit {0}
AreBits (b ∷ bs) = (b < 2) × AreBits bs

pub bits_are : (bytes : List ℕ) → AreBits (bits_of bytes)
unfolding bits_of
bits_are [] = tt
bits_are (b ∷ bs) = (bit_at-lt b 7, (bit_at-lt b 6, (bit_at-lt b 5, (bit_at-lt b 4, (bit_at-lt b 3, (bit_at-lt b 2, (bit_at-lt b 1, (bit_at-lt b 0, bits_are bs))))))))

written_number : (front rest : List ℕ) → read (U (length front)) (front ++ rest) ≡ Some (number front, rest)
written_number front rest = read_all (length front) (length front) (number front) (front ++ rest) rest refl (omega (arith, length-append front rest)) (ap number (sym (take_at front rest (length front) refl))) (drop_at front rest (length front) refl)

zeros_front : (z : ℕ) (tail : List ℕ) → zeros_of (replicate z 0 ++ (1 ∷ tail)) ≡ z
zeros_front zero tail = refl
zeros_front (suc z) tail = ap suc (zeros_front z tail)

drop_front : (z : ℕ) (tail : List ℕ) → drop z (replicate z 0 ++ (1 ∷ tail)) ≡ 1 ∷ tail
drop_front zero tail = refl
drop_front (suc z) tail = drop_front z tail

written_code : (v : ℕ) (front rest : List ℕ) → IsCode v front → read Ue (front ++ rest) ≡ Some (v, rest)
written_code v front rest w =
    let text : front ++ rest ≡ replicate w.zeros 0 ++ (1 ∷ (w.tail ++ rest)) = ap (λ (t : List ℕ). t ++ rest) w.bits_is ∙ append_assoc (replicate w.zeros 0) (1 ∷ w.tail) rest in
    let tail : read (U w.zeros) (w.tail ++ rest) ≡ Some (number w.tail, rest) = rw (← w.tail_len) (written_number w.tail rest) in
    rw text (code_read _ (w.tail ++ rest) rest w.zeros (number w.tail) v (drop_front w.zeros (w.tail ++ rest)) (zeros_front w.zeros (w.tail ++ rest)) w.few tail w.value)

pub written : (kind : Kind) (v : ℕ) (front rest : List ℕ) → IsWritten kind v front → read kind (front ++ rest) ≡ Some (v, rest)
written (U n) v front rest w = rw (← w.0, ← w.1) (written_number front rest)
written Ue v front rest w = written_code v front rest w

zeros_split : (t : List ℕ) → t ≡ replicate (zeros_of t) 0 ++ drop (zeros_of t) t
zeros_split [] = refl
zeros_split (zero ∷ xs) = ap (λ (ys : List ℕ). 0 ∷ ys) (zeros_split xs)
zeros_split (suc x ∷ xs) = refl

one_behind : (t : List ℕ) → AreBits t → zeros_of t < length t → drop (zeros_of t) t ≡ 1 ∷ drop (zeros_of t + 1) t
one_behind [] b h = absurd (omega arith)
one_behind (zero ∷ xs) b h = let n : suc (zeros_of xs) + 1 ≡ suc (zeros_of xs + 1) = omega arith in rw n (one_behind xs b.1 (omega arith))
one_behind (suc zero ∷ xs) b h = refl
one_behind (suc (suc x) ∷ xs) b h = absurd (let k = b.0 in omega arith)

bits_behind : (n : ℕ) (t : List ℕ) → AreBits t → AreBits (drop n t)
bits_behind zero t b = b
bits_behind (suc n) [] b = tt
bits_behind (suc n) (x ∷ xs) b = bits_behind n xs b.1

record Spelled (kind : Kind) (v : ℕ) (bits rest : List ℕ) : Type 0 where
  pub front : List ℕ
  pub bits_is : bits ≡ front ++ rest
  pub one : IsWritten kind v front
  pub left : AreBits rest

spelled_number : (n v : ℕ) (bits rest : List ℕ) → AreBits bits → read (U n) bits ≡ Some (v, rest) → Spelled (U n) v bits rest
spelled_number n v bits rest b e =
    let r = read_is n v bits rest e in
    record {
      front = take n bits;
      bits_is = sym (take-append-drop n bits) ∙ ap (λ (t : List ℕ). take n bits ++ t) (sym r.rest_is);
      one = (length-take-le n bits r.long, sym r.value);
      left = rw r.rest_is (bits_behind n bits b);
    }

spelled_code : (v : ℕ) (bits rest : List ℕ) → AreBits bits → read Ue bits ≡ Some (v, rest) → Spelled Ue v bits rest
spelled_code v bits rest b e =
    let r = code_is v bits rest e in
    let z = zeros_of bits in
    let tail = take z (drop (z + 1) bits) in
    let long : z ≤ length (drop (z + 1) bits) = omega (arith, r.long, length-drop (z + 1) bits) in
    let text : bits ≡ replicate z 0 ++ (1 ∷ (tail ++ rest)) = zeros_split bits ∙ ap (λ (t : List ℕ). replicate z 0 ++ t) (one_behind bits b (omega (arith, r.long)) ∙ ap (λ (t : List ℕ). 1 ∷ t) (sym (take-append-drop z (drop (z + 1) bits)) ∙ ap (λ (t : List ℕ). tail ++ t) (sym r.rest_is))) in
    record {
      front = replicate z 0 ++ (1 ∷ tail);
      bits_is = text ∙ sym (append_assoc (replicate z 0) (1 ∷ tail) rest);
      one = record { zeros = z; tail = tail; few = r.few; tail_len = length-take-le z (drop (z + 1) bits) long; value = r.value; bits_is = refl };
      left = rw r.rest_is (bits_behind z _ (bits_behind (z + 1) bits b));
    }

spelled : (kind : Kind) (v : ℕ) (bits rest : List ℕ) → AreBits bits → read kind bits ≡ Some (v, rest) → Spelled kind v bits rest
spelled (U n) v bits rest b e = spelled_number n v bits rest b e
spelled Ue v bits rest b e = spelled_code v bits rest b e

pub cases : {A : Type 0} (o : Option A) → (o ≡ None) ⊎ ((x : A) × (o ≡ Some x))
cases None = inl refl
cases (Some x) = inr (x, refl)

-- what is said is what is read
pub says_said : {A : Type 0} (t : Table A) (bits : List ℕ) (r : Result A ElementFail) → AreBits bits → Says t bits r → r ≡ said (walk t bits)
unfolding walk
says_said (Done x) bits r b s = s
says_said (Fail fail) bits r b s = s
says_said (Element kind more) bits r b (inl s) =
    let e : read kind bits ≡ Some (s.0, s.2) = ap (read kind) s.3 ∙ written kind s.0 s.1 s.2 s.4 in
    let k = spelled kind s.0 bits s.2 b e in
    says_said (more s.0) s.2 r k.left s.5 ∙ rw e refl
says_said (Element kind more) bits r b (inr s) = elim (cases (read kind bits)) [
  | inl e ↦ s.1 ∙ rw e refl
  | inr p ↦ absurd (let k = spelled kind p.0.0 bits p.0.1 b p.1 in s.0 p.0.0 k.front p.0.1 k.bits_is k.one)
]

-- what is read is said
pub said_says : {A : Type 0} (t : Table A) (bits : List ℕ) (r : Result A ElementFail) → AreBits bits → r ≡ said (walk t bits) → Says t bits r
unfolding walk
said_says (Done x) bits r b e = e
said_says (Fail fail) bits r b e = e
said_says (Element kind more) bits r b e = elim (cases (read kind bits)) [
  | inl n ↦ inr (λ v front rest text w. none (sym n ∙ ap (read kind) text ∙ written kind v front rest w), e ∙ rw n refl)
  | inr p ↦ (let k = spelled kind p.0.0 bits p.0.1 b p.1 in inl (p.0.0, k.front, p.0.1, k.bits_is, k.one, said_says (more p.0.0) p.0.1 r k.left (e ∙ rw p.1 refl)))
]
  where
    none : {v : ℕ} {rest : List ℕ} → let o : Option (ℕ × List ℕ) = None in o ≡ Some (v, rest) → ⊥
    none h = absurd cc
