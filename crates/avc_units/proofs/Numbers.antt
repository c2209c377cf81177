-- One bit more.
use Rattle.std.proofs.Common.{◌≡◌, ℕ, zero, suc, ◌+◌, ◌-◌, ◌*◌, ◌^◌, ◌<◌, ◌≤◌, List, [], ◌∷◌, length, take, drop, get_or, Bool, true, false, ◌||◌, nat_lt, Option, Some, None, refl, sym, ap, ◌∙◌, add-one, arith, rules, inl, inr}
use Rattle.std.proofs.lemmas.List.{take_all, length-take-le}
use Rattle.std.proofs.Math.Pow.{pow_mono}
use Rattle.std.proofs.lemmas.Bool.{cases_Bool, lt-ltb, le-ltb, ltb-false, cases_lt}
use Rattle.std.proofs.lemmas.List.{length-drop, same_lists, places}
use Rattle.std.specs.Int.{bit_at}
use Rattle.avc_units.specs.Bits.{bits_of, number}
use Rattle.avc_units.specs.Reading.{read, zeros_of}
use Rattle.avc_units.specs.Bits.Kind.{U, Ue}

pub bit_last : (bytes : List ℕ) (k x : ℕ) → 0 < length bytes → k ≡ 7 → x ≡ bit_at (get_or bytes 0 0) (7 - k) → drop k (bits_of bytes) ≡ x ∷ bits_of (take (length bytes - 1) (drop 1 bytes))
unfolding bits_of
bit_last [] k x some e v = absurd (omega arith)
bit_last (b ∷ bs) k x some e v = let t : take (length (b ∷ bs) - 1) bs ≡ bs = take_all _ bs (omega arith) in rw (v, e, t) refl

pub bit_inside : (bytes : List ℕ) (k x : ℕ) → 0 < length bytes → k < 7 → x ≡ bit_at (get_or bytes 0 0) (7 - k) → drop k (bits_of bytes) ≡ x ∷ drop (k + 1) (bits_of bytes)
unfolding bits_of
bit_inside [] k x some e v = absurd (omega arith)
bit_inside (b ∷ bs) zero x some e v = rw v refl
bit_inside (b ∷ bs) (suc zero) x some e v = rw v refl
bit_inside (b ∷ bs) (suc (suc zero)) x some e v = rw v refl
bit_inside (b ∷ bs) (suc (suc (suc zero))) x some e v = rw v refl
bit_inside (b ∷ bs) (suc (suc (suc (suc zero)))) x some e v = rw v refl
bit_inside (b ∷ bs) (suc (suc (suc (suc (suc zero))))) x some e v = rw v refl
bit_inside (b ∷ bs) (suc (suc (suc (suc (suc (suc zero)))))) x some e v = rw v refl
bit_inside (b ∷ bs) (suc (suc (suc (suc (suc (suc (suc k))))))) x some e v = absurd (omega arith)

pub bit_none : (bytes : List ℕ) (k : ℕ) → length bytes ≡ 0 → drop k (bits_of bytes) ≡ []
unfolding bits_of
bit_none [] zero e = refl
bit_none [] (suc k) e = refl
bit_none (b ∷ bs) k e = absurd (omega arith)

pub power_next : (n : ℕ) → 2 ^ (n + 1) ≡ 2 ^ n * 2
power_next n = rw (add-one n) (omega arith)

pub number-next : (xs : List ℕ) (i b : ℕ) (rest : List ℕ) → drop i xs ≡ b ∷ rest → (number (take (i + 1) xs) ≡ number (take i xs) * 2 + b) × (drop (i + 1) xs ≡ rest) × (i + 1 ≤ length xs)
unfolding number
number-next [] zero b rest e = absurd cc
number-next [] (suc i) b rest e = absurd cc
number-next (x ∷ xs) zero b rest e = let h : x ≡ b = cc in let t : xs ≡ rest = cc in (omega arith, t, omega arith)
number-next (x ∷ xs) (suc i) b rest e =
    let r = number-next xs i b rest e in
    let one : suc i + 1 ≡ suc (i + 1) = omega arith in
    let long : length (take (i + 1) xs) ≡ i + 1 = length-take-le (i + 1) xs r.2 in
    let short : length (take i xs) ≡ i = length-take-le i xs (omega (arith, r.2)) in
    let p = power_next i in
    (rw (one, long, short, r.0, p) (omega arith), rw one r.1, omega (arith, r.2))

pub read_short : (n : ℕ) (bits : List ℕ) → length bits < n → read (U n) bits ≡ None
unfolding read
read_short n bits h = rw (lt-ltb (length bits) n h) refl

pub read_long : (n : ℕ) (bits : List ℕ) → n ≤ length bits → read (U n) bits ≡ Some (number (take n bits), drop n bits)
unfolding read
read_long n bits h = rw (le-ltb (length bits) n h) refl

-- where a place has no bit, so many bits are not there
pub no_more : (i : ℕ) (bits rest : List ℕ) → drop i bits ≡ rest → rest ≡ [] → length bits ≤ i
no_more i bits rest e n = let h : length (drop i bits) ≡ 0 = ap length (e ∙ n) in omega (arith, length-drop i bits)

pub doubled : (i value b : ℕ) → value < 2 ^ i → b < 2 → value * 2 + b < 2 ^ (i + 1)
doubled i value b h s = let p = power_next i in rw p (omega arith)

pub read_all : (n i v : ℕ) (bits rest : List ℕ) → i ≡ n → i ≤ length bits → v ≡ number (take i bits) → drop i bits ≡ rest → read (U n) bits ≡ Some (v, rest)
read_all n i v bits rest e le w d = rw (← e, w, ← d) (read_long i bits le)

pub record IsRead (n v : ℕ) (bits rest : List ℕ) : Type 0 where
  pub long : n ≤ length bits
  pub value : v ≡ number (take n bits)
  pub rest_is : rest ≡ drop n bits

record IsPair (a : ℕ) (xs : List ℕ) (b : ℕ) (ys : List ℕ) : Type 0 where
  pub first : a ≡ b
  pub second : xs ≡ ys

same_pair : {a b : ℕ} {xs ys : List ℕ} → let p : Option (ℕ × List ℕ) = Some (a, xs) in p ≡ Some (b, ys) → IsPair a xs b ys
same_pair {a} {b} {xs} {ys} h = record { first = ap first_of h; second = ap second_of h }
  where
    first_of : Option (ℕ × List ℕ) → ℕ
    first_of None = 0
    first_of (Some p) = p.0

    second_of : Option (ℕ × List ℕ) → List ℕ
    second_of None = []
    second_of (Some p) = p.1

pub read_is : (n v : ℕ) (bits rest : List ℕ) → read (U n) bits ≡ Some (v, rest) → IsRead n v bits rest
read_is n v bits rest e = elim (cases_lt (length bits) n) [
  | inl lt ↦ none (sym (read_short n bits lt) ∙ e)
  | inr le ↦ some le (sym (read_long n bits le) ∙ e)
]
  where
    none : let f : Option (ℕ × List ℕ) = None in f ≡ Some (v, rest) → IsRead n v bits rest
    none h = absurd cc

    some : n ≤ length bits → let p : Option (ℕ × List ℕ) = Some (number (take n bits), drop n bits) in p ≡ Some (v, rest) → IsRead n v bits rest
    some le h = let q : IsPair (number (take n bits)) (drop n bits) v rest = same_pair h in record { long = le; value = sym q.first; rest_is = sym q.second }

pub read_none : (n : ℕ) (bits : List ℕ) → read (U n) bits ≡ None → length bits < n
read_none n bits e = elim (cases_lt (length bits) n) [
  | inl lt ↦ lt
  | inr le ↦ some (sym (read_long n bits le) ∙ e)
]
  where
    some : let f : Option (ℕ × List ℕ) = Some (number (take n bits), drop n bits) in f ≡ None → length bits < n
    some h = absurd cc

pub further : (at n : ℕ) (b : List ℕ) → drop n (drop at b) ≡ drop (at + n) b
further at n b = same_lists _ _ (search (rules, places)) (λ k d q. grind (arith, places))

-- ---- codes

pub code_read : (bits more rest : List ℕ) (z t v : ℕ) → drop z bits ≡ 1 ∷ more → zeros_of bits ≡ z → z ≤ 31 → read (U z) more ≡ Some (t, rest) → v ≡ 2 ^ z - 1 + t → read Ue bits ≡ Some (v, rest)
unfolding read
code_read bits more rest z t v d e few h w =
    let r = read_is z t more rest h in
    let len : length bits ≡ z + 1 + length more = let l : length (drop z bits) ≡ suc (length more) = ap length d in omega (arith, length-drop z bits) in
    let behind : drop (z + 1) bits ≡ more = sym (further z 1 bits) ∙ ap (drop 1) d in
    let behind_all : drop (z + 1 + z) bits ≡ drop z more = sym (further (z + 1) z bits) ∙ ap (drop z) behind in
    rw (e, le-ltb 31 z few, le-ltb (length bits) (z + 1 + z) (omega (arith, r.long)), behind, behind_all, w, r.value, r.rest_is) refl

pub code_long : (bits : List ℕ) → 31 < zeros_of bits → read Ue bits ≡ None
unfolding read
code_long bits h = rw (lt-ltb 31 (zeros_of bits) h) refl

or_true : (a : Bool) → (a || true) ≡ true
or_true true = refl
or_true false = refl

pub code_short : (bits : List ℕ) → length bits < zeros_of bits + 1 + zeros_of bits → read Ue bits ≡ None
unfolding read
code_short bits h = rw (lt-ltb (length bits) (zeros_of bits + 1 + zeros_of bits) h, or_true (nat_lt 31 (zeros_of bits))) refl

zeros_one : (bits more : List ℕ) (z : ℕ) → zeros_of bits ≡ z + zeros_of (1 ∷ more) → zeros_of bits ≡ z
zeros_one bits more z e = omega arith

-- a bit behind z zeros
pub zero_more : (bits ahead more : List ℕ) (z b : ℕ) → drop z bits ≡ ahead → zeros_of bits ≡ z + zeros_of ahead → ahead ≡ b ∷ more → b < 2 → (b ≡ 1 → ⊥) → (drop (z + 1) bits ≡ more) × (zeros_of bits ≡ z + 1 + zeros_of more)
zero_more bits ahead more z zero d e h s n = (sym (further z 1 bits) ∙ ap (drop 1) (d ∙ h), let k : zeros_of bits ≡ z + zeros_of (0 ∷ more) = e ∙ ap (λ (t : List ℕ). z + zeros_of t) h in omega arith)
zero_more bits ahead more z (suc zero) d e h s n = absurd (n refl)
zero_more bits ahead more z (suc (suc b)) d e h s n = absurd (omega arith)

pub one_more : (bits ahead more : List ℕ) (z b : ℕ) → drop z bits ≡ ahead → zeros_of bits ≡ z + zeros_of ahead → ahead ≡ b ∷ more → b ≡ 1 → (drop z bits ≡ 1 ∷ more) × (zeros_of bits ≡ z)
one_more bits ahead more z b d e h one =
    let a : ahead ≡ 1 ∷ more = h ∙ ap (λ (x : ℕ). x ∷ more) one in
    (d ∙ a, zeros_one bits more z (e ∙ ap (λ (t : List ℕ). z + zeros_of t) a))

-- a code whose last bits aren't there
pub code_cut : (bits more : List ℕ) (z : ℕ) → drop z bits ≡ 1 ∷ more → zeros_of bits ≡ z → length more < z → read Ue bits ≡ None
code_cut bits more z d e short = code_short bits (let l : length (drop z bits) ≡ suc (length more) = ap length d in omega (arith, length-drop z bits))

-- zeros up to the end are no code
pub code_zeros : (bits ahead : List ℕ) (z : ℕ) → drop z bits ≡ ahead → zeros_of bits ≡ z + zeros_of ahead → ahead ≡ [] → read Ue bits ≡ None
code_zeros bits ahead z d e none =
    let long : length bits ≤ z = no_more z bits ahead d none in
    code_short bits (omega arith)

pub pow-small : (z : ℕ) → z ≤ 31 → 2 ^ z ≤ 2147483648
pow-small z h = pow_mono h

-- ---- what is left is shorter

pub number_shorter : (n v : ℕ) (bits rest : List ℕ) → read (U n) bits ≡ Some (v, rest) → length rest ≤ length bits
number_shorter n v bits rest e = let r = read_is n v bits rest e in omega (arith, ap length r.rest_is, length-drop n bits)

pub record IsCodeRead (v : ℕ) (bits rest : List ℕ) : Type 0 where
  pub few : zeros_of bits ≤ 31
  pub long : zeros_of bits + 1 + zeros_of bits ≤ length bits
  pub value : v ≡ 2 ^ zeros_of bits - 1 + number (take (zeros_of bits) (drop (zeros_of bits + 1) bits))
  pub rest_is : rest ≡ drop (zeros_of bits) (drop (zeros_of bits + 1) bits)

pub code_is : (v : ℕ) (bits rest : List ℕ) → read Ue bits ≡ Some (v, rest) → IsCodeRead v bits rest
unfolding read
code_is v bits rest e = elim (cases_Bool (nat_lt 31 (zeros_of bits) || nat_lt (length bits) (zeros_of bits + 1 + zeros_of bits))) [
  | inl y ↦ none (rw y at e)
  | inr n ↦ some (neither (nat_lt 31 (zeros_of bits)) (nat_lt (length bits) (zeros_of bits + 1 + zeros_of bits)) n) (rw n at e)
]
  where
    none : let f : Option (ℕ × List ℕ) = None in f ≡ Some (v, rest) → IsCodeRead v bits rest
    none h = absurd cc

    neither : (a b : Bool) → (a || b) ≡ false → (a ≡ false) × (b ≡ false)
    neither true b h = absurd cc
    neither false b h = (refl, h)

    some : (nat_lt 31 (zeros_of bits) ≡ false) × (nat_lt (length bits) (zeros_of bits + 1 + zeros_of bits) ≡ false)
        → let p : Option (ℕ × List ℕ) = Some (2 ^ zeros_of bits - 1 + number (take (zeros_of bits) (drop (zeros_of bits + 1) bits)), drop (zeros_of bits + 1 + zeros_of bits) bits) in p ≡ Some (v, rest) → IsCodeRead v bits rest
    some le h = let q = same_pair h in record {
      few = ltb-false 31 (zeros_of bits) le.0;
      long = ltb-false (length bits) (zeros_of bits + 1 + zeros_of bits) le.1;
      value = sym q.first;
      rest_is = sym q.second ∙ sym (further (zeros_of bits + 1) (zeros_of bits) bits);
    }

pub code_shorter : (v : ℕ) (bits rest : List ℕ) → read Ue bits ≡ Some (v, rest) → length rest < length bits
code_shorter v bits rest e =
    let r = code_is v bits rest e in
    omega (arith, ap length r.rest_is, length-drop (zeros_of bits) (drop (zeros_of bits + 1) bits), length-drop (zeros_of bits + 1) bits, r.long)
