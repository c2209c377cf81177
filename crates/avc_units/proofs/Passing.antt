-- One window further.
use Rattle.std.proofs.Common.{◌≡◌, ℕ, zero, suc, ◌+◌, ◌-◌, ◌<◌, ◌≤◌, List, [], ◌∷◌, ◌++◌, length, take, drop, get_or, add-one, drop-cons, Option, Some, None, IfSome, refl, sym, ap, subst, ◌∙◌, arith, rules}
use Rattle.std.proofs.lemmas.List.{drop-take, same_lists, get_or-take, get_or-drop, places, drop_all, take-append-drop}
use Rattle.avc_units.specs.Reading.{zeros_of}
use Rattle.avc_units.specs.Scan.{unit_len}
use Rattle.avc_units.specs.Scan.{left_of, Holds, HasZeros, HasPassed, IsFirst}
use Rattle.avc_units.proofs.Scanning.{left-end}

pub drop_more : (at n : ℕ) (b : List ℕ) → drop n (drop at b) ≡ drop (at + n) b
drop_more at n b = same_lists _ _ (search (rules, places)) (λ k d q. grind (arith, places))

pub front_of : (b : List ℕ) (at n : ℕ) (piece : List ℕ) → piece ≡ take n (drop at b) → piece ++ drop (at + n) b ≡ drop at b
front_of b at n piece h = rw (h, ← drop_more at n b) (take-append-drop n (drop at b))

pub passed_on : (bytes : Option (List ℕ)) (from at n z z2 used : ℕ) (piece : List ℕ) → from ≤ at → used ≡ n → IfSome bytes (λ b. piece ≡ take n (drop at b))
    → ((rest : List ℕ) → left_of z (piece ++ rest) + z2 ≡ z + used + left_of z2 rest) → HasPassed bytes from (at - from) z → HasPassed bytes from (at + n - from) z2
passed_on None from at n z z2 used piece le u holds more h = tt
passed_on (Some b) from at n z z2 used piece le u holds more h =
    let o : left_of z (drop at b) + z2 ≡ z + used + left_of z2 (drop (at + n) b) = subst (λ (t : List ℕ). left_of z t + z2 ≡ z + used + left_of z2 (drop (at + n) b)) (front_of b at n piece holds) (more (drop (at + n) b)) in
    let f : from + (at - from) ≡ at = omega arith in
    let g : left_of 0 (drop from b) + z ≡ (at - from) + left_of z (drop at b) = subst (λ (k : ℕ). left_of 0 (drop from b) + z ≡ (at - from) + left_of z (drop k b)) f h in
    let f2 : at + n ≡ from + (at + n - from) = omega arith in
    subst (λ (k : ℕ). left_of 0 (drop from b) + z2 ≡ (at + n - from) + left_of z2 (drop k b)) f2 (omega arith)

pub passed_first : (bytes : Option (List ℕ)) (from : ℕ) → HasPassed bytes from (from - from) 0
passed_first None from = tt
passed_first (Some b) from =
    let z : from - from ≡ 0 = omega arith in
    let f : from ≡ from + (from - from) = omega arith in
    let e : unit_len (drop (from + (from - from)) b) ≡ unit_len (drop from b) = ap (λ (k : ℕ). unit_len (drop k b)) (sym f) in
    omega arith

pub held_so : (bytes : Option (List ℕ)) (from n m : ℕ) (piece : List ℕ) → m ≡ n → IfSome bytes (λ b. piece ≡ take n (drop from b)) → IfSome bytes (λ b. piece ≡ take m (drop from b))
held_so None from n m piece e h = tt
held_so (Some b) from n m piece e h = h ∙ ap (λ (k : ℕ). take k (drop from b)) (sym e)

pub passed_end : (bytes : Option (List ℕ)) (from at n z used : ℕ) (piece : List ℕ) → from ≤ at → z ≤ at - from → 2 ≤ z + used → IfSome bytes (λ b. piece ≡ take n (drop at b))
    → ((rest : List ℕ) → left_of z (piece ++ rest) + 2 ≡ z + used) → HasPassed bytes from (at - from) z → IfSome bytes (λ b. at + used - 2 ≡ from + unit_len (drop from b))
passed_end None from at n z used piece le few two holds ended h = tt
passed_end (Some b) from at n z used piece le few two holds ended h =
    let o : left_of z (drop at b) + 2 ≡ z + used = subst (λ (t : List ℕ). left_of z t + 2 ≡ z + used) (front_of b at n piece holds) (ended (drop (at + n) b)) in
    let f : from + (at - from) ≡ at = omega arith in
    let g : unit_len (drop from b) + z ≡ (at - from) + left_of z (drop at b) = subst (λ (k : ℕ). left_of 0 (drop from b) + z ≡ (at - from) + left_of z (drop k b)) f h in
    omega arith

pub passed_all : (bytes : Option (List ℕ)) (from at size z : ℕ) → from ≤ at → z ≤ 2 → z ≤ at - from → size ≤ at → IfSome bytes (λ b. size ≡ length b) → HasPassed bytes from (at - from) z
    → IfSome bytes (λ b. at - z ≡ from + unit_len (drop from b))
passed_all None from at size z le two few end told h = tt
passed_all (Some b) from at size z le two few end told h =
    let f : from + (at - from) ≡ at = omega arith in
    let g : unit_len (drop from b) + z ≡ (at - from) + left_of z (drop at b) = subst (λ (k : ℕ). left_of 0 (drop from b) + z ≡ (at - from) + left_of z (drop k b)) f h in
    let none : drop at b ≡ [] = drop_all at b (omega arith) in
    let e : left_of z (drop at b) ≡ 0 = rw none (left-end z two) in
    omega arith

zeros_all : (xs ys : List ℕ) → zeros_of xs ≡ length xs → zeros_of (xs ++ ys) ≡ length xs + zeros_of ys
zeros_all [] ys h = omega arith
zeros_all (zero ∷ xs) ys h = let k : zeros_of xs ≡ length xs = omega arith in let r = zeros_all xs ys k in omega arith
zeros_all (suc x ∷ xs) ys h = absurd (omega arith)

pub zeros_some : (xs ys : List ℕ) → zeros_of xs < length xs → zeros_of (xs ++ ys) ≡ zeros_of xs
zeros_some [] ys h = absurd (omega arith)
zeros_some (zero ∷ xs) ys h = ap suc (zeros_some xs ys (omega arith))
zeros_some (suc x ∷ xs) ys h = refl

pub zeros_on : (bytes : Option (List ℕ)) (from at n : ℕ) (piece : List ℕ) → from ≤ at → length piece ≡ n → IfSome bytes (λ b. piece ≡ take n (drop at b)) → zeros_of piece ≡ n
    → HasZeros bytes from (at - from) → HasZeros bytes from (at + n - from)
zeros_on None from at n piece le l holds z h = tt
zeros_on (Some b) from at n piece le l holds z h =
    let o : zeros_of (drop at b) ≡ length piece + zeros_of (drop (at + n) b) = subst (λ (t : List ℕ). zeros_of t ≡ length piece + zeros_of (drop (at + n) b)) (front_of b at n piece holds) (zeros_all piece (drop (at + n) b) (z ∙ sym l)) in
    let f : from + (at - from) ≡ at = omega arith in
    let g : zeros_of (drop from b) ≡ (at - from) + zeros_of (drop at b) = subst (λ (k : ℕ). zeros_of (drop from b) ≡ (at - from) + zeros_of (drop k b)) f h in
    let f2 : at + n ≡ from + (at + n - from) = omega arith in
    subst (λ (k : ℕ). zeros_of (drop from b) ≡ (at + n - from) + zeros_of (drop k b)) f2 (omega arith)

-- what stands behind an index
behind : (window text : List ℕ) (n k : ℕ) → k ≤ n → take n window ≡ take n text → take (n - k) (drop k window) ≡ take (n - k) (drop k text)
behind window text n k le e =
    let whole : n ≡ k + (n - k) = omega arith in
    sym (drop-take k (n - k) window) ∙ ap (λ (m : ℕ). drop k (take m window)) (sym whole) ∙ ap (drop k) e ∙ ap (λ (m : ℕ). drop k (take m text)) whole ∙ drop-take k (n - k) text

-- of what is held, what stands behind a place
pub kept_behind : (bytes : Option (List ℕ)) (place n from : ℕ) (window : List ℕ) → place ≤ from → from ≤ place + n → Holds bytes place n window → Holds bytes from (n - (from - place)) (drop (from - place) window)
kept_behind None place n from window low high holds = tt
kept_behind (Some b) place n from window low high holds =
    behind window (drop place b) n (from - place) (omega arith) holds ∙ ap (take (n - (from - place))) (drop_more place (from - place) b ∙ ap (λ (k : ℕ). drop k b) (omega arith))

pub kept_at : (bytes : Option (List ℕ)) (place n start at : ℕ) (window : List ℕ) → start < n → place + start ≡ at → Holds bytes place n window → IfSome bytes (λ b. take (n - start) (drop start window) ≡ take (n - start) (drop at b))
kept_at None place n start at window low e holds = tt
kept_at (Some b) place n start at window low e holds =
    behind window (drop place b) n start (omega arith) holds ∙ ap (take (n - start)) (drop_more place start b ∙ ap (λ (k : ℕ). drop k b) e)

pub first_found : (bytes : Option (List ℕ)) (from at n z byte : ℕ) (piece : List ℕ) → from ≤ at → length piece ≡ n → IfSome bytes (λ b. piece ≡ take n (drop at b)) → IfSome bytes (λ b. at + n ≤ length b)
    → z ≡ zeros_of piece → z < n → byte ≡ get_or piece z 0 → HasZeros bytes from (at - from)
    → IfSome bytes (λ b. IsFirst b from (Some (record { byte = byte; place = at + z })))
first_found None from at n z byte piece le l holds inside is few x h = tt
first_found (Some b) from at n z byte piece le l holds inside is few x h =
    let o : zeros_of (drop at b) ≡ z = subst (λ (t : List ℕ). zeros_of t ≡ z) (front_of b at n piece holds) (zeros_some piece (drop (at + n) b) (omega arith) ∙ sym is) in
    let f : from + (at - from) ≡ at = omega arith in
    let g : zeros_of (drop from b) ≡ (at - from) + zeros_of (drop at b) = subst (λ (k : ℕ). zeros_of (drop from b) ≡ (at - from) + zeros_of (drop k b)) f h in
    let low : at + z < length b = omega arith in
    let here : get_or b (at + z) 0 ≡ byte = sym (get_or-drop at b z 0) ∙ sym (get_or-take n (drop at b) z 0 few) ∙ ap (λ (t : List ℕ). get_or t z 0) (sym holds) ∙ sym x in
    (omega arith, rw (add-one, drop-cons b (at + z) 0, here) refl)

pub first_none : (bytes : Option (List ℕ)) (from at size : ℕ) → from ≤ at → size ≤ at → IfSome bytes (λ b. size ≡ length b) → HasZeros bytes from (at - from) → IfSome bytes (λ b. IsFirst b from None)
first_none None from at size le end told h = tt
first_none (Some b) from at size le end told h =
    let f : from + (at - from) ≡ at = omega arith in
    let g : zeros_of (drop from b) ≡ (at - from) + zeros_of (drop at b) = subst (λ (k : ℕ). zeros_of (drop from b) ≡ (at - from) + zeros_of (drop k b)) f h in
    drop_all (from + zeros_of (drop from b)) b (omega arith)

pub told_inside : (bytes : Option (List ℕ)) (size end : ℕ) → end ≤ size → IfSome bytes (λ b. size ≡ length b) → IfSome bytes (λ b. end ≤ length b)
told_inside None size end le told = tt
told_inside (Some b) size end le told = omega arith

zeros-le : (xs : List ℕ) → zeros_of xs ≤ length xs
zeros-le [] = omega arith
zeros-le (zero ∷ xs) = let h = zeros-le xs in omega arith
zeros-le (suc x ∷ xs) = omega arith

pub zeros_few : (piece : List ℕ) (n z : ℕ) → length piece ≡ n → z ≡ zeros_of piece → n ≤ z → zeros_of piece ≡ n
zeros_few piece n z l e le = let h = zeros-le piece in omega arith
