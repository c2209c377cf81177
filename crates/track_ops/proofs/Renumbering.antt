-- Tracks get numbers, one after another.
use Rattle.std.proofs.Common.{◌≡◌, ℕ, ◌+◌, ◌<◌, ◌≤◌, List, [], ◌∷◌, ◌++◌, length, get_or, take, drop, set, refl, sym, ap, ◌∙◌, arith}
use Rattle.std.proofs.lemmas.List.{take_more, take_more_set, drop_more, drop-set-lt, length-set, take_all, length-take-le}
use Rattle.mp_movie.specs.Placed.{PlacedTrack}
use Rattle.track_ops.specs.Kept.{kept_renumbered}

pub record IsNumberedSoFar (numbers : List ℕ) (new old : List PlacedTrack) (i : ℕ) : Type 0 where
  pub front : take i new ≡ kept_renumbered (take i numbers) (take i old)
  pub rest : drop i new ≡ drop i old
  pub long : length new ≡ length old

one_behind : (numbers : List ℕ) (tracks : List PlacedTrack) (number : ℕ) (track : PlacedTrack) → length numbers ≡ length tracks
    → kept_renumbered (numbers ++ number ∷ []) (tracks ++ track ∷ []) ≡ kept_renumbered numbers tracks ++ record track { number = number } ∷ []
one_behind [] [] number track same = refl
one_behind [] (t ∷ tracks) number track same = absurd (omega (arith, same))
one_behind (n ∷ numbers) [] number track same = absurd (omega (arith, same))
one_behind (n ∷ numbers) (t ∷ tracks) number track same = ap (λ (ts : List PlacedTrack). record t { number = n } ∷ ts) (one_behind numbers tracks number track (omega (arith, same)))

pub numbered_next : (numbers : List ℕ) (new old : List PlacedTrack) (i n : ℕ) (d made : PlacedTrack) → length numbers ≡ length old → i < length old → IsNumberedSoFar numbers new old i → n ≡ get_or numbers i n
    → made ≡ record (get_or new i d) { number = n } → IsNumberedSoFar numbers (set new i made) old (i + 1)
numbered_next numbers new old i n d made many lt so is e =
    let lt' : i < length new = omega (arith, lt, so.long) in
    let lt_n : i < length numbers = omega (arith, lt, many) in
    let heads : get_or new i d ∷ drop (i + 1) new ≡ get_or old i d ∷ drop (i + 1) old = sym (drop_more new i d lt') ∙ (so.rest ∙ drop_more old i d lt) in
    let tails : drop (i + 1) new ≡ drop (i + 1) old = cc in
    let same : get_or new i d ≡ get_or old i d = cc in
    let long : length (take i numbers) ≡ length (take i old) = length-take-le i numbers (omega (arith, lt_n)) ∙ sym (length-take-le i old (omega (arith, lt))) in
    record {
      front =
          take_more_set new i made lt'
          ∙ (ap (λ (ts : List PlacedTrack). ts ++ made ∷ []) so.front
          ∙ rw (take_more numbers i n lt_n, take_more old i d lt, one_behind (take i numbers) (take i old) (get_or numbers i n) (get_or old i d) long, e, same, sym is) refl);
      rest = drop-set-lt (i + 1) new i made (omega arith) ∙ tails;
      long = length-set new i made ∙ so.long;
    }

pub numbered_all : (numbers : List ℕ) (new old : List PlacedTrack) (i : ℕ) → length numbers ≡ length old → length old ≤ i → IsNumberedSoFar numbers new old i → new ≡ kept_renumbered numbers old
numbered_all numbers new old i many past so =
    sym (take_all i new (omega (arith, past, so.long))) ∙ (so.front ∙ rw (take_all i numbers (omega (arith, past, many)), take_all i old past) refl)
