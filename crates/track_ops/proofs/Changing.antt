-- Items of a list are changed one after another.
use Rattle.std.proofs.Common.{◌≡◌, ℕ, ◌+◌, ◌<◌, ◌≤◌, List, [], ◌∷◌, length, get_or, take, drop, map, set, refl, sym, ◌∙◌, arith}
use Rattle.std.proofs.lemmas.List.{take_more, take_more_set, drop_more, drop-set-lt, map-append, length-set, take_all}

-- the items so far are changed, the others are as they were
pub record IsChangedSoFar {A : Type 0} (f : A → A) (new old : List A) (i : ℕ) : Type 0 where
  pub front : take i new ≡ map f (take i old)
  pub rest : drop i new ≡ drop i old
  pub long : length new ≡ length old

heads_same : {A : Type 0} (new old : List A) (i : ℕ) (d : A) → i < length old → length new ≡ length old → drop i new ≡ drop i old → get_or new i d ∷ drop (i + 1) new ≡ get_or old i d ∷ drop (i + 1) old
heads_same new old i d lt len rest =
    let lt' : i < length new = omega arith in
    sym (drop_more new i d lt') ∙ (rest ∙ drop_more old i d lt)

-- what is left is as it was
pub same_item : {A : Type 0} (f : A → A) (new old : List A) (i : ℕ) (d : A) → i < length old → IsChangedSoFar f new old i → get_or new i d ≡ get_or old i d
same_item f new old i d lt so = let heads = heads_same new old i d lt so.long so.rest in cc

-- one more item is changed
pub changed_next : {A : Type 0} (f : A → A) (new old : List A) (i : ℕ) (d made : A) → i < length old → IsChangedSoFar f new old i → made ≡ f (get_or new i d) → IsChangedSoFar f (set new i made) old (i + 1)
changed_next f new old i d made lt so e =
    let lt' : i < length new = omega (arith, lt, so.long) in
    let heads = heads_same new old i d lt so.long so.rest in
    let tails : drop (i + 1) new ≡ drop (i + 1) old = cc in
    let same : get_or new i d ≡ get_or old i d = cc in
    record {
      front = rw (take_more_set new i made lt', so.front, take_more old i d lt, map-append f (take i old) (get_or old i d ∷ []), e, same) refl;
      rest = drop-set-lt (i + 1) new i made (omega arith) ∙ tails;
      long = length-set new i made ∙ so.long;
    }

-- at the end all are
pub changed_all : {A : Type 0} (f : A → A) (new old : List A) (i : ℕ) → length old ≤ i → IsChangedSoFar f new old i → new ≡ map f old
changed_all f new old i past so = rw (sym (take_all i new (omega (arith, past, so.long)))) (rw so.front (rw (take_all i old past) refl))
