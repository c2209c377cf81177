-- Segments are changed one after another.
use Rattle.std.proofs.Common.{◌≡◌, ℕ, ◌+◌, ◌<◌, List, [], ◌∷◌, length, get_or, take, drop, map, set, refl, sym, ◌∙◌, arith}
use Rattle.std.proofs.lemmas.List.{take_more, take_more_set, drop_more, drop-set-lt, map-append}
use Rattle.mp_timeline.specs.declared.segment.Segment.{Segment}

heads_same : (new old : List Segment) (i : ℕ) (d : Segment) → i < length old → length new ≡ length old → drop i new ≡ drop i old → get_or new i d ∷ drop (i + 1) new ≡ get_or old i d ∷ drop (i + 1) old
heads_same new old i d lt len rest =
    let lt' : i < length new = omega arith in
    sym (drop_more new i d lt') ∙ (rest ∙ drop_more old i d lt)

-- what is left is as it was
pub same_segment : (new old : List Segment) (i : ℕ) (d : Segment) → i < length old → length new ≡ length old → drop i new ≡ drop i old → get_or new i d ≡ get_or old i d
same_segment new old i d lt len rest = let heads = heads_same new old i d lt len rest in cc

-- one more segment is changed
pub front_next : (f : Segment → Segment) (new old : List Segment) (i : ℕ) (d made : Segment) → i < length old → length new ≡ length old → made ≡ f (get_or old i d)
    → take i new ≡ map f (take i old) → take (i + 1) (set new i made) ≡ map f (take (i + 1) old)
front_next f new old i d made lt len e front =
    let lt' : i < length new = omega arith in
    rw (take_more_set new i made lt', front, take_more old i d lt, map-append f (take i old) (get_or old i d ∷ []), e) refl

pub rest_next : (new old : List Segment) (i : ℕ) (d made : Segment) → i < length old → length new ≡ length old → drop i new ≡ drop i old → drop (i + 1) (set new i made) ≡ drop (i + 1) old
rest_next new old i d made lt len rest =
    let heads = heads_same new old i d lt len rest in
    let tails : drop (i + 1) new ≡ drop (i + 1) old = cc in
    drop-set-lt (i + 1) new i made (omega arith) ∙ tails
