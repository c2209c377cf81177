-- Texts that are written one behind another.
use Rattle.std.proofs.Common.{◌≡◌, ℕ, ◌+◌, ◌<◌, List, ◌∷◌, ◌++◌, length, drop, get_or, sym, ap, ◌∙◌, append_assoc}
use Rattle.std.proofs.lemmas.List.{at_drop_more}

-- the second behind the first
pub behind : (old a b first rest : List ℕ) → a ≡ old ++ first → b ≡ a ++ rest → b ≡ old ++ (first ++ rest)
behind old a b first rest e f = f ∙ (ap (λ (t : List ℕ). t ++ rest) e ∙ append_assoc old first rest)

-- what is written and what is left are all, with one item more
pub one_more : {X : Type 0} (F : ℕ → List X → List ℕ) (text : List ℕ) (xs : List X) (i : ℕ) (d : X) (written new whole : List ℕ) → i < length xs
    → ((rest : List X) → F i (get_or xs i d ∷ rest) ≡ text ++ F (i + 1) rest) → new ≡ written ++ text
    → written ++ F i (drop i xs) ≡ whole → new ++ F (i + 1) (drop (i + 1) xs) ≡ whole
one_more F text xs i d written new whole lt first e before =
    ap (λ (t : List ℕ). t ++ F (i + 1) (drop (i + 1) xs)) e
    ∙ (append_assoc written text (F (i + 1) (drop (i + 1) xs))
    ∙ (ap (λ (t : List ℕ). written ++ t) (sym (at_drop_more (F i) xs i d lt ∙ first (drop (i + 1) xs))) ∙ before))
