-- Rows are pushed one behind the other.
use Rattle.std.proofs.Common.{◌≡◌, ℕ, ◌++◌, List, [], ◌∷◌, subst}
use Rattle.std.specs.declared.alloc.Global.{Global}
use Rattle.std.specs.declared.vec.Vec.{Vec}
use Rattle.mp_boxes.specs.Push.{ArePushed, IsLeft, IsPushed, IsPushing}

-- one piece more
pub more_pushed : (start now next : Vec ℕ Global) (whole left rest : List (List ℕ)) (piece : List ℕ) → IsLeft start now whole left → left ≡ piece ∷ rest → IsPushed now next piece → IsLeft start next whole rest
more_pushed start now next whole left rest piece so_far is pushed = λ others all pushing.
    pushed (rest ++ others) all (subst (λ (pieces : List (List ℕ)). IsPushing now (pieces ++ others) all) is (so_far others all pushing))

pub all_pushed : (start now : Vec ℕ Global) (whole left : List (List ℕ)) → IsLeft start now whole left → left ≡ [] → ArePushed start now whole
all_pushed start now whole left so_far none = λ others all pushing. subst (λ (pieces : List (List ℕ)). IsPushing now (pieces ++ others) all) none (so_far others all pushing)

-- a box that is begun, and its rows
pub rows_pushed : (old mid new : Vec ℕ Global) (box : List ℕ) (rows : List (List ℕ)) → IsLeft old mid (box ∷ []) rows → ArePushed mid new rows → IsPushed old new box
rows_pushed old mid new box rows begun pushed = λ others all pushing. pushed others all (begun others all pushing)
