-- Text that is pushed behind what a vector holds, piece by piece, into room that was taken before.
use Rattle.std.specs.Prelude.{◌≡◌, ℕ, ◌+◌, ◌^◌, ◌<◌, ◌≤◌, Bool, List, [], ◌∷◌, ◌++◌, length, map, vec_len, vec_capacity}
use Rattle.std.specs.List.{flat_map}
use Rattle.std.specs.declared.alloc.Global.{Global}
use Rattle.std.specs.declared.vec.Vec.{Vec}
use Rattle.mp_boxes.specs.declared.field.Field.{Field}
use Rattle.mp_boxes.specs.Field.{Part, body_bytes, box_bytes, leaf}
use Rattle.mp_boxes.specs.Table.{box_len, mixed, table_fields, with_rows}

-- pieces of text, one behind the other
abbrev pub joined : List (List ℕ) → List ℕ
joined pieces = flat_map (λ piece. piece) pieces

-- there is room for so many bytes more
abbrev pub HasRoom : Vec ℕ Global → ℕ → Type 0
HasRoom out more = vec_len out + more ≤ vec_capacity out

-- with the pieces that are left the vector will hold `all`: they have room there, and are fewer than 2^32 bytes
pub record IsPushing (now : Vec ℕ Global) (left : List (List ℕ)) (all : List ℕ) : Type 0 where
  pub items : now.items ++ joined left ≡ all
  pub room : HasRoom now (length (joined left))
  pub short : length (joined left) < 2 ^ 32

-- what is left may be cut into other pieces of the same text
abbrev pub PiecesMayBeCut : Type 0
PiecesMayBeCut = (now : Vec ℕ Global) (before after : List (List ℕ)) (all : List ℕ) → joined before ≡ joined after → IsPushing now before all → IsPushing now after all

-- where these pieces were left in front of others, those are left in their place now
abbrev pub IsLeft : Vec ℕ Global → Vec ℕ Global → List (List ℕ) → List (List ℕ) → Type 0
IsLeft old new before after = (rest : List (List ℕ)) (all : List ℕ) → IsPushing old (before ++ rest) all → IsPushing new (after ++ rest) all

-- the text was left, and is pushed
abbrev pub IsPushed : Vec ℕ Global → Vec ℕ Global → List ℕ → Type 0
IsPushed old new text = IsLeft old new (text ∷ []) []

-- the texts were left, and are pushed
abbrev pub ArePushed : Vec ℕ Global → Vec ℕ Global → List (List ℕ) → Type 0
ArePushed old new texts = IsLeft old new texts []

-- memory is taken for so many bytes: a text of that length can be pushed behind what was there
abbrev pub IsReserved : Vec ℕ Global → Vec ℕ Global → ℕ → Type 0
IsReserved old new more = (text : List ℕ) → length text ≡ more → IsPushing new (text ∷ []) (old.items ++ text)

-- and so can a box of that length
abbrev pub IsReservedForBox : Vec ℕ Global → Vec ℕ Global → ℕ → Type 0
IsReservedForBox old new more = (part : Part) → box_len part ≡ more → IsPushing new (box_bytes part ∷ []) (old.items ++ box_bytes part)

-- the box was left, its header and these fields are pushed, and the boxes behind them are left
abbrev pub IsBegun : Vec ℕ Global → Vec ℕ Global → List ℕ → List Field → List Part → Type 0
IsBegun old new kind fields parts = IsLeft old new (box_bytes (mixed kind fields parts) ∷ []) (map box_bytes parts)

-- the same where rows of fields are behind them
abbrev pub IsBegunWithRows : Vec ℕ Global → Vec ℕ Global → List ℕ → List Field → List (List Field) → Type 0
IsBegunWithRows old new kind fields rows = IsLeft old new (box_bytes (leaf kind (with_rows fields rows)) ∷ []) (map body_bytes rows)

-- the table was left, and its rows are left
abbrev pub IsTableBegun : Vec ℕ Global → Vec ℕ Global → List ℕ → Bool → List (List Field) → Type 0
IsTableBegun old new kind wide rows = IsLeft old new (box_bytes (leaf kind (table_fields wide rows)) ∷ []) (map body_bytes rows)
