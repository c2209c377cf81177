-- Boxes in containers: their lengths, each as a number of 64 bits, and what is left to push behind the container's header.
use Rattle.std.proofs.Common.{◌≡◌, ℕ, ◌+◌, Bool, List, [], ◌∷◌, ◌++◌, length, map, Option, Some, None, refl, ap, subst, sym, ◌∙◌, append-nil, append_assoc, arith}
use Rattle.std.specs.declared.alloc.Global.{Global}
use Rattle.std.specs.declared.vec.Vec.{Vec}
use Rattle.std.specs.Prelude.{sum}
use Rattle.std.specs.List.{flat_map}
use Rattle.std.proofs.lemmas.List.{length-append}
use Rattle.mp_boxes.specs.declared.field.Field.{Field}
use Rattle.mp_boxes.specs.Field.{Part, body_bytes, box_bytes, boxes_bytes, leaf, optional, raw}
use Rattle.mp_boxes.specs.Push.{IsBegunWithRows, IsLeft, IsPushed, IsPushing}
use Rattle.mp_boxes.specs.Table.{BoxesHaveLengths, HasLen, boxes_len, capped, with_rows}
use Rattle.mp_chunks.specs.declared.push.ChunkHead.{ChunkHead}
use Rattle.mp_chunks.specs.Written.{unplaced}
use Rattle.mp_movie.specs.Placed.{PlacedTrack}
use Rattle.mp_layout.specs.Tables.{Placing}
use Rattle.mp_layout.specs.Moov.{with_user_data}
use Rattle.mp_layout.specs.Written.{IsAnywhere, IsPlaced}

-- ---- lengths

pub three-lens : (a b c : Part) (m n o : ℕ) → HasLen m a → HasLen n b → HasLen o c → capped (sum (m ∷ n ∷ o ∷ [])) ≡ capped (boxes_len (a ∷ b ∷ c ∷ []))
three-lens a b c m n o e1 e2 e3 = omega (arith, e1, e2, e3)

-- the seven tables, of which two stand only where they say something
pub table-lens : (a b : Part) (c d : Option Part) (e f g : Part) (m n o p q r s : ℕ) → HasLen m a → HasLen n b → o ≡ capped (boxes_len (optional c)) → p ≡ capped (boxes_len (optional d))
    → HasLen q e → HasLen r f → HasLen s g → capped (sum (m ∷ n ∷ o ∷ p ∷ q ∷ r ∷ s ∷ [])) ≡ capped (boxes_len (a ∷ b ∷ optional c ++ optional d ++ e ∷ f ∷ g ∷ []))
table-lens a b None None e f g m n o p q r s e1 e2 e3 e4 e5 e6 e7 = omega (arith, e1, e2, e3, e4, e5, e6, e7)
table-lens a b (Some c) None e f g m n o p q r s e1 e2 e3 e4 e5 e6 e7 = omega (arith, e1, e2, e3, e4, e5, e6, e7)
table-lens a b None (Some d) e f g m n o p q r s e1 e2 e3 e4 e5 e6 e7 = omega (arith, e1, e2, e3, e4, e5, e6, e7)
table-lens a b (Some c) (Some d) e f g m n o p q r s e1 e2 e3 e4 e5 e6 e7 = omega (arith, e1, e2, e3, e4, e5, e6, e7)

-- boxes and the user data behind them
pub track-lens : (a : Part) (b : Option Part) (c : Part) (m n o u : ℕ) → HasLen m a → n ≡ capped (boxes_len (optional b)) → HasLen o c
    → capped (sum (m ∷ n ∷ o ∷ u ∷ [])) ≡ capped (boxes_len (a ∷ optional b ++ c ∷ []) + u)
track-lens a None c m n o u e1 e2 e3 = omega (arith, e1, e2, e3)
track-lens a (Some b) c m n o u e1 e2 e3 = omega (arith, e1, e2, e3)

pub movie-lens : (a b : Part) (m n u : ℕ) → HasLen m a → HasLen n b → capped (sum (m ∷ n ∷ u ∷ [])) ≡ capped (boxes_len (a ∷ b ∷ []) + u)
movie-lens a b m n u e1 e2 = omega (arith, e1, e2)

pub user-data-len : BoxesHaveLengths → (kind : List ℕ) (parts : List Part) (udta : List ℕ) (len behind : ℕ) → length kind ≡ 4 → behind ≡ capped (boxes_len parts + length udta) → len ≡ capped (8 + behind)
    → HasLen len (with_user_data kind parts udta)
user-data-len law kind parts udta len behind four e1 e2 = omega (arith, four, e1, e2, law.all parts, length-append (boxes_bytes parts) udta)

-- ---- user data behind boxes

-- boxes and the user data as rows of one field each
abbrev rows_behind : List Part → List ℕ → List (List Field)
rows_behind [] udta = (raw udta ∷ []) ∷ []
rows_behind (part ∷ parts) udta = (raw (box_bytes part) ∷ []) ∷ rows_behind parts udta

rows_body : (parts : List Part) (udta : List ℕ) → body_bytes (flat_map (λ (row : List Field). row) (rows_behind parts udta)) ≡ boxes_bytes parts ++ udta
unfolding boxes_bytes
rows_body [] udta = append-nil udta
rows_body (part ∷ parts) udta = ap (λ (rest : List ℕ). box_bytes part ++ rest) (rows_body parts udta) ∙ sym (append_assoc (box_bytes part) (boxes_bytes parts) udta)

rows_pieces : (parts : List Part) (udta : List ℕ) → map body_bytes (rows_behind parts udta) ≡ map box_bytes parts ++ udta ∷ []
rows_pieces [] udta = ap (λ (b : List ℕ). b ∷ []) (append-nil udta)
rows_pieces (part ∷ parts) udta = rw (append-nil (box_bytes part), rows_pieces parts udta) refl

-- where the header of such a box is pushed, the boxes and the user data are left
pub user-data-left : (old new : Vec ℕ Global) (kind : List ℕ) (len : ℕ) → ((rows : List (List Field)) → HasLen len (leaf kind (with_rows [] rows)) → IsBegunWithRows old new kind [] rows) → (parts : List Part) (udta : List ℕ)
    → HasLen len (with_user_data kind parts udta) → IsLeft old new (box_bytes (with_user_data kind parts udta) ∷ []) (map box_bytes parts ++ udta ∷ [])
user-data-left old new kind len begun parts udta has rest all p =
    let boxed : List ℕ → Part = λ body. record { kind = kind; body = body } in
    let body = rows_body parts udta in
    subst (λ (left : List (List ℕ)). IsPushing new (left ++ rest) all) (rows_pieces parts udta)
    (begun (rows_behind parts udta) (subst (λ (b : List ℕ). HasLen len (boxed b)) (sym body) has) rest all (subst (λ (b : List ℕ). IsPushing old (box_bytes (boxed b) ∷ rest) all) (sym body) p))

-- ---- what is left, piece by piece

pub tables-left : (a b : Part) (c d : Option Part) (e f g : Part) (rest : List (List ℕ))
    → map box_bytes (a ∷ b ∷ optional c ++ optional d ++ e ∷ f ∷ g ∷ []) ++ rest ≡ box_bytes a ∷ box_bytes b ∷ (map box_bytes (optional c) ++ (map box_bytes (optional d) ++ (box_bytes e ∷ box_bytes f ∷ box_bytes g ∷ rest)))
tables-left a b None None e f g rest = refl
tables-left a b (Some c) None e f g rest = refl
tables-left a b None (Some d) e f g rest = refl
tables-left a b (Some c) (Some d) e f g rest = refl

pub track-left : (a : Part) (b : Option Part) (c : Part) (u : List ℕ) (rest : List (List ℕ))
    → (map box_bytes (a ∷ optional b ++ c ∷ []) ++ u ∷ []) ++ rest ≡ box_bytes a ∷ (map box_bytes (optional b) ++ (box_bytes c ∷ u ∷ rest))
track-left a None c u rest = refl
track-left a (Some b) c u rest = refl

-- a box that is pushed is pushed in other words
pub same-box : (old new : Vec ℕ Global) (one other : Part) → one ≡ other → IsPushed old new (box_bytes one) → IsPushed old new (box_bytes other)
same-box old new one other e pushed rest all p = pushed rest all (subst (λ (part : Part). IsPushing old (box_bytes part ∷ rest) all) (sym e) p)

-- chunks that stand where they do stand anywhere
pub somewhere : {files : List (List ℕ)} {track : PlacedTrack} {chunks : List ChunkHead} {wide : Bool} {placing : Placing} → IsPlaced files track chunks wide placing → IsAnywhere files track chunks wide placing
somewhere at = record { held = at.held; heads = ap (map unplaced) at.heads; same_wide = at.same_wide }

-- the length of a box in other words
pub same-len : (len : ℕ) (one other : Part) → one ≡ other → HasLen len one → HasLen len other
same-len len one other e is = subst (λ (part : Part). HasLen len part) e is
