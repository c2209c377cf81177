-- What is left to be pushed is cut into pieces, and pushed one after another.
use Rattle.std.proofs.Common.{◌≡◌, ℕ, ◌+◌, ◌^◌, ◌<◌, ◌≤◌, List, [], ◌∷◌, ◌++◌, length, map, drop, get_or, refl, sym, ap, ◌∙◌, append_assoc, arith}
use Rattle.std.specs.List.{flat_map}
use Rattle.std.specs.Int.{w32, w64, to_be_bytes}
use Rattle.std.specs.declared.alloc.Global.{Global}
use Rattle.std.specs.declared.vec.Vec.{Vec}
use Rattle.std.proofs.lemmas.List.{append-nil, drop_all, drop_more, length-append}
use Rattle.std.proofs.lemmas.Grind.{flat_map-append}
use Rattle.mp_boxes.specs.declared.field.Field.{Field}
use Rattle.mp_boxes.specs.declared.field.Field.TheVariants.{U32, U64}
use Rattle.mp_boxes.specs.Field.{Part, body_bytes, box_bytes, boxes_bytes, field_bytes, raw}
use Rattle.mp_boxes.specs.Header.{head_bytes}
use Rattle.mp_boxes.specs.Push.{HasRoom, IsLeft, IsPushed, IsPushing, joined}
use Rattle.mp_boxes.specs.Table.{box_len, capped}
use Rattle.mp_boxes.proofs.HeadsAreWritten.{head_bytes-short, head_bytes-long}
use Rattle.mp_boxes.proofs.Lengths.{box_bytes-len}

-- the same text in other pieces
pub left_as : (now : Vec ℕ Global) (before after : List (List ℕ)) (all : List ℕ) → joined before ≡ joined after → IsPushing now before all → IsPushing now after all
left_as now before after all same p =
    let room = p.room in
    let short = p.short in
    record {
      items = ap (λ (text : List ℕ). now.items ++ text) (sym same) ∙ p.items;
      room = omega (arith, ap length same);
      short = omega (arith, ap length same);
    }

-- the next field of those that are left
pub next_field : (fields : List Field) (i : ℕ) (other : Field) (rest : List (List ℕ)) → i < length fields
    → joined (body_bytes (drop i fields) ∷ rest) ≡ joined (field_bytes (get_or fields i other) ∷ body_bytes (drop (i + 1) fields) ∷ rest)
next_field fields i other rest lt =
    ap (λ (left : List Field). body_bytes left ++ joined rest) (drop_more fields i other lt) ∙ append_assoc (field_bytes (get_or fields i other)) (body_bytes (drop (i + 1) fields)) (joined rest)

-- boxes, and rows, as pieces
pub boxes_joined : (parts : List Part) → joined (map box_bytes parts) ≡ boxes_bytes parts
unfolding boxes_bytes
boxes_joined [] = refl
boxes_joined (part ∷ parts) = ap (λ (text : List ℕ). box_bytes part ++ text) (boxes_joined parts)

pub rows_joined : (rows : List (List Field)) → body_bytes (flat_map (λ row. row) rows) ≡ joined (map body_bytes rows)
rows_joined [] = refl
rows_joined (row ∷ rows) = flat_map-append field_bytes row (flat_map (λ r. r) rows) ∙ ap (λ (text : List ℕ). body_bytes row ++ text) (rows_joined rows)

-- a box that is left is left as its header, its first bytes and the pieces behind them
box_cut : (kind front : List ℕ) (len : ℕ) (body : List ℕ) (after rest : List (List ℕ)) → body ≡ front ++ joined after → len ≡ 8 + length body → len < 2 ^ 32
    → joined (box_bytes (record { kind = kind; body = body }) ∷ rest) ≡ joined (head_bytes kind len ∷ front ∷ (after ++ rest))
unfolding box_bytes
box_cut kind front len body after rest is whole short =
    let head : head_bytes kind len ≡ to_be_bytes w32 (8 + length body) ++ kind = head_bytes-short kind len short ∙ ap (λ (n : ℕ). to_be_bytes w32 n ++ kind) whole in
    let size = to_be_bytes w32 (8 + length body) ++ kind in
    append_assoc size body (joined rest)
    ∙ (ap (λ (text : List ℕ). size ++ text) (ap (λ (text : List ℕ). text ++ joined rest) is ∙ (append_assoc front (joined after) (joined rest) ∙ ap (λ (text : List ℕ). front ++ text) (sym (flat_map-append (λ (piece : List ℕ). piece) after rest))))
    ∙ ap (λ (text : List ℕ). text ++ (front ++ joined (after ++ rest))) (sym head))

-- the front of a box is pushed: its header, and its first bytes
pub box_begun : (old mid new : Vec ℕ Global) (kind front body : List ℕ) (len : ℕ) (after : List (List ℕ)) → body ≡ front ++ joined after → length kind ≡ 4 → len ≡ capped (box_len (record { kind = kind; body = body }))
    → IsPushed old mid (head_bytes kind len) → IsPushed mid new front → IsLeft old new (box_bytes (record { kind = kind; body = body }) ∷ []) after
box_begun old mid new kind front body len after is four said first second rest all p =
    let part : Part = record { kind = kind; body = body } in
    let short = p.short in
    let whole : len ≡ 8 + length body = omega (arith, length-append (box_bytes part) (joined rest), box_bytes-len part) in
    let fits : len < 2 ^ 32 = omega (arith, length-append (box_bytes part) (joined rest), box_bytes-len part) in
    second (after ++ rest) all (first (front ∷ (after ++ rest)) all (left_as old (box_bytes part ∷ rest) (head_bytes kind len ∷ front ∷ (after ++ rest)) all (box_cut kind front len body after rest is whole fits) p))

-- the same text in other words
pub pushed_as : (old new : Vec ℕ Global) (text other : List ℕ) → text ≡ other → IsPushed old new text → IsPushed old new other
pushed_as old new text other same pushed rest all p = pushed rest all (left_as old (other ∷ rest) (text ∷ rest) all (ap (λ (front : List ℕ). front ++ joined rest) (sym same)) p)

-- the two spellings of a header are fields
pub short_fields : (kind : List ℕ) (len : ℕ) → len < 2 ^ 32 → body_bytes (U32 len ∷ raw kind ∷ []) ≡ head_bytes kind len
short_fields kind len short = ap (λ (text : List ℕ). to_be_bytes w32 len ++ text) (append-nil kind) ∙ sym (head_bytes-short kind len short)

pub long_fields : (kind : List ℕ) (len : ℕ) → (len < 2 ^ 32 → ⊥) → body_bytes (U32 1 ∷ raw kind ∷ U64 len ∷ []) ≡ head_bytes kind len
long_fields kind len long =
    ap (λ (text : List ℕ). to_be_bytes w32 1 ++ (kind ++ text)) (append-nil (to_be_bytes w64 len)) ∙ (sym (append_assoc (to_be_bytes w32 1) kind (to_be_bytes w64 len)) ∙ sym (head_bytes-long kind len long))

-- no field is left
pub none_left : (fields : List Field) (i : ℕ) (rest : List (List ℕ)) → length fields ≤ i → joined (body_bytes (drop i fields) ∷ rest) ≡ joined rest
none_left fields i rest le = ap (λ (left : List Field). body_bytes left ++ joined rest) (drop_all i fields le)

-- where there is room for a text, it can be pushed
pub reserved : (old new : Vec ℕ Global) (text : List ℕ) (more : ℕ) → new.items ≡ old.items → HasRoom new more → more < 2 ^ 32 → length text ≡ more → IsPushing new (text ∷ []) (old.items ++ text)
reserved old new text more same room short long = record {
  items = ap (λ (front : List ℕ). front ++ (text ++ [])) same ∙ ap (λ (back : List ℕ). old.items ++ back) (append-nil text);
  room = omega (arith, ap length (append-nil text));
  short = omega (arith, ap length (append-nil text));
}
