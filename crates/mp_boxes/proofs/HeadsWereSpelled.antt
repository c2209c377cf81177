-- A head that is read was spelled so.
use Rattle.std.proofs.Common.{◌≡◌, ℕ, zero, suc, ◌+◌, ◌-◌, ◌^◌, ◌<◌, ◌≤◌, Bool, true, false, not, ◌&&◌, cond, ltb, eqb, List, [], ◌∷◌, ◌++◌, length, get_or, take, drop, Option, Some, None, Result, Ok, refl, sym, ap, subst, ◌∙◌, arith, inl, inr, rules}
use Rattle.std.specs.Prelude.{codes}
use Rattle.std.specs.Str.{bytes_eq}
use Rattle.std.specs.Int.{w32, w64, to_be_bytes}
use Rattle.std.proofs.lemmas.Bool.{cases_eq, ltb-false, ne_eqb, not-false}
use Rattle.std.proofs.lemmas.List.{take-append-drop, length-take, length-drop, drop_more, same_lists, places, drop_all}
use Rattle.std.proofs.lemmas.Nat.{be_bytes_4, be_bytes_8}
use Rattle.mp_ports.specs.declared.code.Code.{Code}
use Rattle.mp_ports.specs.declared.code.Code.TheVariants.{BoxCut, BoxSize}
use Rattle.mp_ports.specs.Checks.{unless}
use Rattle.mp_boxes.specs.declared.head.TopHead.{TopHead}
use Rattle.mp_boxes.specs.Number.{u32_at, u64_at, kind_at}
use Rattle.mp_boxes.specs.Header.{Short, Long, Open, IsHeader}
use Rattle.mp_boxes.specs.Head.{header_len, box_size, head_from, head_at}
use Rattle.mp_boxes.specs.Boxes.{IsBytes}

guard : {A : Type 0} (b : Bool) (d : Code) (r : Option Code) (x y : A) → unless (cond b (Some d) r) x ≡ Ok y → (b ≡ false) × (unless r x ≡ Ok y)
guard true d r x y e = absurd cc
guard false d r x y e = (refl, e)

done : {A : Type 0} (x y : A) → let f : A → Result A Code = λ v. Ok v in f x ≡ f y → x ≡ y
done x y e = cc

-- the tests that a head passed
pub record Passed (top : Bool) (front : List ℕ) (rest : ℕ) (h : TopHead) : Type 0 where
  pub kind : h.kind ≡ kind_at front 4
  pub head : h.head ≡ header_len front
  pub len : h.len ≡ box_size front rest
  pub not_open : ((eqb (u32_at front 0) 0) && not top) ≡ false
  pub eight : 8 ≤ rest
  pub head_in : h.head ≤ h.len
  pub len_in : h.len ≤ rest

head_from-passed : (top : Bool) (front : List ℕ) (rest : ℕ) (h : TopHead) → head_from top front rest ≡ Ok h → Passed top front rest h
head_from-passed top front rest h e =
    let head = header_len front in
    let len = box_size front rest in
    let made : TopHead = record { kind = kind_at front 4; head = head; len = len } in
    let r4 : Option Code = cond (ltb rest len) (Some BoxCut) None in
    let r3 : Option Code = cond (ltb len head) (Some BoxSize) r4 in
    let r2 : Option Code = cond ((eqb (u32_at front 0) 0) && not top) (Some BoxSize) r3 in
    let r1 : Option Code = cond (ltb rest head) (Some BoxCut) r2 in
    let g0 = guard (ltb rest 8) BoxCut r1 made h e in
    let g1 = guard (ltb rest head) BoxCut r2 made h g0.1 in
    let g2 = guard ((eqb (u32_at front 0) 0) && not top) BoxSize r3 made h g1.1 in
    let g3 = guard (ltb len head) BoxSize r4 made h g2.1 in
    let g4 = guard (ltb rest len) BoxCut None made h g3.1 in
    let is : made ≡ h = done made h g4.1 in
    subst (λ (x : TopHead). Passed top front rest x) is (record {
      kind = refl;
      head = refl;
      len = refl;
      not_open = g2.0;
      eight = ltb-false _ _ g0.0;
      head_in = ltb-false _ _ g3.0;
      len_in = ltb-false _ _ g4.0;
    })

-- four bytes at a place
four_at : (xs : List ℕ) (at : ℕ) → at + 4 ≤ length xs → drop at xs ≡ (get_or xs at 0 ∷ get_or xs (at + 1) 0 ∷ get_or xs (at + 2) 0 ∷ get_or xs (at + 3) 0 ∷ []) ++ drop (at + 4) xs
four_at xs at h = grind (arith, drop_more)

-- eight bytes at a place
eight_at : (xs : List ℕ) (at : ℕ) → at + 8 ≤ length xs
    → drop at xs ≡ (get_or xs at 0 ∷ get_or xs (at + 1) 0 ∷ get_or xs (at + 2) 0 ∷ get_or xs (at + 3) 0 ∷ get_or xs (at + 4) 0 ∷ get_or xs (at + 5) 0 ∷ get_or xs (at + 6) 0 ∷ get_or xs (at + 7) 0 ∷ []) ++ drop (at + 8) xs
eight_at xs at h = grind (arith, drop_more)

each4 : (a b c d : ℕ) → a < 256 → b < 256 → c < 256 → d < 256 → IsBytes (a ∷ b ∷ c ∷ d ∷ [])
each4 a b c d p q r s zero = p
each4 a b c d p q r s (suc zero) = q
each4 a b c d p q r s (suc (suc zero)) = r
each4 a b c d p q r s (suc (suc (suc zero))) = s
each4 a b c d p q r s (suc (suc (suc (suc i)))) = omega arith

each8 : (a b c d e f g h : ℕ) → a < 256 → b < 256 → c < 256 → d < 256 → e < 256 → f < 256 → g < 256 → h < 256 → IsBytes (a ∷ b ∷ c ∷ d ∷ e ∷ f ∷ g ∷ h ∷ [])
each8 a b c d e f g h p q r s t u v w zero = p
each8 a b c d e f g h p q r s t u v w (suc zero) = q
each8 a b c d e f g h p q r s t u v w (suc (suc zero)) = r
each8 a b c d e f g h p q r s t u v w (suc (suc (suc zero))) = s
each8 a b c d e f g h p q r s t u v w (suc (suc (suc (suc i)))) = each4 e f g h t u v w i

u32_at-spelled : (xs : List ℕ) (at : ℕ) → IsBytes xs → at + 4 ≤ length xs → drop at xs ≡ to_be_bytes w32 (u32_at xs at) ++ drop (at + 4) xs
unfolding u32_at
u32_at-spelled xs at b h =
    let bs : List ℕ = get_or xs at 0 ∷ get_or xs (at + 1) 0 ∷ get_or xs (at + 2) 0 ∷ get_or xs (at + 3) 0 ∷ [] in
    four_at xs at h ∙ ap (λ (x : List ℕ). x ++ drop (at + 4) xs) (sym (be_bytes_4 bs (u32_at xs at) refl (each4 _ _ _ _ (b at) (b (at + 1)) (b (at + 2)) (b (at + 3))) refl))

u64_at-spelled : (xs : List ℕ) (at : ℕ) → IsBytes xs → at + 8 ≤ length xs → drop at xs ≡ to_be_bytes w64 (u64_at xs at) ++ drop (at + 8) xs
unfolding u64_at
u64_at-spelled xs at b h =
    let bs : List ℕ = get_or xs at 0 ∷ get_or xs (at + 1) 0 ∷ get_or xs (at + 2) 0 ∷ get_or xs (at + 3) 0 ∷ get_or xs (at + 4) 0 ∷ get_or xs (at + 5) 0 ∷ get_or xs (at + 6) 0 ∷ get_or xs (at + 7) 0 ∷ [] in
    eight_at xs at h ∙ ap (λ (x : List ℕ). x ++ drop (at + 8) xs) (sym (be_bytes_8 bs (u64_at xs at) refl (each8 _ _ _ _ _ _ _ _ (b at) (b (at + 1)) (b (at + 2)) (b (at + 3)) (b (at + 4)) (b (at + 5)) (b (at + 6)) (b (at + 7))) refl))

kind_at-spelled : (xs : List ℕ) (at : ℕ) → at + 4 ≤ length xs → drop at xs ≡ kind_at xs at ++ drop (at + 4) xs
unfolding kind_at
kind_at-spelled xs at h = four_at xs at h

kind_at-len : (xs : List ℕ) (at : ℕ) → length (kind_at xs at) ≡ 4
unfolding kind_at
kind_at-len xs at = refl

u32_at-below : (xs : List ℕ) (at : ℕ) → IsBytes xs → u32_at xs at < 2 ^ 32
unfolding u32_at
u32_at-below xs at b = omega (arith, b at, b (at + 1), b (at + 2), b (at + 3))

u64_at-below : (xs : List ℕ) (at : ℕ) → IsBytes xs → u64_at xs at < 2 ^ 64
unfolding u64_at
u64_at-below xs at b = omega (arith, b at, b (at + 1), b (at + 2), b (at + 3), b (at + 4), b (at + 5), b (at + 6), b (at + 7))

-- what was read: a header, a body of the length that it says, and what follows
pub record Reads (top : Bool) (text : List ℕ) (h : TopHead) : Type 0 where
  pub text_is : text ≡ take h.head text ++ (drop h.head (take h.len text) ++ drop h.len text)
  pub header_len : length (take h.head text) ≡ h.head
  pub whole_len : length (take h.head text) + length (drop h.head (take h.len text)) ≡ h.len
  pub inside : h.len ≤ length text
  pub spelled : IsHeader top h.kind (length (drop h.head (take h.len text))) (drop h.len text) (take h.head text)

front_of : (a k d text : List ℕ) (m head : ℕ) → text ≡ a ++ (k ++ d) → head ≡ length a + length k + m → m ≤ length d → take head text ≡ a ++ k ++ take m d
front_of a k d text m head e h l = rw (e, h) (same_lists _ _ (search (rules, places)) (λ i x q. grind (arith, places)))

front_of_4 : (a k w d text : List ℕ) (m head : ℕ) → text ≡ a ++ (k ++ (w ++ d)) → head ≡ length a + length k + length w + m → m ≤ length d → take head text ≡ a ++ k ++ w ++ take m d
front_of_4 a k w d text m head e h l = rw (e, h) (same_lists _ _ (search (rules, places)) (λ i x q. grind (arith, places)))

four_four : (xs : List ℕ) → IsBytes xs → 8 ≤ length xs → xs ≡ to_be_bytes w32 (u32_at xs 0) ++ (kind_at xs 4 ++ drop 8 xs)
four_four xs b h = u32_at-spelled xs 0 b (omega arith) ∙ ap (λ (x : List ℕ). to_be_bytes w32 (u32_at xs 0) ++ x) (kind_at-spelled xs 4 (omega arith))

module _ (top : Bool) (text : List ℕ) (h : TopHead) (bytes : IsBytes text) (p : Passed top text (length text) h) where
  size : ℕ
  size = u32_at text 0

  more : ℕ
  more = cond (bytes_eq (kind_at text 4) (codes "uuid")) 16 0

  parts : text ≡ take h.head text ++ (drop h.head (take h.len text) ++ drop h.len text)
  parts =
      let le = p.head_in in
      sym (take-append-drop h.head text) ∙ ap (λ (x : List ℕ). take h.head text ++ x) (same_lists _ _ (search (rules, places)) (λ k d q. grind (arith, places)))

  head_len : length (take h.head text) ≡ h.head
  head_len = let le = p.head_in in let l = p.len_in in omega (arith, length-take h.head text)

  body_len : length (drop h.head (take h.len text)) ≡ h.len - h.head
  body_len = let le = p.head_in in let l = p.len_in in omega (arith, length-drop h.head (take h.len text), length-take h.len text)

  abbrev Spelled : Type 0
  Spelled = IsHeader top h.kind (length (drop h.head (take h.len text))) (drop h.len text) (take h.head text)

  total : length (take h.head text) + length (drop h.head (take h.len text)) ≡ h.len
  total = let le = p.head_in in omega (arith, head_len, body_len)

  short : (size ≡ 1 → ⊥) → (size ≡ 0 → ⊥) → Spelled
  unfolding size more
  short n1 n0 =
      let head_is : h.head ≡ 8 + more = p.head ∙ rw (ne_eqb size 1 n1) refl in
      let len_is : h.len ≡ size = p.len ∙ rw (ne_eqb size 1 n1, ne_eqb size 0 n0) refl in
      let room : h.head ≤ length text = let a = p.head_in in let b = p.len_in in omega arith in
      let rest : more ≤ length (drop 8 text) = omega (arith, length-drop 8 text) in
      let m_len : length (take more (drop 8 text)) ≡ more = omega (arith, length-take more (drop 8 text)) in
      let front : take h.head text ≡ to_be_bytes w32 size ++ kind_at text 4 ++ take more (drop 8 text) =
      front_of (to_be_bytes w32 size) (kind_at text 4) (drop 8 text) text more h.head (four_four text bytes p.eight) (omega (arith, kind_at-len text 4)) rest in
      let size_is : 8 + length (take more (drop 8 text)) + length (drop h.head (take h.len text)) ≡ size = let le = p.head_in in omega (arith, body_len) in
      record {
        spelling = Short;
        more = take more (drop 8 text);
        kind_len = rw p.kind (kind_at-len text 4);
        more_len = rw p.kind m_len;
        allowed = omega (arith, total, u32_at-below text 0 bytes);
        text = front ∙ rw (p.kind, size_is) refl;
      }

  long : size ≡ 1 → Spelled
  unfolding size more
  long e =
      let head_is : h.head ≡ 16 + more = p.head ∙ rw e refl in
      let len_is : h.len ≡ u64_at text 8 = p.len ∙ rw e refl in
      let room : h.head ≤ length text = let a = p.head_in in let b = p.len_in in omega arith in
      let rest : more ≤ length (drop 16 text) = omega (arith, length-drop 16 text) in
      let m_len : length (take more (drop 16 text)) ≡ more = omega (arith, length-take more (drop 16 text)) in
      let whole : text ≡ to_be_bytes w32 1 ++ (kind_at text 4 ++ (to_be_bytes w64 (u64_at text 8) ++ drop 16 text)) =
      four_four text bytes p.eight ∙ rw (e, u64_at-spelled text 8 bytes (omega arith)) refl in
      let front : take h.head text ≡ to_be_bytes w32 1 ++ kind_at text 4 ++ to_be_bytes w64 (u64_at text 8) ++ take more (drop 16 text) =
      front_of_4 (to_be_bytes w32 1) (kind_at text 4) (to_be_bytes w64 (u64_at text 8)) (drop 16 text) text more h.head whole (omega (arith, kind_at-len text 4)) rest in
      let size_is : 16 + length (take more (drop 16 text)) + length (drop h.head (take h.len text)) ≡ u64_at text 8 = let le = p.head_in in omega (arith, body_len) in
      record {
        spelling = Long;
        more = take more (drop 16 text);
        kind_len = rw p.kind (kind_at-len text 4);
        more_len = rw p.kind m_len;
        allowed = omega (arith, total, u64_at-below text 8 bytes);
        text = front ∙ rw (p.kind, size_is) refl;
      }

  up_to_end : size ≡ 0 → Spelled
  unfolding size more
  up_to_end e =
      let head_is : h.head ≡ 8 + more = p.head ∙ rw e refl in
      let len_is : h.len ≡ length text = p.len ∙ rw e refl in
      let at_top : top ≡ true = not-false top (rw e at p.not_open) in
      let room : h.head ≤ length text = let a = p.head_in in let b = p.len_in in omega arith in
      let rest : more ≤ length (drop 8 text) = omega (arith, length-drop 8 text) in
      let m_len : length (take more (drop 8 text)) ≡ more = omega (arith, length-take more (drop 8 text)) in
      let front : take h.head text ≡ to_be_bytes w32 size ++ kind_at text 4 ++ take more (drop 8 text) =
      front_of (to_be_bytes w32 size) (kind_at text 4) (drop 8 text) text more h.head (four_four text bytes p.eight) (omega (arith, kind_at-len text 4)) rest in
      record {
        spelling = Open;
        more = take more (drop 8 text);
        kind_len = rw p.kind (kind_at-len text 4);
        more_len = rw p.kind m_len;
        allowed = (at_top, rw len_is (drop_all (length text) text (omega arith)));
        text = front ∙ rw (p.kind, e) refl;
      }

  is_spelled : Spelled
  is_spelled = elim (cases_eq size 1) [
    | inl e ↦ long e
    | inr n1 ↦ elim (cases_eq size 0) [ inl z ↦ up_to_end z | inr n0 ↦ short n1 n0 ]
  ]

  reads : Reads top text h
  reads = record {
    text_is = parts;
    header_len = head_len;
    whole_len = total;
    inside = p.len_in;
    spelled = is_spelled;
  }

-- what is read was spelled so
pub head_at-spelled : (top : Bool) (text : List ℕ) (h : TopHead) → IsBytes text → head_at top text ≡ Ok h → Reads top text h
head_at-spelled top text h bytes e = reads top text h bytes (head_from-passed top text (length text) h e)
