-- A text is cut into boxes in at most one way, and reading it from its front finds that way, or the first fault.
use Rattle.std.proofs.Common.{◌≡◌, ◌⊎◌, ℕ, zero, suc, ◌+◌, ◌-◌, ◌<◌, ◌≤◌, Bool, List, [], ◌∷◌, ◌++◌, length, take, drop, Option, Some, None, Result, Ok, Err, refl, sym, ap, subst, ◌∙◌, append_assoc, add_assoc, arith, inl, inr, rules}
use Rattle.std.proofs.lemmas.List.{drop_at, length-append, length-drop, get_or-drop, same_lists, places}
use Rattle.mp_ports.specs.declared.code.Code.{Code}
use Rattle.mp_ports.specs.declared.fault.Bad.{Bad}
use Rattle.mp_ports.specs.Checks.{bad_at, unless, ◌>>=◌, placed}
use Rattle.mp_boxes.specs.declared.head.TopHead.{TopHead}
use Rattle.mp_boxes.specs.Header.{IsHeader}
use Rattle.mp_boxes.specs.Head.{head_fault, head_at, header_len, box_size}
use Rattle.mp_boxes.specs.Number.{kind_at}
use Rattle.mp_boxes.specs.Boxes.{IsBytes, Box, IsCut, IsFirstFault, front_box, walk, boxes}
use Rattle.mp_boxes.proofs.HeadersAreRead.{head_at-written, IsHeader-long}
use Rattle.mp_boxes.proofs.HeadsWereSpelled.{Reads, head_at-spelled}

ok_inj : {A E : Type 0} (x y : A) → let f : A → Result A E = λ v. Ok v in f x ≡ f y → x ≡ y
ok_inj x y e = cc

err_inj : {A E : Type 0} (x y : E) → let f : E → Result A E = λ v. Err v in f x ≡ f y → x ≡ y
err_inj x y e = cc

not_both : {A E : Type 0} (x : A) (y : E) → let f : A → Result A E = λ v. Ok v in f x ≡ Err y → ⊥
not_both x y e = cc

walk-nothing : (m : ℕ) (top : Bool) (place : ℕ) → walk m top place [] ≡ Ok []
unfolding walk
walk-nothing zero top place = refl
walk-nothing (suc m) top place = refl

-- the boxes behind a box, and that box
abbrev behind : Box → Result (List Box) Bad → Result (List Box) Bad
behind box later = later >>= λ boxes. Ok (box ∷ boxes)

abbrev step : ℕ → Bool → ℕ → List ℕ → Result (List Box) Bad
step m top place text = placed place (head_at top text) >>= λ head. behind (front_box head place text) (walk m top (place + head.len) (drop head.len text))

-- where there is a text, there is a box or a fault
walk-step : (m : ℕ) (top : Bool) (place : ℕ) (text : List ℕ) → 0 < length text → walk (suc m) top place text ≡ step m top place text
unfolding walk
walk-step m top place [] h = absurd (omega arith)
walk-step m top place (x ∷ xs) h = refl

header_of_text : (header body after : List ℕ) → take (length header) (header ++ (body ++ after)) ≡ header
header_of_text header body after = same_lists _ _ (search (rules, places)) (λ k d q. grind (arith, places))

pub body_of : (header body after : List ℕ) → drop (length header) (take (length header + length body) (header ++ (body ++ after))) ≡ body
body_of header body after = same_lists _ _ (search (rules, places)) (λ k d q. grind (arith, places))

pub rest_of : (header body after : List ℕ) → drop (length header + length body) (header ++ (body ++ after)) ≡ after
rest_of header body after =
    ap (drop (length header + length body)) (sym (append_assoc header body after)) ∙ drop_at (header ++ body) after (length header + length body) (length-append header body)

-- one step: a box in front of a text
walk-box : (m : ℕ) (top : Bool) (place : ℕ) (kind header body after : List ℕ) → IsHeader top kind (length body) after header
    → walk (suc m) top place (header ++ (body ++ after)) ≡ behind (record { kind = kind; header = header; body = body; place = place }) (walk m top (place + (length header + length body)) after)
walk-box m top place kind header body after h =
    let some : 0 < length (header ++ (body ++ after)) = omega (arith, IsHeader-long top kind (length body) after header h, length-append header (body ++ after)) in
    walk-step m top place (header ++ (body ++ after)) some ∙ rw (head_at-written top kind body after header h, rest_of header body after, body_of header body after, header_of_text header body after) refl

-- the rest is at most as long as the text
pub rest_within : (top : Bool) (place : ℕ) (text : List ℕ) (bs : List Box) (rest : List ℕ) → IsCut top place text bs rest → length rest ≤ length text
rest_within top place text [] rest c = rw c (omega arith)
rest_within top place text (b ∷ bs) rest c =
    omega (arith, ap length c.2, length-append b.header (b.body ++ c.0), length-append b.body c.0, rest_within top (place + length b.header + length b.body) c.0 bs rest c.4)

-- the box in front, and what is said of the text behind it, is said of the whole
walk-more : (m : ℕ) (top : Bool) (place : ℕ) (text : List ℕ) (b : Box) (bs : List Box) (rest : List ℕ) (c : IsCut top place text (b ∷ bs) rest)
    → walk (suc m) top place text ≡ behind b (walk m top (place + length b.header + length b.body) c.0)
walk-more m top place text b bs rest c =
    rw (c.2, walk-box m top place b.kind b.header b.body c.0 c.1, ← c.3, add_assoc) refl

-- what is cut so is read so
pub walk-cut : (m : ℕ) (top : Bool) (place : ℕ) (text : List ℕ) (bs : List Box) → IsCut top place text bs [] → length text ≤ m → walk m top place text ≡ Ok bs
walk-cut m top place text [] c le = rw c (walk-nothing m top place)
walk-cut zero top place text (b ∷ bs) c le =
    absurd (omega (arith, ap length c.2, length-append b.header (b.body ++ c.0), IsHeader-long top b.kind (length b.body) c.0 b.header c.1))
walk-cut (suc m) top place text (b ∷ bs) c le =
    let long = IsHeader-long top b.kind (length b.body) c.0 b.header c.1 in
    let len : length c.0 ≤ m = omega (arith, ap length c.2, length-append b.header (b.body ++ c.0), length-append b.body c.0) in
    walk-more m top place text b bs [] c ∙ rw (walk-cut m top (place + length b.header + length b.body) c.0 bs c.4 len) refl

-- the fault behind some boxes is answered
walk-fault : (m : ℕ) (top : Bool) (place : ℕ) (text : List ℕ) (bs : List Box) (rest : List ℕ) (code : Code) → IsCut top place text bs rest → 0 < length rest → head_fault top rest (length rest) ≡ Some code
    → length text ≤ m → walk m top place text ≡ Err (bad_at code (place + (length text - length rest)))
walk-fault zero top place text bs rest code c some f le = absurd (omega (arith, rest_within top place text bs rest c))
walk-fault (suc m) top place text [] rest code c some f le =
    let here : place + (length rest - length rest) ≡ place = omega arith in
    rw (c, walk-step m top place rest some, f, here) refl
walk-fault (suc m) top place text (b ∷ bs) rest code c some f le =
    let long = IsHeader-long top b.kind (length b.body) c.0 b.header c.1 in
    let all : length text ≡ length b.header + (length b.body + length c.0) = omega (arith, ap length c.2, length-append b.header (b.body ++ c.0), length-append b.body c.0) in
    let within = rest_within top (place + length b.header + length b.body) c.0 bs rest c.4 in
    let there : place + length b.header + length b.body + (length c.0 - length rest) ≡ place + (length text - length rest) = omega arith in
    walk-more m top place text b bs rest c ∙ rw (walk-fault m top (place + length b.header + length b.body) c.0 bs rest code c.4 some f (omega arith), there) refl

bind_ok : {A B E : Type 0} (r : Result A E) (f : A → Result B E) (y : B) → (r >>= f) ≡ Ok y → (x : A) × (r ≡ Ok x) × (f x ≡ Ok y)
bind_ok (Ok x) f y e = (x, refl, e)
bind_ok (Err d) f y e = absurd cc

placed-ok : {A : Type 0} (place : ℕ) (r : Result A Code) (x : A) → placed place r ≡ Ok x → r ≡ Ok x
placed-ok place (Ok y) x e = cc
placed-ok place (Err d) x e = absurd cc

shorter : (top : Bool) (text : List ℕ) (h : TopHead) (m : ℕ) → Reads top text h → length text ≤ suc m → length (drop h.len text) ≤ m
shorter top text h m r le =
    let whole = r.whole_len in
    omega (arith, length-drop h.len text, IsHeader-long top h.kind (length (drop h.head (take h.len text))) (drop h.len text) (take h.head text) r.spelled)

-- the box that was read, in front of what was cut behind it
pub cut-more : (top : Bool) (place : ℕ) (text : List ℕ) (h : TopHead) (bs : List Box) (rest : List ℕ) → Reads top text h → IsCut top (place + h.len) (drop h.len text) bs rest
    → IsCut top place text (front_box h place text ∷ bs) rest
cut-more top place text h bs rest r c =
    let there : place + h.len ≡ place + length (take h.head text) + length (drop h.head (take h.len text)) = let whole = r.whole_len in omega arith in
    (drop h.len text, r.spelled, r.text_is, refl, subst (λ (k : ℕ). IsCut top k (drop h.len text) bs rest) there c)

-- what is read is cut so
pub cut-walk : (m : ℕ) (top : Bool) (place : ℕ) (text : List ℕ) (bs : List Box) → IsBytes text → length text ≤ m → walk m top place text ≡ Ok bs → IsCut top place text bs []
unfolding walk
cut-walk zero top place [] bs b le e = subst (λ (v : List Box). IsCut top place [] v []) (ok_inj {E = Bad} [] bs e) refl
cut-walk zero top place (x ∷ xs) bs b le e = absurd (omega arith)
cut-walk (suc m) top place [] bs b le e = subst (λ (v : List Box). IsCut top place [] v []) (ok_inj {E = Bad} [] bs e) refl
cut-walk (suc m) top place (x ∷ xs) bs b le e =
    let text : List ℕ = x ∷ xs in
    let p = bind_ok (placed place (head_at top text)) (λ h. behind (front_box h place text) (walk m top (place + h.len) (drop h.len text))) bs e in
    let h = p.0 in
    let q = bind_ok (walk m top (place + h.len) (drop h.len text)) (λ cs. Ok (front_box h place text ∷ cs)) bs p.2 in
    let r = head_at-spelled top text h b (placed-ok place (head_at top text) h p.1) in
    let later : IsCut top (place + h.len) (drop h.len text) q.0 [] = cut-walk m top (place + h.len) (drop h.len text) q.0 (λ i. rw get_or-drop (b (h.len + i))) (shorter top text h m r le) q.1 in
    subst (λ (v : List Box). IsCut top place text v []) (ok_inj {E = Bad} _ bs q.2) (cut-more top place text h q.0 [] r later)

-- a text is cut in at most one way
pub one_cut : (top : Bool) (place : ℕ) (text : List ℕ) (bs cs : List Box) → IsCut top place text bs [] → IsCut top place text cs [] → bs ≡ cs
one_cut top place text bs cs b c = ok_inj {E = Bad} bs cs (sym (walk-cut (length text) top place text bs b (omega arith)) ∙ walk-cut (length text) top place text cs c (omega arith))

pub fault-read : (top : Bool) (place : ℕ) (text : List ℕ) (bad : Bad) → IsFirstFault top place text bad → boxes top place text ≡ Err bad
fault-read top place text bad f = rw f.bad_is (walk-fault (length text) top place text f.before f.rest f.code f.cut f.more f.fault (omega arith))

-- the first fault of what is left, moved behind a box
fault-more : (top : Bool) (place : ℕ) (text : List ℕ) (h : TopHead) (bad : Bad) → Reads top text h → IsFirstFault top (place + h.len) (drop h.len text) bad → IsFirstFault top place text bad
fault-more top place text h bad r f =
    let within = rest_within top (place + h.len) (drop h.len text) f.before f.rest f.cut in
    let inside = r.inside in
    let there : place + h.len + (length (drop h.len text) - length f.rest) ≡ place + (length text - length f.rest) = omega (arith, length-drop h.len text) in
    record {
      before = front_box h place text ∷ f.before;
      rest = f.rest;
      cut = cut-more top place text h f.before f.rest r f.cut;
      more = f.more;
      code = f.code;
      fault = f.fault;
      bad_is = f.bad_is ∙ ap (bad_at f.code) there;
    }

bind_err : {A B E : Type 0} (r : Result A E) (f : A → Result B E) (d : E) → (r >>= f) ≡ Err d → (r ≡ Err d) ⊎ ((x : A) × (r ≡ Ok x) × (f x ≡ Err d))
bind_err (Ok x) f d e = inr (x, refl, e)
bind_err (Err c) f d e = inl (ap (λ v. Err v) (err_inj c d e))

placed-err : (place : ℕ) (f : Option Code) (h : TopHead) (bad : Bad) → placed place (unless f h) ≡ Err bad → (code : Code) × (f ≡ Some code) × (bad ≡ bad_at code place)
placed-err place None h bad e = absurd (not_both {E = Bad} h bad e)
placed-err place (Some code) h bad e = (code, refl, sym (err_inj {A = TopHead} (bad_at code place) bad e))

-- the fault of the first box
fault-here : (top : Bool) (place : ℕ) (text : List ℕ) (bad : Bad) → 0 < length text → placed place (head_at top text) ≡ Err bad → IsFirstFault top place text bad
fault-here top place text bad some e =
    let p = placed-err place (head_fault top text (length text)) (record { kind = kind_at text 4; head = header_len text; len = box_size text (length text) }) bad e in
    let here : place ≡ place + (length text - length text) = omega arith in
    record { before = []; rest = text; cut = refl; more = some; code = p.0; fault = p.1; bad_is = p.2 ∙ ap (bad_at p.0) here }

-- a fault that is read is the first
pub fault-walk : (m : ℕ) (top : Bool) (place : ℕ) (text : List ℕ) (bad : Bad) → IsBytes text → length text ≤ m → walk m top place text ≡ Err bad → IsFirstFault top place text bad
unfolding walk
fault-walk zero top place [] bad b le e = absurd (not_both {A = List Box} [] bad e)
fault-walk zero top place (x ∷ xs) bad b le e = absurd (omega arith)
fault-walk (suc m) top place [] bad b le e = absurd (not_both {A = List Box} [] bad e)
fault-walk (suc m) top place (x ∷ xs) bad b le e =
    let text : List ℕ = x ∷ xs in
    elim (bind_err (placed place (head_at top text)) (λ h. behind (front_box h place text) (walk m top (place + h.len) (drop h.len text))) bad e) [
      | inl f ↦ fault-here top place text bad (omega arith) f
      | inr p ↦
          let h = p.0 in
          let r = head_at-spelled top text h b (placed-ok place (head_at top text) h p.1) in
          elim (bind_err (walk m top (place + h.len) (drop h.len text)) (λ cs. Ok (front_box h place text ∷ cs)) bad p.2) [
            | inl f ↦ fault-more top place text h bad r (fault-walk m top (place + h.len) (drop h.len text) bad (λ i. rw get_or-drop (b (h.len + i))) (shorter top text h m r le) f)
            | inr q ↦ absurd (not_both {A = List Box} _ bad q.2)
          ]
    ]
