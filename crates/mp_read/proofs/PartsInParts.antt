-- A box that is found in the body of a part of the movie is a part of the movie.
use Rattle.std.proofs.Common.{◌≡◌, ℕ, ◌+◌, ◌-◌, ◌≤◌, List, [], ◌∷◌, length, drop, Option, Some, None, Result, Ok, Err, refl, sym, ap, subst, ◌∙◌, arith, rules, slice_range}
use Rattle.std.proofs.lemmas.List.{length-take, length-drop, same_lists, places}
use Rattle.std.proofs.lemmas.List.Elements.{filter_passes}
use Rattle.std.proofs.lemmas.Slice.Eq.{bytes_eq-Decides}
use Rattle.std.specs.Str.{bytes_eq}
use Rattle.mp_ports.specs.declared.fault.Bad.{Bad}
use Rattle.mp_ports.specs.Checks.{◌>>=◌}
use Rattle.mp_boxes.specs.declared.child.ChildBox.{ChildBox}
use Rattle.mp_boxes.specs.declared.child.Span.{Span}
use Rattle.mp_boxes.specs.Boxes.{Box, body_place, whole_box}
use Rattle.mp_boxes.specs.Child.{IsSpan, IsWithin, MayGiveBox, at_most_one_of, first_of, of_kind, one_of, optional_child}
use Rattle.mp_boxes.specs.Reading.{value_or}
use Rattle.mp_movie.specs.Children.{first_whole}
use Rattle.mp_read.specs.Part.{IsInside, box_in}

slice_length : (bytes : List ℕ) (from to : ℕ) → to ≤ length bytes → length (slice_range bytes from to) ≡ to - from
slice_length bytes from to le = omega (arith, length-take (to - from) (drop from bytes), length-drop from bytes)

slice_of_slice : (bytes : List ℕ) (from to a b : ℕ) → b ≤ to - from → slice_range (slice_range bytes from to) a b ≡ slice_range bytes (from + a) (from + b)
slice_of_slice bytes from to a b le = same_lists _ _ (search (rules, places)) (λ k d q. grind (arith, places))

-- where the body of a part stands
pub place_is : (base : ℕ) (bytes : List ℕ) (part : ChildBox) → IsInside base bytes part → body_place (box_in base bytes part) ≡ base + part.span.from
place_is base bytes part i = let b = i.begins in let h = i.header in let r = i.within.rises in let e = i.within.ends in
    omega (arith, slice_length bytes (part.span.place - base) part.span.from (omega arith))

-- a box does not begin in front of the bytes in which it is found
begins_behind : (base : ℕ) (bytes : List ℕ) (span : Span) (box : Box) → IsWithin bytes span → IsSpan base bytes span box → base ≤ span.place
begins_behind base bytes span box w s = let p = s.place in let f = s.from in let r = w.rises in let e = w.ends in
    omega (arith, slice_length bytes (span.place - base) span.from (omega arith), ap length s.header)

-- the part of that type at that span in the body of another
abbrev pub moved : ChildBox → List ℕ → Span → ChildBox
moved part kind span = record { kind = kind; span = record { from = part.span.from + span.from; to = part.span.from + span.to; place = span.place } }

pub moved-inside : (base : ℕ) (bytes : List ℕ) (part : ChildBox) (kind : List ℕ) (span : Span) (box : Box) → IsInside base bytes part → IsWithin (box_in base bytes part).body span
    → IsSpan (body_place (box_in base bytes part)) (box_in base bytes part).body span box → IsInside base bytes (moved part kind span)
moved-inside base bytes part kind span box i w s =
    let at = place_is base bytes part i in
    let b = begins_behind _ _ span box w s in
    let p = s.place in let f = s.from in let r = w.rises in let e = w.ends in let ie = i.within.ends in let ir = i.within.rises in
    let l = slice_length bytes part.span.from part.span.to ie in
    record { begins = omega arith; header = omega arith; within = record { rises = omega arith; ends = omega arith } }

pub moved-is : (base : ℕ) (bytes : List ℕ) (part : ChildBox) (kind : List ℕ) (span : Span) (box : Box) → IsInside base bytes part → IsWithin (box_in base bytes part).body span
    → IsSpan (body_place (box_in base bytes part)) (box_in base bytes part).body span box → kind ≡ box.kind → box_in base bytes (moved part kind span) ≡ box
moved-is base bytes part kind span box i w s k =
    let at = place_is base bytes part i in
    let b = begins_behind _ _ span box w s in
    let r = w.rises in let e = w.ends in let ie = i.within.ends in let ir = i.within.rises in let f = s.from in let p = s.place in
    let l = slice_length bytes part.span.from part.span.to ie in
    same_box (box_in base bytes (moved part kind span)) box k
    (ap (λ (n : ℕ). slice_range bytes n (part.span.from + span.from)) (omega arith)
    ∙ sym (slice_of_slice bytes part.span.from part.span.to (span.place - (base + part.span.from)) span.from (omega arith))
    ∙ ap (λ (n : ℕ). slice_range (slice_range bytes part.span.from part.span.to) (span.place - n) span.from) (sym at) ∙ s.header)
    (sym (slice_of_slice bytes part.span.from part.span.to span.from span.to (omega arith)) ∙ s.body) s.place
  where
    same_box : (b c : Box) → b.kind ≡ c.kind → b.header ≡ c.header → b.body ≡ c.body → b.place ≡ c.place → b ≡ c
    same_box b c kind header body place = λ i. record { kind = kind i; header = header i; body = body i; place = place i }

-- ---- the type of what is found

kind_at : (kind : List ℕ) (children : List Box) (box : Box) (others : List Box) → of_kind kind children ≡ box ∷ others → kind ≡ box.kind
kind_at kind children box others e =
    let all = filter_passes (λ (b : Box). bytes_eq b.kind kind) children in
    sym ((bytes_eq-Decides box.kind kind).0 ((rw e at all) 0 box (omega arith)))

pub one_kind : (r : Result (List Box) Bad) (end : ℕ) (kind : List ℕ) (box : Box) → (r >>= λ children. one_of end (of_kind kind children)) ≡ Ok box → kind ≡ box.kind
one_kind (Ok children) end kind box e = by (of_kind kind children) refl e
  where
    by : (found : List Box) → of_kind kind children ≡ found → one_of end found ≡ Ok box → kind ≡ box.kind
    by [] q e = absurd cc
    by (b ∷ []) q e = let same : b ≡ box = cc in kind_at kind children b [] q ∙ ap (λ (x : Box). x.kind) same
    by (b ∷ c ∷ others) q e = absurd cc
one_kind (Err bad) end kind box e = absurd cc

pub some_kind : (r : Result (List Box) Bad) (kind : List ℕ) (box : Box) → (r >>= λ children. at_most_one_of (of_kind kind children)) ≡ Ok (Some box) → kind ≡ box.kind
some_kind (Ok children) kind box e = by (of_kind kind children) refl e
  where
    by : (found : List Box) → of_kind kind children ≡ found → at_most_one_of found ≡ Ok (Some box) → kind ≡ box.kind
    by [] q e = absurd cc
    by (b ∷ []) q e = let same : b ≡ box = cc in kind_at kind children b [] q ∙ ap (λ (x : Box). x.kind) same
    by (b ∷ c ∷ others) q e = absurd cc
some_kind (Err bad) kind box e = absurd cc

-- what may be found by equal bytes and places
pub some_given : (b base : ℕ) (t bytes kind : List ℕ) (found : Option Span) (span : Span) → b ≡ base → t ≡ bytes → found ≡ Some span → MayGiveBox (IsSpan b t) (Ok found) (optional_child b t kind)
    → (box : Box) × (optional_child base bytes kind ≡ Ok (Some box)) × IsSpan base bytes span box
some_given b base t bytes kind found span eb et ef given =
    subst (λ (n : ℕ). MayGiveBox (IsSpan n bytes) (Ok (Some span)) (optional_child n bytes kind)) eb
    (subst (λ (x : List ℕ). MayGiveBox (IsSpan b x) (Ok (Some span)) (optional_child b x kind)) et
    (subst (λ (f : Option Span). MayGiveBox (IsSpan b t) (Ok f) (optional_child b t kind)) ef given))

-- ---- the first box of a type

pub first_some_whole : (r : Result (List Box) Bad) (kind : List ℕ) (box : Box) → (r >>= λ children. Ok (first_of (of_kind kind children))) ≡ Ok (Some box) → first_whole (of_kind kind (value_or [] r)) ≡ whole_box box
first_some_whole (Ok children) kind box e = by (of_kind kind children) e
  where
    by : (found : List Box) → let f : Option Box → Result (Option Box) Bad = λ v. Ok v in f (first_of found) ≡ f (Some box) → first_whole found ≡ whole_box box
    by [] e = absurd cc
    by (b ∷ others) e = let same : b ≡ box = cc in ap whole_box same
first_some_whole (Err bad) kind box e = absurd cc

pub first_none_whole : (r : Result (List Box) Bad) (kind : List ℕ) → (r >>= λ children. Ok (first_of (of_kind kind children))) ≡ Ok None → first_whole (of_kind kind (value_or [] r)) ≡ []
first_none_whole (Ok children) kind e = by (of_kind kind children) e
  where
    by : (found : List Box) → let f : Option Box → Result (Option Box) Bad = λ v. Ok v in f (first_of found) ≡ f None → first_whole found ≡ []
    by [] e = refl
    by (b ∷ others) e = absurd cc
first_none_whole (Err bad) kind e = refl
