-- The boxes in bytes are of bytes.
use Rattle.std.proofs.Common.{◌≡◌, ℕ, zero, suc, ◌+◌, Bool, true, false, List, [], ◌∷◌, filter, length, take, drop, None, Result, Ok, Err, refl, arith}
use Rattle.std.specs.Prelude.{IfSome, codes}
use Rattle.std.specs.List.{AllByRecursion}
use Rattle.std.specs.Str.{bytes_eq}
use Rattle.mp_ports.specs.declared.fault.Bad.{Bad}
use Rattle.mp_ports.specs.Checks.{placed, ◌>>=◌}
use Rattle.mp_boxes.specs.declared.head.TopHead.{TopHead}
use Rattle.mp_boxes.specs.Boxes.{Box, IsBytes, body_place, boxes, front_box, walk}
use Rattle.mp_boxes.specs.Child.{at_most_one_of, is_either, one_of}
use Rattle.mp_boxes.specs.Head.{head_at}
use Rattle.mp_boxes.specs.Reading.{value_or}
use Rattle.mp_movie.specs.Children.{any, at_most_one, boxes_in, children, no_box, one, one_of_two, the}
use Rattle.mp_movie.specs.TrackBoxes.{boxes_of, either}
use Rattle.mp_read.proofs.BytesStay.{dropped, taken}

-- header and body are bytes
pub record AreBytes (box : Box) : Type 0 where
  pub header : IsBytes box.header
  pub body : IsBytes box.body

one_more : (box : Box) (r : Result (List Box) Bad) → AreBytes box → AllByRecursion AreBytes (value_or [] r) → AllByRecursion AreBytes (value_or [] (r >>= λ boxes. Ok (box ∷ boxes)))
one_more box (Ok boxes) first others = (first, others)
one_more box (Err bad) first others = tt

step : (most place : ℕ) (top : Bool) (text : List ℕ) (r : Result TopHead Bad) → IsBytes text
    → ((head : TopHead) → AllByRecursion AreBytes (value_or [] (walk most top (place + head.len) (drop head.len text))))
    → AllByRecursion AreBytes (value_or [] (r >>= λ head. walk most top (place + head.len) (drop head.len text) >>= λ boxes. Ok (front_box head place text ∷ boxes)))
step most place top text (Err bad) bytes more = tt
step most place top text (Ok head) bytes more =
    one_more (front_box head place text) (walk most top (place + head.len) (drop head.len text))
    (record { header = taken head.head text bytes; body = dropped head.head (take head.len text) (taken head.len text bytes) }) (more head)

walked : (most : ℕ) (top : Bool) (place : ℕ) (text : List ℕ) → IsBytes text → AllByRecursion AreBytes (value_or [] (walk most top place text))
unfolding walk
walked zero top place text bytes = tt
walked (suc most) top place [] bytes = tt
walked (suc most) top place (byte ∷ rest) bytes =
    let text : List ℕ = byte ∷ rest in
    step most place top text (placed place (head_at top text)) bytes (λ head. walked most top (place + head.len) (drop head.len text) (dropped head.len text bytes))

-- of some of them it holds too
pub filtered : {A : Type 0} (P : A → Type 0) (test : A → Bool) (xs : List A) → AllByRecursion P xs → AllByRecursion P (filter test xs)
filtered P test [] all = tt
filtered P test (x ∷ xs) all = by (test x) refl (filtered P test xs all.1)
  where
    by : (b : Bool) → test x ≡ b → AllByRecursion P (filter test xs) → AllByRecursion P (filter test (x ∷ xs))
    by true e others = rw e (all.0, others)
    by false e others = rw e others

no_bytes : IsBytes []
no_bytes i = omega arith

none_is : AreBytes no_box
none_is = record { header = no_bytes; body = no_bytes }

one_is : (end : ℕ) (boxes : List Box) → AllByRecursion AreBytes boxes → AreBytes (value_or no_box (one_of end boxes))
one_is end [] all = none_is
one_is end (box ∷ []) all = all.0
one_is end (box ∷ second ∷ boxes) all = none_is

may_be_one : (boxes : List Box) → AllByRecursion AreBytes boxes → IfSome (value_or None (at_most_one_of boxes)) AreBytes
may_be_one [] all = tt
may_be_one (box ∷ []) all = all.0
may_be_one (box ∷ second ∷ boxes) all = tt

found : (end : ℕ) (test : Box → Bool) (r : Result (List Box) Bad) → AllByRecursion AreBytes (value_or [] r) → AreBytes (value_or no_box (r >>= λ boxes. one_of end (filter test boxes)))
found end test (Ok boxes) all = one_is end (filter test boxes) (filtered AreBytes test boxes all)
found end test (Err bad) all = none_is

may_be_found : (test : Box → Bool) (r : Result (List Box) Bad) → AllByRecursion AreBytes (value_or [] r) → IfSome (value_or None (r >>= λ boxes. at_most_one_of (filter test boxes))) AreBytes
may_be_found test (Ok boxes) all = may_be_one (filter test boxes) (filtered AreBytes test boxes all)
may_be_found test (Err bad) all = tt

pub walked_are : (top : Bool) (place : ℕ) (text : List ℕ) → IsBytes text → AllByRecursion AreBytes (value_or [] (boxes top place text))
walked_are top place text bytes = walked (length text) top place text bytes

in_box : (box : Box) → IsBytes box.body → AllByRecursion AreBytes (value_or [] (boxes false (body_place box) box.body))
in_box box bytes = walked (length box.body) false (body_place box) box.body bytes

pub children_are : (box : Box) → IsBytes box.body → AllByRecursion AreBytes (boxes_in box)
unfolding children
children_are box bytes = in_box box bytes

pub the_is : (kind : List ℕ) (box : Box) → IsBytes box.body → AreBytes (the kind box)
unfolding one
the_is kind box bytes = found (body_place box + length box.body) (λ child. bytes_eq child.kind kind) (boxes false (body_place box) box.body) (in_box box bytes)

pub any_is : (kind : List ℕ) (box : Box) → IsBytes box.body → IfSome (any kind box) AreBytes
unfolding at_most_one
any_is kind box bytes = may_be_found (λ child. bytes_eq child.kind kind) (boxes false (body_place box) box.body) (in_box box bytes)

pub either_is : (kind other : List ℕ) (box : Box) → IsBytes box.body → AreBytes (either kind other box)
unfolding one_of_two
either_is kind other box bytes = found (body_place box + length box.body) (λ child. is_either kind other child.kind) (boxes false (body_place box) box.body) (in_box box bytes)

-- the boxes of a track box that are read
pub record TrackBoxesAreBytes (trak : Box) : Type 0 where
  pub tkhd : IsBytes (boxes_of trak).tkhd.body
  pub mdhd : IsBytes (boxes_of trak).mdhd.body
  pub hdlr : IsBytes (boxes_of trak).hdlr.body
  pub stsd : IsBytes (boxes_of trak).stsd.body
  pub stts : IsBytes (boxes_of trak).stts.body
  pub ctts : IfSome (boxes_of trak).ctts AreBytes
  pub stsc : IsBytes (boxes_of trak).stsc.body
  pub sizes : IsBytes (boxes_of trak).sizes.body

pub track_boxes_are : (trak : Box) → IsBytes trak.body → TrackBoxesAreBytes trak
unfolding boxes_of
track_boxes_are trak bytes =
    let mdia = the_is (codes "mdia") trak bytes in
    let minf = the_is (codes "minf") (the (codes "mdia") trak) mdia.body in
    let stbl = the_is (codes "stbl") (the (codes "minf") (the (codes "mdia") trak)) minf.body in
    record {
      tkhd = (the_is (codes "tkhd") trak bytes).body;
      mdhd = (the_is (codes "mdhd") _ mdia.body).body;
      hdlr = (the_is (codes "hdlr") _ mdia.body).body;
      stsd = (the_is (codes "stsd") _ stbl.body).body;
      stts = (the_is (codes "stts") _ stbl.body).body;
      ctts = any_is (codes "ctts") _ stbl.body;
      stsc = (the_is (codes "stsc") _ stbl.body).body;
      sizes = (either_is (codes "stsz") (codes "stz2") _ stbl.body).body;
    }
