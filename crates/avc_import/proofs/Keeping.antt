-- What is kept of units, with one unit more, and with all.
use Rattle.std.proofs.Common.{◌≡◌, ℕ, suc, ◌+◌, ◌-◌, ◌<◌, ◌≤◌, ◌&&◌, nat_le, not, Bool, true, false, List, [], ◌∷◌, ◌++◌, length, map, take, All, Option, Some, None, is_some, refl, sym, ap, ◌∙◌, arith, append_assoc, append-nil, length-append, zero-add}
use Rattle.std.specs.Prelude.{if◌then◌else◌}
use Rattle.std.specs.List.{flat_map}
use Rattle.std.proofs.lemmas.List.{length-map, map-append}
use Rattle.std.proofs.lemmas.Bool.{leb-false}
use Rattle.std.proofs.lemmas.List.Elements.{All-push}
use Rattle.mp_ports.specs.Checks.{first_some}
use Rattle.mp_ports.specs.declared.fault.Bad.{Bad}
use Rattle.mp_pieces.specs.declared.piece.Piece.{Piece}
use Rattle.avc_units.specs.declared.reader.UnitSpan.{UnitSpan}
use Rattle.avc_slices.specs.declared.slice.Slice.{Slice}
use Rattle.avc_order.specs.declared.access.NalUnit.{NalUnit}
use Rattle.avc_order.specs.declared.access.NalUnit.TheVariants.{Coded, Sei, Set, Delimiter, End, Filler}
use Rattle.avc_order.specs.declared.access.Begins.{Begins}
use Rattle.avc_order.specs.Access.{AreAccessUnits, AreCutAt, access_units, cut, first_slices, in_last, is_first_slice, is_kept, kept, last_slice, pictures, slice_behind, slice_of, starts}
use Rattle.avc_order.specs.Sequence.{is_sync}
use Rattle.avc_import.specs.declared.pictures.Pictures.{Pictures}
use Rattle.avc_import.specs.Unit.{begins_wrongly, is_past_limit, most_frames, order_checks}
use Rattle.avc_import.specs.Film.{marks, part_of}
use Rattle.avc_import.specs.Pictures.{AreCut, BeginsRight, IsClosed, IsUnitPiece, Stands, all_but_last, ends_from, piece_of}

abbrev Kept : Type 0
Kept = NalUnit × UnitSpan

-- ---- all but the last

front-push : {X : Type 0} (xs : List X) (y : X) → all_but_last (xs ++ y ∷ []) ≡ xs
front-push [] y = refl
front-push (x ∷ []) y = refl
front-push (x ∷ z ∷ zs) y = ap (λ t. x ∷ t) (front-push (z ∷ zs) y)

front-in_last : (u : Kept) (parts : List (List Kept)) → all_but_last (map part_of (in_last u parts)) ≡ all_but_last (map part_of parts)
front-in_last u [] = refl
front-in_last u (p ∷ []) = refl
front-in_last u (p ∷ q ∷ []) = refl
front-in_last u (p ∷ q ∷ r ∷ rs) = ap (λ (t : List (List UnitSpan)). part_of p ∷ t) (front-in_last u (q ∷ r ∷ rs))

abbrev total : {X : Type 0} → List (List X) → ℕ
total parts = length (flat_map (λ part. part) parts)

ends-last : {X : Type 0} (n : ℕ) (parts : List (List X)) → 0 < length parts → ends_from n parts ≡ ends_from n (all_but_last parts) ++ (n + total parts) ∷ []
ends-last n [] some = absurd (omega arith)
ends-last n (p ∷ []) some = ap (λ (k : ℕ). (n + k) ∷ []) (sym (ap length (append-nil p)))
ends-last n (p ∷ q ∷ qs) some =
    let sum : n + length p + total (q ∷ qs) ≡ n + total (p ∷ q ∷ qs) = omega (arith, length-append p (flat_map (λ part. part) (q ∷ qs))) in
    ap (λ (t : List ℕ). (n + length p) ∷ t) (ends-last (n + length p) (q ∷ qs) (omega arith) ∙ ap (λ (k : ℕ). ends_from (n + length p) (all_but_last (q ∷ qs)) ++ k ∷ []) sum)

-- ---- parts

joined_parts : (parts : List (List Kept)) → flat_map (λ (part : List UnitSpan). part) (map part_of parts) ≡ map (λ (u : Kept). u.1) (flat_map kept parts)
joined_parts [] = refl
joined_parts (p ∷ ps) = ap (λ (t : List UnitSpan). part_of p ++ t) (joined_parts ps) ∙ sym (map-append (λ (u : Kept). u.1) (kept p) (flat_map kept ps))

whole_part : (units : List Kept) → AreAccessUnits units → flat_map (λ (part : List UnitSpan). part) (map part_of (access_units units)) ≡ part_of units
whole_part units law = joined_parts (access_units units) ∙ ap (map (λ (u : Kept). u.1)) law.kept_joined

kept-push : (units : List Kept) (u : Kept) → kept (units ++ u ∷ []) ≡ kept units ++ (if is_kept u.0 then u ∷ [] else [])
kept-push [] u = refl
kept-push (v ∷ vs) u = by_kept (is_kept v.0) (kept-push vs u)
  where
    by_kept : (b : Bool) → kept (vs ++ u ∷ []) ≡ kept vs ++ (if is_kept u.0 then u ∷ [] else [])
        → (if b then v ∷ kept (vs ++ u ∷ []) else kept (vs ++ u ∷ [])) ≡ (if b then v ∷ kept vs else kept vs) ++ (if is_kept u.0 then u ∷ [] else [])
    by_kept true h = ap (λ (t : List Kept). v ∷ t) h
    by_kept false h = h

part-push : (units : List Kept) (u : Kept) → part_of (units ++ u ∷ []) ≡ part_of units ++ (if is_kept u.0 then u.1 ∷ [] else [])
part-push units u =
    ap (map (λ (v : Kept). v.1)) (kept-push units u) ∙ map-append (λ (v : Kept). v.1) (kept units) (if is_kept u.0 then u ∷ [] else [])
    ∙ ap (λ (t : List UnitSpan). part_of units ++ t) (one (is_kept u.0))
  where
    one : (b : Bool) → map (λ (v : Kept). v.1) (if b then u ∷ [] else []) ≡ (if b then u.1 ∷ [] else [])
    one true = refl
    one false = refl

pieces-push : (file : ℕ) (units : List Kept) (u : Kept) (old new : List Piece) → old ≡ map (piece_of file) (part_of units)
    → new ≡ old ++ (if is_kept u.0 then piece_of file u.1 ∷ [] else []) → new ≡ map (piece_of file) (part_of (units ++ u ∷ []))
pieces-push file units u old new is pushed =
    pushed ∙ ap (λ (t : List Piece). t ++ (if is_kept u.0 then piece_of file u.1 ∷ [] else [])) is
    ∙ ap (λ (t : List Piece). map (piece_of file) (part_of units) ++ t) (sym (one (is_kept u.0)))
    ∙ sym (map-append (piece_of file) (part_of units) (if is_kept u.0 then u.1 ∷ [] else [])) ∙ ap (map (piece_of file)) (sym (part-push units u))
  where
    one : (b : Bool) → map (piece_of file) (if b then u.1 ∷ [] else []) ≡ (if b then piece_of file u.1 ∷ [] else [])
    one true = refl
    one false = refl

pieces-inside : (file size : ℕ) (u : Kept) (b : Bool) (old new : List Piece) → u.1.from + u.1.len ≤ size → All (IsUnitPiece file size) old
    → new ≡ old ++ (if b then piece_of file u.1 ∷ [] else []) → All (IsUnitPiece file size) new
pieces-inside file size u true old new within all is = rw is (All-push (IsUnitPiece file size) old (piece_of file u.1) all (record { names = refl; inside = within }))
pieces-inside file size u false old new within all is = rw (is, append-nil old) all

-- ---- ends

cut-some : (part : List Kept) (last : Option Slice) (us : List Kept) → 0 < length (cut part last us)
unfolding cut
cut-some part last [] = omega arith
cut-some part last (u ∷ us) = by_start (starts last u.0) (cut-some (u ∷ []) (slice_behind last u.0) us) (cut-some (part ++ u ∷ []) (slice_behind last u.0) us)
  where
    by_start : (b : Bool) → 0 < length (cut (u ∷ []) (slice_behind last u.0) us) → 0 < length (cut (part ++ u ∷ []) (slice_behind last u.0) us)
        → 0 < length (if b then part ∷ cut (u ∷ []) (slice_behind last u.0) us else cut (part ++ u ∷ []) (slice_behind last u.0) us)
    by_start true one other = omega arith
    by_start false one other = other

some_units : (units : List Kept) (last : Option Slice) → last_slice units ≡ last → is_some last ≡ true → 0 < length (access_units units)
some_units [] last is some = absurd (let none = rw (← is) at some in cc)
some_units (u ∷ us) last is some = cut-some (u ∷ []) (slice_behind None u.0) us

-- the access units so far are all of them
closed_ends : (units : List Kept) (pieces : List Piece) (file : ℕ) → AreAccessUnits units → 0 < length (access_units units) → pieces ≡ map (piece_of file) (part_of units)
    → ends_from 0 (all_but_last (map part_of (access_units units))) ++ length pieces ∷ [] ≡ ends_from 0 (map part_of (access_units units))
closed_ends units pieces file law some is =
    let parts = map part_of (access_units units) in
    let many : length pieces ≡ total parts = ap length is ∙ length-map (part_of units) (piece_of file) ∙ ap length (sym (whole_part units law)) in
    let filled : 0 < length parts = omega (arith, length-map (access_units units) part_of, some) in
    ap (λ (k : ℕ). ends_from 0 (all_but_last parts) ++ k ∷ []) (many ∙ sym (zero-add (total parts))) ∙ sym (ends-last 0 parts filled)

starts_some : (last : Option Slice) (unit : NalUnit) → starts last unit ≡ true → is_some last ≡ true
starts_some None unit is = absurd cc
starts_some (Some slice) unit is = refl

single : (u : Kept) → access_units (u ∷ []) ≡ (u ∷ []) ∷ []
unfolding cut
single u = refl

ends-push : (units : List Kept) (u : Kept) (file : ℕ) (pieces : List Piece) (b : Bool) → AreAccessUnits units → AreCutAt units u [] → starts (last_slice units) u.0 ≡ b
    → pieces ≡ map (piece_of file) (part_of units)
    → ends_from 0 (all_but_last (map part_of (access_units units))) ++ (if b then length pieces ∷ [] else []) ≡ ends_from 0 (all_but_last (map part_of (access_units (units ++ u ∷ []))))
ends-push units u file pieces true law at starts is =
    let some = some_units units (last_slice units) refl (starts_some (last_slice units) u.0 starts) in
    closed_ends units pieces file law some is
    ∙ ap (ends_from 0) (sym (ap (λ (parts : List (List Kept)). all_but_last (map part_of parts)) (at.cut starts ∙ ap (λ (parts : List (List Kept)). access_units units ++ parts) (single u)) ∙ ap all_but_last (map-append part_of (access_units units) ((u ∷ []) ∷ [])) ∙ front-push (map part_of (access_units units)) (part_of (u ∷ []))))
ends-push units u file pieces false law at starts is =
    append-nil (ends_from 0 (all_but_last (map part_of (access_units units))))
    ∙ ap (ends_from 0) (sym (ap (λ (parts : List (List Kept)). all_but_last (map part_of parts)) (at.whole starts) ∙ front-in_last u (access_units units)))

-- ---- first slices

firsts-push : {X : Type 0} (f : Slice × UnitSpan → X) (units : List Kept) (u : Kept) (old new : List X) → AreCutAt units u [] → old ≡ map f (first_slices units)
    → new ≡ old ++ (if is_first_slice (last_slice units) u.0 then map f (slice_of u) else []) → new ≡ map f (first_slices (units ++ u ∷ []))
firsts-push f units u old new at is pushed =
    pushed ∙ ap (λ t. t ++ (if is_first_slice (last_slice units) u.0 then map f (slice_of u) else [])) is
    ∙ ap (λ t. map f (first_slices units) ++ t) (sym (one (is_first_slice (last_slice units) u.0)))
    ∙ sym (map-append f (first_slices units) (if is_first_slice (last_slice units) u.0 then slice_of u else [])) ∙ ap (map f) (sym at.first)
  where
    one : (b : Bool) → map f (if b then slice_of u else []) ≡ (if b then map f (slice_of u) else [])
    one true = refl
    one false = refl

one_slice : (u : Kept) → length (slice_of u) ≤ 1
one_slice (Coded slice poc_type, more) = omega arith
one_slice (Sei, more) = omega arith
one_slice (Set, more) = omega arith
one_slice (Delimiter, more) = omega arith
one_slice (End, more) = omega arith
one_slice (Filler, more) = omega arith

few-push : (units : List Kept) (u : Kept) → AreCutAt units u [] → is_past_limit units u.0 ≡ false → length (first_slices units) ≤ most_frames
    → length (first_slices (units ++ u ∷ [])) ≤ most_frames
few-push units u at past few = rw at.first (by_first (is_first_slice (last_slice units) u.0) past)
  where
    by_first : (b : Bool) → (b && nat_le most_frames (length (first_slices units))) ≡ false → length (first_slices units ++ (if b then slice_of u else [])) ≤ most_frames
    by_first true past =
        let less = leb-false most_frames (length (first_slices units)) past in
        omega (arith, length-append (first_slices units) (slice_of u), one_slice u, less)
    by_first false past = rw (append-nil (first_slices units)) few

not_past : (a b : Bool) (first second : Bad) → first_some ((if a then Some first else None) ∷ (if b then Some second else None) ∷ []) ≡ None → b ≡ false
not_past true b first second none = absurd cc
not_past false true first second none = absurd cc
not_past false false first second none = refl

not_wrong : (a b : Bool) (first second : Bad) → first_some ((if a then Some first else None) ∷ (if b then Some second else None) ∷ []) ≡ None → a ≡ false
not_wrong true b first second none = absurd cc
not_wrong false b first second none = refl

-- the first picture stays an IDR picture
begins-push : (units : List Kept) (u : Kept) → AreCutAt units u [] → begins_wrongly units u.0 ≡ false → BeginsRight units → BeginsRight (units ++ u ∷ [])
begins-push units u at right begins = rw at.first (by_firsts (first_slices units) begins (is_first_slice (last_slice units) u.0) right_unit)
  where
    -- where no picture stands before
    right_unit : length (first_slices units) ≡ 0 → 0 < length (slice_of u) → is_sync (marks (slice_of u)) 0 ≡ true
    right_unit none some = by_unit u right some
      where
        by_unit : (u : Kept) → begins_wrongly units u.0 ≡ false → 0 < length (slice_of u) → is_sync (marks (slice_of u)) 0 ≡ true
        by_unit (Coded slice poc_type, span) right some = by_mark slice.idr (rw none at right)
          where
            by_mark : (b : Bool) → not b ≡ false → b ≡ true
            by_mark true is = refl
            by_mark false is = absurd cc
        by_unit (Sei, span) right some = absurd (omega arith)
        by_unit (Set, span) right some = absurd (omega arith)
        by_unit (Delimiter, span) right some = absurd (omega arith)
        by_unit (End, span) right some = absurd (omega arith)
        by_unit (Filler, span) right some = absurd (omega arith)

    by_firsts : (firsts : List (Slice × UnitSpan)) → (0 < length firsts → is_sync (marks firsts) 0 ≡ true) → (b : Bool)
        → (length firsts ≡ 0 → 0 < length (slice_of u) → is_sync (marks (slice_of u)) 0 ≡ true)
        → 0 < length (firsts ++ (if b then slice_of u else [])) → is_sync (marks (firsts ++ (if b then slice_of u else []))) 0 ≡ true
    by_firsts (f ∷ fs) begins b right some = begins (omega arith)
    by_firsts [] begins true right some = right refl some
    by_firsts [] begins false right some = absurd (omega arith)

-- ---- one unit more, and all

pub stands_on : (file size : ℕ) (units : List Kept) (u : Kept) (old new : Pictures) (begins : Begins) → AreAccessUnits units → AreCutAt units u [] → u.1.from + u.1.len ≤ size → Stands file size units old
    → begins.access_unit ≡ starts old.access.last u.0 → begins.picture ≡ is_first_slice old.access.last u.0 → new.access.last ≡ slice_behind old.access.last u.0
    → first_some (order_checks units u.0 u.1.from) ≡ None
    → new.ends.items ≡ old.ends.items ++ (if begins.access_unit then length old.pieces.items ∷ [] else [])
    → new.firsts.items ≡ old.firsts.items ++ (if begins.picture then map (λ (p : Slice × UnitSpan). p.0) (slice_of u) else [])
    → new.places.items ≡ old.places.items ++ (if begins.picture then map (λ (p : Slice × UnitSpan). p.1.from) (slice_of u) else [])
    → new.pieces.items ≡ old.pieces.items ++ (if is_kept u.0 then piece_of file u.1 ∷ [] else [])
    → Stands file size (units ++ u ∷ []) new
stands_on file size units u old new begins law at within stands starts_is first_is last_is none ends firsts places pieces =
    let first = first_is ∙ ap (λ (l : Option Slice). is_first_slice l u.0) stands.last in
    let start = starts_is ∙ ap (λ (l : Option Slice). starts l u.0) stands.last in
    record {
      last = last_is ∙ ap (λ (l : Option Slice). slice_behind l u.0) stands.last ∙ sym at.last;
      firsts = firsts-push (λ (p : Slice × UnitSpan). p.0) units u old.firsts.items new.firsts.items at stands.firsts (firsts ∙ ap (λ (b : Bool). old.firsts.items ++ (if b then map (λ (p : Slice × UnitSpan). p.0) (slice_of u) else [])) first);
      places = firsts-push (λ (p : Slice × UnitSpan). p.1.from) units u old.places.items new.places.items at stands.places (places ∙ ap (λ (b : Bool). old.places.items ++ (if b then map (λ (p : Slice × UnitSpan). p.1.from) (slice_of u) else [])) first);
      few = few-push units u at (not_past _ _ _ _ none) stands.few;
      begins = begins-push units u at (not_wrong _ _ _ _ none) stands.begins;
      pieces = pieces-push file units u old.pieces.items new.pieces.items stands.pieces pieces;
      inside = pieces-inside file size u (is_kept u.0) old.pieces.items new.pieces.items within stands.inside pieces;
      ends = ends ∙ ap (λ (t : List ℕ). t ++ (if begins.access_unit then length old.pieces.items ∷ [] else [])) stands.ends
          ∙ ap (λ (b : Bool). ends_from 0 (all_but_last (map part_of (access_units units))) ++ (if b then length old.pieces.items ∷ [] else [])) start
          ∙ ends-push units u file old.pieces.items (starts (last_slice units) u.0) law at refl stands.pieces;
    }

front-taken : {X : Type 0} (xs : List X) → take (length xs - 1) xs ≡ all_but_last xs
front-taken [] = refl
front-taken (x ∷ []) = refl
front-taken (x ∷ y ∷ ys) =
    let long : suc (suc (length ys)) - 1 ≡ suc (length ys) = omega arith in
    let short : take (suc (length ys)) (x ∷ y ∷ ys) ≡ x ∷ take (suc (length ys) - 1) (y ∷ ys) = ap (λ (n : ℕ). x ∷ take n (y ∷ ys)) (omega arith) in
    rw long (short ∙ ap (λ t. x ∷ t) (front-taken (y ∷ ys)))

front-map : (parts : List (List Kept)) → all_but_last (map part_of parts) ≡ map part_of (all_but_last parts)
front-map [] = refl
front-map (p ∷ []) = refl
front-map (p ∷ q ∷ qs) = ap (λ (t : List (List UnitSpan)). part_of p ∷ t) (front-map (q ∷ qs))

all-taken : {X : Type 0} (xs : List X) → take (length xs - 0) xs ≡ xs
all-taken [] = refl
all-taken (x ∷ xs) =
    let all : suc (length xs) - 0 ≡ suc (length xs) = omega arith in
    let rest : take (length xs) xs ≡ take (length xs - 0) xs = ap (λ (n : ℕ). take n xs) (omega arith) in
    rw all (ap (λ t. x ∷ t) (rest ∙ all-taken xs))

-- the last of the lists stands behind the others
front-joined : {X : Type 0} (parts : List (List X)) → (more : List X) × (flat_map (λ part. part) parts ≡ flat_map (λ part. part) (all_but_last parts) ++ more)
front-joined [] = ([], refl)
front-joined (p ∷ []) = (p ++ [], refl)
front-joined (p ∷ q ∷ qs) =
    let (more, is) = front-joined (q ∷ qs) in
    (more, ap (λ t. p ++ t) is ∙ sym (append_assoc p (flat_map (λ part. part) (all_but_last (q ∷ qs))) more))

cut_all : (file : ℕ) (units : List Kept) (last : Option Slice) (pieces : List Piece) (ends : List ℕ) → AreAccessUnits units → last_slice units ≡ last
    → pieces ≡ map (piece_of file) (part_of units)
    → ends ≡ ends_from 0 (all_but_last (map part_of (access_units units))) ++ (if is_some last then length pieces ∷ [] else [])
    → AreCut file (map part_of (pictures units)) pieces ends
cut_all file units (Some slice) pieces ends law last is cut =
    let all : pictures units ≡ access_units units = law.dropped ∙ ap (λ (l : Option Slice). take (length (access_units units) - (if is_some l then 0 else 1)) (access_units units)) last ∙ all-taken (access_units units) in
    record {
      more = [];
      joined = is ∙ ap (map (piece_of file)) (sym (whole_part units law)) ∙ ap (λ (parts : List (List Kept)). map (piece_of file) (flat_map (λ (part : List UnitSpan). part) (map part_of parts))) (sym all) ∙ sym (append-nil _);
      ends_are = cut ∙ closed_ends units pieces file law (some_units units (Some slice) last refl) is ∙ ap (λ (parts : List (List Kept)). ends_from 0 (map part_of parts)) (sym all);
    }
cut_all file units None pieces ends law last is cut =
    let all : pictures units ≡ all_but_last (access_units units) = law.dropped ∙ ap (λ (l : Option Slice). take (length (access_units units) - (if is_some l then 0 else 1)) (access_units units)) last ∙ front-taken (access_units units) in
    let parts = map part_of (access_units units) in
    let (more, joined) = front-joined parts in
    let front : all_but_last parts ≡ map part_of (pictures units) = front-map (access_units units) ∙ ap (map part_of) (sym all) in
    record {
      more = map (piece_of file) more;
      joined = is ∙ ap (map (piece_of file)) (sym (whole_part units law) ∙ joined ∙ ap (λ (t : List (List UnitSpan)). flat_map (λ (part : List UnitSpan). part) t ++ more) front)
          ∙ map-append (piece_of file) (flat_map (λ (part : List UnitSpan). part) (map part_of (pictures units))) more;
      ends_are = cut ∙ append-nil (ends_from 0 (all_but_last parts)) ∙ ap (ends_from 0) front;
    }

pub closes : (file size : ℕ) (units : List Kept) (old new : Pictures) → AreAccessUnits units → Stands file size units old
    → new.firsts.items ≡ old.firsts.items → new.places.items ≡ old.places.items → new.pieces.items ≡ old.pieces.items
    → new.ends.items ≡ old.ends.items ++ (if is_some old.access.last then length old.pieces.items ∷ [] else [])
    → IsClosed file size units new
closes file size units old new law stands firsts places pieces ends = record {
  firsts = firsts ∙ stands.firsts;
  places = places ∙ stands.places;
  few = stands.few;
  begins = stands.begins;
  number = law.number ∙ sym (length-map (pictures units) part_of);
  parts = cut_all file units (last_slice units) new.pieces.items new.ends.items law refl (pieces ∙ stands.pieces)
      (ends ∙ rw (stands.last, stands.ends, pieces) refl);
  inside = rw pieces stands.inside;
}
