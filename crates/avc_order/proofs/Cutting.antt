-- A list of units is cut exactly where an access unit starts.
use Rattle.std.proofs.Common.{◌≡◌, ℕ, suc, ◌-◌, ◌<◌, ◌≤◌, Bool, true, false, if◌then◌else◌, List, [], ◌∷◌, ◌++◌, length, take, Option, Some, None, is_some, refl, sym, ap, ◌∙◌, ◌⊎◌, inl, inr, arith, append_assoc}
use Rattle.std.specs.List.{filter, flat_map}
use Rattle.std.proofs.lemmas.List.{append-nil}
use Rattle.std.proofs.lemmas.List.Concat.{flat_map-cons}
use Rattle.std.proofs.lemmas.List.Elements.{filter-append}
use Rattle.std.proofs.lemmas.Grind.{flat_map-append}
use Rattle.avc_slices.specs.declared.slice.Slice.{Slice}
use Rattle.avc_order.specs.declared.access.NalUnit.{NalUnit}
use Rattle.avc_order.specs.declared.access.NalUnit.TheVariants.{Coded, Sei, Set, Delimiter, End, Filler}
use Rattle.avc_order.specs.Access.{starts, slice_behind, is_first_slice, cut, access_units, slice_of, slices_of, is_any, has_picture, first_slices, kept, is_kept, slice_from, last_slice, in_last, AreAccessUnits, AreCutAt}

-- ---- one unit

-- the access unit before is forgotten where another starts
same_behind : (last : Option Slice) (u : NalUnit) → starts last u ≡ true → slice_behind last u ≡ slice_behind None u
same_behind None u e = refl
same_behind (Some l) (Coded s p) e = refl
same_behind (Some l) Sei e = refl
same_behind (Some l) Set e = refl
same_behind (Some l) Delimiter e = refl
same_behind (Some l) End e = absurd cc
same_behind (Some l) Filler e = absurd cc

was_some : (last : Option Slice) (u : NalUnit) → starts last u ≡ true → is_some last ≡ true
was_some None u e = absurd cc
was_some (Some l) u e = refl

-- whether an access unit with these slices has a picture with one unit more
abbrev HasOn : {A : Type 0} → Option Slice → List (Slice × A) → NalUnit × A → Type 0
HasOn last ss u = is_any (ss ++ slice_of u) ≡ is_some (slice_behind last u.0)

has_on : {A : Type 0} (last : Option Slice) (ss : List (Slice × A)) (u : NalUnit × A) → is_any ss ≡ is_some last → starts last u.0 ≡ false → HasOn last ss u
has_on last [] (Coded s p, a) h e = refl
has_on last (x ∷ ss) (Coded s p, a) h e = refl
has_on None [] (Sei, a) h e = refl
has_on None [] (Set, a) h e = refl
has_on None [] (Delimiter, a) h e = refl
has_on None [] (End, a) h e = refl
has_on None [] (Filler, a) h e = refl
has_on None (x ∷ ss) u h e = absurd cc
has_on (Some l) [] u h e = absurd cc
has_on (Some l) (x ∷ ss) (Sei, a) h e = absurd cc
has_on (Some l) (x ∷ ss) (Set, a) h e = absurd cc
has_on (Some l) (x ∷ ss) (Delimiter, a) h e = absurd cc
has_on (Some l) (x ∷ ss) (End, a) h e = refl
has_on (Some l) (x ∷ ss) (Filler, a) h e = refl

has_one : {A : Type 0} (last : Option Slice) (u : NalUnit × A) → starts last u.0 ≡ true → HasOn last [] u
has_one None u e = absurd cc
has_one (Some l) (Coded s p, a) e = refl
has_one (Some l) (Sei, a) e = refl
has_one (Some l) (Set, a) e = refl
has_one (Some l) (Delimiter, a) e = refl
has_one (Some l) (End, a) e = absurd cc
has_one (Some l) (Filler, a) e = absurd cc

-- ---- the units joined

joined_cut : {A : Type 0} (part : List (NalUnit × A)) (last : Option Slice) (us : List (NalUnit × A)) → flat_map (λ p. p) (cut part last us) ≡ part ++ us
unfolding cut
joined_cut part last [] = flat_map-cons (λ p. p) part []
joined_cut part last (u ∷ us) = go (starts last u.0) (joined_cut (u ∷ []) (slice_behind last u.0) us) (joined_cut (part ++ u ∷ []) (slice_behind last u.0) us)
  where
    go : (b : Bool) → flat_map (λ p. p) (cut (u ∷ []) (slice_behind last u.0) us) ≡ u ∷ us → flat_map (λ p. p) (cut (part ++ u ∷ []) (slice_behind last u.0) us) ≡ (part ++ u ∷ []) ++ us
        → flat_map (λ p. p) (if b then part ∷ cut (u ∷ []) (slice_behind last u.0) us else cut (part ++ u ∷ []) (slice_behind last u.0) us) ≡ part ++ u ∷ us
    go true a c = flat_map-cons (λ p. p) part (cut (u ∷ []) (slice_behind last u.0) us) ∙ ap (λ xs. part ++ xs) a
    go false a c = c ∙ append_assoc part (u ∷ []) us

pub joined : {A : Type 0} (units : List (NalUnit × A)) → flat_map (λ p. p) (access_units units) ≡ units
joined [] = refl
joined (u ∷ us) = joined_cut (u ∷ []) (slice_behind None u.0) us

kept_parts : {A : Type 0} (parts : List (List (NalUnit × A))) → flat_map kept parts ≡ kept (flat_map (λ p. p) parts)
kept_parts [] = refl
kept_parts (p ∷ ps) =
    flat_map-cons kept p ps
    ∙ ap (λ us. kept p ++ us) (kept_parts ps)
    ∙ sym (filter-append (λ u. is_kept u.0) p (flat_map (λ q. q) ps))
    ∙ ap kept (sym (flat_map-cons (λ q. q) p ps))

-- ---- one unit more

last_on : {A : Type 0} (last : Option Slice) (us : List (NalUnit × A)) (u : NalUnit × A) → slice_from last (us ++ u ∷ []) ≡ slice_behind (slice_from last us) u.0
last_on last [] u = refl
last_on last (v ∷ us) u = last_on (slice_behind last v.0) us u

either : {L : Type 0} (b : Bool) (part : L) (x y x' y' more : List L) → x ≡ x' ++ more → y ≡ y' ++ more → (if b then part ∷ x else y) ≡ (if b then part ∷ x' else y') ++ more
either true part x y x' y' more h k = ap (λ xs. part ∷ xs) h
either false part x y x' y' more h k = k

cut_on : {A : Type 0} (part : List (NalUnit × A)) (last : Option Slice) (us : List (NalUnit × A)) (u : NalUnit × A) (behind : List (NalUnit × A)) → starts (slice_from last us) u.0 ≡ true
    → cut part last (us ++ u ∷ behind) ≡ cut part last us ++ access_units (u ∷ behind)
unfolding cut
cut_on part last [] u behind e = rw e (ap (λ (l : Option Slice). part ∷ cut (u ∷ []) l behind) (same_behind last u.0 e))
cut_on part last (v ∷ us) u behind e =
    either (starts last v.0) part _ _ _ _ (access_units (u ∷ behind)) (cut_on (v ∷ []) (slice_behind last v.0) us u behind e) (cut_on (part ++ v ∷ []) (slice_behind last v.0) us u behind e)

cut_before : {A : Type 0} (before : List (NalUnit × A)) (u : NalUnit × A) (behind : List (NalUnit × A)) → starts (last_slice before) u.0 ≡ true
    → access_units (before ++ u ∷ behind) ≡ access_units before ++ access_units (u ∷ behind)
cut_before [] u behind e = absurd cc
cut_before (v ∷ us) u behind e = cut_on (v ∷ []) (slice_behind None v.0) us u behind e

-- there is a part in any case
cut_some : {A : Type 0} (part : List (NalUnit × A)) (last : Option Slice) (us : List (NalUnit × A)) → 0 < length (cut part last us)
unfolding cut
cut_some part last [] = omega arith
cut_some part last (u ∷ us) = go (starts last u.0) (cut_some (part ++ u ∷ []) (slice_behind last u.0) us)
  where
    go : (b : Bool) → 0 < length (cut (part ++ u ∷ []) (slice_behind last u.0) us) → 0 < length (if b then part ∷ cut (u ∷ []) (slice_behind last u.0) us else cut (part ++ u ∷ []) (slice_behind last u.0) us)
    go true h = omega arith
    go false h = h

in_last-behind : {L : Type 0} (u : L) (part : List L) (parts : List (List L)) → 0 < length parts → in_last u (part ∷ parts) ≡ part ∷ in_last u parts
in_last-behind u part [] h = absurd (omega arith)
in_last-behind u part (p ∷ ps) h = refl

whole_on : {A : Type 0} (part : List (NalUnit × A)) (last : Option Slice) (us : List (NalUnit × A)) (u : NalUnit × A) → starts (slice_from last us) u.0 ≡ false
    → cut part last (us ++ u ∷ []) ≡ in_last u (cut part last us)
unfolding cut
whole_on part last [] u e = rw e refl
whole_on part last (v ∷ us) u e = go (starts last v.0) (whole_on (v ∷ []) (slice_behind last v.0) us u e) (whole_on (part ++ v ∷ []) (slice_behind last v.0) us u e)
  where
    go : (b : Bool) → cut (v ∷ []) (slice_behind last v.0) (us ++ u ∷ []) ≡ in_last u (cut (v ∷ []) (slice_behind last v.0) us)
        → cut (part ++ v ∷ []) (slice_behind last v.0) (us ++ u ∷ []) ≡ in_last u (cut (part ++ v ∷ []) (slice_behind last v.0) us)
        → (if b then part ∷ cut (v ∷ []) (slice_behind last v.0) (us ++ u ∷ []) else cut (part ++ v ∷ []) (slice_behind last v.0) (us ++ u ∷ []))
        ≡ in_last u (if b then part ∷ cut (v ∷ []) (slice_behind last v.0) us else cut (part ++ v ∷ []) (slice_behind last v.0) us)
    go true a c = ap (λ xs. part ∷ xs) a ∙ sym (in_last-behind u part (cut (v ∷ []) (slice_behind last v.0) us) (cut_some (v ∷ []) (slice_behind last v.0) us))
    go false a c = c

whole : {A : Type 0} (before : List (NalUnit × A)) (u : NalUnit × A) → starts (last_slice before) u.0 ≡ false → access_units (before ++ u ∷ []) ≡ in_last u (access_units before)
unfolding cut
whole [] u e = refl
whole (v ∷ us) u e = whole_on (v ∷ []) (slice_behind None v.0) us u e

-- ---- what is dropped

take_more : {L : Type 0} (part : L) (parts : List L) (k : ℕ) → k ≤ length parts → take (length (part ∷ parts) - k) (part ∷ parts) ≡ part ∷ take (length parts - k) parts
take_more part parts k h = let e : suc (length parts) - k ≡ suc (length parts - k) = omega arith in rw e refl

few : (last : Option Slice) (n : ℕ) → 0 < n → (if is_some last then 0 else 1) ≤ n
few None n h = omega arith
few (Some l) n h = omega arith

has_behind : {A : Type 0} (part : List (NalUnit × A)) (last : Option Slice) (u : NalUnit × A) → has_picture part ≡ is_some last → starts last u.0 ≡ false → has_picture (part ++ u ∷ []) ≡ is_some (slice_behind last u.0)
has_behind part last u h e = ap is_any (flat_map-append slice_of part (u ∷ []) ∙ ap (λ xs. slices_of part ++ xs) (flat_map-cons slice_of u [] ∙ append-nil (slice_of u))) ∙ has_on last (slices_of part) u h e

has_alone : {A : Type 0} (last : Option Slice) (u : NalUnit × A) → starts last u.0 ≡ true → has_picture (u ∷ []) ≡ is_some (slice_behind last u.0)
has_alone last u e = ap is_any (flat_map-cons slice_of u [] ∙ append-nil (slice_of u)) ∙ has_one last u e

-- the parts that have a picture are all, or all but the last
abbrev Dropped : {A : Type 0} → Option Slice → List (List (NalUnit × A)) → Type 0
Dropped last parts = filter has_picture parts ≡ take (length parts - (if is_some last then 0 else 1)) parts

dropped_more : {A : Type 0} (last : Option Slice) (part : List (NalUnit × A)) (parts : List (List (NalUnit × A))) → has_picture part ≡ true → 0 < length parts → Dropped last parts → Dropped last (part ∷ parts)
dropped_more last part parts h some d = rw h (ap (λ ps. part ∷ ps) d ∙ sym (take_more part parts (if is_some last then 0 else 1) (few last (length parts) some)))

dropped_one : {A : Type 0} (last : Option Slice) (part : List (NalUnit × A)) → has_picture part ≡ is_some last → Dropped last (part ∷ [])
dropped_one None part h = rw h refl
dropped_one (Some l) part h = rw h refl

dropped_cut : {A : Type 0} (part : List (NalUnit × A)) (last : Option Slice) (us : List (NalUnit × A)) → has_picture part ≡ is_some last → Dropped (slice_from last us) (cut part last us)
unfolding cut
dropped_cut part last [] h = dropped_one last part h
dropped_cut part last (u ∷ us) h =
    go (starts last u.0) refl (λ e. dropped_cut (u ∷ []) (slice_behind last u.0) us (has_alone last u e)) (λ e. dropped_cut (part ++ u ∷ []) (slice_behind last u.0) us (has_behind part last u h e))
  where
    go : (b : Bool) → starts last u.0 ≡ b
        → (starts last u.0 ≡ true → Dropped (slice_from (slice_behind last u.0) us) (cut (u ∷ []) (slice_behind last u.0) us))
        → (starts last u.0 ≡ false → Dropped (slice_from (slice_behind last u.0) us) (cut (part ++ u ∷ []) (slice_behind last u.0) us))
        → Dropped (slice_from (slice_behind last u.0) us) (if b then part ∷ cut (u ∷ []) (slice_behind last u.0) us else cut (part ++ u ∷ []) (slice_behind last u.0) us)
    go true e a c = dropped_more (slice_from (slice_behind last u.0) us) part (cut (u ∷ []) (slice_behind last u.0) us) (h ∙ was_some last u.0 e) (cut_some (u ∷ []) (slice_behind last u.0) us) (a e)
    go false e a c = c e

first_has : {A : Type 0} (u : NalUnit × A) → has_picture (u ∷ []) ≡ is_some (slice_behind None u.0)
first_has {A = A} u = ap is_any (flat_map-cons slice_of u [] ∙ append-nil (slice_of u)) ∙ alone u
  where
    alone : (u : NalUnit × A) → is_any (slice_of u) ≡ is_some (slice_behind None u.0)
    alone (Coded s p, a) = refl
    alone (Sei, a) = refl
    alone (Set, a) = refl
    alone (Delimiter, a) = refl
    alone (End, a) = refl
    alone (Filler, a) = refl

dropped : {A : Type 0} (units : List (NalUnit × A)) → Dropped (last_slice units) (access_units units)
dropped [] = refl
dropped (u ∷ us) = dropped_cut (u ∷ []) (slice_behind None u.0) us (first_has u)

-- ---- first slices

number_of : {A : Type 0} (parts : List (List (NalUnit × A))) → length (flat_map (λ part. take 1 (slices_of part)) parts) ≡ length (filter has_picture parts)
number_of [] = refl
number_of {A = A} (p ∷ ps) = ap length (flat_map-cons (λ part. take 1 (slices_of part)) p ps) ∙ go (slices_of p) (number_of ps)
  where
    go : (ss : List (Slice × A)) → length (flat_map (λ part. take 1 (slices_of part)) ps) ≡ length (filter has_picture ps)
        → length (take 1 ss ++ flat_map (λ part. take 1 (slices_of part)) ps) ≡ length (if is_any ss then p ∷ filter has_picture ps else filter has_picture ps)
    go [] e = e
    go (s ∷ ss) e = ap suc e

pub are_access_units : {A : Type 0} (units : List (NalUnit × A)) → AreAccessUnits units
are_access_units units = record { joined = joined units; kept_joined = kept_parts (access_units units) ∙ ap kept (joined units); dropped = dropped units; number = number_of (access_units units) }

-- the unit, where it is the first slice of its access unit
abbrev first_of : {A : Type 0} → Option Slice → NalUnit × A → List (Slice × A)
first_of last u = if is_first_slice last u.0 then slice_of u else []

abbrev firsts : {A : Type 0} → List (List (NalUnit × A)) → List (Slice × A)
firsts parts = flat_map (λ part. take 1 (slices_of part)) parts

first_alone : {A : Type 0} (last : Option Slice) (u : NalUnit × A) → (last ≡ None) ⊎ (starts last u.0 ≡ true) → take 1 (slice_of u) ≡ first_of last u
first_alone None (Coded s p, a) e = refl
first_alone None (Sei, a) e = refl
first_alone None (Set, a) e = refl
first_alone None (Delimiter, a) e = refl
first_alone None (End, a) e = refl
first_alone None (Filler, a) e = refl
first_alone (Some l) (Coded s p, a) (inl e) = absurd cc
first_alone (Some l) (Coded s p, a) (inr e) = rw e refl
first_alone (Some l) (Sei, a) e = refl
first_alone (Some l) (Set, a) e = refl
first_alone (Some l) (Delimiter, a) e = refl
first_alone (Some l) (End, a) e = refl
first_alone (Some l) (Filler, a) e = refl

first_behind : {A : Type 0} (last : Option Slice) (ss : List (Slice × A)) (u : NalUnit × A) → is_any ss ≡ is_some last → starts last u.0 ≡ false → take 1 (ss ++ slice_of u) ≡ take 1 ss ++ first_of last u
first_behind None [] (Coded s p, a) h e = refl
first_behind None [] (Sei, a) h e = refl
first_behind None [] (Set, a) h e = refl
first_behind None [] (Delimiter, a) h e = refl
first_behind None [] (End, a) h e = refl
first_behind None [] (Filler, a) h e = refl
first_behind None (x ∷ ss) u h e = absurd cc
first_behind (Some l) [] u h e = absurd cc
first_behind (Some l) (x ∷ ss) (Coded s p, a) h e = rw e refl
first_behind (Some l) (x ∷ ss) (Sei, a) h e = absurd cc
first_behind (Some l) (x ∷ ss) (Set, a) h e = absurd cc
first_behind (Some l) (x ∷ ss) (Delimiter, a) h e = absurd cc
first_behind (Some l) (x ∷ ss) (End, a) h e = refl
first_behind (Some l) (x ∷ ss) (Filler, a) h e = refl

slices_one : {A : Type 0} (u : NalUnit × A) → slices_of (u ∷ []) ≡ slice_of u
slices_one u = flat_map-cons slice_of u [] ∙ append-nil (slice_of u)

slices_on : {A : Type 0} (part : List (NalUnit × A)) (u : NalUnit × A) → slices_of (part ++ u ∷ []) ≡ slices_of part ++ slice_of u
slices_on part u = flat_map-append slice_of part (u ∷ []) ∙ ap (λ xs. slices_of part ++ xs) (slices_one u)

firsts_one : {A : Type 0} (part : List (NalUnit × A)) → firsts (part ∷ []) ≡ take 1 (slices_of part)
firsts_one part = flat_map-cons (λ p. take 1 (slices_of p)) part [] ∙ append-nil (take 1 (slices_of part))

firsts_new : {A : Type 0} (last : Option Slice) (u : NalUnit × A) → (last ≡ None) ⊎ (starts last u.0 ≡ true) → firsts ((u ∷ []) ∷ []) ≡ first_of last u
firsts_new last u e = firsts_one (u ∷ []) ∙ ap (take 1) (slices_one u) ∙ first_alone last u e

firsts_last : {A : Type 0} (part : List (NalUnit × A)) (last : Option Slice) (u : NalUnit × A) → has_picture part ≡ is_some last
    → firsts (if starts last u.0 then part ∷ (u ∷ []) ∷ [] else (part ++ u ∷ []) ∷ []) ≡ firsts (part ∷ []) ++ first_of last u
firsts_last {A = A} part last u h = go (starts last u.0) refl
  where
    go : (b : Bool) → starts last u.0 ≡ b → firsts (if b then part ∷ (u ∷ []) ∷ [] else (part ++ u ∷ []) ∷ []) ≡ firsts (part ∷ []) ++ first_of last u
    go true e = flat_map-append (λ p. take 1 (slices_of p)) (part ∷ []) ((u ∷ []) ∷ []) ∙ ap (λ xs. firsts (part ∷ []) ++ xs) (firsts_new last u (inr e))
    go false e =
        firsts_one (part ++ u ∷ []) ∙ ap (take 1) (slices_on part u) ∙ first_behind last (slices_of part) u h e ∙ ap (λ xs. xs ++ first_of last u) (sym (firsts_one part))

firsts_more : {A : Type 0} (part : List (NalUnit × A)) (parts parts' : List (List (NalUnit × A))) (more : List (Slice × A)) → firsts parts' ≡ firsts parts ++ more → firsts (part ∷ parts') ≡ firsts (part ∷ parts) ++ more
firsts_more part parts parts' more e =
    let f = take 1 (slices_of part) in
    flat_map-cons (λ p. take 1 (slices_of p)) part parts' ∙ ap (λ xs. f ++ xs) e ∙ sym (append_assoc f (firsts parts) more)
    ∙ ap (λ xs. xs ++ more) (sym (flat_map-cons (λ p. take 1 (slices_of p)) part parts))

firsts_on : {A : Type 0} (part : List (NalUnit × A)) (last : Option Slice) (us : List (NalUnit × A)) (u : NalUnit × A) → has_picture part ≡ is_some last
    → firsts (cut part last (us ++ u ∷ [])) ≡ firsts (cut part last us) ++ first_of (slice_from last us) u
unfolding cut
firsts_on part last [] u h = firsts_last part last u h
firsts_on {A = A} part last (v ∷ us) u h =
    go (starts last v.0) refl (λ e. firsts_on (v ∷ []) (slice_behind last v.0) us u (has_alone last v e)) (λ e. firsts_on (part ++ v ∷ []) (slice_behind last v.0) us u (has_behind part last v h e))
  where
    go : (b : Bool) → starts last v.0 ≡ b
        → (starts last v.0 ≡ true → firsts (cut (v ∷ []) (slice_behind last v.0) (us ++ u ∷ [])) ≡ firsts (cut (v ∷ []) (slice_behind last v.0) us) ++ first_of (slice_from (slice_behind last v.0) us) u)
        → (starts last v.0 ≡ false → firsts (cut (part ++ v ∷ []) (slice_behind last v.0) (us ++ u ∷ [])) ≡ firsts (cut (part ++ v ∷ []) (slice_behind last v.0) us) ++ first_of (slice_from (slice_behind last v.0) us) u)
        → firsts (if b then part ∷ cut (v ∷ []) (slice_behind last v.0) (us ++ u ∷ []) else cut (part ++ v ∷ []) (slice_behind last v.0) (us ++ u ∷ []))
        ≡ firsts (if b then part ∷ cut (v ∷ []) (slice_behind last v.0) us else cut (part ++ v ∷ []) (slice_behind last v.0) us) ++ first_of (slice_from (slice_behind last v.0) us) u
    go true e a c = firsts_more part (cut (v ∷ []) (slice_behind last v.0) us) (cut (v ∷ []) (slice_behind last v.0) (us ++ u ∷ [])) (first_of (slice_from (slice_behind last v.0) us) u) (a e)
    go false e a c = c e

first : {A : Type 0} (before : List (NalUnit × A)) (u : NalUnit × A) → first_slices (before ++ u ∷ []) ≡ first_slices before ++ first_of (last_slice before) u
unfolding cut
first [] u = firsts_new None u (inl refl)
first (v ∷ us) u = firsts_on (v ∷ []) (slice_behind None v.0) us u (first_has v)

pub are_cut_at : {A : Type 0} (before : List (NalUnit × A)) (unit : NalUnit × A) (behind : List (NalUnit × A)) → AreCutAt before unit behind
are_cut_at before unit behind = record { last = last_on None before unit; cut = cut_before before unit behind; whole = whole before unit; first = first before unit }
