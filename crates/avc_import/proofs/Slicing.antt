-- The header of a slice in a front of its unit.
use Rattle.std.proofs.Common.{◌≡◌, ◌≢◌, ◌≤◌, ◌<◌, ℕ, zero, suc, Bool, true, false, nat_lt, ltb-true, ltb-false, ◌==◌, ◌&&◌, ◌%◌, option_map, List, [], ◌∷◌, ◌++◌, length, take, drop, Option, Some, None, IfSome, IsSome, Result, Ok, Err, refl, sym, ap, subst, ◌∙◌, arith, length-append}
use Rattle.std.specs.Prelude.{slice_index, if◌then◌else◌}
use Rattle.std.proofs.lemmas.List.{take-append-drop, take-take}
use Rattle.mp_ports.specs.Checks.{placed}
use Rattle.mp_ports.specs.declared.code.Code.{Code}
use Rattle.mp_ports.specs.declared.code.Code.TheVariants.{SliceSyntax}
use Rattle.mp_ports.specs.declared.fault.Bad.{Bad}
use Rattle.avc_units.specs.declared.elements.ElementFail.{ElementFail}
use Rattle.avc_units.specs.declared.elements.ElementFail.TheVariants.{Syntax}
use Rattle.avc_units.specs.Bits.{bits_of}
use Rattle.avc_units.specs.Elements.{ue, ue_upto}
use Rattle.avc_units.specs.Emulation.{clean, IsCleanFront}
use Rattle.avc_units.specs.Law.{AreRead, AreReadInTurn, AreSaidByFronts}
use Rattle.avc_units.specs.Table.{Table, ◌>>=◌, SaysCode, and_then, code_of, said, walk}
use Rattle.avc_units.specs.Table.Table.{Fail}
use Rattle.avc_sets.specs.Set.{SequenceSet, PictureSet}
use Rattle.avc_slices.specs.declared.slice.Slice.{Slice}
use Rattle.avc_slices.specs.Header.{header, of_sets, set_of}
use Rattle.avc_slices.specs.Unit.{nal_of}
use Rattle.avc_import.specs.Sets.{ParameterSets, SequenceUnit, HaveSets, bits_in, coded, says, sequence_of}
use Rattle.avc_import.specs.SliceHeader.{slice_in, slice_within}
use Rattle.avc_import.proofs.Saying.{says_is, placed_ok, placed_err}

-- ---- the first byte

record IsFirst (unit : List ℕ) : Type 0 where
  byte : ℕ
  rest : List ℕ
  clean_is : clean unit ≡ byte ∷ rest
  byte_is : slice_index unit 0 ≡ byte

first_of : (unit : List ℕ) → 0 < length unit → IsFirst unit
unfolding clean
first_of [] some = absurd (omega arith)
first_of (suc x ∷ rest) some = record { byte = suc x; rest = clean rest; clean_is = refl; byte_is = refl }
first_of (zero ∷ []) some = record { byte = 0; rest = []; clean_is = refl; byte_is = refl }
first_of (zero ∷ suc x ∷ rest) some = record { byte = 0; rest = clean (suc x ∷ rest); clean_is = refl; byte_is = refl }
first_of (zero ∷ zero ∷ []) some = record { byte = 0; rest = clean (0 ∷ []); clean_is = refl; byte_is = refl }
first_of (zero ∷ zero ∷ zero ∷ rest) some = record { byte = 0; rest = clean (0 ∷ 0 ∷ rest); clean_is = refl; byte_is = refl }
first_of (zero ∷ zero ∷ suc zero ∷ rest) some = record { byte = 0; rest = clean (0 ∷ 1 ∷ rest); clean_is = refl; byte_is = refl }
first_of (zero ∷ zero ∷ suc (suc zero) ∷ rest) some = record { byte = 0; rest = clean (0 ∷ 2 ∷ rest); clean_is = refl; byte_is = refl }
first_of (zero ∷ zero ∷ suc (suc (suc zero)) ∷ rest) some = record { byte = 0; rest = 0 ∷ clean rest; clean_is = refl; byte_is = refl }
first_of (zero ∷ zero ∷ suc (suc (suc (suc x))) ∷ rest) some = record { byte = 0; rest = clean (0 ∷ suc (suc (suc (suc x))) ∷ rest); clean_is = refl; byte_is = refl }

pub clean_some : (unit cleaned : List ℕ) → cleaned ≡ clean unit → 0 < length unit → 0 < length cleaned
clean_some unit cleaned is some =
    let first = first_of unit some in
    let len : length cleaned ≡ suc (length first.rest) = ap length (is ∙ first.clean_is) in
    omega (arith, len)

same_first : (unit cleaned : List ℕ) → cleaned ≡ clean unit → 0 < length unit → slice_index cleaned 0 ≡ slice_index unit 0
same_first unit cleaned is some =
    let first = first_of unit some in
    ap (λ (bytes : List ℕ). slice_index bytes 0) (is ∙ first.clean_is) ∙ sym first.byte_is

-- ---- one front

pub slice_there : (n place : ℕ) (sets : ParameterSets) (unit cleaned : List ℕ) (sps : Option SequenceSet) (r : Result Slice Code) → cleaned ≡ clean unit → 0 < length unit
    → sps ≡ sequence_of sets → AreRead Slice → SaysCode SliceSyntax (header n (nal_of (slice_index cleaned 0)) sps sets.pictures) (bits_of (drop 1 cleaned)) r
    → placed place (slice_within n sets unit) ≡ placed place r
unfolding slice_within
slice_there n place sets unit cleaned sps r is some same law said =
    ap (placed place) (rw (← same_first unit cleaned is some, ← same, ← is) (says_is SliceSyntax (header n (nal_of (slice_index cleaned 0)) sps sets.pictures) (drop 1 cleaned) r law said))

-- the sets of a stream
pub by_sets : (sets : ParameterSets) (sps : Option SequenceSet) (pictures : List PictureSet) (clean : List ℕ) (r : Result Slice Code) → sequence_of sets ≡ sps → sets.pictures ≡ pictures
    → ((n : ℕ) → length (bits_of (drop 1 clean)) < n → SaysCode SliceSyntax (header n (nal_of (slice_index clean 0)) sps pictures) (bits_of (drop 1 clean)) r)
    → (n : ℕ) → length (bits_of (drop 1 clean)) < n → SaysCode SliceSyntax (header n (nal_of (slice_index clean 0)) (sequence_of sets) sets.pictures) (bits_of (drop 1 clean)) r
by_sets sets sps pictures clean r sequence_is pictures_are says n short = rw (sequence_is, pictures_are) (says n short)

-- so many bits
pub bits_short : (n : ℕ) (unit cleaned : List ℕ) → cleaned ≡ clean unit → length (bits_in unit) < n → length (bits_of (drop 1 cleaned)) < n
bits_short n unit cleaned is short = rw (is) short

-- ---- the sets

goes : {A B : Type 0} (r : Result (A × List ℕ) ElementFail) (next : A → List ℕ → Result (B × List ℕ) ElementFail) (y : B × List ℕ) → and_then r next ≡ Ok y
    → (x : A × List ℕ) × (next x.0 x.1 ≡ Ok y)
goes (Ok x) next y is = (x, is)
goes (Err fail) next y is = absurd cc

picture_there : (sets : List PictureSet) (number : ℕ) (found : Option PictureSet) → set_of sets number ≡ found → IsSome found → 0 < length sets
picture_there [] number found is some = absurd (let none = rw (← is) at some in cc)
picture_there (p ∷ ps) number found is some = omega arith

both : (n : ℕ) (byte : ℕ) (kind : ℕ) (sps : Option SequenceSet) (sets : List PictureSet) (number : ℕ) (found : Option PictureSet) → set_of sets number ≡ found
    → (bits : List ℕ) (y : Slice × List ℕ) → walk (of_sets n (nal_of byte) kind sps found) bits ≡ Ok y → IsSome sps × (0 < length sets)
unfolding walk
both n byte kind None sets number found is bits y walked = absurd cc
both n byte kind (Some s) sets number None is bits y walked = absurd cc
both n byte kind (Some s) sets number (Some p) is bits y walked = (refl, picture_there sets number (Some p) is refl)

walked_both : (n : ℕ) (byte : ℕ) (sps : Option SequenceSet) (sets : List PictureSet) (bits : List ℕ) (y : Slice × List ℕ) → AreReadInTurn ℕ Slice
    → walk (header n (nal_of byte) sps sets) bits ≡ Ok y → IsSome sps × (0 < length sets)
unfolding header walk
walked_both n byte sps sets bits y law walked = by_idr ((nal_of byte).idr && ((nal_of byte).ref_idc == 0)) walked
  where
    number_part : ℕ → Table Slice
    number_part kind = ue_upto 255 >>= (λ number. of_sets n (nal_of byte) (kind % 5) sps (set_of sets number))

    by_idr : (b : Bool) → walk (if b then Fail Syntax else (ue >>= (λ first. ue_upto 9 >>= number_part))) bits ≡ Ok y → IsSome sps × (0 < length sets)
    by_idr true walked = absurd cc
    by_idr false walked =
        let first = goes (walk ue bits) _ y (sym (law ue (λ first. ue_upto 9 >>= number_part) bits) ∙ walked) in
        let kind = goes (walk (ue_upto 9) first.0.1) _ y (sym (law (ue_upto 9) number_part first.0.1) ∙ first.1) in
        let number = goes (walk (ue_upto 255) kind.0.1) _ y (sym (law (ue_upto 255) _ kind.0.1) ∙ kind.1) in
        both n byte _ sps sets number.0.0 (set_of sets number.0.0) refl number.0.1 y number.1

walked_ok : (r : Result (Slice × List ℕ) ElementFail) (slice : Slice) → Ok slice ≡ said r → (y : Slice × List ℕ) × (r ≡ Ok y)
walked_ok (Ok y) slice is = (y, refl)
walked_ok (Err fail) slice is = absurd cc

sequence_there : (sequence : Option SequenceUnit) → IsSome (option_map (λ (s : SequenceUnit). s.fields) sequence) → IsSome sequence
sequence_there None some = some
sequence_there (Some s) some = refl

pub have_sets : (sets : ParameterSets) (byte : ℕ) (sps : Option SequenceSet) (bytes : List ℕ) (slice : Slice) → sps ≡ sequence_of sets → AreRead Slice → AreReadInTurn ℕ Slice
    → ((n : ℕ) → length (bits_of bytes) < n → SaysCode SliceSyntax (header n (nal_of byte) sps sets.pictures) (bits_of bytes) (Ok slice)) → HaveSets sets
have_sets sets byte sps bytes slice same law turn says =
    let n = suc (length (bits_of bytes)) in
    let walked = walked_ok (walk (header n (nal_of byte) sps sets.pictures) (bits_of bytes)) slice (law.written_is_read (header n (nal_of byte) sps sets.pictures) bytes (Ok slice) (says n (omega arith))) in
    let found = walked_both n byte sps sets.pictures (bits_of bytes) walked.0 turn walked.1 in
    record { sequence = sequence_there sets.sequence (rw same at found.0); picture = found.1 }

-- ---- fronts

bits_append : (xs ys : List ℕ) → bits_of (xs ++ ys) ≡ bits_of xs ++ bits_of ys
unfolding bits_of
bits_append [] ys = refl
bits_append (x ∷ xs) ys = rw (bits_append xs ys) refl

record IsPart (front whole : List ℕ) : Type 0 where
  more : List ℕ
  bits_is : bits_in whole ≡ bits_in front ++ more
  first_is : slice_index whole 0 ≡ slice_index front 0

part_is : (front rest : List ℕ) → 0 < length front → IsCleanFront front rest → IsPart front (front ++ rest)
part_is front rest some (more, is) =
    let first = first_of front some in
    let tail : drop 1 (clean front ++ more) ≡ drop 1 (clean front) ++ more = rw first.clean_is refl in
    record {
      more = bits_of more;
      bits_is = ap (λ (b : List ℕ). bits_of (drop 1 b)) is ∙ ap bits_of tail ∙ bits_append (drop 1 (clean front)) more;
      first_is = same_start front some;
    }
  where
    same_start : (front : List ℕ) → 0 < length front → slice_index (front ++ rest) 0 ≡ slice_index front 0
    same_start [] some = absurd (omega arith)
    same_start (x ∷ xs) some = refl

coded_ok : (r : Result (Slice × List ℕ) ElementFail) (slice : Slice) → coded SliceSyntax (said r) ≡ Ok slice → (rest : List ℕ) × (r ≡ Ok (slice, rest))
coded_ok (Ok y) slice is = (y.1, ap (λ (s : Slice). Ok (s, y.1)) same)
  where
    same : y.0 ≡ slice
    same = cc
coded_ok (Err fail) slice is = absurd cc

coded_err : (r : Result (Slice × List ℕ) ElementFail) (code : Code) → coded SliceSyntax (said r) ≡ Err code → (fail : ElementFail) × (r ≡ Err fail) × (code ≡ code_of SliceSyntax fail)
coded_err (Ok y) code is = absurd cc
coded_err (Err fail) code is = (fail, refl, same)
  where
    same : code ≡ code_of SliceSyntax fail
    same = cc

no_syntax : (code : Code) (fail : ElementFail) → code ≢ SliceSyntax → code ≡ code_of SliceSyntax fail → fail ≢ Syntax
no_syntax code fail other is syntax = other (is ∙ ap (code_of SliceSyntax) syntax)

whole_ok : (n : ℕ) (sets : ParameterSets) (front whole : List ℕ) (slice : Slice) → AreSaidByFronts Slice → IsPart front whole → slice_within n sets front ≡ Ok slice
    → slice_within n sets whole ≡ Ok slice
unfolding slice_within says
whole_ok n sets front whole slice law part is =
    let table = header n (nal_of (slice_index front 0)) (sequence_of sets) sets.pictures in
    let found = coded_ok (walk table (bits_in front)) slice is in
    rw (part.first_is, part.bits_is, law.value table (bits_in front) part.more found.0 slice found.1) refl

whole_err : (n : ℕ) (sets : ParameterSets) (front whole : List ℕ) (code : Code) → AreSaidByFronts Slice → IsPart front whole → code ≢ SliceSyntax → slice_within n sets front ≡ Err code
    → slice_within n sets whole ≡ Err code
unfolding slice_within says
whole_err n sets front whole code law part other is =
    let table = header n (nal_of (slice_index front 0)) (sequence_of sets) sets.pictures in
    let (fail, walked, coded) = coded_err (walk table (bits_in front)) code is in
    rw (part.first_is, part.bits_is, law.fail table (bits_in front) part.more fail (no_syntax code fail other coded) walked) (ap Err (sym coded))

-- ---- where the file is told

record IsRead (b : List ℕ) (from len most : ℕ) (front : List ℕ) : Type 0 where
  whole_is : take most (drop from b) ≡ front ++ drop len (take most (drop from b))

read_is : (b : List ℕ) (from len most : ℕ) (front : List ℕ) → len ≤ most → front ≡ take len (drop from b) → IsRead b from len most front
read_is b from len most front le is = record {
  whole_is = sym (take-append-drop len (take most (drop from b))) ∙ ap (λ (t : List ℕ). t ++ drop len (take most (drop from b))) (take-take len most (drop from b) le ∙ sym is);
}

part_of_whole : (b : List ℕ) (from len most : ℕ) (front : List ℕ) → ((front rest : List ℕ) → IsCleanFront front rest) → 0 < length front → len ≤ most → front ≡ take len (drop from b)
    → IsPart front (take most (drop from b))
part_of_whole b from len most front law some le is =
    let read = read_is b from len most front le is in
    let rest = drop len (take most (drop from b)) in
    rw read.whole_is (part_is front rest some (law front rest))

fewer_bits : (front whole : List ℕ) → IsPart front whole → length (bits_in front) < suc (length (bits_in whole))
fewer_bits front whole part = omega (arith, ap length part.bits_is, length-append (bits_in front) part.more)

pub read_ok : (told : Option (List ℕ)) (place from len most : ℕ) (sets : ParameterSets) (front : List ℕ) (slice : Slice) → AreSaidByFronts Slice → ((front rest : List ℕ) → IsCleanFront front rest)
    → 0 < length front → len ≤ most → IfSome told (λ b. front ≡ take len (drop from b))
    → ((n : ℕ) → length (bits_in front) < n → placed place (slice_within n sets front) ≡ Ok slice)
    → IfSome told (λ b. placed place (slice_in sets (take most (drop from b))) ≡ Ok slice)
read_ok None place from len most sets front slice law cleans some le is found = tt
read_ok (Some b) place from len most sets front slice law cleans some le is found =
    let part = part_of_whole b from len most front cleans some le is in
    let n = suc (length (bits_in (take most (drop from b)))) in
    ap (placed place) (whole_ok n sets front (take most (drop from b)) slice law part (placed_ok place (slice_within n sets front) slice (found n (fewer_bits front (take most (drop from b)) part))))

pub read_err : (told : Option (List ℕ)) (place from len most : ℕ) (sets : ParameterSets) (front : List ℕ) (bad : Bad) → AreSaidByFronts Slice → ((front rest : List ℕ) → IsCleanFront front rest)
    → 0 < length front → len ≤ most → (len < most → bad.code ≢ SliceSyntax) → IfSome told (λ b. front ≡ take len (drop from b))
    → ((n : ℕ) → length (bits_in front) < n → placed place (slice_within n sets front) ≡ Err bad)
    → IfSome told (λ b. placed place (slice_in sets (take most (drop from b))) ≡ Err bad)
read_err None place from len most sets front bad law cleans some le other is found = tt
read_err (Some b) place from len most sets front bad law cleans some le other is found = by_len (nat_lt len most) refl
  where
    whole : List ℕ
    whole = take most (drop from b)

    n : ℕ
    n = suc (length (bits_in whole))

    part : IsPart front whole
    part = part_of_whole b from len most front cleans some le is

    on_front : placed place (slice_within n sets front) ≡ Err bad
    on_front = found n (fewer_bits front whole part)

    by_len : (shorter : Bool) → nat_lt len most ≡ shorter → placed place (slice_within n sets whole) ≡ Err bad
    by_len true test =
        let (code, same) = placed_err place (slice_within n sets front) bad on_front in
        ap (placed place) (whole_err n sets front whole bad.code law part (other (ltb-true len most test)) code) ∙ ap Err (sym same)
    by_len false test =
        let least = ltb-false len most test in
        let equal : len ≡ most = omega (arith, le, least) in
        let front_is : whole ≡ front = sym (is ∙ ap (λ (k : ℕ). take k (drop from b)) equal) in
        ap (λ (t : List ℕ). placed place (slice_within n sets t)) front_is ∙ on_front

-- the front as it is passed on
pub front_ok : (told : Option (List ℕ)) (place from len most : ℕ) (sets : ParameterSets) (front given : List ℕ) (slice : Slice) → given ≡ front → AreSaidByFronts Slice
    → ((front rest : List ℕ) → IsCleanFront front rest) → 0 < length front → len ≤ most → IfSome told (λ b. front ≡ take len (drop from b))
    → ((n : ℕ) → length (bits_in given) < n → placed place (slice_within n sets given) ≡ Ok slice)
    → IfSome told (λ b. placed place (slice_in sets (take most (drop from b))) ≡ Ok slice)
front_ok told place from len most sets front given slice same law cleans some le is found =
    read_ok told place from len most sets front slice law cleans some le is
    (subst (λ (t : List ℕ). (n : ℕ) → length (bits_in t) < n → placed place (slice_within n sets t) ≡ Ok slice) same found)

pub front_err : (told : Option (List ℕ)) (place from len most : ℕ) (sets : ParameterSets) (front given : List ℕ) (bad : Bad) → given ≡ front → AreSaidByFronts Slice
    → ((front rest : List ℕ) → IsCleanFront front rest) → 0 < length front → len ≤ most → (len < most → bad.code ≢ SliceSyntax) → IfSome told (λ b. front ≡ take len (drop from b))
    → ((n : ℕ) → length (bits_in given) < n → placed place (slice_within n sets given) ≡ Err bad)
    → IfSome told (λ b. placed place (slice_in sets (take most (drop from b))) ≡ Err bad)
front_err told place from len most sets front given bad same law cleans some le other is found =
    read_err told place from len most sets front bad law cleans some le other is
    (subst (λ (t : List ℕ). (n : ℕ) → length (bits_in t) < n → placed place (slice_within n sets t) ≡ Err bad) same found)
