-- A part of a part of a file is a part of the file.
use Rattle.std.proofs.Common.{◌≡◌, ℕ, ◌+◌, ◌-◌, ◌≤◌, List, ◌++◌, length, take, drop, get_or, Option, Some, None, IfSome, ap, ◌∙◌, arith, rules}
use Rattle.std.proofs.lemmas.List.{same_lists, places, drop_at, length-take-le}
use Rattle.std.proofs.lemmas.Slice.{take-put_mid}
use borrow.Rule.Slice.PartMut.{put_mid}
use Rattle.mp_ports.specs.Folder.{FolderState, OpenedFile, ReadsFrom, opened_at}
use Rattle.mp_pieces.specs.declared.stand.Stand.{Stand}
use Rattle.mp_pieces.specs.Gathered.{IsStand, Keeps}

-- where the front of a buffer has a file's bytes from a place on, a range inside it has those from its own place on
pub part_of : (told : Option (List ℕ)) (buffer : List ℕ) (len from at end : ℕ) → from ≤ at → end ≤ len → len ≤ length buffer
    → IfSome told (λ file. take len buffer ≡ take (length (take len buffer)) (drop from file))
    → IfSome told (λ file. take (end - (at - from)) (drop (at - from) buffer) ≡ take (length (take (end - (at - from)) (drop (at - from) buffer))) (drop at file))
part_of None buffer len from at end le inside room part = tt
part_of (Some file) buffer len from at end le inside room part = same_lists _ _ (search (rules, places)) (λ k e q. grind (arith, places))

-- of the bytes read ahead up to the place `to` of their file, those from `next` on are left, if any, where nothing behind `mark` changed
less_ahead : (told : Option (List ℕ)) (window now : List ℕ) (begin end to mark next last : ℕ) → begin ≤ end → end ≤ length window → end - begin ≤ to
    → begin ≤ next → mark ≤ next → next ≤ last → end ≤ last → last - next ≤ end - next → last ≤ length window → length now ≡ length window → drop mark now ≡ drop mark window
    → IfSome told (λ file. drop begin (take end window) ≡ take (length (drop begin (take end window))) (drop (to - (end - begin)) file))
    → IfSome told (λ file. drop next (take last now) ≡ take (length (drop next (take last now))) (drop (to - (last - next)) file))
less_ahead None window now begin end to mark next last ahead room place from over order whole inside fits same behind part = tt
less_ahead (Some file) window now begin end to mark next last ahead room place from over order whole inside fits same behind part =
    same_lists _ _ (search (rules, places))
    (λ k e q. grind (arith, places, ap (λ (l : List ℕ). get_or l (k + (next - begin)) e) part, ap (λ (l : List ℕ). get_or l (k + (next - mark)) e) behind))

-- so many bytes of those read ahead are the file's bytes from their place on
pub range_is : (told : Option (List ℕ)) (window : List ℕ) (begin end to at count : ℕ) → begin ≤ end → end ≤ length window → end - begin ≤ to → to - at ≤ end - begin → at + count ≤ to
    → IfSome told (λ file. drop begin (take end window) ≡ take (length (drop begin (take end window))) (drop (to - (end - begin)) file))
    → IfSome told (λ file. take count (drop (end - (to - at)) window) ≡ take count (drop at file))
range_is None window begin end to at count ahead room place behind inside part = tt
range_is (Some file) window begin end to at count ahead room place behind inside part =
    same_lists _ _ (search (rules, places)) (λ k e q. grind (arith, places, ap (λ (l : List ℕ). get_or l (k + (end - (to - at) - begin)) e) part))

-- what is kept may grow over the bytes that were read ahead: those behind stay
pub still_stands : (s : FolderState) (old new : List ℕ) (stand next : Stand) (mark : ℕ) → next.kept ≤ next.begin → mark ≤ next.begin → next.begin ≤ next.end → next.end ≤ length old
    → stand.begin ≤ next.begin → stand.end ≤ next.end → next.end - next.begin ≤ stand.end - next.begin → next.file ≡ stand.file → next.to ≡ stand.to
    → length new ≡ length old → drop mark new ≡ drop mark old → IsStand s old stand → IsStand s new next
still_stands s old new stand next mark kept over ahead fits from whole inside file to same behind stands = record {
  kept = kept;
  ahead = ahead;
  room = omega (arith, same, fits);
  place = omega (arith, to, inside, from, stands.ahead, stands.place);
  part = rw (file, to)
      (less_ahead (opened_at s stand.file).bytes old new stand.begin stand.end stand.to mark next.begin next.end stands.ahead stands.room stands.place from over ahead whole inside fits same behind stands.part);
}

moved_is : (told : Option (List ℕ)) (kept now range : List ℕ) (at count : ℕ) → now ≡ kept ++ range → IfSome told (λ file. range ≡ take count (drop at file))
    → IfSome told (λ file. now ≡ kept ++ take count (drop at file))
moved_is None kept now range at count moved is = tt
moved_is (Some file) kept now range at count moved is = moved ∙ ap (λ (l : List ℕ). kept ++ l) is

-- after the move of so many bytes that were read ahead
pub keeps : (s : FolderState) (old new : List ℕ) (stand next : Stand) (at count : ℕ) → next.kept ≡ stand.kept + count → next.begin ≡ stand.end - (stand.to - at) + count
    → next.end ≡ stand.end → next.file ≡ stand.file → next.to ≡ stand.to → stand.to - at ≤ stand.end - stand.begin → at + count ≤ stand.to
    → length new ≡ length old → drop (stand.end - (stand.to - at) + count) new ≡ drop (stand.end - (stand.to - at) + count) old
    → take next.kept new ≡ take stand.kept old ++ take count (drop (stand.end - (stand.to - at)) old) → IsStand s old stand → Keeps s old new stand next at count
keeps s old new stand next at count kept begin end file to behind inside same rest moved stands = record {
  stands = still_stands s old new stand next (stand.end - (stand.to - at) + count) (omega (arith, kept, begin, stands.kept, stands.ahead)) (omega (arith, begin)) (omega (arith, begin, end, stands.ahead))
      (omega (arith, end, stands.room)) (omega (arith, begin, stands.ahead)) (omega (arith, end)) (omega (arith, end)) file to same rest stands;
  kept = moved_is (opened_at s stand.file).bytes _ _ _ at count moved
      (range_is (opened_at s stand.file).bytes old stand.begin stand.end stand.to at count stands.ahead stands.room stands.place behind inside stands.part);
}

-- what was read stands from `begin` on
pub read_is : (file : OpenedFile) (at begin count k : ℕ) (old into : List ℕ) → begin + count ≤ length old → length into ≡ count → ReadsFrom file at into
    → ReadsFrom file (at + count - (begin + count - begin)) (drop begin (take (begin + count) (put_mid begin k old into)))
read_is file at begin count k old into fits long read =
    let list : drop begin (take (begin + count) (put_mid begin k old into)) ≡ into = ap (drop begin) (take-put_mid begin k old into (begin + count) (omega (arith, long)) (omega (arith, fits)))
    ∙ drop_at (take begin old) into begin (length-take-le begin old (omega (arith, fits))) in
    let place : at + count - (begin + count - begin) ≡ at = omega arith in
    rw (list, place) read
