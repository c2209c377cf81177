-- The boxes at the top of a file are passed one after another.
use Rattle.std.proofs.Common.{◌≡◌, ℕ, zero, suc, ◌+◌, ◌<◌, ◌≤◌, Bool, true, false, ◌-◌, List, [], ◌∷◌, ◌++◌, length, take, drop, min, Option, Some, None, IfSome, Result, Ok, Err, refl, sym, ap, ◌∙◌, append_assoc, append-nil, arith}
use Rattle.std.specs.Prelude.{codes, if◌then◌else◌, option_map}
use Rattle.std.specs.Str.{bytes_eq}
use Rattle.std.proofs.lemmas.List.{length-drop, drop-drop, drop_all}
use Rattle.std.proofs.lemmas.List.Elements.{filter-append}
use Rattle.mp_ports.specs.declared.code.Code.{Code}
use Rattle.mp_ports.specs.declared.fault.Bad.{Bad}
use Rattle.mp_ports.specs.declared.fault.ReadFail.{ReadFail}
use Rattle.mp_ports.specs.declared.fault.ReadFail.TheVariants.{Bad as Refused, ReadFault, NoMemory}
use Rattle.mp_ports.specs.declared.code.Code.TheVariants.{Compressed, Fragmented}
use Rattle.mp_ports.specs.Checks.{◌>>=◌, first_some, placed}
use Rattle.mp_ports.specs.Gives.{Gives, read_refusal}
use Rattle.mp_boxes.specs.declared.head.TopHead.{TopHead}
use Rattle.mp_boxes.specs.Head.{head_at, head_from}
use Rattle.mp_boxes.specs.Boxes.{Box, front_box, walk}
use Rattle.mp_boxes.specs.Child.{first_of, of_kind, one_of}
use Rattle.mp_movie.specs.Children.{has_none}
use Rattle.mp_movie.specs.Present.{first_fault, movie_fault, one_moov, top_boxes}
use Rattle.mp_read.specs.declared.top.FileBox.{FileBox}
use Rattle.mp_read.specs.declared.top.Seen.{Seen}
use Rattle.mp_read.specs.Top.{AreSeen, FindsMoov, IsInFile, box_at, first_two, none_seen, second_of, seen_with}

-- ---- one box more of a type

first_more : (file kind : List ℕ) (boxes found : List Box) (first second : Option FileBox) (this : FileBox) → of_kind kind boxes ≡ found ++ box_at file this ∷ []
    → first_of found ≡ option_map (box_at file) first → second_of found ≡ option_map (box_at file) second → AreSeen file kind boxes (first_two kind first second this)
first_more file kind boxes [] None second this e p q = record { kind_is = refl; first = ap first_of e; second = ap second_of e }
first_more file kind boxes [] (Some first) second this e p q = absurd cc
first_more file kind boxes (box ∷ found) None second this e p q = absurd cc
first_more file kind boxes (box ∷ []) (Some first) None this e p q = record { kind_is = refl; first = ap first_of e ∙ p; second = ap second_of e }
first_more file kind boxes (box ∷ []) (Some first) (Some second) this e p q = absurd cc
first_more file kind boxes (box ∷ other ∷ found) (Some first) None this e p q = absurd cc
first_more file kind boxes (box ∷ other ∷ found) (Some first) (Some second) this e p q = record { kind_is = refl; first = ap first_of e ∙ p; second = ap second_of e ∙ q }

seen_more : (file kind : List ℕ) (boxes : List Box) (seen : Seen) (this : FileBox) → AreSeen file kind boxes seen → AreSeen file kind (boxes ++ box_at file this ∷ []) (seen_with seen this)
seen_more file kind boxes seen this a = by (bytes_eq this.head.kind kind) refl
  where
    all : of_kind kind (boxes ++ box_at file this ∷ []) ≡ of_kind kind boxes ++ of_kind kind (box_at file this ∷ [])
    all = filter-append (λ (box : Box). bytes_eq box.kind kind) boxes (box_at file this ∷ [])

    by : (is : Bool) → bytes_eq this.head.kind kind ≡ is → AreSeen file kind (boxes ++ box_at file this ∷ []) (seen_with seen this)
    by true e = rw (a.kind_is, e) (first_more file kind _ (of_kind kind boxes) seen.first seen.second this (all ∙ rw e refl) a.first a.second)
    by false e =
        let same : of_kind kind (boxes ++ box_at file this ∷ []) ≡ of_kind kind boxes = all ∙ rw e (append-nil (of_kind kind boxes)) in
        rw (a.kind_is, e) (record { kind_is = refl; first = ap first_of same ∙ a.first; second = ap second_of same ∙ a.second })

-- ---- one box more of a file

-- the boxes so far, and then those that are read
abbrev behind : List Box → Result (List Box) Bad → Result (List Box) Bad
behind done rest = rest >>= λ boxes. Ok (done ++ boxes)

behind_more : (done : List Box) (box : Box) (rest : Result (List Box) Bad) → behind done (rest >>= λ boxes. Ok (box ∷ boxes)) ≡ behind (done ++ box ∷ []) rest
behind_more done box (Ok boxes) = ap Ok (sym (append_assoc done (box ∷ []) boxes))
behind_more done box (Err bad) = refl

-- the boxes in front of `at` were passed, and of each of three types the first two are known
pub record TopWalked (file : List ℕ) (at : ℕ) (fragment compressed moov : Seen) : Type 0 where
  pub done : List Box
  pub most : ℕ
  pub enough : length (drop at file) ≤ most
  pub rest : top_boxes file ≡ behind done (walk most true at (drop at file))
  pub fragment_seen : AreSeen file (codes "moof") done fragment
  pub compressed_seen : AreSeen file (codes "!mov") done compressed
  pub moov_seen : AreSeen file (codes "moov") done moov

steps : (m at : ℕ) (text : List ℕ) (head : TopHead) (done : List Box) → 0 < length text → placed at (head_at true text) ≡ Ok head
    → behind done (walk (suc m) true at text) ≡ behind (done ++ front_box head at text ∷ []) (walk m true (at + head.len) (drop head.len text))
unfolding walk
steps m at [] head done some e = absurd (omega arith)
steps m at (x ∷ xs) head done some e = rw e (behind_more done (front_box head at (x ∷ xs)) (walk m true (at + head.len) (drop head.len (x ∷ xs))))

stops : (m at : ℕ) (text : List ℕ) (bad : Bad) (done : List Box) → 0 < length text → placed at (head_at true text) ≡ Err bad → behind done (walk (suc m) true at text) ≡ Err bad
unfolding walk
stops m at [] bad done some e = absurd (omega arith)
stops m at (x ∷ xs) bad done some e = rw e refl

ends : (m at : ℕ) (done : List Box) → behind done (walk m true at []) ≡ Ok done
unfolding walk
ends zero at done = ap Ok (append-nil done)
ends (suc m) at done = ap Ok (append-nil done)

pub none_passed : (told : Option (List ℕ)) (fragment compressed moov : Seen) → fragment ≡ none_seen (codes "moof") → compressed ≡ none_seen (codes "!mov") → moov ≡ none_seen (codes "moov")
    → IfSome told (λ file. TopWalked file 0 fragment compressed moov)
unfolding top_boxes
none_passed None fragment compressed moov f c m = tt
none_passed (Some file) fragment compressed moov f c m = rw (f, c, m)
    (record {
      done = [];
      most = length file;
      enough = omega arith;
      rest = all (walk (length file) true 0 file);
      fragment_seen = record { kind_is = refl; first = refl; second = refl };
      compressed_seen = record { kind_is = refl; first = refl; second = refl };
      moov_seen = record { kind_is = refl; first = refl; second = refl };
    })
  where
    all : (r : Result (List Box) Bad) → r ≡ behind [] r
    all (Ok boxes) = refl
    all (Err bad) = refl

pub one_passed : (told : Option (List ℕ)) (size at : ℕ) (head : TopHead) (fragment compressed moov : Seen) → IfSome told (λ file. size ≡ length file) → at < size → 0 < head.len
    → IfSome told (λ file. Gives read_refusal (λ head. head) (Ok head) (placed at (head_at true (drop at file)))) → IfSome told (λ file. TopWalked file at fragment compressed moov)
    → let this : FileBox = record { place = at; head = head } in IfSome told (λ file. TopWalked file (at + head.len) (seen_with fragment this) (seen_with compressed this) (seen_with moov this))
one_passed None size at head fragment compressed moov e lt some read walked = tt
one_passed (Some file) size at head fragment compressed moov e lt some read walked = from walked.most walked.enough walked.rest
  where
    this : FileBox
    this = record { place = at; head = head }

    from : (most : ℕ) → length (drop at file) ≤ most → top_boxes file ≡ behind walked.done (walk most true at (drop at file))
        → TopWalked file (at + head.len) (seen_with fragment this) (seen_with compressed this) (seen_with moov this)
    from zero le rest = absurd (omega (arith, length-drop at file))
    from (suc m) le rest = record {
      done = walked.done ++ box_at file this ∷ [];
      most = m;
      enough = omega (arith, length-drop at file, length-drop (at + head.len) file);
      rest = rest ∙ steps m at (drop at file) head walked.done (omega (arith, length-drop at file)) read ∙ ap (λ (t : List ℕ). behind (walked.done ++ box_at file this ∷ []) (walk m true (at + head.len) t)) (drop-drop head.len at file);
      fragment_seen = seen_more file (codes "moof") walked.done fragment this walked.fragment_seen;
      compressed_seen = seen_more file (codes "!mov") walked.done compressed this walked.compressed_seen;
      moov_seen = seen_more file (codes "moov") walked.done moov this walked.moov_seen;
    }

-- ---- a box that is faulty, or none is left

top_refused : (file : List ℕ) (bad : Bad) → top_boxes file ≡ Err bad → first_fault file ≡ Some bad
unfolding first_fault
top_refused file bad e = rw e refl

pub refused : (told : Option (List ℕ)) (size at : ℕ) (fail : ReadFail) (fragment compressed moov : Seen) → IfSome told (λ file. size ≡ length file) → at < size
    → IfSome told (λ file. Gives read_refusal (λ (head : TopHead). head) (Err fail) (placed at (head_at true (drop at file)))) → IfSome told (λ file. TopWalked file at fragment compressed moov)
    → IfSome told (λ file. FindsMoov read_refusal file (Err fail))
refused None size at fail fragment compressed moov e lt read walked = tt
refused (Some file) size at (Refused bad) fragment compressed moov e lt read walked = from walked.most walked.enough walked.rest
  where
    from : (most : ℕ) → length (drop at file) ≤ most → top_boxes file ≡ behind walked.done (walk most true at (drop at file)) → first_fault file ≡ Some bad
    from zero le rest = absurd (omega (arith, length-drop at file))
    from (suc m) le rest = top_refused file bad (rest ∙ stops m at (drop at file) bad walked.done (omega (arith, length-drop at file)) read)
refused (Some file) size at ReadFault fragment compressed moov e lt read walked = tt
refused (Some file) size at NoMemory fragment compressed moov e lt read walked = tt

pub all_passed : (told : Option (List ℕ)) (size at : ℕ) (fragment compressed moov : Seen) (result : Result FileBox Bad) → IfSome told (λ file. size ≡ length file) → size ≤ at
    → ((file : List ℕ) (boxes : List Box) → size ≡ length file → top_boxes file ≡ Ok boxes → AreSeen file (codes "moof") boxes fragment → AreSeen file (codes "!mov") boxes compressed
    → AreSeen file (codes "moov") boxes moov → FindsMoov Some file result)
    → IfSome told (λ file. TopWalked file at fragment compressed moov) → IfSome told (λ file. FindsMoov Some file result)
all_passed None size at fragment compressed moov result e le found walked = tt
all_passed (Some file) size at fragment compressed moov result e le found walked =
    let read = walked.rest ∙ rw (drop_all at file (omega (arith, e))) (ends walked.most at walked.done) in
    found file walked.done e read walked.fragment_seen walked.compressed_seen walked.moov_seen

-- ---- the movie box that was seen

pub kept_in_file : (size : ℕ) (seen : Seen) (found : FileBox) → IfSome seen.first (IsInFile size) → IsInFile size found → IfSome (seen_with seen found).first (IsInFile size)
kept_in_file size seen found kept new = by (bytes_eq found.head.kind seen.kind) seen.first seen.second kept
  where
    by : (is : Bool) (first second : Option FileBox) → IfSome first (IsInFile size) → IfSome (if is then first_two seen.kind first second found else (record { kind = seen.kind; first = first; second = second })).first (IsInFile size)
    by true None second kept = new
    by true (Some first) None kept = kept
    by true (Some first) (Some second) kept = kept
    by false first second kept = kept

pub fragment_first : (file : List ℕ) (boxes : List Box) (bad : Bad) → top_boxes file ≡ Ok boxes → has_none Fragmented (codes "moof") boxes ≡ Some bad → first_fault file ≡ Some bad
unfolding first_fault
fragment_first file boxes bad read e = rw (read, e) refl

pub compressed_first : (file : List ℕ) (boxes : List Box) (bad : Bad) → top_boxes file ≡ Ok boxes → has_none Fragmented (codes "moof") boxes ≡ None → has_none Compressed (codes "!mov") boxes ≡ Some bad
    → first_fault file ≡ Some bad
unfolding first_fault
compressed_first file boxes bad read f e = rw (read, f, e) refl

pub moov_found : (file : List ℕ) (boxes : List Box) (size : ℕ) (result : Result FileBox Bad) → size ≡ length file → top_boxes file ≡ Ok boxes → has_none Fragmented (codes "moof") boxes ≡ None
    → has_none Compressed (codes "!mov") boxes ≡ None → Gives Some (box_at file) result (one_of size (of_kind (codes "moov") boxes)) → FindsMoov Some file result
unfolding first_fault one_moov
moov_found file boxes size (Ok found) e read f c one =
    let moov : one_of (length file) (of_kind (codes "moov") boxes) ≡ Ok (box_at file found) = rw e at one in record {
      box = rw (read, moov) refl;
      fault = rw (read, f, c, moov) (one_left (movie_fault (length file) (box_at file found)));
    }
  where
    one_left : (fault : Option Bad) → first_some (fault ∷ []) ≡ fault
    one_left None = refl
    one_left (Some bad) = refl
moov_found file boxes size (Err bad) e read f c one = let refused : one_of (length file) (of_kind (codes "moov") boxes) ≡ Err bad = rw e at one in rw (read, f, c, refused) refl

-- ---- the head at a place of the file

pub head_told : (told : Option (List ℕ)) (size at : ℕ) (front : List ℕ) (read : Result TopHead Code)
    → ((top : Bool) (few : ℕ) (text : List ℕ) → few ≡ min (length text) 24 → head_from top (take few text) (length text) ≡ head_at top text)
    → IfSome told (λ bytes. size ≡ length bytes) → IfSome told (λ bytes. front ≡ take (length front) (drop at bytes)) → length front ≡ min (size - at) 24 → read ≡ head_from true front (size - at)
    → IfSome told (λ bytes. placed at (head_at true (drop at bytes)) ≡ placed at read)
head_told None size at front read law e reads few is = tt
head_told (Some bytes) size at front read law e reads few is =
    let left : size - at ≡ length (drop at bytes) = omega (arith, length-drop at bytes, e) in
    ap (placed at)
    (sym
    (is ∙ ap (head_from true front) left ∙ ap (λ (text : List ℕ). head_from true text (length (drop at bytes))) reads ∙ law true (length front) (drop at bytes) (few ∙ ap (λ (n : ℕ). min n 24) left)))
