-- A name that ends in the suffix of an NHNT table can be cut in front of it.
use Rattle.std.proofs.Common.{◌≡◌, ◌<◌, ◌-◌, ◌+◌, ℕ, Bool, true, false, true≢false, ◌&&◌, ◌||◌, List, [], ◌∷◌, length, drop, codes, nat_eq, slice_index, refl, sym, ap, ◌∙◌, arith, tests}
use Rattle.std.specs.Bool.{then_some}
use Rattle.std.specs.Str.{IsCharBoundary, str_eq_ignore_ascii_case}
use Rattle.std.specs.Char.{to_ascii_lowercase}
use Rattle.std.proofs.lemmas.List.{get_or-drop}
use Rattle.mp_ports.specs.Checks.{first_some}
use Rattle.mp_words.specs.declared.name.FileKind.{FileKind}
use Rattle.mp_words.specs.Names.{ends_with, kind_of}
use Rattle.mp4edit.specs.Names.{is_nhnt}

last_kind : (a b c d : Bool) → is_nhnt (first_some (then_some a FileKind.Mp4 ∷ then_some b FileKind.Avc ∷ then_some c FileKind.Adts ∷ then_some d FileKind.Nhnt ∷ [])) ≡ true → d ≡ true
last_kind true b c d is = absurd (true≢false (sym is))
last_kind false true c d is = absurd (true≢false (sym is))
last_kind false false true d is = absurd (true≢false (sym is))
last_kind false false false true is = refl
last_kind false false false false is = absurd (true≢false (sym is))

first_of : (a : Bool) → (a || false) ≡ true → a ≡ true
first_of true is = refl
first_of false is = is

both_of : (a b : Bool) → (a && b) ≡ true → a ≡ true
both_of true b is = refl
both_of false b is = is

dot : (c : ℕ) → nat_eq (to_ascii_lowercase c) 46 ≡ true → c < 128
dot c is = grind (arith, tests, is)

begins_low : (text : List ℕ) → str_eq_ignore_ascii_case text (codes ".nhnt") ≡ true → slice_index text 0 < 128
begins_low [] is = omega arith
begins_low (c ∷ text) is = dot c (both_of _ _ is)

plus_none : (n : ℕ) → n + 0 ≡ n
plus_none n = omega arith

pub stem_ends : (name : List ℕ) → is_nhnt (kind_of name) ≡ true → IsCharBoundary name (length name - 5)
stem_ends name is =
    let ends : ends_with name (codes ".nhnt") ≡ true = first_of _ (last_kind _ _ _ _ is) in
    let low : slice_index (drop (length name - 5) name) 0 < 128 = begins_low (drop (length name - 5) name) ends in
    let here : slice_index (drop (length name - 5) name) 0 ≡ slice_index name (length name - 5) = get_or-drop (length name - 5) name 0 0 ∙ ap (λ n. slice_index name n) (plus_none (length name - 5)) in
    (omega arith, λ lt high. absurd (omega (arith, low, here, high)))
