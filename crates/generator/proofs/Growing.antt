-- A list over one number more.
use Rattle.std.proofs.Common.{◌≡◌, ℕ, ◌+◌, List, [], ◌∷◌, ◌++◌, map, refl, sym, ap, ◌∙◌, arith}
use Rattle.std.specs.List.{flat_map, range_with_len, sum_by}
use Rattle.std.specs.Int.{w32, to_be_bytes}
use Rattle.std.proofs.lemmas.Grind.{flat_map-append}
use Rattle.std.proofs.lemmas.List.{append-nil, append_assoc, map-id}
use Rattle.std.proofs.lemmas.List.FromFn.{map-range_with_len_more}
use Rattle.std.proofs.lemmas.List.Sums.{sum_by-append}
use Rattle.generator.specs.Files.{frame_byte, picture_flags, picture_from, picture_len, picture_record, picture_shown}

pub range_more : (n : ℕ) → range_with_len 0 (n + 1) ≡ range_with_len 0 n ++ n ∷ []
range_more n =
    sym (map-id (range_with_len 0 (n + 1))) ∙ map-range_with_len_more (λ x. x) 0 n n (omega arith) ∙ ap (λ (xs : List ℕ). xs ++ n ∷ []) (map-id (range_with_len 0 n))

pub flat_more : (f : ℕ → List ℕ) (n : ℕ) → flat_map f (range_with_len 0 (n + 1)) ≡ flat_map f (range_with_len 0 n) ++ f n
flat_more f n = ap (flat_map f) (range_more n) ∙ flat_map-append f (range_with_len 0 n) (n ∷ []) ∙ ap (λ (xs : List ℕ). flat_map f (range_with_len 0 n) ++ xs) (append-nil (f n))

pub sum_more : (f : ℕ → ℕ) (n : ℕ) → sum_by f (range_with_len 0 (n + 1)) ≡ sum_by f (range_with_len 0 n) + f n
sum_more f n = ap (sum_by f) (range_more n) ∙ sum_by-append f (range_with_len 0 n) (n ∷ []) ∙ omega arith

pub map_more : (f : ℕ → ℕ) (n : ℕ) → map f (range_with_len 0 (n + 1)) ≡ map f (range_with_len 0 n) ++ f n ∷ []
map_more f n = map-range_with_len_more f 0 n n (omega arith)

pub four_behind : (old a b c d x y z all : List ℕ) → x ≡ old ++ a → y ≡ x ++ b → z ≡ y ++ c → all ≡ z ++ d → all ≡ old ++ (a ++ b ++ c ++ d)
four_behind old a b c d x y z all first second third fourth =
    fourth ∙ ap (λ (xs : List ℕ). xs ++ d) (third ∙ ap (λ (xs : List ℕ). xs ++ c) (second ∙ ap (λ (xs : List ℕ). xs ++ b) first))
    ∙ (append_assoc (old ++ a ++ b) c d ∙ append_assoc (old ++ a) b (c ++ d) ∙ append_assoc old a (b ++ (c ++ d)))
    ∙ ap (λ (xs : List ℕ). old ++ xs) (sym (append_assoc (a ++ b) c d ∙ append_assoc a b (c ++ d)))

-- a record behind what is there, pushed in four pieces
pub record_behind : (k len flags : ℕ) (old from shown decode x y z all : List ℕ) → len ≡ picture_len k → flags ≡ picture_flags k
    → from ≡ to_be_bytes w32 (picture_from k) → shown ≡ to_be_bytes w32 (picture_shown k) → decode ≡ to_be_bytes w32 k
    → x ≡ old ++ (0 ∷ 0 ∷ len ∷ flags ∷ []) → y ≡ x ++ from → z ≡ y ++ shown → all ≡ z ++ decode → all ≡ old ++ picture_record k
unfolding picture_record
record_behind k len flags old from shown decode x y z all len_is flags_are from_is shown_is decode_is first second third fourth =
    let same : (0 ∷ 0 ∷ len ∷ flags ∷ []) ++ from ++ shown ++ decode ≡ picture_record k = rw (len_is, flags_are, from_is, shown_is, decode_is) refl in
    four_behind old (0 ∷ 0 ∷ len ∷ flags ∷ []) from shown decode x y z all first second third fourth ∙ ap (λ (xs : List ℕ). old ++ xs) same

-- one byte more of a frame
pub frame_more : (k place byte : ℕ) (old head made all : List ℕ) → made ≡ old ++ head ++ map (frame_byte k) (range_with_len 0 place) → byte ≡ frame_byte k place → all ≡ made ++ byte ∷ []
    → all ≡ old ++ head ++ map (frame_byte k) (range_with_len 0 (place + 1))
frame_more k place byte old head made all before byte_is pushed =
    let bytes : List ℕ = map (frame_byte k) (range_with_len 0 place) in
    pushed ∙ ap (λ (xs : List ℕ). xs ++ byte ∷ []) before ∙ ap (λ (b : ℕ). old ++ head ++ bytes ++ b ∷ []) byte_is
    ∙ append_assoc (old ++ head) bytes (frame_byte k place ∷ []) ∙ ap (λ (xs : List ℕ). old ++ head ++ xs) (sym (map_more (frame_byte k) place))
