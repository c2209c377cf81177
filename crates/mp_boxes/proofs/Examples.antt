-- Small texts as boxes, computed by the definitions.
use Rattle.std.proofs.Common.{◌≡◌, ◌++◌, ◌∷◌, [], true, false, Ok, Err, None, refl}
use Rattle.std.specs.Prelude.{codes}
use Rattle.mp_ports.specs.declared.code.Code.TheVariants.{BoxCut, BoxSize, BoxMissing, BoxTwice}
use Rattle.mp_ports.specs.Checks.{bad_at}
use Rattle.mp_boxes.specs.Number.{u32_at, u64_at, kind_at}
use Rattle.mp_boxes.specs.Boxes.{walk, boxes}
use Rattle.mp_boxes.specs.Child.{one_child, optional_child}

-- no box
nothing : boxes false 100 [] ≡ Ok []
unfolding walk
nothing = refl

-- a box of one byte, and one of a 64-bit size without a body
two_boxes : boxes false 100 ((0 ∷ 0 ∷ 0 ∷ 9 ∷ codes "freeX") ++ (0 ∷ 0 ∷ 0 ∷ 1 ∷ codes "skip") ++ (0 ∷ 0 ∷ 0 ∷ 0 ∷ 0 ∷ 0 ∷ 0 ∷ 16 ∷ []))
    ≡ Ok
    (record { kind = codes "free"; header = 0 ∷ 0 ∷ 0 ∷ 9 ∷ codes "free"; body = codes "X"; place = 100 }
    ∷ record { kind = codes "skip"; header = (0 ∷ 0 ∷ 0 ∷ 1 ∷ codes "skip") ++ (0 ∷ 0 ∷ 0 ∷ 0 ∷ 0 ∷ 0 ∷ 0 ∷ 16 ∷ []); body = []; place = 109 }
    ∷ [])
unfolding walk u32_at u64_at kind_at
two_boxes = refl

-- a size of 0 is the rest at the top level, and a fault in a container
open_at_the_top : boxes true 0 (0 ∷ 0 ∷ 0 ∷ 0 ∷ codes "mdatXY") ≡ Ok (record { kind = codes "mdat"; header = 0 ∷ 0 ∷ 0 ∷ 0 ∷ codes "mdat"; body = codes "XY"; place = 0 } ∷ [])
unfolding walk u32_at kind_at
open_at_the_top = refl

open_in_a_container : boxes false 0 (0 ∷ 0 ∷ 0 ∷ 0 ∷ codes "mdatXY") ≡ Err (bad_at BoxSize 0)
unfolding walk u32_at kind_at
open_in_a_container = refl

-- a byte behind the last box
byte_left : boxes false 100 ((0 ∷ 0 ∷ 0 ∷ 8 ∷ codes "free") ++ (0 ∷ [])) ≡ Err (bad_at BoxCut 108)
unfolding walk u32_at kind_at
byte_left = refl

-- the children of two types
twice : one_child 100 ((0 ∷ 0 ∷ 0 ∷ 9 ∷ codes "freeX") ++ (0 ∷ 0 ∷ 0 ∷ 8 ∷ codes "free")) (codes "free") ≡ Err (bad_at BoxTwice 109)
unfolding walk u32_at kind_at
twice = refl

missing : one_child 100 (0 ∷ 0 ∷ 0 ∷ 9 ∷ codes "freeX") (codes "moov") ≡ Err (bad_at BoxMissing 109)
unfolding walk u32_at kind_at
missing = refl

none : optional_child 100 (0 ∷ 0 ∷ 0 ∷ 9 ∷ codes "freeX") (codes "moov") ≡ Ok None
unfolding walk u32_at kind_at
none = refl
