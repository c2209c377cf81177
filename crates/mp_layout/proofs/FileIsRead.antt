-- A file of `ftyp`, `moov` and `mdat` presents the movie that is read of its movie box.
use Rattle.std.proofs.Common.{◌≡◌, ℕ, ◌+◌, ◌^◌, ◌<◌, ◌≤◌, Bool, true, false, cond, ltb, List, [], ◌∷◌, ◌++◌, length, Some, None, Ok, refl, sym, ap, ◌∙◌, append_assoc, arith}
use Rattle.std.specs.Prelude.{codes}
use Rattle.std.proofs.lemmas.Bool.{ltb-true, ltb-false, le-ltb}
use Rattle.std.proofs.lemmas.List.{append-nil, length-append}
use Rattle.mp_boxes.specs.Field.{Part, box_bytes, boxes_bytes}
use Rattle.mp_boxes.specs.Header.{IsHeader, Short, Long, head_bytes}
use Rattle.mp_boxes.specs.Parts.{box_of, listed}
use Rattle.mp_boxes.specs.Boxes.{Box, boxes, whole_box}
use Rattle.mp_headers.specs.FileType.{ftyp}
use Rattle.mp_timeline.specs.Movie.{MovieRecord}
use Rattle.mp_movie.specs.Present.{first_fault, most_moov, movie_fault, movie_of, one_moov, present, top_boxes}
use Rattle.mp_movie.specs.WellFormed.{IsWellFormed}
use Rattle.mp_movie.specs.Limits.{Fits}
use Rattle.mp_layout.specs.File.{mdat_head}
use Rattle.mp_layout.proofs.Laws.{ArePlaced, BoxLaws, Laws, moov_by}
use Rattle.mp_layout.specs.Tables.{Placing}
use Rattle.mp_layout.proofs.BoxesAreFound.{have_kinds}
use Rattle.mp_layout.proofs.MovieIsRead.{movie-read}
use Rattle.mp_layout.proofs.UserDataIsKept.{length-boxes, nil-len}

head_is : (n : ℕ) → 16 + n < 2 ^ 64 → IsHeader true (codes "mdat") n [] (mdat_head n)
unfolding mdat_head
head_is n fits = by (ltb (8 + n) (2 ^ 32)) refl
  where
    by : (short : Bool) → ltb (8 + n) (2 ^ 32) ≡ short → IsHeader true (codes "mdat") n [] (head_bytes (codes "mdat") (cond short (8 + n) (16 + n)))
    by true e = rw e (record { spelling = Short; more = []; kind_len = refl; more_len = refl; allowed = ltb-true _ _ e; text = refl })
    by false e =
        let long = ltb-false (8 + n) (2 ^ 32) e in
        rw (le-ltb (16 + n) (2 ^ 32) (omega arith)) (record { spelling = Long; more = []; kind_len = refl; more_len = refl; allowed = fits; text = refl })

mdat_box : ℕ → List ℕ → Box
mdat_box place bytes = record { kind = codes "mdat"; header = mdat_head (length bytes); body = bytes; place = place }

-- the file of a movie box and a payload
unfoldable pub file_with : Part → List ℕ → List ℕ
file_with moov bytes = ((box_bytes ftyp ++ box_bytes moov) ++ mdat_head (length bytes)) ++ bytes

abbrev parts_with : List ℕ → List Part
parts_with body = ftyp ∷ (let part : Part = record { kind = codes "moov"; body = body } in part) ∷ []

file-is : (body bytes : List ℕ) → (let part : Part = record { kind = codes "moov"; body = body } in file_with part bytes) ≡ boxes_bytes (parts_with body) ++ (mdat_head (length bytes) ++ bytes)
unfolding file_with boxes_bytes
file-is body bytes =
    let moov : Part = record { kind = codes "moov"; body = body } in
    let head : List ℕ = mdat_head (length bytes) in
    append_assoc (box_bytes ftyp ++ box_bytes moov) head bytes ∙ ap (λ (t : List ℕ). (box_bytes ftyp ++ t) ++ (head ++ bytes)) (sym (append-nil (box_bytes moov)))

-- its boxes
abbrev found_with : List ℕ → List ℕ → List Box
found_with body bytes = listed 0 (parts_with body) ++ (mdat_box (0 + length (boxes_bytes (parts_with body))) bytes ∷ [])

file-cut : BoxLaws → (body bytes : List ℕ) → length (boxes_bytes (parts_with body)) < 2 ^ 32 → 16 + length bytes < 2 ^ 64 → boxes true 0 (boxes_bytes (parts_with body) ++ (mdat_head (length bytes) ++ bytes)) ≡ Ok (found_with body bytes)
unfolding mdat_box
file-cut read body bytes short fits =
    read.cuts.found true 0 _ (found_with body bytes)
    (read.parts.in_front true 0 (parts_with body) (mdat_head (length bytes) ++ bytes) (mdat_box (0 + length (boxes_bytes (parts_with body))) bytes ∷ []) (have_kinds (parts_with body) refl) short
    ([], head_is (length bytes) fits, ap (λ (xs : List ℕ). mdat_head (length bytes) ++ xs) (sym (append-nil bytes)), refl, refl))

abbrev moov_box : List ℕ → Box
moov_box body = box_of (0 + (8 + length ftyp.body)) (let part : Part = record { kind = codes "moov"; body = body } in part)

moov-ok : (file body bytes : List ℕ) → boxes true 0 file ≡ Ok (found_with body bytes) → one_moov file ≡ Ok (moov_box body)
unfolding one_moov top_boxes mdat_box
moov-ok file body bytes e = rw e refl

fault-ok : (file body bytes : List ℕ) → boxes true 0 file ≡ Ok (found_with body bytes) → movie_fault (length file) (moov_box body) ≡ None → first_fault file ≡ None
unfolding first_fault top_boxes mdat_box
fault-ok file body bytes e sound = rw (moov-ok file body bytes e, e, sound) refl

present-ok : (file body bytes : List ℕ) (movie : MovieRecord) → first_fault file ≡ None → one_moov file ≡ Ok (moov_box body) → movie_of file (moov_box body) ≡ movie → present file ≡ Some movie
unfolding present
present-ok file body bytes movie e1 e2 e3 = rw (e1, e2, e3) refl

-- no check of the file fails, and it presents the movie
pub record IsFileRead (file : List ℕ) (movie : MovieRecord) : Type 0 where
  pub sound : first_fault file ≡ None
  pub read : present file ≡ Some movie

pub file-read : Laws → (movie : MovieRecord) (placing : ℕ → Placing) (bytes : List ℕ) → (let file = file_with (moov_by movie placing) bytes in 8 + length (moov_by movie placing).body ≤ most_moov) → 16 + length bytes < 2 ^ 64
    → IsWellFormed movie → Fits movie → ArePlaced (file_with (moov_by movie placing) bytes) placing 0 movie.tracks → IsFileRead (file_with (moov_by movie placing) bytes) movie
file-read laws movie placing bytes short fits formed within placed =
    let body : List ℕ = (moov_by movie placing).body in
    let file : List ℕ = file_with (moov_by movie placing) bytes in
    let parts_short : length (boxes_bytes (parts_with body)) < 2 ^ 32 = omega (arith, short, parts-len body) in
    let cut : boxes true 0 file ≡ Ok (found_with body bytes) = ap (boxes true 0) (file-is body bytes) ∙ file-cut laws.boxes body bytes parts_short fits in
    let whole : length (whole_box (moov_box body)) ≡ 8 + length body = omega (arith, length-append (moov_box body).header body) in
    let read = movie-read laws file (moov_box body) movie placing refl (omega (arith, short, whole)) (omega (arith, whole)) formed within placed in
    let sound = fault-ok file body bytes cut read.sound in
    record { sound = sound; read = present-ok file body bytes movie sound (moov-ok file body bytes cut) read.read }
  where
    parts-len : (body : List ℕ) → length (boxes_bytes (parts_with body)) ≡ 36 + length body
    parts-len body = omega (arith, length-boxes laws.boxes.lengths ftyp ((let part : Part = record { kind = codes "moov"; body = body } in part) ∷ []) refl, length-boxes laws.boxes.lengths (let part : Part = record { kind = codes "moov"; body = body } in part) [] refl, nil-len)
