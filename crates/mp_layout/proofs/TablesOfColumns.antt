-- The sample table box of a track, by the columns that are kept of it.
use Rattle.std.proofs.Common.{◌≡◌, ℕ, ◌+◌, ℤ, pos, Bool, List, [], ◌∷◌, ◌++◌, map, length, codes, refl, sym, ap, ◌∙◌}
use Rattle.std.specs.Prelude.{unsigned_abs}
use Rattle.std.proofs.lemmas.List.{length-map}
use Rattle.mp_boxes.specs.Field.{Part, container, optional}
use Rattle.mp_boxes.specs.Table.{box_len}
use Rattle.mp_entries.specs.Description.{stsd}
use Rattle.mp_times.specs.Written.{ctts, stss, stts}
use Rattle.mp_chunks.specs.declared.push.ChunkHead.{ChunkHead}
use Rattle.mp_chunks.specs.Written.{PlacesChangeNoLength, chunk_offsets, head_of, stsc, stsc_body, stsz, unplaced}
use Rattle.mp_movie.specs.PartsLaw.{ColumnsAreKept}
use Rattle.mp_movie.specs.Placed.{PlacedTrack}
use Rattle.mp_movie.specs.StandsFor.{HoldTrack, track_for}
use Rattle.mp_movie.specs.WholeParts.{AreColumns}
use Rattle.mp_layout.specs.Tables.{Placing, stbl}

-- the tables of these columns
abbrev pub tables_of : List (List ℕ) → List ℤ → List ℤ → List ℤ → List ChunkHead → List ℕ → Bool → List Part
tables_of entries deltas offsets syncs heads sizes wide =
    stsd entries ∷ stts deltas ∷ optional (ctts offsets) ++ optional (stss syncs) ++ stsc heads ∷ stsz sizes ∷ chunk_offsets wide heads ∷ []

abbrev boxed : List (List ℕ) → List ℤ → List ℤ → List ℤ → List ChunkHead → List ℕ → Bool → Part
boxed entries deltas offsets syncs heads sizes wide = container (codes "stbl") (tables_of entries deltas offsets syncs heads sizes wide)

-- sizes as they are kept
pub no_signs : (sizes : List ℕ) → map unsigned_abs (map pos sizes) ≡ sizes
no_signs [] = refl
no_signs (size ∷ sizes) = ap (λ (rest : List ℕ). size ∷ rest) (no_signs sizes)

pub stbl-is : ColumnsAreKept → (files : List (List ℕ)) (track : PlacedTrack) → AreColumns track → HoldTrack (map length files) track
    → (placing : Placing) (entries : List (List ℕ)) (heads : List ChunkHead) (wide : Bool) → entries ≡ track.entries → map head_of placing.chunks ≡ heads → placing.wide ≡ wide
    → container (codes "stbl") (tables_of entries track.deltas track.offsets track.syncs heads (map unsigned_abs track.sizes) wide) ≡ stbl (track_for files track) placing
stbl-is law files track columns held placing entries heads wide e1 e2 e3 =
    let deltas = law.durations files track columns in
    let offsets = law.offsets files track columns in
    let syncs = law.syncs files track columns in
    let sizes = ap (map unsigned_abs) (sym (law.sizes files track columns held)) ∙ no_signs _ in
    λ i. boxed (e1 i) (sym deltas i) (sym offsets i) (sym syncs i) (sym e2 i) (sizes i) (sym e3 i)

-- where the chunks stand changes nothing of their rows, and there are as many
pub same-rows : PlacesChangeNoLength → (one other : List ChunkHead) → map unplaced one ≡ map unplaced other → box_len (stsc one) ≡ box_len (stsc other)
same-rows law one other same = ap (λ (body : List ℕ). 4 + length (codes "stsc") + length body) (sym (law.stsc one) ∙ (ap stsc_body same ∙ law.stsc other))

pub as-many : (one other : List ChunkHead) → map unplaced one ≡ map unplaced other → length one ≡ length other
as-many one other same = sym (length-map one unplaced) ∙ (ap length same ∙ length-map other unplaced)
