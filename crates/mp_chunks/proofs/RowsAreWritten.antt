-- The rows that are written: their widths, and their text.
use Rattle.std.proofs.Common.{◌≡◌, ℕ, ◌+◌, ◌*◌, ◌==◌, Bool, true, false, if◌then◌else◌, List, [], ◌∷◌, length, map, codes, refl, arith}
use Rattle.std.specs.List.{flat_map, AllByRecursion}
use Rattle.mp_boxes.specs.Field.{body_bytes}
use Rattle.mp_boxes.specs.Table.{HasWidth, box_len, with_rows}
use Rattle.mp_chunks.specs.declared.chunks.ChunkRun.{ChunkRun}
use Rattle.mp_chunks.specs.declared.push.ChunkHead.{ChunkHead}
use Rattle.mp_chunks.specs.Chunks.{offset_len}
use Rattle.mp_chunks.specs.Written.{place_row, run_row, size_of_all, size_row, sizes_front, stsz, stsz_body}

pub twelve_each : (runs : List ChunkRun) → AllByRecursion (HasWidth 12) (map run_row runs)
twelve_each [] = tt
twelve_each (run ∷ runs) = (refl, twelve_each runs)

pub wide_each : (wide : Bool) (chunks : List ChunkHead) → AllByRecursion (HasWidth (offset_len wide)) (map (place_row wide) chunks)
wide_each wide [] = tt
wide_each true (chunk ∷ chunks) = (refl, wide_each true chunks)
wide_each false (chunk ∷ chunks) = (refl, wide_each false chunks)

pub four_each : (sizes : List ℕ) → AllByRecursion (HasWidth 4) (map size_row sizes)
four_each [] = tt
four_each (size ∷ sizes) = (refl, four_each sizes)

-- the type of the box of places has four bytes
pub kind_len : (wide : Bool) → length (if wide then codes "co64" else codes "stco") ≡ 4
kind_len true = refl
kind_len false = refl

-- ---- how long `stsz` is

sizes-len : (sizes : List ℕ) → length (body_bytes (flat_map (λ row. row) (map size_row sizes))) ≡ 4 * length sizes
sizes-len [] = omega arith
sizes-len (size ∷ sizes) = omega (arith, sizes-len sizes)

pub stsz_len : (sizes : List ℕ) (common samples listed : ℕ) → common ≡ size_of_all sizes → samples ≡ length sizes → listed ≡ (if common == 0 then samples else 0) → box_len (stsz sizes) ≡ 20 + 4 * listed
unfolding stsz_body
stsz_len sizes common samples listed c n l = rw (l, c, n) (by (size_of_all sizes == 0))
  where
    by : (own : Bool) → 8 + length (body_bytes (with_rows (sizes_front sizes) (if own then map size_row sizes else []))) ≡ 20 + 4 * (if own then length sizes else 0)
    by true = omega (arith, sizes-len sizes)
    by false = omega arith
