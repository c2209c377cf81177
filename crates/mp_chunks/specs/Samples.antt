-- The samples by the tables of sizes, chunks and places, and the faults of these in order (ISO/IEC 14496-12, 8.7.3 to 8.7.5).
use Rattle.std.specs.Prelude.{◌≡◌, ◌<◌, ◌≤◌, ℕ, Bool, ◌==◌, ◌&&◌, not, nat_lt, List, [], ◌∷◌, length, map, slice_index, sum, Option, Some, None, Result, ℤ, pos, if◌then◌else◌}
use Rattle.std.specs.List.{list_any}
use Rattle.mp_ports.specs.declared.code.Code.{Code}
use Rattle.mp_ports.specs.declared.code.Code.TheVariants.{ChunkMap, SampleOutside}
use Rattle.mp_ports.specs.declared.fault.Bad.{Bad}
use Rattle.mp_ports.specs.Checks.{fault_at, first_code, first_some, placed, unless}
use Rattle.mp_boxes.specs.Child.{IsWithin}
use Rattle.mp_chunks.specs.declared.chunks.ChunkRun.{ChunkRun}
use Rattle.mp_chunks.specs.declared.tables.Tables.{Tables}
use Rattle.mp_boxes.specs.FullBox.{table_fault}
use Rattle.mp_chunks.specs.Table.{body_of}
use Rattle.mp_chunks.specs.Sizes.{sample_count, sizes_of, size_checks}
use Rattle.mp_chunks.specs.Chunks.{offset_len, chunk_offsets_of, run_len, stsc_of, runs_fault, runs_of_chunks}
use Rattle.mp_chunks.specs.Places.{SamplePlace, counts_of, samples_of, sample_at, is_outside}

-- each span lies in the bytes of `moov`
pub record AreWithin (tables : Tables) : Type 0 where
  pub stsc : IsWithin tables.moov.now tables.stsc
  pub sizes : IsWithin tables.moov.now tables.sizes
  pub offsets : IsWithin tables.moov.now tables.offsets

-- the bodies of the three boxes, and which of the two types the second and the third are: `stz2`, and `co64`
pub record Bodies : Type 0 where
  pub stsc : List ℕ
  pub sizes : List ℕ
  pub compact : Bool
  pub offsets : List ℕ
  pub wide : Bool

-- each sample by these
abbrev pub samples_by : Bodies → List SamplePlace
samples_by bodies =
    let offsets = chunk_offsets_of bodies.wide bodies.offsets in
    samples_of (runs_of_chunks (stsc_of bodies.stsc) (length offsets)) offsets (sizes_of bodies.compact bodies.sizes)

-- the bodies by their spans
abbrev pub stsc_body : Tables → List ℕ
stsc_body tables = body_of tables.moov.now tables.stsc

abbrev pub sizes_body : Tables → List ℕ
sizes_body tables = body_of tables.moov.now tables.sizes

abbrev pub offsets_body : Tables → List ℕ
offsets_body tables = body_of tables.moov.now tables.offsets

-- the number of samples, or the first fault of the table of sizes
abbrev pub count_from : Tables → Result ℕ Bad
count_from tables = placed tables.sizes.place (unless (first_code (size_checks tables.compact (sizes_body tables))) (sample_count (sizes_body tables)))

-- the size of each sample
abbrev pub sizes : Tables → List ℕ
sizes tables = sizes_of tables.compact (sizes_body tables)

-- the place of each chunk
abbrev pub offsets : Tables → List ℕ
offsets tables = chunk_offsets_of tables.wide (offsets_body tables)

-- the runs of chunks
abbrev pub runs : Tables → List ChunkRun
runs tables = stsc_of (stsc_body tables)

-- the run of each chunk
abbrev pub chunks : Tables → List ChunkRun
chunks tables = runs_of_chunks (runs tables) (length (offsets tables))

-- all of this
abbrev pub bodies_of : Tables → Bodies
bodies_of tables = record { stsc = stsc_body tables; sizes = sizes_body tables; compact = tables.compact; offsets = offsets_body tables; wide = tables.wide }

-- each sample
abbrev pub samples : Tables → List SamplePlace
samples tables = samples_by (bodies_of tables)

-- there are chunks and no run, or all chunks together don't hold exactly the samples
unfoldable pub map_fault : List ChunkRun → ℕ → ℕ → Option Code
map_fault runs chunks samples =
    first_code
    ((nat_lt 0 chunks && (length runs == 0), ChunkMap)
    ∷ (not (sum (counts_of (runs_of_chunks runs chunks)) == samples), ChunkMap)
    ∷ [])

-- a sample ends behind the end of the file
abbrev pub outside_fault : ℕ → List SamplePlace → Option Code
outside_fault file_size samples = first_code ((list_any (is_outside file_size) samples, SampleOutside) ∷ [])

-- the first fault of the tables of chunks, `stsc` and then the other, and of the map that they give
abbrev pub chunks_fault_of : ℕ → ℕ → ℕ → Bodies → Option Bad
chunks_fault_of entries stsc_place offsets_place bodies =
    let runs = stsc_of bodies.stsc in
    first_some
    (fault_at stsc_place (table_fault 0 run_len bodies.stsc)
    ∷ fault_at offsets_place (table_fault 0 (offset_len bodies.wide) bodies.offsets)
    ∷ fault_at stsc_place (runs_fault entries runs)
    ∷ fault_at stsc_place (map_fault runs (length (chunk_offsets_of bodies.wide bodies.offsets)) (length (sizes_of bodies.compact bodies.sizes)))
    ∷ [])

-- the first fault of the chunks and places, where there are so many entries and the file has so many bytes, and these are the places of
-- `stsc` and of the other
abbrev pub bodies_fault : ℕ → ℕ → ℕ → ℕ → Bodies → Option Bad
bodies_fault entries file_size stsc_place offsets_place bodies =
    first_some
    (chunks_fault_of entries stsc_place offsets_place bodies
    ∷ fault_at offsets_place (outside_fault file_size (samples_by bodies))
    ∷ [])

abbrev pub chunks_fault : ℕ → Tables → Option Bad
chunks_fault entries tables = chunks_fault_of entries tables.stsc.place tables.offsets.place (bodies_of tables)

abbrev pub places_fault : ℕ → ℕ → Tables → Option Bad
places_fault entries file_size tables = bodies_fault entries file_size tables.stsc.place tables.offsets.place (bodies_of tables)

-- the size, the number of the entry and the place of each sample
pub record PlacesRecord : Type 0 where
  pub sizes : List ℤ
  pub kinds : List ℤ
  pub from : List ℕ

-- these of some samples
abbrev pub columns_of : List SamplePlace → PlacesRecord
columns_of samples = record {
  sizes = map (λ sample. pos sample.size) samples;
  kinds = map (λ sample. pos sample.kind) samples;
  from = map (λ sample. sample.from) samples;
}

-- the samples, or the first fault
abbrev pub places_from : ℕ → ℕ → Tables → Result PlacesRecord Bad
places_from entries file_size tables = unless (places_fault entries file_size tables) (columns_of (samples tables))

-- the samples, where each ends in the file
abbrev pub places_within : ℕ → Tables → Option PlacesRecord
places_within file_size tables = if list_any (is_outside file_size) (samples tables) then None else Some (columns_of (samples tables))

-- these, or the first fault of the chunks
abbrev pub placed_from : ℕ → ℕ → Tables → Result (Option PlacesRecord) Bad
placed_from entries file_size tables = unless (chunks_fault entries tables) (places_within file_size tables)

-- the number of an entry is one of so many
pub record IsOneOf (entries number : ℕ) : Type 0 where
  pub some : 1 ≤ number
  pub known : number ≤ entries

-- a table of sizes without a fault has as many as it says; there is a sample for each size, of that size, and where the chunks have no
-- fault it is of one of the entries
pub record TablesGiveSamples : Type 0 where
  pub sizes : (compact : Bool) (body : List ℕ) → first_code (size_checks compact body) ≡ None → length (sizes_of compact body) ≡ sample_count body
  pub count : (bodies : Bodies) → length (samples_by bodies) ≡ length (sizes_of bodies.compact bodies.sizes)
  pub size : (bodies : Bodies) (before : ℕ) → before < length (samples_by bodies)
      → (sample_at (samples_by bodies) before).size ≡ slice_index (sizes_of bodies.compact bodies.sizes) before
  pub entry : (entries stsc_place offsets_place : ℕ) (bodies : Bodies) (before : ℕ) → chunks_fault_of entries stsc_place offsets_place bodies ≡ None
      → before < length (samples_by bodies) → IsOneOf entries (sample_at (samples_by bodies) before).kind
