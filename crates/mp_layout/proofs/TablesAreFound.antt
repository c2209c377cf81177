-- The boxes of a sample table are found.
use Rattle.std.proofs.Common.{◌≡◌, ℕ, ◌^◌, ◌<◌, Bool, true, false, cond, List, [], ◌∷◌, ◌++◌, length, map, pos, Option, Some, None, refl}
use Rattle.std.specs.Prelude.{codes, filter, ◌||◌}
use Rattle.std.specs.Str.{bytes_eq}
use Rattle.std.specs.List.{list_all}
use Rattle.std.specs.Ordering.{int_eq}
use Rattle.mp_boxes.specs.Boxes.{Box}
use Rattle.mp_boxes.specs.Field.{Part, boxes_bytes, optional}
use Rattle.mp_chunks.specs.Written.{chunk_offsets, head_of, offsets_body, stsc, stsc_body, stsz, stsz_body}
use Rattle.mp_times.specs.Sync.{is_sync}
use Rattle.mp_times.specs.Written.{stts, ctts, stss, runs_body, are_signed, stss_body, sync_numbers}
use Rattle.mp_timeline.specs.Movie.{TrackRecord}
use Rattle.mp_movie.specs.Children.{one, at_most_one, one_of_two}
use Rattle.mp_movie.specs.Tracks.{tables_fault}
use Rattle.mp_movie.specs.Columns.{composition_offsets, durations, sizes, sync_marks}
use Rattle.mp_layout.proofs.Laws.{BoxLaws}
use Rattle.mp_entries.specs.Description.{stsd}
use Rattle.mp_layout.specs.Tables.{Placing}
use Rattle.mp_layout.proofs.Laws.{stbl_parts}
use Rattle.mp_layout.proofs.BoxesAreFound.{HasParts, IsFound, MayBeFound, boxes-whole, found-none, is_plain, may-found, may-none, one-found, parts-alone, two-found}

-- the boxes of a sample table, by their placing, and which of those stand that may not
record Texts : Type 0 where
  pub stsd : List ℕ
  pub stts : List ℕ
  pub ctts : List ℕ
  pub stss : List ℕ
  pub stsc : List ℕ
  pub stsz : List ℕ
  pub places : List ℕ

abbrev part : List ℕ → List ℕ → Part
part kind body = record { kind = kind; body = body }

abbrev unless_so : Bool → Part → Option Part
unless_so b p = cond b None (Some p)

abbrev parts_with : Texts → Bool → Bool → Bool → List Part
parts_with t composed synced wide =
    part (codes "stsd") t.stsd
    ∷ part (codes "stts") t.stts
    ∷ optional (unless_so composed (part (codes "ctts") t.ctts))
    ++ optional (unless_so synced (part (codes "stss") t.stss))
    ++ part (codes "stsc") t.stsc
    ∷ part (codes "stsz") t.stsz
    ∷ part (cond wide (codes "co64") (codes "stco")) t.places
    ∷ []

abbrev of : List ℕ → List Part → List Part
of kind parts = filter (λ part. bytes_eq part.kind kind) parts

abbrev of_two : List ℕ → List ℕ → List Part → List Part
of_two kind other parts = filter (λ part. bytes_eq part.kind kind || bytes_eq part.kind other) parts

record ArePicked (t : Texts) (composed synced wide : Bool) : Type 0 where
  pub plain : list_all is_plain (parts_with t composed synced wide) ≡ true
  pub picked_stsd : of (codes "stsd") (parts_with t composed synced wide) ≡ part (codes "stsd") t.stsd ∷ []
  pub picked_stts : of (codes "stts") (parts_with t composed synced wide) ≡ part (codes "stts") t.stts ∷ []
  pub picked_ctts : of (codes "ctts") (parts_with t composed synced wide) ≡ optional (unless_so composed (part (codes "ctts") t.ctts))
  pub picked_stss : of (codes "stss") (parts_with t composed synced wide) ≡ optional (unless_so synced (part (codes "stss") t.stss))
  pub picked_stsc : of (codes "stsc") (parts_with t composed synced wide) ≡ part (codes "stsc") t.stsc ∷ []
  pub picked_sizes : of_two (codes "stsz") (codes "stz2") (parts_with t composed synced wide) ≡ part (codes "stsz") t.stsz ∷ []
  pub picked_places : of_two (codes "stco") (codes "co64") (parts_with t composed synced wide) ≡ part (cond wide (codes "co64") (codes "stco")) t.places ∷ []

all_picked : (t : Texts) (composed synced wide : Bool) → ArePicked t composed synced wide
all_picked t true true true = record { plain = refl; picked_stsd = refl; picked_stts = refl; picked_ctts = refl; picked_stss = refl; picked_stsc = refl; picked_sizes = refl; picked_places = refl }
all_picked t true true false = record { plain = refl; picked_stsd = refl; picked_stts = refl; picked_ctts = refl; picked_stss = refl; picked_stsc = refl; picked_sizes = refl; picked_places = refl }
all_picked t true false true = record { plain = refl; picked_stsd = refl; picked_stts = refl; picked_ctts = refl; picked_stss = refl; picked_stsc = refl; picked_sizes = refl; picked_places = refl }
all_picked t true false false = record { plain = refl; picked_stsd = refl; picked_stts = refl; picked_ctts = refl; picked_stss = refl; picked_stsc = refl; picked_sizes = refl; picked_places = refl }
all_picked t false true true = record { plain = refl; picked_stsd = refl; picked_stts = refl; picked_ctts = refl; picked_stss = refl; picked_stsc = refl; picked_sizes = refl; picked_places = refl }
all_picked t false true false = record { plain = refl; picked_stsd = refl; picked_stts = refl; picked_ctts = refl; picked_stss = refl; picked_stsc = refl; picked_sizes = refl; picked_places = refl }
all_picked t false false true = record { plain = refl; picked_stsd = refl; picked_stts = refl; picked_ctts = refl; picked_stss = refl; picked_stsc = refl; picked_sizes = refl; picked_places = refl }
all_picked t false false false = record { plain = refl; picked_stsd = refl; picked_stts = refl; picked_ctts = refl; picked_stss = refl; picked_stsc = refl; picked_sizes = refl; picked_places = refl }

-- the boxes of a sample table are found
pub record AreTables (stbl : Box) (track : TrackRecord) (placing : Placing) : Type 0 where
  pub parts : HasParts stbl (stbl_parts track placing)
  pub stsd : IsFound (one (codes "stsd") stbl) (stsd track.entries)
  pub stts : IsFound (one (codes "stts") stbl) (stts (durations track.samples))
  pub ctts : MayBeFound (at_most_one (codes "ctts") stbl) (ctts (composition_offsets track.samples))
  pub stss : MayBeFound (at_most_one (codes "stss") stbl) (stss (sync_marks track.samples))
  pub stsc : IsFound (one (codes "stsc") stbl) (stsc (map head_of placing.chunks))
  pub sizes : IsFound (one_of_two (codes "stsz") (codes "stz2") stbl) (stsz (sizes track.samples))
  pub places : IsFound (one_of_two (codes "stco") (codes "co64") stbl) (chunk_offsets placing.wide (map head_of placing.chunks))

texts_of : TrackRecord → Placing → Texts
texts_of track placing = record {
  stsd = (stsd track.entries).body;
  stts = runs_body false (durations track.samples);
  ctts = runs_body (are_signed (composition_offsets track.samples)) (composition_offsets track.samples);
  stss = stss_body (sync_numbers 1 (sync_marks track.samples));
  stsc = stsc_body (map head_of placing.chunks);
  stsz = stsz_body (sizes track.samples);
  places = offsets_body placing.wide (map head_of placing.chunks);
}

pub tables-found : BoxLaws → (stbl : Box) (track : TrackRecord) (placing : Placing) → stbl.body ≡ boxes_bytes (stbl_parts track placing) → length (boxes_bytes (stbl_parts track placing)) < 2 ^ 32 → AreTables stbl track placing
unfolding texts_of
tables-found read stbl track placing body short =
    let picked = all_picked (texts_of track placing) (list_all (int_eq (pos 0)) (composition_offsets track.samples)) (list_all is_sync (sync_marks track.samples)) placing.wide in
    let parts = parts-alone read stbl (stbl_parts track placing) body picked.plain short in
    record {
      parts = parts;
      stsd = one-found stbl _ _ parts picked.picked_stsd;
      stts = one-found stbl _ _ parts picked.picked_stts;
      ctts = may-found stbl _ _ parts picked.picked_ctts;
      stss = may-found stbl _ _ parts picked.picked_stss;
      stsc = one-found stbl _ _ parts picked.picked_stsc;
      sizes = two-found stbl _ _ _ parts picked.picked_sizes;
      places = two-found stbl _ _ _ parts picked.picked_places;
    }

pub tables-sound : (stbl : Box) (track : TrackRecord) (placing : Placing) → AreTables stbl track placing → tables_fault stbl ≡ None
unfolding tables_fault
tables-sound stbl track placing h =
    rw (boxes-whole stbl h.parts, found-none _ h.stsd, found-none _ h.stts, found-none _ h.stsc, found-none _ h.sizes, found-none _ h.places, may-none _ h.ctts, may-none _ h.stss) refl
