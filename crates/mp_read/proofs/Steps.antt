-- The checks of a track box, and what is read of it, step by step.
use Rattle.std.proofs.Common.{◌≡◌, ℕ, List, [], ◌∷◌, ◌++◌, length, Bool, Option, Some, None, Result, Ok, refl, ◌∙◌}
use Rattle.std.specs.Prelude.{codes}
use Rattle.mp_ports.specs.declared.fault.Bad.{Bad}
use Rattle.mp_ports.specs.Checks.{first_some, unless, ◌>>=◌}
use Rattle.mp_boxes.specs.Boxes.{Box}
use Rattle.mp_headers.specs.Handler.{name_of}
use Rattle.mp_movie.specs.Children.{any, the, user_data}
use Rattle.mp_movie.specs.Heads.{track_head}
use Rattle.mp_movie.specs.TrackBoxes.{boxes_of}
use Rattle.mp_movie.specs.Entries.{entries_fault, entries_of}
use Rattle.mp_movie.specs.SampleTable.{count_in, counts_fault, places_fault}
use Rattle.mp_movie.specs.Edits.{edits_fault, edits_of}
use Rattle.mp_movie.specs.Tracks.{tables_fault, track_fault}
use Rattle.mp_read.specs.Columns.{ColumnsRecord, columns_in}
use Rattle.mp_read.specs.Header.{header_checks, header_fault, header_in, information_checks, information_fault, information_in, media_checks, media_fault, media_in}
use Rattle.mp_read.specs.Table.{sample_table_checks, sample_table_fault, sample_table_in, table_boxes}
use Rattle.mp_read.specs.Track.{TrackTablesRecord, read_track, samples_in, tables_of}

-- ---- checks in groups

grouped : (checks others : List (Option Bad)) → first_some (checks ++ others) ≡ first_some (first_some checks ∷ others)
grouped [] others = refl
grouped (None ∷ checks) others = grouped checks others
grouped (Some bad ∷ checks) others = refl

behind : (check : Option Bad) (some other : List (Option Bad)) → first_some some ≡ first_some other → first_some (check ∷ some) ≡ first_some (check ∷ other)
behind None some other e = e
behind (Some bad) some other e = refl

-- ---- the steps

abbrev mdia_in : Box → Box
mdia_in trak = the (codes "mdia") trak

abbrev minf_in : Box → Box
minf_in trak = the (codes "minf") (mdia_in trak)

abbrev stbl_in : Box → Box
stbl_in trak = the (codes "stbl") (minf_in trak)

-- all of them
abbrev step_checks : ℕ → List Box → Box → List (Option Bad)
step_checks file_size earlier trak =
    let local = (information_in (minf_in trak)).0 in
    header_fault earlier trak
    ∷ media_fault (mdia_in trak)
    ∷ information_fault (minf_in trak)
    ∷ sample_table_fault file_size (samples_in earlier) local (stbl_in trak)
    ∷ edits_fault (any (codes "edts") trak)
    ∷ []

-- what they give
abbrev steps_of : Box → TrackTablesRecord
steps_of trak =
    let header = (header_in trak).0 in
    let media = media_in (mdia_in trak) in
    let table = sample_table_in (information_in (minf_in trak)).0 (stbl_in trak) in
    record {
      number = header.number;
      head = track_head header media.0 media.1 (name_of media.2.body) (user_data trak);
      scale = media.0.timescale;
      entries = table.0;
      columns = table.1;
      edits = edits_of (any (codes "edts") trak);
    }

fault_is : (file_size : ℕ) (earlier : List Box) (trak : Box) → track_fault file_size earlier trak ≡ first_some (step_checks file_size earlier trak)
unfolding track_fault boxes_of header_fault media_fault information_fault sample_table_fault counts_fault places_fault
fault_is file_size earlier trak =
    let table = sample_table_checks file_size (samples_in earlier) (information_in (minf_in trak)).0 (stbl_in trak) in
    let edits = edits_fault (any (codes "edts") trak) ∷ [] in
    grouped (header_checks earlier trak) (media_checks (mdia_in trak) ++ (information_checks (minf_in trak) ++ (table ++ edits)))
    ∙ behind (header_fault earlier trak) _ _
    (grouped (media_checks (mdia_in trak)) (information_checks (minf_in trak) ++ (table ++ edits))
    ∙ behind (media_fault (mdia_in trak)) _ _
    (grouped (information_checks (minf_in trak)) (table ++ edits) ∙ behind (information_fault (minf_in trak)) _ _ (grouped table edits)))

tables_are : (trak : Box) → tables_of trak ≡ steps_of trak
unfolding tables_of boxes_of sample_table_in columns_in
tables_are trak = refl

-- the steps of a track, each with what those before it gave
abbrev chain : ℕ → List Box → Box → Result TrackTablesRecord Bad
chain file_size earlier trak =
    unless (header_fault earlier trak) (header_in trak) >>= λ parts. unless (media_fault parts.1) (media_in parts.1) >>= λ media. unless (information_fault media.3) (information_in media.3)
    >>= λ information. unless (sample_table_fault file_size (samples_in earlier) information.0 information.1) (sample_table_in information.0 information.1)
    >>= λ table. unless (edits_fault parts.2) (edits_of parts.2)
    >>= λ edits. Ok (record {
      number = parts.0.number;
      head = track_head parts.0 media.0 media.1 (name_of media.2.body) (user_data trak);
      scale = media.0.timescale;
      entries = table.0;
      columns = table.1;
      edits = edits;
    })

pub track_steps : (file_size : ℕ) (earlier : List Box) (trak : Box) → read_track file_size earlier trak ≡ chain file_size earlier trak
track_steps file_size earlier trak =
    rw (fault_is file_size earlier trak, tables_are trak)
    (by (header_fault earlier trak) (media_fault (mdia_in trak)) (information_fault (minf_in trak)) (sample_table_fault file_size (samples_in earlier) (information_in (minf_in trak)).0 (stbl_in trak)) (edits_fault (any (codes "edts") trak)) refl refl refl refl refl)
  where
    by : (a b c d e : Option Bad) → header_fault earlier trak ≡ a → media_fault (mdia_in trak) ≡ b → information_fault (minf_in trak) ≡ c
        → sample_table_fault file_size (samples_in earlier) (information_in (minf_in trak)).0 (stbl_in trak) ≡ d → edits_fault (any (codes "edts") trak) ≡ e
        → unless (first_some (step_checks file_size earlier trak)) (steps_of trak) ≡ chain file_size earlier trak
    by None None None None None p q r s t = rw (p, q, r, s, t) refl
    by None None None None (Some bad) p q r s t = rw (p, q, r, s, t) refl
    by None None None (Some bad) e p q r s t = rw (p, q, r, s) refl
    by None None (Some bad) d e p q r s t = rw (p, q, r) refl
    by None (Some bad) c d e p q r s t = rw (p, q) refl
    by (Some bad) b c d e p q r s t = rw p refl

-- and those of a sample table
abbrev table_chain : ℕ → ℕ → List Bool → Box → Result (List (List ℕ) × ColumnsRecord) Bad
table_chain file_size before local stbl =
    unless (tables_fault stbl) (table_boxes stbl) >>= λ boxes. unless (entries_fault local boxes.stsd) (entries_of local boxes.stsd) >>= λ entries. unless (counts_fault before boxes) (count_in boxes)
    >>= λ samples. unless (places_fault (length entries) file_size boxes) (columns_in boxes) >>= λ columns. Ok (entries, columns)

pub sample_table_steps : (file_size before : ℕ) (local : List Bool) (stbl : Box) → unless (sample_table_fault file_size before local stbl) (sample_table_in local stbl) ≡ table_chain file_size before local stbl
unfolding sample_table_fault sample_table_in
sample_table_steps file_size before local stbl =
    by (tables_fault stbl) (entries_fault local (table_boxes stbl).stsd) (counts_fault before (table_boxes stbl)) (places_fault (length (entries_of local (table_boxes stbl).stsd)) file_size (table_boxes stbl)) refl refl refl refl
  where
    by : (a b c d : Option Bad) → tables_fault stbl ≡ a → entries_fault local (table_boxes stbl).stsd ≡ b → counts_fault before (table_boxes stbl) ≡ c
        → places_fault (length (entries_of local (table_boxes stbl).stsd)) file_size (table_boxes stbl) ≡ d
        → unless (first_some (sample_table_checks file_size before local stbl)) (entries_of local (table_boxes stbl).stsd, columns_in (table_boxes stbl)) ≡ table_chain file_size before local stbl
    by None None None None p q r s = rw (p, q, r, s) refl
    by None None None (Some bad) p q r s = rw (p, q, r, s) refl
    by None None (Some bad) d p q r s = rw (p, q, r) refl
    by None (Some bad) c d p q r s = rw (p, q) refl
    by (Some bad) b c d p q r s = rw p refl
