-- A track box is read as its track, and no check of it fails.
use Rattle.std.proofs.Common.{◌≡◌, ◌≢◌, ℕ, ◌+◌, ◌^◌, ◌<◌, ◌≤◌, Bool, true, false, cond, eqb, List, [], ◌∷◌, ◌++◌, length, Option, Some, None, Ok, refl, ap, ◌∙◌, arith}
use Rattle.std.specs.Prelude.{codes, IfSome}
use Rattle.std.specs.Str.{bytes_eq}
use Rattle.std.specs.List.{AllByRecursion, list_any, sum_by}
use Rattle.std.proofs.lemmas.Bool.{ne_eqb}
use Rattle.std.proofs.lemmas.List.{length-append}
use Rattle.mp_boxes.specs.Boxes.{Box}
use Rattle.mp_boxes.specs.Field.{Part, boxes_bytes, optional}
use Rattle.mp_columns.specs.declared.columns.TheConstants.{MOST_ITEMS}
use Rattle.mp_headers.specs.declared.track_header.Tkhd.{Tkhd}
use Rattle.mp_headers.specs.declared.media_header.Mdhd.{Mdhd}
use Rattle.mp_headers.specs.TrackHeader.{tkhd, tkhd_of, tkhd_fields, no_tkhd}
use Rattle.mp_headers.specs.MediaHeader.{mdhd, mdhd_of, mdhd_fields, no_mdhd}
use Rattle.mp_headers.specs.Handler.{hdlr, hdlr_of, handler_of, name_of}
use Rattle.mp_entries.specs.Reference.{dref}
use Rattle.mp_timeline.specs.declared.segment.Segment.{Segment}
use Rattle.mp_timeline.specs.Movie.{SampleRecord, TrackRecord}
use Rattle.mp_edits.specs.Segments.{IsEditList}
use Rattle.mp_chunks.specs.Samples.{Bodies}
use Rattle.mp_movie.specs.Readings.{fault_of}
use Rattle.mp_boxes.specs.Reading.{value_or}
use Rattle.mp_movie.specs.Children.{has_boxes, has_one, one, user_data}
use Rattle.mp_movie.specs.Heads.{media_fields, track_fields, track_head}
use Rattle.mp_movie.specs.TrackBoxes.{TrackBoxes, boxes_of}
use Rattle.mp_movie.specs.Entries.{entries_of, local_references}
use Rattle.mp_movie.specs.SampleTable.{count_in, places_fault, samples_of, table_of}
use Rattle.mp_movie.specs.Edits.{edits_of}
use Rattle.mp_movie.specs.Tracks.{has_own_number, number_in, tables_fault, track_checks, track_fault, track_of}
use Rattle.mp_movie.specs.WellFormed.{IsWellFormedTrack}
use Rattle.mp_movie.specs.Limits.{FitsEdits, FitsTrack}
use Rattle.mp_layout.proofs.Laws.{IsPlaced, Laws, written_bodies}
use Rattle.mp_edits.specs.EditBox.{edts}
use Rattle.mp_layout.specs.Moov.{mdia, trak}
use Rattle.mp_entries.specs.Description.{stsd}
use Rattle.mp_layout.specs.Tables.{Placing}
use Rattle.mp_layout.proofs.Laws.{trak_parts}
use Rattle.mp_layout.proofs.BoxesAreFound.{found-body, found-kind, found-none, may-none, none-fails}
use Rattle.mp_layout.proofs.TablesAreFound.{tables-sound}
use Rattle.mp_layout.proofs.EntriesAreRead.{entries-read, entries-sound, local-read, references-read}
use Rattle.mp_layout.proofs.SamplesAreRead.{samples-read}
use Rattle.mp_layout.proofs.UserDataIsKept.{boxes-append, length-boxes}
use Rattle.mp_layout.proofs.TrackBoxesAreFound.{IsTrackBox, edits-at, fields, may-value, track-at}
use Rattle.mp_layout.proofs.TablesAreRead.{AreSampleBoxes, IsOptional, samples-at}

-- ---- the boxes of a track

-- the boxes that are read of a track are those that were written
record AreBoxes (boxes : TrackBoxes) (movie_scale : ℕ) (track : TrackRecord) (placing : Placing) : Type 0 where
  pub header : boxes.tkhd.body ≡ (tkhd (track_fields movie_scale track)).body
  pub edits : IsOptional boxes.edts (edts track.edits)
  pub media : boxes.mdhd.body ≡ (mdhd (media_fields track)).body
  pub handler : boxes.hdlr.body ≡ (hdlr track.head.handler track.head.name).body
  pub references : boxes.dref.body ≡ dref.body
  pub entries : boxes.stsd.body ≡ (stsd track.entries).body
  pub samples : AreSampleBoxes boxes track.samples (written_bodies track placing)
  pub mdia_whole : has_boxes boxes.mdia ≡ None
  pub has_mdhd : has_one (codes "mdhd") boxes.mdia ≡ None
  pub has_hdlr : has_one (codes "hdlr") boxes.mdia ≡ None
  pub has_minf : has_one (codes "minf") boxes.mdia ≡ None
  pub minf_whole : has_boxes boxes.minf ≡ None
  pub has_dinf : has_one (codes "dinf") boxes.minf ≡ None
  pub has_stbl : has_one (codes "stbl") boxes.minf ≡ None
  pub dinf_whole : has_boxes boxes.dinf ≡ None
  pub has_dref : has_one (codes "dref") boxes.dinf ≡ None
  pub tables : tables_fault boxes.stbl ≡ None

wide-is : (wide : Bool) (kind : List ℕ) → kind ≡ cond wide (codes "co64") (codes "stco") → bytes_eq kind (codes "co64") ≡ wide
wide-is true kind e = rw e refl
wide-is false kind e = rw e refl

same_bodies : (one other : Bodies) → one.stsc ≡ other.stsc → one.sizes ≡ other.sizes → one.compact ≡ other.compact → one.offsets ≡ other.offsets → one.wide ≡ other.wide → one ≡ other
same_bodies one other p q r s t = λ i. record { stsc = p i; sizes = q i; compact = r i; offsets = s i; wide = t i }

plain-is : (kind : List ℕ) → kind ≡ codes "stsz" → bytes_eq kind (codes "stz2") ≡ false
plain-is kind e = rw e refl

boxes-at : (box : Box) (movie_scale : ℕ) (track : TrackRecord) (placing : Placing) → IsTrackBox box movie_scale track placing → AreBoxes (boxes_of box) movie_scale track placing
unfolding boxes_of
boxes-at box movie_scale track placing h =
    let media = h.media in
    let inner = media.information in
    let tables = inner.tables in
    record {
      header = found-body _ h.tkhd_found;
      edits = may-value _ h.edts_found;
      media = found-body _ media.mdhd_found;
      handler = found-body _ media.hdlr_found;
      references = found-body _ inner.dref_found;
      entries = found-body _ tables.stsd;
      samples = record {
        stts = found-body _ tables.stts;
        ctts = may-value _ tables.ctts;
        stss = may-value _ tables.stss;
        same = same_bodies _ (written_bodies track placing) (found-body _ tables.stsc) (found-body _ tables.sizes) (plain-is _ (found-kind _ tables.sizes)) (found-body _ tables.places) (wide-is placing.wide _ (found-kind _ tables.places));
      };
      mdia_whole = media.whole;
      has_mdhd = found-none _ media.mdhd_found;
      has_hdlr = found-none _ media.hdlr_found;
      has_minf = found-none _ media.minf_found;
      minf_whole = inner.whole;
      has_dinf = found-none _ inner.dinf_found;
      has_stbl = found-none _ inner.stbl_found;
      dinf_whole = inner.dinf_whole;
      has_dref = found-none _ inner.dref_found;
      tables = tables-sound _ track placing tables;
    }

-- ---- the fields

own-number : (earlier : List Box) (boxes : TrackBoxes) (number : ℕ) → number_in boxes ≡ number → 1 ≤ number → list_any (λ other. eqb (number_in (boxes_of other)) number) earlier ≡ false → has_own_number earlier boxes ≡ None
own-number earlier boxes number e some own = rw (e, ne_eqb number 0 (λ zero. absurd (omega (arith, some, zero))), own) refl

-- a track box is read as this track, behind these track boxes
pub record IsRead (file : List ℕ) (earlier : List Box) (box : Box) (track : TrackRecord) : Type 0 where
  pub sound : track_fault (length file) earlier box ≡ None
  pub read : track_of file box ≡ track
  pub number : number_in (boxes_of box) ≡ track.number
  pub count : count_in (boxes_of box) ≡ length track.samples

fault-ok : (file_size : ℕ) (earlier : List Box) (box : Box) → AllByRecursion (λ check. check ≡ None) (track_checks file_size earlier box) → track_fault file_size earlier box ≡ None
unfolding track_fault
fault-ok file_size earlier box all = none-fails (track_checks file_size earlier box) all

-- a track by what is read of its boxes
abbrev track_by : Tkhd → Mdhd → List ℕ → List ℕ → List ℕ → List (List ℕ) → List SampleRecord → Option (List Segment) → TrackRecord
track_by header media handler name udta entries samples edits = record {
  number = header.number;
  head = track_head header media handler name udta;
  scale = media.timescale;
  entries = entries;
  samples = samples;
  edits = edits;
}

track-ok : (file : List ℕ) (box : Box) (movie_scale : ℕ) (track : TrackRecord) → (let boxes = boxes_of box in tkhd_fields boxes.tkhd.body ≡ track_fields movie_scale track) → (let boxes = boxes_of box in mdhd_fields boxes.mdhd.body ≡ media_fields track)
    → (let boxes = boxes_of box in handler_of boxes.hdlr.body ≡ track.head.handler) → (let boxes = boxes_of box in name_of boxes.hdlr.body ≡ track.head.name) → user_data box ≡ track.head.udta
    → (let boxes = boxes_of box in entries_of (local_references boxes.dref) boxes.stsd ≡ track.entries) → (let boxes = boxes_of box in samples_of file (table_of boxes) ≡ track.samples)
    → (let boxes = boxes_of box in edits_of boxes.edts ≡ track.edits) → track_of file box ≡ track
unfolding track_of
track-ok file box movie_scale track e1 e2 e3 e4 e5 e6 e7 e8 = λ i. track_by (e1 i) (e2 i) (e3 i) (e4 i) (e5 i) (e6 i) (e7 i) (e8 i)

edit_list : (edits : Option (List Segment)) → edits ≢ Some [] → IfSome edits FitsEdits → IfSome edits IsEditList
edit_list None some fits = tt
edit_list (Some []) some fits = absurd (some refl)
edit_list (Some (edit ∷ edits)) some fits = record { some = omega arith; few = fits.few; short = fits.short; early = fits.early }

-- the last argument: where its samples stand
pub track-read : Laws → (file : List ℕ) (earlier : List Box) (box : Box) (movie_scale : ℕ) (track : TrackRecord) (placing : Placing) → box.body ≡ (trak movie_scale track placing).body → length (trak movie_scale track placing).body < 2 ^ 32
    → IsWellFormedTrack movie_scale track → FitsTrack track → list_any (λ other. eqb (number_in (boxes_of other)) track.number) earlier ≡ false
    → sum_by (λ other. count_in (boxes_of other)) earlier + length track.samples ≤ MOST_ITEMS → IsPlaced file (length track.entries) track.samples (written_bodies track placing) → IsRead file earlier box track
track-read laws file earlier box movie_scale track placing body short formed fits own few where_ =
    let found = track-at laws.boxes box movie_scale track placing body short formed in
    let boxes : TrackBoxes = boxes_of box in
    let are = boxes-at box movie_scale track placing found in
    let header : tkhd_of boxes.tkhd.place boxes.tkhd.body ≡ Ok (track_fields movie_scale track) = ap (tkhd_of boxes.tkhd.place) are.header ∙ laws.headers.track.back (track_fields movie_scale track) boxes.tkhd.place formed.header in
    let media : mdhd_of boxes.mdhd.place boxes.mdhd.body ≡ Ok (media_fields track) = ap (mdhd_of boxes.mdhd.place) are.media ∙ laws.headers.media.back (media_fields track) boxes.mdhd.place formed.media in
    let handler : hdlr_of boxes.hdlr.place boxes.hdlr.body ≡ Ok track.head.handler =
    ap (hdlr_of boxes.hdlr.place) are.handler ∙ (laws.headers.handler track.head.name).back track.head.handler boxes.hdlr.place formed.handler in
    let name : name_of boxes.hdlr.body ≡ track.head.name = ap name_of are.handler ∙ laws.headers.name track.head.handler track.head.name formed.handler in
    let header_fields : tkhd_fields boxes.tkhd.body ≡ track_fields movie_scale track = ap (value_or no_tkhd) (ap (tkhd_of 0) are.header ∙ laws.headers.track.back (track_fields movie_scale track) 0 formed.header) in
    let media_is : mdhd_fields boxes.mdhd.body ≡ media_fields track = ap (value_or no_mdhd) (ap (mdhd_of 0) are.media ∙ laws.headers.media.back (media_fields track) 0 formed.media) in
    let local = local-read laws.references boxes.dref are.references in
    let entries = entries-read laws.entries (local_references boxes.dref) local boxes.stsd track.entries are.entries fits.entries formed.entries in
    let samples = samples-at laws.times file (length track.entries) (sum_by (λ other. count_in (boxes_of other)) earlier) boxes track (written_bodies track placing) are.samples where_ fits few in
    let parts : List Part = trak_parts movie_scale track placing in
    let edits_short : length (boxes_bytes (optional (edts track.edits))) < 2 ^ 32 =
    omega (arith, short, length-append (boxes_bytes parts) track.head.udta, length-boxes laws.boxes.lengths (tkhd (track_fields movie_scale track)) (optional (edts track.edits) ++ mdia track placing ∷ []) refl, boxes-append laws.boxes.lengths (optional (edts track.edits)) (mdia track placing ∷ [])) in
    let edits = edits-at laws.boxes laws.edits boxes.edts track.edits are.edits (edit_list track.edits formed.edits fits.edits) edits_short in
    let number : number_in boxes ≡ track.number = ap (λ (t : Tkhd). t.number) header_fields in
    record {
      sound = fault-ok (length file) earlier box (
        found.whole,
        (
          found-none _ found.tkhd_found,
          (
            found-none _ found.mdia_found,
            (
              may-none _ found.edts_found,
              (
                ap fault_of header,
                (
                  own-number earlier boxes track.number number formed.number own,
                  (
                    are.mdia_whole,
                    (
                      are.has_mdhd,
                      (
                        are.has_hdlr,
                        (
                          are.has_minf,
                          (
                            ap fault_of media,
                            (
                              ap fault_of handler,
                              (
                                are.minf_whole,
                                (
                                  are.has_dinf,
                                  (
                                    are.has_stbl,
                                    (
                                      are.dinf_whole,
                                      (
                                        are.has_dref,
                                        (
                                          references-read laws.references boxes.dref are.references,
                                          (
                                            are.tables,
                                            (
                                              entries-sound laws.entries (local_references boxes.dref) local boxes.stsd track.entries are.entries fits.entries formed.entries,
                                              (
                                                samples.counts,
                                                (ap (λ (n : List (List ℕ)). places_fault (length n) (length file) boxes) entries ∙ samples.places, (edits.sound, tt)),
                                              ),
                                            ),
                                          ),
                                        ),
                                      ),
                                    ),
                                  ),
                                ),
                              ),
                            ),
                          ),
                        ),
                      ),
                    ),
                  ),
                ),
              ),
            ),
          ),
        ),
      );
      read = track-ok file box movie_scale track header_fields media_is (fields boxes.hdlr.place _ _ track.head.handler handler) name found.udta entries
          (samples-read file (table_of boxes) track.samples samples.columns formed.times) edits.read;
      number = number;
      count = samples.count;
    }
