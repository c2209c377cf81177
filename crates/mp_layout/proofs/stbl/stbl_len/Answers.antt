use Rattle.std.proofs.Common.{arith, codes, map, refl, sym, ap, subst, ◌∙◌}
use Rattle.std.specs.Prelude.{unsigned_abs}
use Rattle.mp_boxes.specs.Field.{Part}
use Rattle.mp_boxes.specs.Table.{HasLen, capped}
use Rattle.mp_chunks.specs.Written.{chunk_offsets, head_of, stsc, stsz}
use Rattle.mp_entries.specs.Description.{stsd}
use Rattle.mp_times.specs.Written.{ctts, stss, stts}
use Rattle.mp_movie.specs.Placed.{PlacedTrack}
use Rattle.mp_movie.specs.CanBeWritten.{CanBeWritten}
use Rattle.mp_layout.specs.Tables.{stbl}
use Rattle.mp_layout.specs.Written.{BoxHasLen}
use Rattle.mp_layout.proofs.Containers.{table-lens}
use Rattle.mp_layout.proofs.TablesOfColumns.{as-many, same-rows, stbl-is, tables_of}
use Rattle.mp_layout.proofs.stbl.stbl_len.Goals as goal

pub returns : goal.returns
returns c =
    let view = c.track.view_is in
    let can = subst CanBeWritten (sym view) c.requires.track in
    subst (λ (t : PlacedTrack). BoxHasLen c.box_len.result stbl t c.args.chunks.now c.args.wide) view
    (λ files placing at.
    let kept = c.track.inside in
    let heads = map head_of placing.chunks in
    let runs : HasLen c.stsc_len.result (stsc heads) = c.stsc_len.ensures ∙ ap capped (same-rows c.places_change_no_length.ensures _ _ (sym at.heads)) in
    let many = as-many _ _ at.heads in
    let few = c.requires.few in
    let places = c.chunk_offsets_len.ensures heads (omega (arith, many, few)) in
    let lens = table-lens (stsd c.deref.result.now) (stts kept.deltas) (ctts kept.offsets) (stss kept.syncs) (stsc heads) (stsz (map unsigned_abs kept.sizes)) (chunk_offsets c.args.wide heads) _ _ _ _ _ _ _
    c.stsd_len.ensures c.stts_len.ensures c.ctts_len.ensures c.stss_len.ensures runs c.stsz_len.ensures places in
    subst (λ (part : Part). HasLen c.box_len.result part) (stbl-is c.columns_are_kept.ensures files _ can.columns at.held placing c.deref.result.now heads c.args.wide c.deref.ensures.value refl at.same_wide)
    (c.box_len.ensures.boxes (codes "stbl") (tables_of c.deref.result.now kept.deltas kept.offsets kept.syncs heads (map unsigned_abs kept.sizes) c.args.wide) refl (c.sum_len.ensures ∙ lens)))
