use Rattle.std.proofs.Common.{List, ℕ, map, sym, subst}
use Rattle.std.specs.Prelude.{unsigned_abs}
use Rattle.mp_boxes.specs.Field.{Part}
use Rattle.mp_boxes.specs.Push.{IsPushing}
use Rattle.mp_boxes.specs.Table.{HasLen}
use Rattle.mp_chunks.specs.Written.{chunk_offsets, stsc, stsz}
use Rattle.mp_entries.specs.Description.{stsd}
use Rattle.mp_times.specs.Written.{ctts, stss, stts}
use Rattle.mp_movie.specs.Placed.{PlacedTrack}
use Rattle.mp_movie.specs.CanBeWritten.{CanBeWritten}
use Rattle.mp_layout.specs.Tables.{stbl}
use Rattle.mp_layout.specs.Written.{BoxHasLen, BoxIsPushed}
use Rattle.mp_layout.proofs.Containers.{same-box, somewhere, tables-left}
use Rattle.mp_layout.proofs.TablesOfColumns.{stbl-is, tables_of}
use Rattle.mp_layout.proofs.stbl.push_stbl.Goals as goal

pub returns : goal.returns
returns c =
    let view = c.track.view_is in
    let can = subst CanBeWritten (sym view) c.requires.track in
    let long = subst (λ (t : PlacedTrack). BoxHasLen c.args.len stbl t c.args.chunks.now c.args.wide) (sym view) c.requires.len in
    subst (λ (t : PlacedTrack). BoxIsPushed c.args.out.now c.push_chunk_offsets.new.out stbl t c.args.chunks.now c.args.wide) view
    (λ files placing at.
    let kept = c.track.inside in
    let chunks = c.args.chunks.now in
    let same = stbl-is c.columns_are_kept.ensures files _ can.columns at.held placing c.deref.result.now chunks c.args.wide c.deref.ensures.value at.heads at.same_wide in
    let parts = tables_of c.deref.result.now kept.deltas kept.offsets kept.syncs chunks (map unsigned_abs kept.sizes) c.args.wide in
    let len = subst (λ (part : Part). HasLen c.args.len part) (sym same) (long files placing (somewhere at)) in
    same-box _ _ _ _ same
    (λ rest all p.
    let begun = subst (λ (left : List (List ℕ)). IsPushing c.begin_box.new.out left all) (tables-left (stsd c.deref.result.now) (stts kept.deltas) (ctts kept.offsets) (stss kept.syncs) (stsc chunks) (stsz (map unsigned_abs kept.sizes)) (chunk_offsets c.args.wide chunks) rest)
    (c.begin_box.ensures.boxes parts len rest all p) in
    c.push_chunk_offsets.ensures rest all
    (c.push_stsz.ensures _ all (c.push_stsc.ensures _ all (c.push_stss.ensures _ all (c.push_ctts.ensures _ all (c.push_stts.ensures _ all (c.push_stsd.ensures _ all begun))))))))
