-- Where a picture starts (H.264, 7.4.1.2.4).
use Rattle.std.specs.Prelude.{ℕ, ◌==◌, ◌&&◌, ◌||◌, Bool, not, if◌then◌else◌}
use Rattle.std.specs.Ordering.{int_eq}
use Rattle.avc_slices.specs.declared.slice.Slice.{Slice}

-- one of the two is a reference picture, and the other isn't
abbrev pub differ_in_reference : Slice → Slice → Bool
differ_in_reference last this = not (last.ref_idc == this.ref_idc) && ((last.ref_idc == 0) || (this.ref_idc == 0))

-- the parts that counts of type 0 have
abbrev pub differ_in_order : Slice → Slice → ℕ → Bool
differ_in_order last this poc_type = (poc_type == 0) && (not (last.lsb == this.lsb) || not (int_eq last.bottom this.bottom))

-- this slice is the first of another picture than the last one's
abbrev pub starts_picture : Slice → Slice → ℕ → Bool
starts_picture last this poc_type =
    not (last.frame_num == this.frame_num)
    || not (last.pps == this.pps)
    || differ_in_reference last this
    || (if last.idr then not this.idr else this.idr)
    || (last.idr && this.idr && not (last.idr_id == this.idr_id))
    || differ_in_order last this poc_type
