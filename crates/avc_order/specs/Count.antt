-- Picture order counts (H.264, 8.2.1), by the first slices of pictures in decode order.
use Rattle.std.specs.Prelude.{ℕ, ◌+◌, ◌-◌, ◌*◌, ◌^◌, ◌==◌, ◌&&◌, nat_lt, nat_le, if◌then◌else◌, ℤ, pos, ◌+ℤ◌, ◌-ℤ◌, int_lt, List, [], ◌∷◌}
use Rattle.avc_sets.specs.Set.{SequenceSet}
use Rattle.avc_slices.specs.declared.slice.Slice.{Slice}
use Rattle.avc_order.specs.declared.count.Rule.{Rule}
use Rattle.avc_order.specs.declared.count.Kept.{Kept}
use Rattle.avc_order.specs.declared.count.Turn.{Turn}
use Rattle.avc_order.specs.declared.count.Turn.TheVariants.{Up, Down, Stay}

-- the type of counts, MaxPicOrderCntLsb and MaxFrameNum
abbrev pub rule_of : SequenceSet → Rule
rule_of s = record { poc_type = s.poc_type; lsbs = 2 ^ s.poc_bits; frames = 2 ^ s.frame_bits }

-- what is kept where no picture stands before, and for an IDR picture
abbrev pub nothing : Kept
nothing = record { msb = pos 0; lsb = 0; offset = 0; frame_num = 0 }

abbrev pub before : Kept → Slice → Kept
before kept first = if first.idr then nothing else kept

-- ---- type 0 (8.2.1.1)

-- whether the low part passed its end, upwards or downwards
abbrev pub turn_of : ℕ → ℕ → ℕ → Turn
turn_of max last lsb =
    if nat_lt lsb last && nat_le max (2 * (last - lsb)) then Up else
    (if nat_lt last lsb && nat_lt max (2 * (lsb - last)) then Down else Stay)

abbrev pub moved : ℤ → ℕ → Turn → ℤ
moved msb max Up = msb +ℤ pos max
moved msb max Down = msb -ℤ pos max
moved msb max Stay = msb

-- PicOrderCntMsb
unfoldable pub msb_of : ℕ → Kept → ℕ → ℤ
msb_of max kept lsb = moved kept.msb max (turn_of max kept.lsb lsb)

abbrev pub lesser : ℤ → ℤ → ℤ
lesser a b = if int_lt b a then b else a

-- the lesser of the counts of the two fields
abbrev pub field_count : ℤ → ℕ → ℤ → ℤ
field_count msb lsb bottom = let top = msb +ℤ pos lsb in lesser top (top +ℤ bottom)

-- ---- type 2 (8.2.1.3)

-- FrameNumOffset
unfoldable pub offset_of : ℕ → Kept → ℕ → ℕ
offset_of max kept frame_num = kept.offset + (if nat_lt frame_num kept.frame_num then max else 0)

-- twice the number of the frame in its sequence, one less for a picture that is no reference
abbrev pub frame_count : ℕ → Slice → ℤ
frame_count offset first =
    if first.idr then pos 0 else
    (if first.ref_idc == 0 then pos (2 * (offset + first.frame_num)) -ℤ pos 1 else pos (2 * (offset + first.frame_num)))

-- ---- both

-- by the high part and the offset of the picture
abbrev pub count_by : Rule → ℤ → ℕ → Slice → ℤ
count_by rule msb offset first = if rule.poc_type == 0 then field_count msb first.lsb first.bottom else frame_count offset first

-- both parts of the last reference's count, and offset and frame number of the last picture
abbrev pub kept_behind : Kept → ℤ → ℕ → Slice → Kept
kept_behind kept msb offset first = record {
  msb = if first.ref_idc == 0 then kept.msb else msb;
  lsb = if first.ref_idc == 0 then kept.lsb else first.lsb;
  offset = offset;
  frame_num = first.frame_num;
}

-- the count of a picture
unfoldable pub count_of : Rule → Kept → Slice → ℤ
count_of rule kept first =
    count_by rule (msb_of rule.lsbs (before kept first) first.lsb) (offset_of rule.frames (before kept first) first.frame_num) first

-- what is kept behind a picture
unfoldable pub after : Rule → Kept → Slice → Kept
after rule kept first =
    kept_behind kept (msb_of rule.lsbs (before kept first) first.lsb) (offset_of rule.frames (before kept first) first.frame_num) first

-- the counts of pictures
abbrev pub counts_of : Rule → Kept → List Slice → List ℤ
counts_of rule kept [] = []
counts_of rule kept (first ∷ firsts) = count_of rule kept first ∷ counts_of rule (after rule kept first) firsts
