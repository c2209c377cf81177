-- What a set of the code stands for.
use Rattle.avc_sets.specs.declared.set.Sps.TheInside.{Inside as SequenceFields}
use Rattle.avc_sets.specs.declared.set.Pps.TheInside.{Inside as PictureFields}
use Rattle.avc_sets.specs.Set.{SequenceSet, PictureSet}

abbrev pub sequence_set : SequenceFields → SequenceSet
sequence_set s = record {
  profile = s.profile;
  compat = s.compat;
  level = s.level;
  number = s.number;
  chroma = s.chroma;
  luma_depth = s.luma_depth;
  chroma_depth = s.chroma_depth;
  frame_bits = s.frame_bits;
  poc_type = s.poc_type;
  poc_bits = s.poc_bits;
  frames_only = s.frames_only;
  width = s.width;
  height = s.height;
  tick = s.tick;
}

abbrev pub picture_set : PictureFields → PictureSet
picture_set p = record {
  number = p.number;
  sps = p.sps;
  bottom_order = p.bottom_order;
  refs0 = p.refs0;
  refs1 = p.refs1;
  weighted = p.weighted;
  bipred = p.bipred;
  redundant = p.redundant;
}
