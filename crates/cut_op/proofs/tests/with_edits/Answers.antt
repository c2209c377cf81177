use Rattle.std.proofs.Common.{rules, ◌≡◌, ◌≢◌, ℕ, List, [], Option, Some, None, ap, sym, subst, arith}
use Rattle.mp_timeline.specs.declared.segment.Segment.{Segment}
use Rattle.mp_movie.specs.Placed.{PlacedTrack}
use Rattle.mp_movie.specs.WholeParts.{AreTrackParts}
use Rattle.cut_op.proofs.tests.with_edits.Goals as goal

edited : (movie : ℕ) (track : PlacedTrack) (edits : List Segment) → edits ≢ [] → AreTrackParts movie track → AreTrackParts movie (record track { edits = Some edits })
edited movie track edits some parts = record {
  bare = record {
    number = parts.bare.number;
    header = record {
      flags = parts.bare.header.flags;
      created = parts.bare.header.created;
      modified = parts.bare.header.modified;
      number = parts.bare.header.number;
      duration = omega arith;
      layer = parts.bare.header.layer;
      group = parts.bare.header.group;
      volume = parts.bare.header.volume;
      matrix = parts.bare.header.matrix;
      width = parts.bare.header.width;
      height = parts.bare.header.height;
    };
    media = parts.bare.media;
    handler = parts.bare.handler;
    udta = parts.bare.udta;
    entries = parts.bare.entries;
    times = parts.bare.times;
    kinds = parts.bare.kinds;
    edits = λ is. some (ap (from_some []) is);
  };
  columns = record {
    deltas = parts.columns.deltas;
    offsets_len = parts.columns.offsets_len;
    syncs_len = parts.columns.syncs_len;
    syncs = parts.columns.syncs;
    kinds_len = parts.columns.kinds_len;
    kinds = parts.columns.kinds;
    counts_len = parts.columns.counts_len;
    counts = parts.columns.counts;
    counted = parts.columns.counted;
    sizes_len = parts.columns.sizes_len;
    sizes = parts.columns.sizes;
  };
}
  where
    from_some : List Segment → Option (List Segment) → List Segment
    from_some other None = other
    from_some other (Some one) = one

pub returns-clause-parts : goal.returns-clause-parts
returns-clause-parts c =
    let some : c.in_ok-list.list.items ≢ [] = search rules in
    subst (λ (t : PlacedTrack). AreTrackParts c.args.movie (record t { edits = Some c.in_ok-list.list.items })) (sym c.track.view_is) (edited c.args.movie c.args.track c.in_ok-list.list.items some c.requires.parts)
