use Rattle.std.proofs.Common.{ap, ◌∙◌}
use Rattle.std.specs.Prelude.{unsigned_abs}
use Rattle.mp_chunks.proofs.RowsArePushed.{all_pushed}
use Rattle.mp_chunks.proofs.SizesArePushed.{cast_fits, more_sizes, none_left, stretch_cast}
use Rattle.mp_chunks.proofs.push.push_sizes.Goals as goal

pub size_of-requires : goal.size_of-requires
size_of-requires g c = cast_fits _ _ _ c.in-Some.stretch c.requires c.in-Some.ensures.next

pub loop-stretch-preserved : goal.loop-stretch-preserved
loop-stretch-preserved g c =
    let size = c.size_of.ensures ∙ ap unsigned_abs (stretch_cast _ _ _ c.in-Some.stretch c.requires c.in-Some.ensures.next) in
    record {
      inside = c.in-Some.ensures.next.inside;
      left = more_sizes _ _ _ _ _ _ _ c.in-Some.stretch c.in-Some.ensures.next size c.loop-stretch.invariant.left c.push_copies.ensures;
    }

pub returns : goal.returns
returns g c = all_pushed _ _ _ _ c.loop-stretch.invariant.left (none_left _ _ c.in_default.ensures.next.0)
