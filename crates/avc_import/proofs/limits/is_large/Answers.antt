use Rattle.std.proofs.Common.{◌∙◌, ◌<◌, sym, ap, length, true, Bool, arith}
use Rattle.std.specs.Prelude.{if◌then◌else◌}
use Rattle.std.specs.List.{list_any}
use Rattle.std.proofs.Common.{drop, ◌+◌}
use Rattle.avc_import.specs.Film.{is_long}
use Rattle.avc_import.proofs.Limiting.{large_end, large_on}
use Rattle.avc_import.proofs.Parting.{parts_len}
use Rattle.avc_import.proofs.limits.is_large.Goals as goal

pub returns-then-is_long : goal.returns-then-is_long
returns-then-is_long c = λ file parts cut.
    let inside : c.loop-k.k < length parts = omega (arith, c.loop-k-test.true, c.len-k-end.ensures, parts_len file parts _ _ cut) in
    sym (large_on file parts c.loop-k.k c.part.result.now c.is_long.result inside (c.part.ensures file parts cut) c.is_long.ensures
    ∙ ap (λ (b : Bool). if b then true else list_any is_long (drop (c.loop-k.k + 1) parts)) c.if-is_long.true) ∙ c.loop-k.invariant file parts cut

pub loop-k-preserved : goal.loop-k-preserved
loop-k-preserved c = λ file parts cut.
    let inside : c.loop-k.k < length parts = omega (arith, c.loop-k-test.true, c.len-k-end.ensures, parts_len file parts _ _ cut) in
    sym (large_on file parts c.loop-k.k c.part.result.now c.is_long.result inside (c.part.ensures file parts cut) c.is_long.ensures
    ∙ ap (λ (b : Bool). if b then true else list_any is_long (drop (c.loop-k.k + 1) parts)) c.if-is_long.false) ∙ c.loop-k.invariant file parts cut

pub returns : goal.returns
returns c = λ file parts cut.
    sym (large_end parts c.loop-k.k (omega (arith, c.loop-k-test.false, c.len-k-end.ensures, parts_len file parts _ _ cut))) ∙ c.loop-k.invariant file parts cut
