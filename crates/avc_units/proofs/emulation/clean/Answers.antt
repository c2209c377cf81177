use Rattle.std.proofs.Common.{◌≡◌, ◌++◌, [], drop, sym, ap, ◌∙◌, append-nil, arith}
use Rattle.std.proofs.lemmas.List.{drop_all}
use Rattle.avc_units.specs.Emulation.{clean_behind}
use Rattle.avc_units.proofs.Cleaning.{clean_end}
use Rattle.avc_units.proofs.emulation.clean.Goals as goal

pub returns : goal.returns
returns c =
    let at = c.loop-byte.byte-index in
    let none : drop at c.args.unit.now ≡ [] = drop_all at c.args.unit.now (omega arith) in
    let behind : clean_behind c.loop-byte.zeros (drop at c.args.unit.now) ≡ [] = rw none (clean_end c.loop-byte.zeros c.loop-byte.invariant.few) in
    sym (append-nil c.loop-byte.cleaned.items) ∙ ap (λ t. c.loop-byte.cleaned.items ++ t) (sym behind) ∙ c.loop-byte.invariant.so_far
