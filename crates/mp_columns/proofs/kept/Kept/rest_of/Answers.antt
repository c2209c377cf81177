use Rattle.std.proofs.Common.{rules, arith, ◌≡◌, ◌<◌, length, pos, w64, None, ◌∙◌}
use Rattle.std.proofs.lemmas.Int.{to_z-of_z}
use Rattle.std.proofs.lemmas.List.{get_or_default}
use Rattle.mp_columns.specs.Kept.{end_at, value_at}
use Rattle.mp_columns.proofs.CutAtRuns.{same_count}
use Rattle.mp_columns.proofs.RunsAreKept.{next_is}
use Rattle.mp_columns.proofs.kept.Kept.rest_of.Goals as goal

pub index-requires : goal.index-requires
index-requires c = omega (arith, c.requires.within, same_count 0 None c.args.self.now.ends.items c.args.self.now.values.items c.requires.longest, c.args.self.now.values.ok.0)

pub returns : goal.returns
returns c =
    let ends = c.args.self.now.ends.items in
    let values = c.args.self.now.values.items in
    let run = c.args.run in
    let inside : run < length values = omega (arith, c.requires.within, same_count 0 None ends values c.requires.longest) in
    let value : c.index.result.now ≡ value_at values run = c.index.ensures ∙ get_or_default values run c.index.result.now (pos 0) inside in
    let end : c.index-2.result.now ≡ end_at ends run = c.index-2.ensures ∙ get_or_default ends run c.index-2.result.now 0 c.requires.within in
    next_is ends values run c.args.from c.index-2.result.now _ c.requires.longest c.requires.within c.requires.begun c.requires.holds end (to_z-of_z w64 c.index.result.now (search rules) ∙ value)
