use Rattle.std.proofs.Common.{◌≡◌, ◌-◌, length, take, drop, refl, ◌∙◌, arith}
use Rattle.std.proofs.lemmas.List.{length-take-le, length-drop}
use Rattle.avc_units.proofs.Passing.{passed_first, passed_on, passed_end, held_so, kept_behind}
use Rattle.avc_units.proofs.piece.Piece.end_of.Goals as goal

pub returns-then-stand-clause-end : goal.returns-then-stand-clause-end
returns-then-stand-clause-end g c =
    let e = c.scan-stand.ensures.ended c.if-stand.true in
    passed_end _ c.args.from c.args.from (c.args.self.now.len - (c.args.from - c.args.self.now.place)) 0 c.scan-stand.result.used (take (c.args.self.now.len - (c.args.from - c.args.self.now.place)) (drop (c.args.from - c.args.self.now.place) c.args.self.now.bytes)) (omega arith) (omega arith) e.0 (kept_behind _ c.args.self.now.place c.args.self.now.len c.args.from c.args.self.now.bytes c.requires.low c.requires.high c.requires.kept.holds) e.2 (passed_first _ c.args.from)

pub end_behind-requires-clause-passed : goal.end_behind-requires-clause-passed
end_behind-requires-clause-passed g c =
    let e = c.scan-stand.ensures.more c.if-stand.false in
    let start = c.args.from - c.args.self.now.place in
    let n = c.args.self.now.len - start in
    let piece = take n (drop start c.args.self.now.bytes) in
    let long : length piece ≡ n = length-take-le n (drop start c.args.self.now.bytes) (omega (arith, length-drop start c.args.self.now.bytes)) in
    passed_on _ c.args.from c.args.from c.scan-stand.result.used 0 c.scan-stand.result.zeros c.scan-stand.result.used piece (omega arith) refl (held_so _ c.args.from _ _ piece (e.0 ∙ long) (kept_behind _ c.args.self.now.place c.args.self.now.len c.args.from c.args.self.now.bytes c.requires.low c.requires.high c.requires.kept.holds)) e.1 (passed_first _ c.args.from)
