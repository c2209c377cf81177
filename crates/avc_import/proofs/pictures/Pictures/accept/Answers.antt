use Rattle.std.proofs.Common.{◌∙◌, ap, length, ℕ, [], ◌∷◌, ◌++◌, Option}
use Rattle.std.specs.Prelude.{if◌then◌else◌}
use Rattle.std.proofs.lemmas.List.{length-map}
use Rattle.avc_units.specs.declared.reader.UnitSpan.{UnitSpan}
use Rattle.avc_slices.specs.declared.slice.Slice.{Slice}
use Rattle.avc_order.specs.declared.access.NalUnit.{NalUnit}
use Rattle.avc_order.specs.Access.{first_slices, is_first_slice}
use Rattle.avc_import.proofs.Keeping.{stands_on}
use Rattle.avc_import.proofs.pictures.Pictures.accept.Goals as goal

pub returns-clause-stands : goal.returns-clause-stands
returns-clause-stands c = λ size units within stands.
    let begins = c.next-begins.ensures in
    let unit : NalUnit × UnitSpan = (c.args.unit.now, c.args.span) in
    let many = c.len.ensures ∙ c.args.self.now.firsts.ok.0 ∙ ap length stands.firsts ∙ length-map (first_slices units) _ in
    let none = c.in_ok-check_order.ensures units many (begins.picture ∙ ap (λ (last : Option Slice). is_first_slice last c.args.unit.now) stands.last) in
    let ends = c.in_ok-push_end.ensures ∙ ap (λ (n : ℕ). c.args.self.now.ends.items ++ (if c.next-begins.result.access_unit then n ∷ [] else [])) (c.len-2.ensures ∙ c.args.self.now.pieces.ok.0) in (
      none,
      stands_on c.args.file size units unit _ _ c.next-begins.result (c.access_units_are_cut.ensures.joined units) (c.access_units_are_cut.ensures.cut units [] unit) within stands
          begins.access_unit begins.picture begins.last none ends c.in_ok-push_first.ensures.slice c.in_ok-push_first.ensures.place c.in_ok-push_piece.ensures,
    )
