use Rattle.std.proofs.Common.{subst, sym, ◌∙◌}
use Rattle.mp_boxes.specs.Field.{Part, box_bytes}
use Rattle.mp_boxes.specs.Push.{IsPushed}
use Rattle.mp_headers.proofs.ByHandler.{of_others, of_pictures, of_sound, of_subtitles}
use Rattle.mp_headers.proofs.media_information.push_media_header.Goals as goal

pub returns-then-eq : goal.returns-then-eq
returns-then-eq c = subst (λ (part : Part). IsPushed c.args.out.now c.push_box.new.out (box_bytes part)) (of_pictures c.args.handler (sym c.eq.ensures ∙ c.if-eq.true)) (rw c.version_and_flags.ensures at c.push_box.ensures)

pub returns-then-eq-2 : goal.returns-then-eq-2
returns-then-eq-2 c =
    subst (λ (part : Part). IsPushed c.args.out.now c.push_box-then-eq-2.new.out (box_bytes part)) (of_sound c.args.handler (sym c.eq.ensures ∙ c.if-eq.false) (sym c.eq-else-eq.ensures ∙ c.if-eq-2.true))
    (rw c.version_and_flags-plain.ensures at c.push_box-then-eq-2.ensures)

pub returns-then-eq-3 : goal.returns-then-eq-3
returns-then-eq-3 c =
    subst (λ (part : Part). IsPushed c.args.out.now c.push_box-then-eq-3.new.out (box_bytes part)) (of_subtitles c.args.handler (sym c.eq.ensures ∙ c.if-eq.false) (sym c.eq-else-eq.ensures ∙ c.if-eq-2.false) (sym c.eq-else-eq-2.ensures ∙ c.if-eq-3.true))
    (rw c.version_and_flags-plain.ensures at c.push_box-then-eq-3.ensures)

pub returns-else-eq-3 : goal.returns-else-eq-3
returns-else-eq-3 c =
    subst (λ (part : Part). IsPushed c.args.out.now c.push_box-else-eq-3.new.out (box_bytes part)) (of_others c.args.handler (sym c.eq.ensures ∙ c.if-eq.false) (sym c.eq-else-eq.ensures ∙ c.if-eq-2.false) (sym c.eq-else-eq-2.ensures ∙ c.if-eq-3.false))
    (rw c.version_and_flags-plain.ensures at c.push_box-else-eq-3.ensures)
