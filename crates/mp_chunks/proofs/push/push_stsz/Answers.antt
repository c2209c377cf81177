use Rattle.std.proofs.Common.{◌≡◌, List, [], ◌∷◌, map, refl, sym, subst, ◌∙◌}
use Rattle.std.specs.Prelude.{unsigned_abs}
use Rattle.std.proofs.lemmas.List.{length-map}
use Rattle.mp_boxes.specs.declared.field.Field.{Field}
use Rattle.mp_boxes.specs.declared.field.Field.TheVariants.{U32}
use Rattle.mp_boxes.specs.Field.{body_bytes}
use Rattle.mp_boxes.specs.Push.{ArePushed}
use Rattle.mp_chunks.specs.Written.{sizes_front}
use Rattle.mp_chunks.proofs.SizesArePushed.{all_listed, none_listed, stsz_pushed}
use Rattle.mp_chunks.proofs.push.push_stsz.Goals as goal

pub returns-then-common-eq0 : goal.returns-then-common-eq0
returns-then-common-eq0 g c =
    let sizes = map unsigned_abs (g.C.Column.items c.args.sizes.now) in
    let many = c.len-samples.ensures.count ∙ sym (length-map (g.C.Column.items c.args.sizes.now) unsigned_abs) in
    let front : List Field = c.version_and_flags.result ∷ U32 c.size_of_all-common.result ∷ U32 c.len-samples.result ∷ [] in
    let is : front ≡ sizes_front sizes = rw (c.version_and_flags.ensures, c.size_of_all-common.ensures, many) refl in
    stsz_pushed _ _ _ sizes front _ is (c.sizes_len.ensures sizes c.size_of_all-common.ensures many) c.begin_box.ensures.rows
    (subst (λ (rows : List (List Field)). ArePushed c.begin_box.new.out c.push_sizes.new.out (map body_bytes rows)) (sym (all_listed sizes _ c.size_of_all-common.ensures c.if-common-eq0.true)) c.push_sizes.ensures)

pub returns-else-common-eq0 : goal.returns-else-common-eq0
returns-else-common-eq0 g c =
    let sizes = map unsigned_abs (g.C.Column.items c.args.sizes.now) in
    let many = c.len-samples.ensures.count ∙ sym (length-map (g.C.Column.items c.args.sizes.now) unsigned_abs) in
    let front : List Field = c.version_and_flags.result ∷ U32 c.size_of_all-common.result ∷ U32 c.len-samples.result ∷ [] in
    let is : front ≡ sizes_front sizes = rw (c.version_and_flags.ensures, c.size_of_all-common.ensures, many) refl in
    stsz_pushed _ _ _ sizes front _ is (c.sizes_len.ensures sizes c.size_of_all-common.ensures many) c.begin_box.ensures.rows
    (subst (λ (rows : List (List Field)). ArePushed c.begin_box.new.out c.begin_box.new.out (map body_bytes rows)) (sym (none_listed sizes _ c.size_of_all-common.ensures c.if-common-eq0.false)) (λ rest all pushing. pushing))
