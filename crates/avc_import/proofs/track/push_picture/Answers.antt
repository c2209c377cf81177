use Rattle.std.proofs.Common.{◌∙◌, ◌+◌, ◌-◌, ◌*◌, ◌^◌, ◌<◌, w64, ap, arith, pos, rules, List, ℕ, Bool}
use Rattle.std.specs.Prelude.{slice_index}
use Rattle.std.proofs.lemmas.Int.{to_z_pos}
use Rattle.avc_order.specs.Sequence.{is_sync}
use Rattle.avc_import.specs.Film.{schedule}
use Rattle.avc_import.proofs.Fitting.{picture_inside, picture_is, picture_len, picture_offset, picture_part, picture_shown}
use Rattle.avc_import.proofs.Limiting.{shown_late}
use Rattle.avc_import.proofs.track.push_picture.Goals as goal

pub number_at-shown-requires : goal.number_at-shown-requires
number_at-shown-requires c =
    let h = c.requires.passed.of_film in
    let inside = picture_inside h.file h.size h.rate h.film c.args.shots.now c.args.k h.are c.requires.inside in
    rw c.deref.ensures.value (picture_shown h.file h.size h.rate h.film c.args.shots.now c.args.k h.are inside)

pub offset-later-requires : goal.offset-later-requires
offset-later-requires c =
    let h = c.requires.passed.of_film in
    let inside = picture_inside h.file h.size h.rate h.film c.args.shots.now c.args.k h.are c.requires.inside in
    rw (c.number_at-shown.ensures, c.deref.ensures.value) (shown_late h.file h.size h.rate h.film c.args.shots.now c.args.k h.are inside)

pub overflow_cast-later : goal.overflow_cast-later
overflow_cast-later c =
    let h = c.requires.passed.of_film in
    let inside = picture_inside h.file h.size h.rate h.film c.args.shots.now c.args.k h.are c.requires.inside in
    let few = picture_offset h.file h.size h.rate h.film c.args.shots.now c.args.k h.are inside c.requires.passed.none in
    rw (c.offset-later.ensures, c.number_at-shown.ensures, c.deref.ensures.value) (omega (arith, few))

pub part-part-requires-clause-inside : goal.part-part-requires-clause-inside
part-part-requires-clause-inside c =
    let h = c.requires.passed.of_film in
    picture_part h.file h.size h.rate h.film c.args.shots.now c.args.k h.are (picture_inside h.file h.size h.rate h.film c.args.shots.now c.args.k h.are c.requires.inside)

pub mark_at-sync-requires : goal.mark_at-sync-requires
mark_at-sync-requires c = rw c.deref-2.ensures.value c.requires.inside

pub push_sample-requires-clause-short : goal.push_sample-requires-clause-short
push_sample-requires-clause-short c =
    let h = c.requires.passed.of_film in
    let inside = picture_inside h.file h.size h.rate h.film c.args.shots.now c.args.k h.are c.requires.inside in
    picture_len h.file h.film (schedule h.rate h.film) c.args.k c.part-part.result.now c.requires.passed.none (omega (arith, inside, h.are.parts_len)) (c.part-part.ensures h.file h.film.parts h.are.parts)

pub returns-clause-track : goal.returns-clause-track
returns-clause-track c = λ file size rate film are.
    let s = c.args.shots.now.schedule in
    let k = c.args.k in
    let inside = picture_inside file size rate film c.args.shots.now k are c.requires.inside in
    let later = c.offset-later.ensures ∙ ap (λ (n : ℕ). (n + s.delay - k) * s.ticks) (c.number_at-shown.ensures ∙ ap (λ (shown : List ℕ). slice_index shown k) c.deref.ensures.value) in
    let h = c.requires.passed.of_film in
    let few = picture_offset h.file h.size h.rate h.film c.args.shots.now k h.are (picture_inside h.file h.size h.rate h.film c.args.shots.now k h.are c.requires.inside) c.requires.passed.none in
    let small : c.offset-later.result < 2 ^ 63 = omega (arith, few, later) in
    let sync = c.mark_at-sync.ensures ∙ ap (λ (marks : List Bool). is_sync marks k) c.deref-2.ensures.value in
    c.in_ok-push_sample.ensures ∙ picture_is file size rate film c.args.shots.now k _ _ _ _ c.args.track.now are inside (search rules) (to_z_pos w64 c.offset-later.result small ∙ ap pos later) sync (c.part-part.ensures file film.parts are.parts)
