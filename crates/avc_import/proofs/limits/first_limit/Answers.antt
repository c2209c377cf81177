use Rattle.std.proofs.Common.{◌∙◌, sym, refl}
use Rattle.avc_import.proofs.Limiting.{late_given, late_room, limit_by}
use Rattle.avc_import.proofs.limits.first_limit.Goals as goal

pub is_late-requires : goal.is_late-requires
is_late-requires c =
    let h = c.requires in
    late_room h.file h.size h.rate h.film c.args.shots.now _ h.are c.deref.ensures.value

pub returns-then-is_slow : goal.returns-then-is_slow
returns-then-is_slow c = λ file size rate film are.
    limit_by file size rate film c.args.shots.now _ _ _ _ _ are c.is_number.ensures (sym c.is_slow.ensures ∙ c.if-is_slow.true) refl refl refl refl

pub returns-then-is_late : goal.returns-then-is_late
returns-then-is_late c = λ file size rate film are.
    let late = late_given c.args.shots.now.order.shown.items _ c.args.shots.now.schedule _ c.deref.ensures.value c.is_late.ensures in
    limit_by file size rate film c.args.shots.now _ _ _ _ _ are c.is_number.ensures (sym c.is_slow.ensures ∙ c.if-is_slow.false) (sym c.if-is_late.true ∙ late) refl refl refl

pub returns-then-lasts_long : goal.returns-then-lasts_long
returns-then-lasts_long c = λ file size rate film are.
    let late = late_given c.args.shots.now.order.shown.items _ c.args.shots.now.schedule _ c.deref.ensures.value c.is_late.ensures in
    limit_by file size rate film c.args.shots.now _ _ _ _ _ are c.is_number.ensures (sym c.is_slow.ensures ∙ c.if-is_slow.false) (sym c.if-is_late.false ∙ late)
    (sym c.lasts_long.ensures ∙ c.if-lasts_long.true) refl refl

pub returns-then-starts_late : goal.returns-then-starts_late
returns-then-starts_late c = λ file size rate film are.
    let late = late_given c.args.shots.now.order.shown.items _ c.args.shots.now.schedule _ c.deref.ensures.value c.is_late.ensures in
    limit_by file size rate film c.args.shots.now _ _ _ _ _ are c.is_number.ensures (sym c.is_slow.ensures ∙ c.if-is_slow.false) (sym c.if-is_late.false ∙ late)
    (sym c.lasts_long.ensures ∙ c.if-lasts_long.false) (sym c.starts_late.ensures ∙ c.if-starts_late.true) refl

pub returns-then-is_large : goal.returns-then-is_large
returns-then-is_large c = λ file size rate film are.
    let late = late_given c.args.shots.now.order.shown.items _ c.args.shots.now.schedule _ c.deref.ensures.value c.is_late.ensures in
    limit_by file size rate film c.args.shots.now _ _ _ _ _ are c.is_number.ensures (sym c.is_slow.ensures ∙ c.if-is_slow.false) (sym c.if-is_late.false ∙ late)
    (sym c.lasts_long.ensures ∙ c.if-lasts_long.false) (sym c.starts_late.ensures ∙ c.if-starts_late.false) (sym c.if-is_large.true ∙ c.is_large.ensures file film.parts are.parts)

pub returns : goal.returns
returns c = λ file size rate film are.
    let late = late_given c.args.shots.now.order.shown.items _ c.args.shots.now.schedule _ c.deref.ensures.value c.is_late.ensures in
    limit_by file size rate film c.args.shots.now _ _ _ _ _ are c.is_number.ensures (sym c.is_slow.ensures ∙ c.if-is_slow.false) (sym c.if-is_late.false ∙ late)
    (sym c.lasts_long.ensures ∙ c.if-lasts_long.false) (sym c.starts_late.ensures ∙ c.if-starts_late.false) (sym c.if-is_large.false ∙ c.is_large.ensures file film.parts are.parts)
