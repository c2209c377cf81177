use Rattle.std.proofs.Common.{◌≡◌, ◌≢◌, arith}
use Rattle.avc_units.proofs.Cleaning.{clean_skip, clean_zero, clean_third, clean_other}
use Rattle.avc_units.proofs.emulation.zeros_after.Goals as goal
use Rattle.avc_units.proofs.emulation.zeros_after.Goals.{else-zeros-eq2-via-then-zeros-eq2+else-byte-eq3, else-zeros-eq2-via-else-zeros-eq2}

pub returns-then-byte-eq3-clause-removed : goal.returns-then-byte-eq3-clause-removed
returns-then-byte-eq3-clause-removed c = λ none rest. rw (c.if-zeros-eq2.true, c.if-byte-eq3.true) (clean_skip rest)

pub returns-then-byte-ne0-clause-kept : goal.returns-then-byte-ne0-clause-kept
returns-then-byte-ne0-clause-kept c =
    let other : c.args.zeros ≡ 2 → c.args.byte ≢ 3 = elim c.else-zeros-eq2.branch [
      | else-zeros-eq2-via-then-zeros-eq2+else-byte-eq3 w ↦ λ e three. absurd (omega (arith, w.if-byte-eq3.false, three))
      | else-zeros-eq2-via-else-zeros-eq2 w ↦ λ e three. absurd (omega (arith, w.if-zeros-eq2.false, e))
    ] in
    (omega arith, λ rest. clean_other c.args.zeros c.args.byte rest c.requires c.if-byte-ne0.true other)

pub returns-then-zeros-lt2-clause-kept : goal.returns-then-zeros-lt2-clause-kept
returns-then-zeros-lt2-clause-kept c = (omega arith, λ rest. rw c.if-byte-ne0.false (clean_zero c.args.zeros rest c.if-zeros-lt2.true))

pub returns-clause-kept : goal.returns-clause-kept
returns-clause-kept c =
    let two : c.args.zeros ≡ 2 = omega arith in
    (omega arith, λ rest. rw (two, c.if-byte-ne0.false) (clean_third rest))
