use Rattle.std.proofs.Common.{◌≡◌, ◌≤◌, arith}
use Rattle.avc_units.proofs.Scanning.{left-byte, left-break}
use Rattle.avc_units.proofs.search.seen_after.Goals as goal
use Rattle.avc_units.proofs.search.seen_after.Goals.{else-seen-eq2-via-then-seen-eq2+else-byte-lt2, else-seen-eq2-via-else-seen-eq2}

pub returns-then-byte-lt2-clause-end : goal.returns-then-byte-lt2-clause-end
returns-then-byte-lt2-clause-end c = λ _. (c.if-seen-eq2.true, λ rest. rw c.if-seen-eq2.true (left-break c.args.byte rest c.if-byte-lt2.true))

pub returns-else-byte-eq0-clause-further : goal.returns-else-byte-eq0-clause-further
returns-else-byte-eq0-clause-further c =
    let two : c.args.seen ≡ 2 → 2 ≤ c.args.byte = elim c.else-seen-eq2.branch [
      | else-seen-eq2-via-then-seen-eq2+else-byte-lt2 w ↦ λ e. omega arith
      | else-seen-eq2-via-else-seen-eq2 w ↦ λ e. absurd (omega arith)
    ] in
    (omega arith, omega arith, λ rest. let h = left-byte c.args.seen c.args.byte rest c.requires two (omega arith) in omega arith)
