use Rattle.std.proofs.Common.{rules, ◌≡◌, ℕ, zero, suc, ◌+◌, ◌-◌, ◌<◌, ◌≤◌, max, Bool, ltb, List, [], length, take, get_or, refl, sym, ap, ◌∙◌, arith}
use Rattle.std.specs.List.{list_any}
use Rattle.std.proofs.lemmas.Bool.{le-ltb}
use Rattle.std.proofs.lemmas.List.Sorted.{IsPartitionPoint-from_clause, IsPartitionedBy-ltb, list_any-IsPermutation}
use Rattle.mp_clip.specs.declared.touching.Span.{Span}
use Rattle.mp_clip.specs.Touched.{touches}
use Rattle.cut_op.specs.Reach.{AreInOrder, reaching}
use Rattle.cut_op.proofs.Reaching.{by_front, from-reaching, last_reaches, latest_of, length-reaching}
use Rattle.cut_op.proofs.reach.reach_before.Goals as goal
use Rattle.cut_op.proofs.reach.reach_before.Goals.{After-partition_point-before}

-- what the search has found
found : (c : After-partition_point-before) (those : List Span) (start : ℕ) → (h : AreInOrder those c.args.spans.now) → list_any (touches start c.args.end) those ≡ ltb start (latest_of (take c.partition_point-before.result h.sorted))
found c those start h =
    let spans = c.args.spans.now in
    let end = c.args.end in
    let i = c.partition_point-before.result in
    let parted = IsPartitionedBy-ltb (λ (span : Span). span.from) spans end c.requires in
    let point = IsPartitionPoint-from_clause (λ (span : Span). ltb span.from end) spans i c.partition_point-before.ensures.partitioned parted (λ a r q k. search rules) in
    let same : (k : ℕ) (d : Span) → (get_or spans k d).from ≡ (get_or h.sorted k d).from = λ k d. ap (λ (xs : List Span). (get_or xs k d).from) h.reach ∙ from-reaching 0 h.sorted k d in
    let long : length spans ≡ length h.sorted = ap length h.reach ∙ length-reaching 0 h.sorted in
    list_any-IsPermutation (touches start end) those h.sorted h.same
    ∙ by_front start end h.sorted i
    (λ k d lt. sym (ap (λ (x : ℕ). ltb x end) (same k d)) ∙ point.0 k d (omega arith) lt)
    (λ k d le lt. sym (ap (λ (x : ℕ). ltb x end) (same k d)) ∙ point.1 k d le (omega (arith, lt, long)))

pub returns-then-before-eq0 : goal.returns-then-before-eq0
returns-then-before-eq0 c = λ those start h.
    let p = (goal.at.returns-then-before-eq0 c).After-partition_point-before in
    let none : c.partition_point-before.result ≡ 0 = omega (arith, c.if-before-eq0.true) in
    found p those start h ∙ ap (λ (n : ℕ). ltb start (latest_of (take n h.sorted))) none

pub returns : goal.returns
returns c = λ those start h.
    let p = (goal.at.returns c).After-partition_point-before in
    found p those start h ∙ ap (ltb start) (sym (last_reaches c.args.spans.now h.sorted c.partition_point-before.result h.reach (omega (arith, c.if-before-eq0.false)) c.partition_point-before.ensures.bound))
