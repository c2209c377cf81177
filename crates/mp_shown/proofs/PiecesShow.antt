-- Pieces show what the whole shows.
use Rattle.std.proofs.Common.{◌≡◌, ℕ, ◌+◌, ◌-◌, ◌<◌, ◌≤◌, min, Bool, true, false, cond, ltb, List, [], ◌∷◌, Option, Some, None, refl, sym, ap, ◌∙◌, arith, inl, inr}
use Rattle.std.proofs.lemmas.Bool.{cases_lt, lt-ltb, le-ltb}
use Rattle.std.proofs.lemmas.List.Sums.{sum_by-cons}
use Rattle.mp_timeline.specs.declared.segment.Segment.{Segment}
use Rattle.mp_timeline.specs.declared.segment.Segment.TheVariants.{Empty, Media}
use Rattle.mp_edits.specs.Segments.{duration, total}
use Rattle.mp_shown.specs.Segments.{part, pieces}
use Rattle.mp_shown.specs.Shown.{media_time}

time-in : (segment : Segment) (segments : List Segment) (t : ℕ) → t < duration segment → media_time (segment ∷ segments) t ≡ media_time (segment ∷ []) t
time-in (Empty dur) segments t lt = rw (lt-ltb t dur lt) refl
time-in (Media start dur) segments t lt = rw (lt-ltb t dur lt) refl

time-past : (segment : Segment) (segments : List Segment) (t : ℕ) → duration segment ≤ t → media_time (segment ∷ segments) t ≡ media_time segments (t - duration segment)
time-past (Empty dur) segments t le = rw (le-ltb t dur le) refl
time-past (Media start dur) segments t le = rw (le-ltb t dur le) refl

duration-part : (segment : Segment) (from to : ℕ) → duration (part segment from to) ≡ to - from
duration-part (Empty dur) from to = refl
duration-part (Media start dur) from to = refl

time-part : (segment : Segment) (from to t : ℕ) → from + t < to → to ≤ duration segment → media_time (part segment from to ∷ []) t ≡ media_time (segment ∷ []) (from + t)
time-part (Empty dur) from to t lt le = rw (lt-ltb t (to - from) (omega arith), lt-ltb (from + t) dur (omega arith)) refl
time-part (Media start dur) from to t lt le = rw (lt-ltb t (to - from) (omega arith), lt-ltb (from + t) dur (omega arith)) (ap (λ (x : ℕ). Some x) (omega arith))

pieces-some : (from to : ℕ) (segment : Segment) (segments : List Segment) → min from (duration segment) < min to (duration segment)
    → pieces from to (segment ∷ segments) ≡ part segment (min from (duration segment)) (min to (duration segment)) ∷ pieces (from - duration segment) (to - duration segment) segments
pieces-some from to segment segments lt = rw (lt-ltb _ _ lt) refl

pieces-none : (from to : ℕ) (segment : Segment) (segments : List Segment) → min to (duration segment) ≤ min from (duration segment)
    → pieces from to (segment ∷ segments) ≡ pieces (from - duration segment) (to - duration segment) segments
pieces-none from to segment segments le = rw (le-ltb _ _ le) refl

pub pieces-within : (segments : List Segment) (from to t : ℕ) → from + t < to → media_time (pieces from to segments) t ≡ media_time segments (from + t)
pieces-within [] from to t lt = refl
pieces-within (segment ∷ segments) from to t lt =
    let u = duration segment in
    elim (cases_lt from u) [
      | inl before ↦
          let some = pieces-some from to segment segments (omega arith) in
          elim (cases_lt (from + t) u) [
            | inl here ↦
                ap (λ (ps : List Segment). media_time ps t) some ∙ (time-in (part segment (min from u) (min to u)) (pieces (from - u) (to - u) segments) t (omega (arith, duration-part segment (min from u) (min to u)))
                ∙ (time-part segment (min from u) (min to u) t (omega arith) (omega arith) ∙ (ap (λ (k : ℕ). media_time (segment ∷ []) (k + t)) (omega arith) ∙ sym (time-in segment segments (from + t) here))))
            | inr past ↦
                ap (λ (ps : List Segment). media_time ps t) some ∙ (time-past (part segment (min from u) (min to u)) (pieces (from - u) (to - u) segments) t (omega (arith, duration-part segment (min from u) (min to u)))
                ∙ (pieces-within segments (from - u) (to - u) (t - duration (part segment (min from u) (min to u))) (omega (arith, duration-part segment (min from u) (min to u)))
                ∙ (ap (media_time segments) (omega (arith, duration-part segment (min from u) (min to u))) ∙ sym (time-past segment segments (from + t) past))))
          ]
      | inr behind ↦
          let none = pieces-none from to segment segments (omega arith) in
          ap (λ (ps : List Segment). media_time ps t) none ∙ (pieces-within segments (from - u) (to - u) t (omega arith) ∙ (ap (media_time segments) (omega arith) ∙ sym (time-past segment segments (from + t) (omega arith))))
    ]

pub pieces-after : (segments : List Segment) (from to t : ℕ) → to ≤ from + t → media_time (pieces from to segments) t ≡ None
pieces-after [] from to t le = refl
pieces-after (segment ∷ segments) from to t le =
    let u = duration segment in
    elim (cases_lt (min from u) (min to u)) [
      | inl some ↦
          ap (λ (ps : List Segment). media_time ps t) (pieces-some from to segment segments some) ∙ (time-past (part segment (min from u) (min to u)) (pieces (from - u) (to - u) segments) t (omega (arith, duration-part segment (min from u) (min to u)))
          ∙ pieces-after segments (from - u) (to - u) (t - duration (part segment (min from u) (min to u))) (omega (arith, duration-part segment (min from u) (min to u))))
      | inr none ↦ ap (λ (ps : List Segment). media_time ps t) (pieces-none from to segment segments none) ∙ pieces-after segments (from - u) (to - u) t (omega arith)
    ]

pub pieces-total : (segments : List Segment) (from to : ℕ) → from ≤ to → total (pieces from to segments) ≡ min to (total segments) - min from (total segments)
pieces-total [] from to le = omega arith
pieces-total (segment ∷ segments) from to le =
    let u = duration segment in
    let all = sum_by-cons duration segment segments in
    let rest = pieces-total segments (from - u) (to - u) (omega arith) in
    elim (cases_lt (min from u) (min to u)) [
      | inl some ↦
          ap total (pieces-some from to segment segments some) ∙ (sum_by-cons duration (part segment (min from u) (min to u)) (pieces (from - u) (to - u) segments)
          ∙ omega (arith, rest, all, duration-part segment (min from u) (min to u)))
      | inr none ↦ ap total (pieces-none from to segment segments none) ∙ omega (arith, rest, all)
    ]
