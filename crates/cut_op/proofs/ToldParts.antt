-- The pieces of a plan can be told, in the unit of what the track shows, and what tells them are its edits.
use Rattle.std.proofs.Common.{◌≡◌, ℕ, pos, ◌+◌, ◌-◌, ◌*◌, ◌/◌, ◌^◌, ◌<◌, ◌≤◌, max, min, List, [], ◌∷◌, map, Option, Some, None, refl, sym, ap, subst, ◌∙◌, arith, inl, inr}
use Rattle.std.specs.Int.{◌∣◌}
use Rattle.std.specs.List.{AllByRecursion, list_any}
use Rattle.std.proofs.Math.Nat.{dvd_of_mul-dvd-mul_right, eq_of_mul-eq-mul_right, le_of_mul-le-mul_right, mul-div_cancel', mul-dvd-mul_right}
use Rattle.std.proofs.lemmas.Bool.{cases_lt}
use Rattle.std.proofs.lemmas.Int.{ints}
use Rattle.mp_frac.specs.declared.time.Frac.{Frac}
use Rattle.mp_frac.specs.Law.{WholenessIsDivision}
use Rattle.mp_frac.specs.Time.{IsWhole, in_ticks}
use Rattle.mp_timeline.specs.declared.segment.Segment.{Segment}
use Rattle.mp_timeline.specs.declared.segment.Segment.TheVariants.{Empty, Media}
use Rattle.mp_timeline.specs.Same.{IsSameTicks}
use Rattle.mp_edits.specs.Segments.{duration, total}
use Rattle.mp_movie.specs.Durations.{extent, greatest}
use Rattle.mp_movie.specs.Placed.{PlacedTrack}
use Rattle.mp_movie.specs.StandsFor.{samples_of, track_for}
use Rattle.mp_shown.specs.Segments.{in_unit}
use Rattle.mp_clip.specs.declared.shape.ClipShape.{ClipShape}
use Rattle.mp_clip.specs.Clipped.{CanClip, CanTell, IsClip, TellsBack, as_times, clipped, starts, unit}
use Rattle.mp_clip.specs.Shape.{least}
use Rattle.track_ops.specs.Told.{or_empty}
use Rattle.cut_op.specs.declared.plan.TrackPlan.{TrackPlan}
use Rattle.cut_op.specs.Explicit.{shown_edits, shown_scale}
use Rattle.cut_op.specs.Planned.{CanEdit, HasEdits}
use Rattle.cut_op.specs.Track.{track_pieces}
use Rattle.cut_op.proofs.AllScales.{whole_in_multiple}
use Rattle.cut_op.proofs.Explicits.{pieces_of_list, same_pieces}
use Rattle.cut_op.proofs.Moving.{AllFrom, least-from}
use Rattle.cut_op.proofs.Totals.{total-in_unit}
use Rattle.cut_op.proofs.Units.{le-times, lt-times, times_some}

pos_same : (a b : ℕ) → pos a ≡ pos b → a ≡ b
pos_same a b e = omega (arith, ints, e)

-- ---- another unit

module _ (law : WholenessIsDivision) (u k media movie back : ℕ) (some_u : 0 < u) (some_k : 0 < k) (some_media : 0 < media) (some_movie : 0 < movie) where
  some_uk : 0 < u * k
  some_uk = times_some u k some_u some_k

  turn : (n m : ℕ) → n * m * k ≡ n * k * m
  turn n m = omega arith

  whole_finer : (n scale : ℕ) → 0 < scale → IsWhole scale (in_ticks (pos n) u) → IsWhole scale (in_ticks (pos (n * k)) (u * k))
  whole_finer n scale some whole =
      let divides : u ∣ n * scale = (law scale (in_ticks (pos n) u) some some_u).0 whole in
      let finer : u * k ∣ n * scale * k = mul-dvd-mul_right u divides k in
      (law scale (in_ticks (pos (n * k)) (u * k)) some some_uk).1 (subst (λ (x : ℕ). u * k ∣ x) (turn n scale) finer)

  whole_coarser : (n scale : ℕ) → 0 < scale → IsWhole scale (in_ticks (pos (n * k)) (u * k)) → IsWhole scale (in_ticks (pos n) u)
  whole_coarser n scale some whole =
      let divides : u * k ∣ n * k * scale = (law scale (in_ticks (pos (n * k)) (u * k)) some some_uk).0 whole in
      (law scale (in_ticks (pos n) u) some some_u).1 (dvd_of_mul-dvd-mul_right u some_k (subst (λ (x : ℕ). u * k ∣ x) (sym (turn n scale)) divides))

  starts_finer : (ps : List Segment) → AllByRecursion (IsWhole media) (as_times u (starts ps)) → AllByRecursion (IsWhole media) (as_times (u * k) (starts (map (in_unit k k) ps)))
  starts_finer [] all = tt
  starts_finer (Empty dur ∷ ps) all = starts_finer ps all
  starts_finer (Media start dur ∷ ps) all = (whole_finer start media some_media all.0, starts_finer ps all.1)

  starts_coarser : (ps : List Segment) → AllByRecursion (IsWhole media) (as_times (u * k) (starts (map (in_unit k k) ps))) → AllByRecursion (IsWhole media) (as_times u (starts ps))
  starts_coarser [] all = tt
  starts_coarser (Empty dur ∷ ps) all = starts_coarser ps all
  starts_coarser (Media start dur ∷ ps) all = (whole_coarser start media some_media all.0, starts_coarser ps all.1)

  durations_finer : (ps : List Segment) → AllByRecursion (IsWhole movie) (as_times u (map duration ps)) → AllByRecursion (IsWhole movie) (as_times (u * k) (map duration (map (in_unit k k) ps)))
  durations_finer [] all = tt
  durations_finer (Empty dur ∷ ps) all = (whole_finer dur movie some_movie all.0, durations_finer ps all.1)
  durations_finer (Media start dur ∷ ps) all = (whole_finer dur movie some_movie all.0, durations_finer ps all.1)

  durations_coarser : (ps : List Segment) → AllByRecursion (IsWhole movie) (as_times (u * k) (map duration (map (in_unit k k) ps))) → AllByRecursion (IsWhole movie) (as_times u (map duration ps))
  durations_coarser [] all = tt
  durations_coarser (Empty dur ∷ ps) all = (whole_coarser dur movie some_movie all.0, durations_coarser ps all.1)
  durations_coarser (Media start dur ∷ ps) all = (whole_coarser dur movie some_movie all.0, durations_coarser ps all.1)

  late_finer : (ps : List Segment) → AllByRecursion (λ start. back * u ≤ start * media) (starts ps) → AllByRecursion (λ start. back * (u * k) ≤ start * media) (starts (map (in_unit k k) ps))
  late_finer [] all = tt
  late_finer (Empty dur ∷ ps) all = late_finer ps all
  late_finer (Media start dur ∷ ps) all = (subst (λ (x : ℕ). back * (u * k) ≤ x) (turn start media) (subst (λ (x : ℕ). x ≤ start * media * k) (regroup back u k) (le-times (back * u) (start * media) k all.0)), late_finer ps all.1)
    where
      regroup : (a b c : ℕ) → a * b * c ≡ a * (b * c)
      regroup a b c = omega arith

  late_coarser : (ps : List Segment) → AllByRecursion (λ start. back * (u * k) ≤ start * media) (starts (map (in_unit k k) ps)) → AllByRecursion (λ start. back * u ≤ start * media) (starts ps)
  late_coarser [] all = tt
  late_coarser (Empty dur ∷ ps) all = late_coarser ps all
  late_coarser (Media start dur ∷ ps) all = (le_of_mul-le-mul_right (subst (λ (x : ℕ). back * u * k ≤ x) (sym (turn start media)) (subst (λ (x : ℕ). x ≤ start * k * media) (regroup back u k) all.0)) some_k, late_coarser ps all.1)
    where
      regroup : (a b c : ℕ) → a * (b * c) ≡ a * b * c
      regroup a b c = omega arith

  below_finer : (a limit : ℕ) → a < limit * u → a * k < limit * (u * k)
  below_finer a limit lt = subst (λ (x : ℕ). a * k < x) (regroup limit u k) (lt-times a (limit * u) k some_k lt)
    where
      regroup : (a b c : ℕ) → a * b * c ≡ a * (b * c)
      regroup a b c = omega arith

  below_coarser : (a limit : ℕ) → a * k < limit * (u * k) → a < limit * u
  below_coarser a limit lt =
      let there : a * k < limit * u * k = subst (λ (x : ℕ). a * k < x) (regroup limit u k) lt in
      elim (cases_lt a (limit * u)) [
        | inl less ↦ less
        | inr le ↦ let more = le-times (limit * u) a k le in absurd (omega (arith, more, there))
      ]
    where
      regroup : (a b c : ℕ) → a * (b * c) ≡ a * b * c
      regroup a b c = omega arith

  early_finer : (ps : List Segment) → AllByRecursion (λ start. start * media < (2 ^ 62 + back) * u) (starts ps) → AllByRecursion (λ start. start * media < (2 ^ 62 + back) * (u * k)) (starts (map (in_unit k k) ps))
  early_finer [] all = tt
  early_finer (Empty dur ∷ ps) all = early_finer ps all
  early_finer (Media start dur ∷ ps) all = (subst (λ (x : ℕ). x < (2 ^ 62 + back) * (u * k)) (turn start media) (below_finer (start * media) (2 ^ 62 + back) all.0), early_finer ps all.1)

  early_coarser : (ps : List Segment) → AllByRecursion (λ start. start * media < (2 ^ 62 + back) * (u * k)) (starts (map (in_unit k k) ps)) → AllByRecursion (λ start. start * media < (2 ^ 62 + back) * u) (starts ps)
  early_coarser [] all = tt
  early_coarser (Empty dur ∷ ps) all = early_coarser ps all
  early_coarser (Media start dur ∷ ps) all = (below_coarser (start * media) (2 ^ 62 + back) (subst (λ (x : ℕ). x < (2 ^ 62 + back) * (u * k)) (sym (turn start media)) all.0), early_coarser ps all.1)

  pub can_finer : (ps : List Segment) → CanTell u media movie back ps → CanTell (u * k) media movie back (map (in_unit k k) ps)
  can_finer ps can = record {
    whole_starts = starts_finer ps can.whole_starts;
    late = late_finer ps can.late;
    early = early_finer ps can.early;
    whole_durations = durations_finer ps can.whole_durations;
    short = subst (λ (x : ℕ). x < 2 ^ 62 * (u * k)) (turn (total ps) movie ∙ sym (ap (λ (x : ℕ). x * movie) (total-in_unit k k ps))) (below_finer (total ps * movie) (2 ^ 62) can.short);
  }

  pub can_coarser : (ps : List Segment) → CanTell (u * k) media movie back (map (in_unit k k) ps) → CanTell u media movie back ps
  can_coarser ps can = record {
    whole_starts = starts_coarser ps can.whole_starts;
    late = late_coarser ps can.late;
    early = early_coarser ps can.early;
    whole_durations = durations_coarser ps can.whole_durations;
    short = below_coarser (total ps * movie) (2 ^ 62) (subst (λ (x : ℕ). x < 2 ^ 62 * (u * k)) (sym (turn (total ps) movie ∙ sym (ap (λ (x : ℕ). x * movie) (total-in_unit k k ps)))) can.short);
  }

  same_finer : (scale n m : ℕ) → IsSameTicks u scale (pos n) (pos m) → IsSameTicks (u * k) scale (pos (n * k)) (pos m)
  same_finer scale n m same = record {
    positive = some_uk;
    other_positive = same.other_positive;
    crosswise = ap pos (sym (turn n scale) ∙ (ap (λ (x : ℕ). x * k) (pos_same (n * scale) (m * u) same.crosswise) ∙ regroup m u k));
  }
    where
      regroup : (a b c : ℕ) → a * b * c ≡ a * (b * c)
      regroup a b c = omega arith

  same_coarser : (scale n m : ℕ) → IsSameTicks (u * k) scale (pos (n * k)) (pos m) → IsSameTicks u scale (pos n) (pos m)
  same_coarser scale n m same = record {
    positive = some_u;
    other_positive = same.other_positive;
    crosswise = ap pos (eq_of_mul-eq-mul_right k some_k (n * scale) (m * u) (turn n scale ∙ (pos_same (n * k * scale) (m * (u * k)) same.crosswise ∙ regroup m u k)));
  }
    where
      regroup : (a b c : ℕ) → a * (b * c) ≡ a * b * c
      regroup a b c = omega arith

  pub told_finer : (ps made : List Segment) → TellsBack u media movie back ps made → TellsBack (u * k) media movie back (map (in_unit k k) ps) made
  told_finer [] [] told = tt
  told_finer [] (one ∷ made) told = absurd told
  told_finer (piece ∷ ps) [] told = absurd told
  told_finer (Empty dur ∷ ps) (Empty other ∷ made) told = (same_finer movie dur other told.0, told_finer ps made told.1)
  told_finer (Media start dur ∷ ps) (Media at other ∷ made) told = ((same_finer media start (at + back) told.0.0, same_finer movie dur other told.0.1), told_finer ps made told.1)
  told_finer (Empty dur ∷ ps) (Media at other ∷ made) told = absurd told.0
  told_finer (Media start dur ∷ ps) (Empty other ∷ made) told = absurd told.0

  pub told_coarser : (ps made : List Segment) → TellsBack (u * k) media movie back (map (in_unit k k) ps) made → TellsBack u media movie back ps made
  told_coarser [] [] told = tt
  told_coarser [] (one ∷ made) told = absurd told
  told_coarser (piece ∷ ps) [] told = absurd (none piece told)
    where
      none : (piece : Segment) → TellsBack (u * k) media movie back (map (in_unit k k) (piece ∷ ps)) [] → ⊥
      none piece told = told
  told_coarser (Empty dur ∷ ps) (Empty other ∷ made) told = (same_coarser movie dur other told.0, told_coarser ps made told.1)
  told_coarser (Media start dur ∷ ps) (Media at other ∷ made) told = ((same_coarser media start (at + back) told.0.0, same_coarser movie dur other told.0.1), told_coarser ps made told.1)
  told_coarser (Empty dur ∷ ps) (Media at other ∷ made) told = absurd told.0
  told_coarser (Media start dur ∷ ps) (Empty other ∷ made) told = absurd told.0

-- ---- the pieces of a plan

pub each_late : (back unit media low : ℕ) (numbers : List ℕ) → back * unit ≤ low * media → AllFrom low numbers → AllByRecursion (λ start. back * unit ≤ start * media) numbers
each_late back unit media low [] le all = tt
each_late back unit media low (n ∷ numbers) le all = (through (le-times low n media all.0), each_late back unit media low numbers le all.1)
  where
    through : low * media ≤ n * media → back * unit ≤ n * media
    through more = omega (arith, le, more)

each_early : (limit unit media : ℕ) (numbers : List ℕ) → greatest numbers * media < limit * unit → AllByRecursion (λ start. start * media < limit * unit) numbers
each_early limit unit media [] lt = tt
each_early limit unit media (n ∷ numbers) lt = (
  through n (max n (greatest numbers)) (le-times n (max n (greatest numbers)) media (omega arith)) lt,
  each_early limit unit media numbers (through (greatest numbers) (max n (greatest numbers)) (le-times (greatest numbers) (max n (greatest numbers)) media (omega arith)) lt),
)
  where
    through : (a b : ℕ) → a * media ≤ b * media → b * media < limit * unit → a * media < limit * unit
    through a b le lt = omega (arith, le, lt)

module _ (law : WholenessIsDivision) (files : List (List ℕ)) (movie new : ℕ) (from to : Frac) (track : PlacedTrack) (plan : TrackPlan) (some_new : 0 < new) (can : CanEdit files movie new from to track plan) where
  abbrev pub parts : ℕ
  parts = unit track.scale movie from to

  abbrev pub pieces : List Segment
  pieces = track_pieces movie from to (track_for files track)

  can_tell : CanTell parts plan.scale new plan.back pieces
  can_tell =
      let shape = can.shape in
      let is = can.is.is_shape in
      let scale = can.is.scale in
      let some : 0 < plan.scale = subst (λ (x : ℕ). 0 < x) (sym scale) is.media_scale.0.some in
      let lowest : least (starts pieces) * plan.scale ≡ shape.least * parts = ap (λ (x : ℕ). least (starts pieces) * x) scale ∙ pos_same _ _ is.least.crosswise in
      let highest : greatest (starts pieces) * plan.scale ≡ shape.greatest * parts = ap (λ (x : ℕ). greatest (starts pieces) * x) scale ∙ pos_same _ _ is.greatest.crosswise in
      let long : total pieces * shape.movie_scale ≡ shape.total * parts = pos_same _ _ is.total.crosswise in
      let some_parts = is.total.positive in
      let less : plan.back ≤ shape.least = below_least _ can.is.back in
      record {
        whole_starts = subst (λ (k : ℕ). AllByRecursion (IsWhole k) (as_times parts (starts pieces))) (sym scale) is.media_scale.0.serves.whole;
        late = each_late plan.back parts plan.scale (least (starts pieces)) (starts pieces) (subst (λ (x : ℕ). plan.back * parts ≤ x) (sym lowest) (le-times plan.back shape.least parts less)) (least-from (starts pieces));
        early = each_early (2 ^ 62 + plan.back) parts plan.scale (starts pieces) (subst (λ (x : ℕ). x < (2 ^ 62 + plan.back) * parts) (sym highest) (lt-times shape.greatest (2 ^ 62 + plan.back) parts some_parts can.early));
        whole_durations = whole_in_multiple law shape.movie_scale new (as_times parts (map duration pieces)) is.movie_scale.0.some some_new can.multiple is.movie_scale.0.serves.whole;
        short = subst (λ (x : ℕ). x < 2 ^ 62 * parts) (sym (lasts (total pieces) shape.movie_scale (new / shape.movie_scale) shape.total long (mul-div_cancel' shape.movie_scale can.multiple))) (lt-times (shape.total * (new / shape.movie_scale)) (2 ^ 62) parts some_parts can.short);
      }
    where
      below_least : (a : ℕ) → plan.back ≡ min a can.shape.least → plan.back ≤ can.shape.least
      below_least a is = omega (arith, is)

      lasts : (t s k n : ℕ) → t * s ≡ n * parts → s * k ≡ new → t * new ≡ n * k * parts
      lasts t s k n long whole = ap (λ (x : ℕ). t * x) (sym whole) ∙ (first t s k ∙ (ap (λ (x : ℕ). x * k) long ∙ second n parts k))
        where
          first : (a b c : ℕ) → a * (b * c) ≡ a * b * c
          first a b c = omega arith

          second : (a b c : ℕ) → a * b * c ≡ a * c * b
          second a b c = omega arith

  -- the segments that the track shows can be clipped so
  module _ (some_movie : 0 < movie) (some_scale : 0 < track.scale) (some_from : 0 < from.d) (some_to : 0 < to.d) where
    some_plan : 0 < plan.scale
    some_plan = subst (λ (x : ℕ). 0 < x) (sym can.is.scale) can.is.is_shape.media_scale.0.some

    units : unit track.scale track.scale from to * movie ≡ unit track.scale movie from to * track.scale
    units = turn track.scale movie (from.d * to.d)
      where
        turn : (s m w : ℕ) → s * s * w * m ≡ m * s * w * s
        turn s m w = omega arith

    some_unit : (m : ℕ) → 0 < m → 0 < unit track.scale m from to
    some_unit m some = times_some (m * track.scale) (from.d * to.d) (times_some m track.scale some some_scale) (times_some from.d to.d some_from some_to)

    pub can_clip : CanClip track.scale (shown_scale track.edits movie track.scale) from to (shown_edits track.edits (Media 0 (extent (samples_of files track)) ∷ [])) plan.scale new plan.back
    can_clip = by track.edits refl
      where
        by : (edits : Option (List Segment)) → track.edits ≡ edits → CanClip track.scale (shown_scale edits movie track.scale) from to (shown_edits edits (Media 0 (extent (samples_of files track)) ∷ [])) plan.scale new plan.back
        by (Some edits) is = subst (CanTell parts plan.scale new plan.back) (pieces_of_list movie from to (track_for files track) edits is) can_tell
        by None is =
            can_coarser law (unit track.scale track.scale from to) movie plan.scale new plan.back (some_unit track.scale some_scale) some_movie some_plan some_new (clipped track.scale track.scale from to (Media 0 (extent (samples_of files track)) ∷ []))
            (subst (λ (u : ℕ). CanTell u plan.scale new plan.back (map (in_unit movie movie) (clipped track.scale track.scale from to (Media 0 (extent (samples_of files track)) ∷ [])))) (sym units)
            (subst (CanTell (parts * track.scale) plan.scale new plan.back) (sym (same_pieces movie from to (track_for files track) is some_movie some_scale))
            (can_finer law parts track.scale plan.scale new plan.back (some_unit movie some_movie) some_scale some_plan some_new pieces can_tell)))

    -- and what it is clipped to are the edits
    pub has_edits : (made edits : List Segment) → IsClip track.scale (shown_scale track.edits movie track.scale) from to (shown_edits track.edits (Media 0 (extent (samples_of files track)) ∷ [])) plan.scale new plan.back made
        → edits ≡ or_empty made → HasEdits files movie new from to track plan edits
    has_edits made edits clip are = record { made = made; told = by track.edits refl clip; are = are }
      where
        by : (shown : Option (List Segment)) → track.edits ≡ shown → IsClip track.scale (shown_scale shown movie track.scale) from to (shown_edits shown (Media 0 (extent (samples_of files track)) ∷ [])) plan.scale new plan.back made
            → TellsBack parts plan.scale new plan.back pieces made
        by (Some shown) is told = subst (λ (ps : List Segment). TellsBack parts plan.scale new plan.back ps made) (sym (pieces_of_list movie from to (track_for files track) shown is)) told
        by None is told =
            told_coarser law parts track.scale plan.scale new plan.back (some_unit movie some_movie) some_scale some_plan some_new pieces made
            (subst (λ (ps : List Segment). TellsBack (parts * track.scale) plan.scale new plan.back ps made) (same_pieces movie from to (track_for files track) is some_movie some_scale)
            (subst (λ (u : ℕ). TellsBack u plan.scale new plan.back (map (in_unit movie movie) (clipped track.scale track.scale from to (Media 0 (extent (samples_of files track)) ∷ []))) made) units
            (told_finer law (unit track.scale track.scale from to) movie plan.scale new plan.back (some_unit track.scale some_scale) some_movie some_plan some_new (clipped track.scale track.scale from to (Media 0 (extent (samples_of files track)) ∷ [])) made told)))

    -- in the numbers that the call read
    pub can_clip_as : (scale shown : ℕ) (edits whole : List Segment) → scale ≡ track.scale → shown ≡ shown_scale track.edits movie track.scale → edits ≡ shown_edits track.edits whole → whole ≡ Media 0 (extent (samples_of files track)) ∷ []
        → CanClip scale shown from to edits plan.scale new plan.back
    can_clip_as scale shown edits whole scale_is shown_is edits_are whole_is =
        subst (λ (s : ℕ). CanClip s shown from to edits plan.scale new plan.back) (sym scale_is)
        (subst (λ (s : ℕ). CanClip track.scale s from to edits plan.scale new plan.back) (sym shown_is)
        (subst (λ (es : List Segment). CanClip track.scale (shown_scale track.edits movie track.scale) from to es plan.scale new plan.back) (sym (edits_are ∙ ap (shown_edits track.edits) whole_is)) can_clip))

    pub has_edits_as : (scale shown : ℕ) (edits whole : List Segment) → scale ≡ track.scale → shown ≡ shown_scale track.edits movie track.scale → edits ≡ shown_edits track.edits whole → whole ≡ Media 0 (extent (samples_of files track)) ∷ []
        → (made those : List Segment) → IsClip scale shown from to edits plan.scale new plan.back made → those ≡ or_empty made → HasEdits files movie new from to track plan those
    has_edits_as scale shown edits whole scale_is shown_is edits_are whole_is made those clip are =
        has_edits made those
        (subst (λ (es : List Segment). IsClip track.scale (shown_scale track.edits movie track.scale) from to es plan.scale new plan.back made) (edits_are ∙ ap (shown_edits track.edits) whole_is)
        (subst (λ (s : ℕ). IsClip track.scale s from to edits plan.scale new plan.back made) shown_is (subst (λ (s : ℕ). IsClip s shown from to edits plan.scale new plan.back made) scale_is clip))) are
