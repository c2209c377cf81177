-- The samples that a cut keeps are those that are found by spans of the media.
use Rattle.std.proofs.Common.{◌≡◌, ℕ, ℤ, zero, suc, pos, negsuc, neg_ℤ, ◌+◌, ◌-◌, ◌*◌, ◌<◌, ◌≤◌, min, ◌+ℤ◌, ◌*ℤ◌, Bool, true, false, cond, ltb, ◌&&◌, ◌||◌, List, [], ◌∷◌, length, map, take, drop, refl, sym, ap, ◌∙◌, arith, inl, inr}
use Rattle.std.specs.Prelude.{int_lt, slice_range}
use Rattle.std.specs.List.{AllByRecursion, list_any, range_with_len}
use Rattle.std.proofs.Math.IntN.{negsuc-*ℤ-pos}
use Rattle.std.proofs.lemmas.Bool.{cases_lt, lt-ltb, le-ltb}
use Rattle.std.proofs.lemmas.Int.{ints}
use Rattle.std.proofs.lemmas.List.{take-map}
use Rattle.mp_timeline.specs.declared.segment.Segment.{Segment}
use Rattle.mp_timeline.specs.declared.segment.Segment.TheVariants.{Empty, Media}
use Rattle.mp_timeline.specs.Movie.{SampleRecord}
use Rattle.mp_edits.specs.Segments.{duration}
use Rattle.mp_movie.specs.Durations.{not_before_start}
use Rattle.mp_movie.specs.Placed.{PlacedTrack}
use Rattle.mp_movie.specs.StandsFor.{sample_at, samples_of}
use Rattle.mp_shown.specs.Law.{finer_sample}
use Rattle.mp_shown.specs.Segments.{part, pieces}
use Rattle.mp_clip.specs.declared.touching.Span.{Span}
use Rattle.mp_clip.specs.Touched.{AreTouched, shows_some, touches}
use Rattle.cut_op.specs.Found.{AreKept, is_marked, is_touched, places}
use Rattle.cut_op.specs.Needed.{before_first, first_kept, is_needed, is_sync_sample, kept_samples, meets, through_last}
use Rattle.cut_op.specs.Reach.{touches_any}
use Rattle.cut_op.proofs.KeptSamples.{slice-map}
use Rattle.cut_op.proofs.Totals.{lt-from-ltb}
use Rattle.cut_op.proofs.Units.{add-times, ltb-times}

-- ---- pieces last some time

pub pieces_last : (from to : ℕ) (segments : List Segment) → AllByRecursion (λ piece. 0 < duration piece) (pieces from to segments)
pieces_last from to [] = tt
pieces_last from to (segment ∷ segments) = by (ltb (min from (duration segment)) (min to (duration segment))) refl (pieces_last (from - duration segment) (to - duration segment) segments)
  where
    one : (other : Segment) (low high : ℕ) → low < high → 0 < duration (part other low high)
    one (Empty dur) low high lt = omega (arith, lt)
    one (Media start dur) low high lt = omega (arith, lt)

    by : (b : Bool) → ltb (min from (duration segment)) (min to (duration segment)) ≡ b → AllByRecursion (λ piece. 0 < duration piece) (pieces (from - duration segment) (to - duration segment) segments)
        → AllByRecursion (λ piece. 0 < duration piece) (cond b (part segment (min from (duration segment)) (min to (duration segment)) ∷ pieces (from - duration segment) (to - duration segment) segments) (pieces (from - duration segment) (to - duration segment) segments))
    by true test rest = (one segment (min from (duration segment)) (min to (duration segment)) (lt-from-ltb _ _ test), rest)
    by false test rest = rest

-- ---- a sample meets a piece where the ticks of its time do

nbs-times : (z : ℤ) (k : ℕ) → not_before_start (z *ℤ pos k) ≡ not_before_start z * k
nbs-times (pos n) k = refl
nbs-times (negsuc n) k = let nothing : 0 ≡ 0 * k = omega arith in ap not_before_start (negsuc-*ℤ-pos n k) ∙ (below (suc n * k) ∙ nothing)
  where
    below : (m : ℕ) → not_before_start (neg_ℤ (pos m)) ≡ 0
    below zero = refl
    below (suc m) = refl

-- all in one unit
in_unit_meets : (x : ℤ) (u start dur : ℕ) → 0 < dur
    → ((ltb 0 u && ltb 0 dur) && (int_lt x (pos (start + dur)) && int_lt (pos start) (x +ℤ pos u)))
    ≡ (ltb (not_before_start x) (not_before_start (x +ℤ pos u)) && (ltb start (not_before_start (x +ℤ pos u)) && ltb (not_before_start x) (start + dur)))
in_unit_meets (pos x) u start dur some = grind (arith, ints)
in_unit_meets (negsuc x) u start dur some = by (negsuc x +ℤ pos u) refl
  where
    by : (e : ℤ) → negsuc x +ℤ pos u ≡ e
        → ((ltb 0 u && ltb 0 dur) && (int_lt (negsuc x) (pos (start + dur)) && int_lt (pos start) e))
        ≡ (ltb 0 (not_before_start e) && (ltb start (not_before_start e) && ltb 0 (start + dur)))
    by (pos e) is = grind (arith, ints, is)
    by (negsuc e) is = grind (arith, ints, is)

one_meets : (tick : ℕ) (sample : SampleRecord) (piece : Segment) → 0 < tick → 0 < duration piece
    → meets (finer_sample tick sample) piece
    ≡ (ltb (not_before_start sample.comp) (not_before_start (sample.comp +ℤ pos sample.dur))
    && shows_some (not_before_start sample.comp * tick) (not_before_start (sample.comp +ℤ pos sample.dur) * tick) piece)
one_meets tick sample (Empty dur) some lasts = by (ltb (not_before_start sample.comp) (not_before_start (sample.comp +ℤ pos sample.dur)))
  where
    by : (b : Bool) → false ≡ (b && false)
    by true = refl
    by false = refl
one_meets tick sample (Media start dur) some lasts =
    let ends : (sample.comp +ℤ pos sample.dur) *ℤ pos tick ≡ sample.comp *ℤ pos tick +ℤ pos (sample.dur * tick) = add-times sample.comp (pos sample.dur) tick in
    let low = nbs-times sample.comp tick in
    let high : not_before_start (sample.comp *ℤ pos tick +ℤ pos (sample.dur * tick)) ≡ not_before_start (sample.comp +ℤ pos sample.dur) * tick = sym (ap not_before_start ends) ∙ nbs-times (sample.comp +ℤ pos sample.dur) tick in
    in_unit_meets (sample.comp *ℤ pos tick) (sample.dur * tick) start dur lasts
    ∙ (ap (λ (a : ℕ). ltb a (not_before_start (sample.comp *ℤ pos tick +ℤ pos (sample.dur * tick))) && (ltb start (not_before_start (sample.comp *ℤ pos tick +ℤ pos (sample.dur * tick))) && ltb a (start + dur))) low
    ∙ (ap (λ (b : ℕ). ltb (not_before_start sample.comp * tick) b && (ltb start b && ltb (not_before_start sample.comp * tick) (start + dur))) high
    ∙ ap (λ (b : Bool). b && (ltb start (not_before_start (sample.comp +ℤ pos sample.dur) * tick) && ltb (not_before_start sample.comp * tick) (start + dur))) (ltb-times (not_before_start sample.comp) (not_before_start (sample.comp +ℤ pos sample.dur)) tick some)))

each_meets : (tick : ℕ) (sample : SampleRecord) (ps : List Segment) → 0 < tick → AllByRecursion (λ piece. 0 < duration piece) ps
    → is_needed ps (finer_sample tick sample)
    ≡ (ltb (not_before_start sample.comp) (not_before_start (sample.comp +ℤ pos sample.dur))
    && list_any (shows_some (not_before_start sample.comp * tick) (not_before_start (sample.comp +ℤ pos sample.dur) * tick)) ps)
each_meets tick sample [] some lasts = by (ltb (not_before_start sample.comp) (not_before_start (sample.comp +ℤ pos sample.dur)))
  where
    by : (b : Bool) → false ≡ (b && false)
    by true = refl
    by false = refl
each_meets tick sample (piece ∷ ps) some lasts =
    rw (one_meets tick sample piece some lasts.0, each_meets tick sample ps some lasts.1)
    (by (ltb (not_before_start sample.comp) (not_before_start (sample.comp +ℤ pos sample.dur))) (shows_some (not_before_start sample.comp * tick) (not_before_start (sample.comp +ℤ pos sample.dur) * tick) piece)
    (list_any (shows_some (not_before_start sample.comp * tick) (not_before_start (sample.comp +ℤ pos sample.dur) * tick)) ps))
  where
    by : (t a b : Bool) → ((t && a) || (t && b)) ≡ (t && (a || b))
    by true a b = refl
    by false a b = refl

pub needed_is : (tick : ℕ) (sample : SampleRecord) (ps : List Segment) (spans : List Span) → 0 < tick → AllByRecursion (λ piece. 0 < duration piece) ps → AreTouched tick ps spans
    → is_needed ps (finer_sample tick sample) ≡ touches_any (not_before_start sample.comp) (not_before_start (sample.comp +ℤ pos sample.dur)) spans
needed_is tick sample ps spans some lasts touched =
    each_meets tick sample ps some lasts
    ∙ ap (λ (b : Bool). ltb (not_before_start sample.comp) (not_before_start (sample.comp +ℤ pos sample.dur)) && b) (touched (not_before_start sample.comp) (not_before_start (sample.comp +ℤ pos sample.dur)))

-- ---- the places of what is kept

pub any-map : {A B : Type 0} (p : B → Bool) (f : A → B) (xs : List A) → list_any p (map f xs) ≡ list_any (λ x. p (f x)) xs
any-map p f [] = refl
any-map p f (x ∷ xs) = ap (λ (b : Bool). p (f x) || b) (any-map p f xs)

before-map : {A B : Type 0} (p : B → Bool) (f : A → B) (xs : List A) → before_first p (map f xs) ≡ before_first (λ x. p (f x)) xs
before-map p f [] = refl
before-map p f (x ∷ xs) = ap (λ (n : ℕ). cond (p (f x)) 0 (n + 1)) (before-map p f xs)

through-map : {A B : Type 0} (p : B → Bool) (f : A → B) (xs : List A) → through_last p (map f xs) ≡ through_last (λ x. p (f x)) xs
through-map p f [] = refl
through-map p f (x ∷ xs) = ap (λ (b : Bool). cond (p (f x) || b) (through_last p (map f xs) + 1) 0) (any-map p f xs) ∙ ap (λ (n : ℕ). cond (p (f x) || list_any (λ x. p (f x)) xs) (n + 1) 0) (through-map p f xs)

first-map : {A B : Type 0} (m w : B → Bool) (f : A → B) (xs : List A) → first_kept m w (map f xs) ≡ first_kept (λ x. m (f x)) (λ x. w (f x)) xs
first-map m w f xs =
    ap (λ (k : ℕ). through_last m (take (k + 1) (map f xs)) - 1) (before-map w f xs)
    ∙ (ap (λ (ys : List _). through_last m ys - 1) (take-map f (before_first (λ x. w (f x)) xs + 1) xs) ∙ ap (λ (n : ℕ). n - 1) (through-map m f (take (before_first (λ x. w (f x)) xs + 1) xs)))

-- a range that ends before it begins has nothing
slice-min : {A : Type 0} (xs : List A) (a b : ℕ) → slice_range xs a b ≡ slice_range xs (min a b) b
slice-min xs a b = elim (cases_lt b a) [
  | inl lt ↦
      let none : b - a ≡ 0 = omega (arith, lt) in
      let nothing : b - min a b ≡ 0 = omega (arith, lt) in
      ap (λ (n : ℕ). take n (drop a xs)) none ∙ sym (ap (λ (n : ℕ). take n (drop (min a b) xs)) nothing)
  | inr le ↦ let same : a ≡ min a b = omega (arith, le) in ap (λ (k : ℕ). slice_range xs k b) same
]

pub kept_is : (files : List (List ℕ)) (track : PlacedTrack) (tick from to : ℕ) (ps : List Segment) (spans : List Span) → 0 < tick → AllByRecursion (λ piece. 0 < duration piece) ps → AreTouched tick ps spans
    → AreKept spans track from to → kept_samples ps (map (finer_sample tick) (samples_of files track)) ≡ map (finer_sample tick) (slice_range (samples_of files track) from to)
unfolding samples_of sample_at
kept_is files track tick from to ps spans some lasts touched are =
    let f : ℕ → SampleRecord = λ i. finer_sample tick (sample_at files track i) in
    let list : List ℕ = places track in
    let wanted : (λ (i : ℕ). is_needed ps (finer_sample tick (sample_at files track i))) ≡ is_touched spans track = λ j i. needed_is tick (sample_at files track i) ps spans some lasts touched j in
    let low : first_kept is_sync_sample (is_needed ps) (map (finer_sample tick) (samples_of files track)) ≡ first_kept (is_marked track) (is_touched spans track) list =
    first-map is_sync_sample (is_needed ps) (finer_sample tick) (samples_of files track)
    ∙ (first-map (λ (s : SampleRecord). is_sync_sample (finer_sample tick s)) (λ (s : SampleRecord). is_needed ps (finer_sample tick s)) (sample_at files track) list
    ∙ ap (λ (w : ℕ → Bool). first_kept (is_marked track) w list) wanted) in
    let high : through_last (is_needed ps) (map (finer_sample tick) (samples_of files track)) ≡ through_last (is_touched spans track) list =
    through-map (is_needed ps) (finer_sample tick) (samples_of files track)
    ∙ (through-map (λ (s : SampleRecord). is_needed ps (finer_sample tick s)) (sample_at files track) list
    ∙ ap (λ (w : ℕ → Bool). through_last w list) wanted) in
    ap (λ (a : ℕ). slice_range (map (finer_sample tick) (samples_of files track)) a (through_last (is_needed ps) (map (finer_sample tick) (samples_of files track)))) low
    ∙ (ap (λ (b : ℕ). slice_range (map (finer_sample tick) (samples_of files track)) (first_kept (is_marked track) (is_touched spans track) list) b) (high ∙ sym are.to_is)
    ∙ (slice-min (map (finer_sample tick) (samples_of files track)) (first_kept (is_marked track) (is_touched spans track) list) to
    ∙ (ap (λ (a : ℕ). slice_range (map (finer_sample tick) (samples_of files track)) a to) (sym are.from_is)
    ∙ slice-map (finer_sample tick) (samples_of files track) from to)))
