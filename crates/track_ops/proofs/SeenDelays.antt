-- A track that is shown later, or earlier, is seen so.
use Rattle.std.proofs.Common.{◌≡◌, ℕ, zero, suc, ◌+◌, ◌-◌, ◌*◌, ◌<◌, ◌≤◌, Bool, true, false, List, [], ◌∷◌, ℤ, pos, negsuc, neg_ℤ, ◌+ℤ◌, ◌*ℤ◌, int_lt, refl, sym, ap, subst, ◌∙◌, arith, inl, inr}
use Rattle.std.specs.Prelude.{if◌then◌else◌}
use Rattle.std.proofs.Math.IntN.{pos-*ℤ-pos, negsuc-*ℤ-pos}
use Rattle.std.proofs.lemmas.Int.{ints}
use Rattle.mp_frac.specs.declared.time.Frac.{Frac}
use Rattle.mp_frac.specs.Time.{IsSameTime, in_ticks}
use Rattle.mp_timeline.specs.Movie.{TrackRecord}
use Rattle.mp_shown.specs.Fractions.{is_before}
use Rattle.mp_shown.specs.Shown.{Seen, shown}
use Rattle.track_ops.specs.Later.{ShowsLater, later, lasting_time}
use Rattle.track_ops.specs.Moments.{View, IsSeenAs, shown_later}
use Rattle.track_ops.proofs.SameTimes.{plus_times, same_onward, times_times}
use Rattle.track_ops.proofs.SignedTicks.{neg_times}

some_product : (a b : ℕ) → 0 < a → 0 < b → 0 < a * b
some_product a b some other = grind arith

-- ---- the same times, so much later; a second has so many of the parts that the delay is told in

lengthened : (k : ℕ) (x y ms : ℤ) (a b : ℕ) → x *ℤ pos b ≡ y *ℤ pos a → (x *ℤ pos k +ℤ ms *ℤ pos a) *ℤ pos (b * k) ≡ (y *ℤ pos k +ℤ ms *ℤ pos b) *ℤ pos (a * k)
lengthened k x y ms a b same =
    plus_times (x *ℤ pos k) (ms *ℤ pos a) (b * k)
    ∙ (ap (λ (z : ℤ). z +ℤ ms *ℤ pos a *ℤ pos (b * k)) (front x y a b same)
    ∙ (ap (λ (z : ℤ). y *ℤ pos k *ℤ pos (a * k) +ℤ z) (turned ms a b) ∙ sym (plus_times (y *ℤ pos k) (ms *ℤ pos b) (a * k))))
  where
    turned : (z : ℤ) (a b : ℕ) → z *ℤ pos a *ℤ pos (b * k) ≡ z *ℤ pos b *ℤ pos (a * k)
    turned z a b = let e : a * (b * k) ≡ b * (a * k) = omega arith in times_times z a (b * k) ∙ (ap (λ (n : ℕ). z *ℤ pos n) e ∙ sym (times_times z b (a * k)))

    out : (z : ℤ) (b : ℕ) → z *ℤ pos k *ℤ pos (b * k) ≡ z *ℤ pos b *ℤ pos (k * k)
    out z b = let e : k * (b * k) ≡ b * (k * k) = omega arith in times_times z k (b * k) ∙ (ap (λ (n : ℕ). z *ℤ pos n) e ∙ sym (times_times z b (k * k)))

    front : (x y : ℤ) (a b : ℕ) → x *ℤ pos b ≡ y *ℤ pos a → x *ℤ pos k *ℤ pos (b * k) ≡ y *ℤ pos k *ℤ pos (a * k)
    front x y a b same = out x b ∙ (ap (λ (z : ℤ). z *ℤ pos (k * k)) same ∙ sym (out y a))

later_same : (ms : ℤ) (a b : Frac) → IsSameTime a b → IsSameTime (later ms a) (later ms b)
later_same ms a b same = record {
  positive = some_product a.d 1000 same.positive (omega arith);
  other_positive = some_product b.d 1000 same.other_positive (omega arith);
  crosswise = lengthened 1000 a.n b.n ms a.d b.d same.crosswise;
}

-- ---- so much earlier, where that isn't before 0

pub record IsEarlier (k n d : ℕ) (ms : ℤ) : Type 0 where
  pub m : ℕ
  pub is : pos n *ℤ pos k +ℤ neg_ℤ ms *ℤ pos d ≡ pos m
  pub back : pos m +ℤ ms *ℤ pos d ≡ pos n *ℤ pos k

not_less : (a b : ℕ) → int_lt (pos a) (pos b) ≡ false → b ≤ a
not_less a b test = grind (arith, ints)

earlier : (k n d : ℕ) (ms : ℤ) → int_lt (pos n *ℤ pos k) (ms *ℤ pos d) ≡ false → IsEarlier k n d ms
earlier k n d (pos s) test =
    let product = pos-*ℤ-pos n k in
    let delay = pos-*ℤ-pos s d in
    let back_by = neg_times s d in
    let le = not_less (n * k) (s * d) (subst (λ (y : ℤ). int_lt (pos (n * k)) y ≡ false) delay (subst (λ (x : ℤ). int_lt x (pos s *ℤ pos d) ≡ false) product test)) in
    record {
      m = n * k - s * d;
      is = ap (λ (z : ℤ). z +ℤ neg_ℤ (pos s) *ℤ pos d) product ∙ (ap (λ (z : ℤ). pos (n * k) +ℤ z) back_by ∙ less (n * k) (s * d) le);
      back = ap (λ (z : ℤ). pos (n * k - s * d) +ℤ z) delay ∙ (more (n * k) (s * d) le ∙ sym product);
    }
  where
    less : (a b : ℕ) → b ≤ a → pos a +ℤ neg_ℤ (pos b) ≡ pos (a - b)
    less a b le = omega (arith, ints, le)

    more : (a b : ℕ) → b ≤ a → pos (a - b) +ℤ pos b ≡ pos a
    more a b le = omega (arith, ints, le)
earlier k n d (negsuc s) test =
    let product = pos-*ℤ-pos n k in
    let delay = negsuc-*ℤ-pos s d in
    let back_by = pos-*ℤ-pos (suc s) d in
    record {
      m = n * k + suc s * d;
      is = ap (λ (z : ℤ). z +ℤ pos (suc s) *ℤ pos d) product ∙ ap (λ (z : ℤ). pos (n * k) +ℤ z) back_by;
      back = ap (λ (z : ℤ). pos (n * k + suc s * d) +ℤ z) delay ∙ (less (n * k) (suc s * d) ∙ sym product);
    }
  where
    less : (a b : ℕ) → pos (a + b) +ℤ neg_ℤ (pos b) ≡ pos a
    less a b = omega (arith, ints)

earlier_same : (k n d m : ℕ) (ms : ℤ) → pos m +ℤ ms *ℤ pos d ≡ pos n *ℤ pos k → pos n *ℤ pos (d * k * k) ≡ (pos m *ℤ pos k +ℤ ms *ℤ pos (d * k)) *ℤ pos d
earlier_same k n d m ms back =
    let e : d * k * k ≡ k * k * d = omega arith in
    ap (λ (x : ℕ). pos n *ℤ pos x) e
    ∙ (sym (times_times (pos n) (k * k) d)
    ∙ ap (λ (z : ℤ). z *ℤ pos d)
    (sym (times_times (pos n) k k)
    ∙ (ap (λ (z : ℤ). z *ℤ pos k) (sym back)
    ∙ (plus_times (pos m) (ms *ℤ pos d) k ∙ ap (λ (z : ℤ). pos m *ℤ pos k +ℤ z) (times_times ms d k)))))

module _ (ms : ℤ) (movie other_movie : ℕ) (track other : TrackRecord) (view : View) (shows : ShowsLater ms movie other_movie track other) (is : IsSeenAs movie track view) where
  shown_then : (n d : ℕ) → 0 < d → (before : Bool) → is_before (in_ticks (pos n) d) (in_ticks ms 1000) ≡ before
      → shown other_movie other n d ≡ (if before then [] else view.show (later (neg_ℤ ms) (in_ticks (pos n) d)))
  shown_then n d some true test = shows.before n d some test
  shown_then n d some false test =
      let at = earlier 1000 n d ms test in
      let some_parts : 0 < d * 1000 = some_product d 1000 some (omega arith) in
      shows.after at.m (d * 1000) n d (record { positive = some; other_positive = some_product (d * 1000) 1000 some_parts (omega arith); crosswise = earlier_same 1000 n d at.m ms at.back })
      ∙ (is.shown at.m (d * 1000) some_parts ∙ ap (λ (z : ℤ). view.show (record { n = z; d = d * 1000 })) (sym at.is))

  pub seen_later : other.number ≡ track.number → other.head.handler ≡ track.head.handler → IsSeenAs other_movie other (shown_later ms view)
  seen_later number handler = record {
    number = number ∙ is.number;
    handler = handler ∙ is.handler;
    length = same_onward (lasting_time other_movie other) (later ms (lasting_time movie track)) (later ms view.length) shows.total (later_same ms (lasting_time movie track) view.length is.length);
    shown = λ n d some. shown_then n d some (is_before (in_ticks (pos n) d) (in_ticks ms 1000)) refl;
  }
