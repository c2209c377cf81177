-- Movies that are the same are equal.
use Rattle.std.proofs.Common.{◌≡◌, ℕ, suc, ℤ, pos, negsuc, ◌*◌, ◌<◌, ◌*ℤ◌, neg_ℤ, List, [], ◌∷◌, Option, Some, None, refl, sym, ap, subst, ◌∙◌, arith}
use Rattle.std.specs.List.{AllZip}
use Rattle.std.proofs.Math.IntN.{pos-*ℤ-pos, negsuc-*ℤ-pos}
use Rattle.std.proofs.Math.Nat.{eq_of_mul-eq-mul_right}
use Rattle.std.proofs.lemmas.Int.{ints}
use Rattle.mp_timeline.specs.declared.segment.Segment.{Segment}
use Rattle.mp_timeline.specs.declared.segment.Segment.TheVariants.{Empty, Media}
use Rattle.mp_timeline.specs.Movie.{SampleRecord, TrackRecord, MovieRecord}
use Rattle.mp_timeline.specs.Same.{IsSameTicks, IsSameSample, IsSameSegment, IsSameEdits, IsSameTrack, IsSame}

pos_inj : (m n : ℕ) → pos m ≡ pos n → m ≡ n
pos_inj m n e = cc

apart : (m n : ℕ) → 0 < n → pos m ≡ neg_ℤ (pos n) → ⊥
apart m n some e = omega (arith, ints, e)

some_product : (n s : ℕ) → 0 < s → 0 < suc n * s
some_product n s some = grind arith

cancel : (x y : ℤ) (s : ℕ) → 0 < s → x *ℤ pos s ≡ y *ℤ pos s → x ≡ y
cancel (pos m) (pos n) s some e = ap pos (eq_of_mul-eq-mul_right s some m n (pos_inj _ _ (sym (pos-*ℤ-pos m s) ∙ (e ∙ pos-*ℤ-pos n s))))
cancel (pos m) (negsuc n) s some e = absurd (apart (m * s) (suc n * s) (some_product n s some) (sym (pos-*ℤ-pos m s) ∙ (e ∙ negsuc-*ℤ-pos n s)))
cancel (negsuc m) (pos n) s some e = absurd (apart (n * s) (suc m * s) (some_product m s some) (sym (pos-*ℤ-pos n s) ∙ (sym e ∙ negsuc-*ℤ-pos m s)))
cancel (negsuc m) (negsuc n) s some e =
    let same : neg_ℤ (pos (suc m * s)) ≡ neg_ℤ (pos (suc n * s)) = sym (negsuc-*ℤ-pos m s) ∙ (e ∙ negsuc-*ℤ-pos n s) in
    let both : suc m * s ≡ suc n * s = omega (arith, ints, same) in
    let equal : suc m ≡ suc n = eq_of_mul-eq-mul_right s some (suc m) (suc n) both in
    ap negsuc (omega arith)

ticks_equal : (scale : ℕ) (ticks other : ℤ) → IsSameTicks scale scale ticks other → ticks ≡ other
ticks_equal scale ticks other h = cancel ticks other scale h.positive h.crosswise

whole_equal : (scale m n : ℕ) → IsSameTicks scale scale (pos m) (pos n) → m ≡ n
whole_equal scale m n h = pos_inj m n (ticks_equal scale (pos m) (pos n) h)

sample_equal : (scale : ℕ) (sample other : SampleRecord) → IsSameSample scale scale sample other → sample ≡ other
sample_equal scale sample other h = λ i. record {
  bytes = h.bytes i;
  decode = whole_equal scale sample.decode other.decode h.decode i;
  dur = whole_equal scale sample.dur other.dur h.dur i;
  comp = ticks_equal scale sample.comp other.comp h.comp i;
  sync = h.sync i;
  entry = h.entry i;
}

samples_equal : (scale : ℕ) (samples others : List SampleRecord) → AllZip (IsSameSample scale scale) samples others → samples ≡ others
samples_equal scale [] [] h = refl
samples_equal scale [] (other ∷ others) h = absurd h
samples_equal scale (sample ∷ samples) [] h = absurd h
samples_equal scale (sample ∷ samples) (other ∷ others) h = λ i. sample_equal scale sample other h.0 i ∷ samples_equal scale samples others h.1 i

segment_equal : (movie scale : ℕ) (segment other : Segment) → IsSameSegment movie movie scale scale segment other → segment ≡ other
segment_equal movie scale (Empty dur) (Empty other) h = λ i. Empty (whole_equal movie dur other h i)
segment_equal movie scale (Media start dur) (Media other_start other) h = λ i. Media (whole_equal scale start other_start h.0 i) (whole_equal movie dur other h.1 i)
segment_equal movie scale (Empty dur) (Media other_start other) h = absurd h
segment_equal movie scale (Media start dur) (Empty other) h = absurd h

segments_equal : (movie scale : ℕ) (segments others : List Segment) → AllZip (IsSameSegment movie movie scale scale) segments others → segments ≡ others
segments_equal movie scale [] [] h = refl
segments_equal movie scale [] (other ∷ others) h = absurd h
segments_equal movie scale (segment ∷ segments) [] h = absurd h
segments_equal movie scale (segment ∷ segments) (other ∷ others) h = λ i. segment_equal movie scale segment other h.0 i ∷ segments_equal movie scale segments others h.1 i

edits_equal : (movie scale : ℕ) (edits others : Option (List Segment)) → IsSameEdits movie movie scale scale edits others → edits ≡ others
edits_equal movie scale None None h = refl
edits_equal movie scale (Some segments) (Some others) h = ap (λ (es : List Segment). Some es) (segments_equal movie scale segments others h)
edits_equal movie scale None (Some others) h = absurd h
edits_equal movie scale (Some segments) None h = absurd h

track_equal : (movie : ℕ) (track other : TrackRecord) → IsSameTrack movie movie track other → track ≡ other
track_equal movie track other h =
    let samples : AllZip (IsSameSample track.scale track.scale) track.samples other.samples = subst (λ (s : ℕ). AllZip (IsSameSample track.scale s) track.samples other.samples) (sym h.scale) h.samples in
    let edits : IsSameEdits movie movie track.scale track.scale track.edits other.edits = subst (λ (s : ℕ). IsSameEdits movie movie track.scale s track.edits other.edits) (sym h.scale) h.edits in
    λ i. record {
      number = h.number i;
      head = h.head i;
      scale = h.scale i;
      entries = h.entries i;
      samples = samples_equal track.scale track.samples other.samples samples i;
      edits = edits_equal movie track.scale track.edits other.edits edits i;
    }

tracks_equal : (movie : ℕ) (tracks others : List TrackRecord) → AllZip (IsSameTrack movie movie) tracks others → tracks ≡ others
tracks_equal movie [] [] h = refl
tracks_equal movie [] (other ∷ others) h = absurd h
tracks_equal movie (track ∷ tracks) [] h = absurd h
tracks_equal movie (track ∷ tracks) (other ∷ others) h = λ i. track_equal movie track other h.0 i ∷ tracks_equal movie tracks others h.1 i

pub same_is_equal : (movie other : MovieRecord) → IsSame movie other → movie ≡ other
same_is_equal movie other h =
    let tracks : AllZip (IsSameTrack movie.scale movie.scale) movie.tracks other.tracks = subst (λ (s : ℕ). AllZip (IsSameTrack movie.scale s) movie.tracks other.tracks) (sym h.scale) h.tracks in
    λ i. record { scale = h.scale i; head = h.head i; tracks = tracks_equal movie.scale movie.tracks other.tracks tracks i }
