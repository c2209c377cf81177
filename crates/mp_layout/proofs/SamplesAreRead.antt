-- The samples of a track are read of its tables, column by column.
use Rattle.std.proofs.Common.{◌≡◌, ℕ, ◌+◌, Bool, true, false, cond, List, [], ◌∷◌, ◌++◌, length, take, map, ℤ, pos, ◌+ℤ◌, refl, sym, ap, subst, ◌∙◌, append_assoc, arith}
use Rattle.std.specs.List.{range_with_len, sum, sum_by}
use Rattle.std.specs.Prelude.{◌-ℤ◌, slice_index, slice_index_or}
use Rattle.std.proofs.lemmas.Int.{ints}
use Rattle.std.proofs.lemmas.List.{length-map, length_push}
use Rattle.std.proofs.lemmas.List.Sums.{sum_by_push, sum-map}
use Rattle.mp_chunks.specs.Places.{SamplePlace, no_sample}
use Rattle.mp_times.specs.Times.{decode_time, composition_time}
use Rattle.std.specs.Ordering.{int_eq}
use Rattle.mp_timeline.specs.Movie.{SampleRecord}
use Rattle.mp_movie.specs.SampleTable.{SampleTable, sample_of, samples_of}
use Rattle.mp_movie.specs.Columns.{composition_offsets, sync_marks}
use Rattle.mp_movie.specs.WellFormed.{AreConsecutive}
use Rattle.mp_layout.proofs.Laws.{bytes_at}

abbrev int_eq_1 : ℤ → Bool
int_eq_1 mark = int_eq mark (pos 1)

-- the columns of a table are those of these samples of a file
pub record AreColumns (file : List ℕ) (table : SampleTable) (samples : List SampleRecord) : Type 0 where
  pub durations : table.durations ≡ map (λ sample. sample.dur) samples
  pub offsets : table.composition_offsets ≡ composition_offsets samples
  pub marks : table.sync_marks ≡ sync_marks samples
  pub bytes : map (bytes_at file) table.places ≡ map (λ sample. sample.bytes) samples
  pub kinds : map (λ place. place.kind) table.places ≡ map (λ sample. sample.entry) samples

same_sample : (sample other : SampleRecord) → sample.bytes ≡ other.bytes → sample.decode ≡ other.decode → sample.dur ≡ other.dur → sample.comp ≡ other.comp → sample.sync ≡ other.sync → sample.entry ≡ other.entry
    → sample ≡ other
same_sample sample other p q r s t u = λ i. record { bytes = p i; decode = q i; dur = r i; comp = s i; sync = t i; entry = u i }

-- an item behind others
behind : {A B : Type 0} (f : A → B) (before : List A) (item : A) (after : List A) (d : B) → slice_index_or (map f (before ++ (item ∷ after))) (length before) d ≡ f item
behind f [] item after d = refl
behind f (first ∷ before) item after d = behind f before item after d

-- of a list with the same image, too
behind-image : {A B C : Type 0} (f : A → C) (g : B → C) (list : List A) (before : List B) (item : B) (after : List B) (d : A) → map f list ≡ map g (before ++ (item ∷ after)) → f (slice_index_or list (length before) d) ≡ g item
behind-image f g [] [] item after d e = absurd cc
behind-image f g [] (first ∷ before) item after d e = absurd cc
behind-image f g (one ∷ list) [] item after d e = heads _ _ _ _ e
  where
    heads : {C : Type 0} (x y : C) (xs ys : List C) → x ∷ xs ≡ y ∷ ys → x ≡ y
    heads x y xs ys e = cc
behind-image f g (one ∷ list) (first ∷ before) item after d e = behind-image f g list before item after d (tails _ _ _ _ e)
  where
    tails : {C : Type 0} (x y : C) (xs ys : List C) → x ∷ xs ≡ y ∷ ys → xs ≡ ys
    tails x y xs ys e = cc

-- the front of an image
taken : {A B : Type 0} (f : A → B) (before after : List A) → take (length before) (map f (before ++ after)) ≡ map f before
taken f [] after = refl
taken f (first ∷ before) after = ap (λ (rest : List _). f first ∷ rest) (taken f before after)

offset_back : (comp : ℤ) (decode : ℕ) → pos decode +ℤ (comp -ℤ pos decode) ≡ comp
offset_back comp decode = omega (arith, ints)

marked : (sync : Bool) → int_eq_1 (cond sync (pos 1) (pos 0)) ≡ sync
marked true = refl
marked false = refl

one_read : (file : List ℕ) (table : SampleTable) (before : List SampleRecord) (sample : SampleRecord) (after : List SampleRecord) (decode : ℕ) → AreColumns file table (before ++ (sample ∷ after))
    → decode ≡ sum_by (λ sample. sample.dur) before → sample.decode ≡ decode → sample_of file table (length before) ≡ sample
one_read file table before sample after decode h so_far d =
    let samples : List SampleRecord = before ++ (sample ∷ after) in
    let n : ℕ = length before in
    let time : decode_time table.durations n ≡ sample.decode =
    ap (λ (xs : List ℕ). sum (take n xs)) h.durations ∙ (ap sum (taken (λ (sample : SampleRecord). sample.dur) before (sample ∷ after)) ∙ (sum-map (λ (sample : SampleRecord). sample.dur) before ∙ (sym so_far ∙ sym d))) in
    let offset : slice_index_or table.composition_offsets n (pos 0) ≡ sample.comp -ℤ pos sample.decode =
    ap (λ (xs : List ℤ). slice_index_or xs n (pos 0)) h.offsets ∙ behind (λ (sample : SampleRecord). sample.comp -ℤ pos sample.decode) before sample after (pos 0) in
    let comp : composition_time table.durations table.composition_offsets n ≡ sample.comp =
    ap (λ (t : ℕ). pos t +ℤ slice_index_or table.composition_offsets n (pos 0)) time ∙ (ap (λ (z : ℤ). pos sample.decode +ℤ z) offset ∙ offset_back sample.comp sample.decode) in
    let sync : int_eq_1 (slice_index_or table.sync_marks n (pos 0)) ≡ sample.sync =
    ap (λ (xs : List ℤ). int_eq_1 (slice_index_or xs n (pos 0))) h.marks ∙ (ap int_eq_1 (behind (λ (sample : SampleRecord). cond sample.sync (pos 1) (pos 0)) before sample after (pos 0)) ∙ marked sample.sync) in
    same_sample _ sample
    (behind-image (bytes_at file) (λ (sample : SampleRecord). sample.bytes) table.places before sample after no_sample h.bytes)
    time
    (ap (λ (xs : List ℕ). slice_index xs n) h.durations ∙ behind (λ (sample : SampleRecord). sample.dur) before sample after 0)
    comp sync
    (behind-image (λ (place : SamplePlace). place.kind) (λ (sample : SampleRecord). sample.entry) table.places before sample after no_sample h.kinds)

rest_read : (file : List ℕ) (table : SampleTable) (samples before after : List SampleRecord) (decode first : ℕ) → AreColumns file table samples → before ++ after ≡ samples → first ≡ length before
    → decode ≡ sum_by (λ sample. sample.dur) before → AreConsecutive decode after → map (sample_of file table) (range_with_len first (length after)) ≡ after
rest_read file table samples before [] decode first h all f d times = refl
rest_read file table samples before (sample ∷ after) decode first h all f d times =
    let here : sample_of file table first ≡ sample =
    ap (sample_of file table) f ∙ one_read file table before sample after decode (subst (AreColumns file table) (sym all) h) d times.0 in
    let later : map (sample_of file table) (range_with_len (first + 1) (length after)) ≡ after =
    rest_read file table samples (before ++ (sample ∷ [])) after (decode + sample.dur) (first + 1) h (append_assoc before (sample ∷ []) after ∙ all) (omega (arith, length_push before sample))
    (omega (arith, sum_by_push (λ (sample : SampleRecord). sample.dur) before sample)) times.1 in
    ap (λ (x : SampleRecord). x ∷ map (sample_of file table) (range_with_len (first + 1) (length after))) here ∙ ap (λ (xs : List SampleRecord). sample ∷ xs) later

pub samples-read : (file : List ℕ) (table : SampleTable) (samples : List SampleRecord) → AreColumns file table samples → AreConsecutive 0 samples → samples_of file table ≡ samples
unfolding samples_of
samples-read file table samples h times =
    let len : length table.places ≡ length samples = sym (length-map table.places (bytes_at file)) ∙ (ap length h.bytes ∙ length-map samples (λ (sample : SampleRecord). sample.bytes)) in
    ap (λ (n : ℕ). map (sample_of file table) (range_with_len 0 n)) len ∙ rest_read file table samples [] samples 0 0 h refl refl refl times
