-- Each sample stands in one chunk, in its track's order.
use Rattle.std.proofs.Common.{◌≡◌, ◌&&◌, ℕ, zero, suc, ◌+◌, ◌-◌, ◌<◌, ◌≤◌, ◌==◌, Bool, true, false, List, [], ◌∷◌, ◌++◌, length, map, filter, drop, take, get_or, if◌then◌else◌, refl, sym, ap, subst, ◌∙◌, arith, add-one}
use Rattle.std.specs.List.{AllByRecursion, flat_map, sum_by}
use Rattle.std.proofs.lemmas.List.{append-nil, length-drop, length-map, map-append}
use Rattle.std.proofs.lemmas.Grind.{flat_map-append}
use Rattle.std.proofs.lemmas.List.Elements.{filter-append}
use Rattle.std.proofs.lemmas.List.Sums.{sum_by-cons, sum_by-take-drop, sum_by_push}
use Rattle.std.proofs.Math.Seq.{take-add}
use Rattle.mp_timeline.specs.Movie.{SampleRecord, TrackRecord, MovieRecord}
use Rattle.mp_movie.specs.Placed.{PlacedTrack, PlacedMovie, sample_count}
use Rattle.mp_movie.specs.StandsFor.{stands_for, track_for}
use Rattle.mp_interleave.specs.declared.chunk.Chunk.{Chunk}
use Rattle.mp_interleave.specs.Order.{Key, chunk_order, keys_in, planned, track_keys, window_at}
use Rattle.mp_interleave.specs.Place.{held}
use Rattle.mp_interleave.specs.Left.{run_len, same_as, tails, track_at}
use Rattle.mp_interleave.specs.Samples.{SampleChunk, chunks_of, keys_from, keys_of, samples_at, with_samples}
use Rattle.mp_interleave.specs.Law.{IsAlike, IsTimed, IsWithin, samples_on}
use Rattle.mp_interleave.proofs.Chunks.{left, shortened, tails-none, tails-step}
use Rattle.mp_interleave.proofs.Turns.{Ahead, AreTracks, ahead-at, all-gone, each, gone, gone-on, track-left}
use Rattle.mp_interleave.proofs.SampleKeys.{are-tracks, drop-from, keys-at, keys-of-kept, kept-tracks, length-from, length-keys, scale_at}

-- ---- the samples of a track, chunk by chunk

abbrev keys_for : ℕ → List TrackRecord → List (List Key)
keys_for millis tracks = map (keys_of millis) tracks

-- with one chunk more
samples-more : (position : ℕ) (chunks : List SampleChunk) (chunk : SampleChunk) → samples_on position (chunks ++ chunk ∷ []) ≡ samples_on position chunks ++ samples_on position (chunk ∷ [])
samples-more position chunks chunk =
    ap (flat_map (λ (c : SampleChunk). c.samples)) (filter-append (λ (c : SampleChunk). c.track == position) chunks (chunk ∷ []))
    ∙ flat_map-append (λ (c : SampleChunk). c.samples) (filter (λ (c : SampleChunk). c.track == position) chunks) (filter (λ (c : SampleChunk). c.track == position) (chunk ∷ []))

same : (a b : ℕ) → (a == b) ≡ true → a ≡ b
same a b e = grind arith

-- the samples of the next chunk follow those that are gone
on-more : (tracks : List TrackRecord) (keys : List (List Key)) (done position : ℕ) (chunk : Chunk) → Ahead keys done chunk → (b : Bool) → (chunk.track == position) ≡ b
    → take (gone keys done position) (samples_at tracks position) ++ samples_on position (with_samples tracks chunk ∷ [])
    ≡ take (gone keys done position + (if b then chunk.count else 0)) (samples_at tracks position)
on-more tracks keys done position chunk a true e =
    let is : chunk.track ≡ position = same chunk.track position e in
    let samples = samples_at tracks position in
    let n = gone keys done position in
    let here : take chunk.count (drop (chunk.first - 1) (samples_at tracks chunk.track)) ≡ take chunk.count (drop n samples)
    = ap (λ (m : ℕ). take chunk.count (drop m (samples_at tracks chunk.track))) (omega (arith, a.first))
    ∙ ap (λ (p : ℕ). take chunk.count (drop (gone keys done p) (samples_at tracks p))) is in
    rw (e, append-nil (take chunk.count (drop (chunk.first - 1) (samples_at tracks chunk.track))), here) (sym (take-add n chunk.count samples))
on-more tracks keys done position chunk a false e =
    rw (e, append-nil (take (gone keys done position) (samples_at tracks position))) (ap (λ (n : ℕ). take n (samples_at tracks position)) (omega arith))

on-track : (millis : ℕ) (tracks : List TrackRecord) (done position : ℕ) → AreTracks (keys_for millis tracks) → done ≤ length (chunk_order (keys_for millis tracks))
    → samples_on position (map (with_samples tracks) (take done (chunk_order (keys_for millis tracks)))) ≡ take (gone (keys_for millis tracks) done position) (samples_at tracks position)
on-track millis tracks zero position are le = refl
on-track millis tracks (suc done) position are le =
    let keys = keys_for millis tracks in
    let s = ahead-at keys done are (omega (arith, le)) in
    let chunks = take done (chunk_order keys) in
    let before = on-track millis tracks done position are (omega (arith, le)) in
    let more = ap (λ (l : List Chunk). samples_on position (map (with_samples tracks) l)) s.is.next.front
    ∙ (ap (samples_on position) (map-append (with_samples tracks) chunks (s.chunk ∷ []))
    ∙ (samples-more position (map (with_samples tracks) chunks) (with_samples tracks s.chunk)
    ∙ (ap (λ (l : List SampleRecord). l ++ samples_on position (with_samples tracks s.chunk ∷ [])) before
    ∙ (on-more tracks keys done position s.chunk s.is (s.chunk.track == position) refl
    ∙ ap (λ (n : ℕ). take n (samples_at tracks position)) (sym (gone-on keys done position s.chunk s.is)))))) in
    subst (λ (n : ℕ). samples_on position (map (with_samples tracks) (take n (chunk_order keys))) ≡ take (gone keys n position) (samples_at tracks position)) (add-one done) more

all-front : {A : Type 0} (items : List A) → take (length items) items ≡ items
all-front [] = refl
all-front (item ∷ items) = ap (λ rest. item ∷ rest) (all-front items)

past-front : {A : Type 0} (n : ℕ) (items : List A) → length items ≤ n → take n items ≡ items
past-front zero [] le = refl
past-front (suc n) [] le = refl
past-front zero (item ∷ items) le = absurd (omega (arith, le))
past-front (suc n) (item ∷ items) le = ap (λ rest. item ∷ rest) (past-front n items (omega (arith, le)))

pub kept : (millis : ℕ) (movie : MovieRecord) (position : ℕ) (d : TrackRecord) → AllByRecursion IsTimed movie.tracks → position < length movie.tracks
    → samples_on position (chunks_of millis movie) ≡ (get_or movie.tracks position d).samples
unfolding chunks_of
kept millis movie position d times lt =
    let keys = keys_for millis movie.tracks in
    let are = are-tracks millis movie.tracks times in
    let order = chunk_order keys in
    let samples = samples_at movie.tracks position in
    let long : length (track_at keys position) ≡ length samples = ap length (keys-at millis movie.tracks position) ∙ length-from millis (scale_at movie.tracks position) 1 samples in
    let all = all-gone keys position are (omega (arith, lt, length-map movie.tracks (keys_of millis))) in
    ap (λ (l : List Chunk). samples_on position (map (with_samples movie.tracks) l)) (sym (all-front order))
    ∙ (on-track millis movie.tracks (length order) position are (omega arith)
    ∙ (past-front (gone keys (length order) position) samples (omega (arith, all, long)) ∙ at movie.tracks position lt))
  where
    at : (tracks : List TrackRecord) (position : ℕ) → position < length tracks → samples_at tracks position ≡ (get_or tracks position d).samples
    at [] position lt = absurd (omega arith)
    at (track ∷ tracks) zero lt = refl
    at (track ∷ tracks) (suc position) lt = at tracks position (omega arith)

-- ---- what holds of each chunk

all-with : (P : SampleChunk → Type 0) (tracks : List TrackRecord) (chunks : List Chunk) → AllByRecursion (λ (chunk : Chunk). P (with_samples tracks chunk)) chunks → AllByRecursion P (map (with_samples tracks) chunks)
all-with P tracks [] all = tt
all-with P tracks (chunk ∷ chunks) all = (all.0, all-with P tracks chunks all.1)

same-alike : (millis scale number : ℕ) (key : Key) (samples : List SampleRecord) → AllByRecursion (λ (sample : SampleRecord). sample.entry ≡ key.entry) (take (same_as key (keys_from millis scale number samples)) samples)
same-alike millis scale number key [] = tt
same-alike millis scale number key (sample ∷ samples) =
    let next : Key = record { number = number; window = window_at millis scale sample.decode; entry = sample.entry } in
    by (same-alike millis scale (number + 1) key samples) ((next.window == key.window) && (next.entry == key.entry)) refl
  where
    by : AllByRecursion (λ (s : SampleRecord). s.entry ≡ key.entry) (take (same_as key (keys_from millis scale (number + 1) samples)) samples)
        → (b : Bool) → ((window_at millis scale sample.decode == key.window) && (sample.entry == key.entry)) ≡ b
        → AllByRecursion (λ (s : SampleRecord). s.entry ≡ key.entry) (take (if b then same_as key (keys_from millis scale (number + 1) samples) + 1 else 0) (sample ∷ samples))
    by rest false e = tt
    by rest true e = rw (add-one (same_as key (keys_from millis scale (number + 1) samples))) (grind arith, rest)

-- the run in front of samples
run-alike : (millis scale number track : ℕ) (samples : List SampleRecord) → 1 ≤ length samples
    → IsAlike (record { track = track; samples = take (run_len (keys_from millis scale number samples)) samples })
run-alike millis scale number track [] some = absurd (omega (arith, some))
run-alike millis scale number track (sample ∷ samples) some =
    let key : Key = record { number = number; window = window_at millis scale sample.decode; entry = sample.entry } in
    rw (add-one (same_as key (keys_from millis scale (number + 1) samples)))
    record { some = omega arith; alike = (refl, same-alike millis scale (number + 1) key samples) }

chunk-alike : (millis : ℕ) (tracks : List TrackRecord) (done : ℕ) (chunk : Chunk) → Ahead (keys_for millis tracks) done chunk → IsAlike (with_samples tracks chunk)
chunk-alike millis tracks done chunk a =
    let keys = keys_for millis tracks in
    let samples = samples_at tracks chunk.track in
    let scale = scale_at tracks chunk.track in
    let n = gone keys done chunk.track in
    let at = keys-at millis tracks chunk.track in
    let rest : drop n (track_at keys chunk.track) ≡ keys_from millis scale (1 + n) (drop n samples) = ap (drop n) at ∙ drop-from millis scale 1 n samples in
    let long = length-drop n samples in
    let all = ap length at ∙ length-from millis scale 1 samples in
    let run = run-alike millis scale (1 + n) chunk.track (drop n samples) (omega (arith, long, all, a.within, a.some)) in
    let count : run_len (keys_from millis scale (1 + n) (drop n samples)) ≡ chunk.count = ap run_len (sym rest) ∙ sym a.count in
    let from : n ≡ chunk.first - 1 = omega (arith, a.first) in
    subst (λ (m : ℕ). IsAlike (record { track = chunk.track; samples = take chunk.count (drop m samples) })) from
    (subst (λ (m : ℕ). IsAlike (record { track = chunk.track; samples = take m (drop n samples) })) count run)

pub alike : (millis : ℕ) (movie : MovieRecord) → AllByRecursion IsTimed movie.tracks → AllByRecursion IsAlike (chunks_of millis movie)
unfolding chunks_of
alike millis movie times =
    let keys = keys_for millis movie.tracks in
    all-with IsAlike movie.tracks (chunk_order keys) (each (λ (chunk : Chunk). IsAlike (with_samples movie.tracks chunk)) keys (are-tracks millis movie.tracks times) (chunk-alike millis movie.tracks))

pub inside : (millis : ℕ) (movie : MovieRecord) → AllByRecursion IsTimed movie.tracks → AllByRecursion (λ (chunk : SampleChunk). chunk.track < length movie.tracks) (chunks_of millis movie)
unfolding chunks_of
inside millis movie times =
    let keys = keys_for millis movie.tracks in
    all-with (λ (chunk : SampleChunk). chunk.track < length movie.tracks) movie.tracks (chunk_order keys)
    (each (λ (chunk : Chunk). chunk.track < length movie.tracks) keys (are-tracks millis movie.tracks times) (λ done chunk a. omega (arith, a.inside, length-map movie.tracks (keys_of millis))))

-- ---- what is counted

abbrev weigh : {A : Type 0} → (A → ℕ) → List (List A) → ℕ
weigh weight tracks = sum_by (λ items. sum_by weight items) tracks

shortened-weight : {A : Type 0} (weight : A → ℕ) (position n : ℕ) (tracks : List (List A)) → position < length tracks
    → weigh weight (shortened position n tracks) + sum_by weight (take n (track_at tracks position)) ≡ weigh weight tracks
shortened-weight weight position n [] lt = absurd (omega arith)
shortened-weight weight zero n (items ∷ tracks) lt =
    omega (arith, sum_by-cons (λ items. sum_by weight items) (drop n items) tracks, sum_by-cons (λ items. sum_by weight items) items tracks, sum_by-take-drop weight items n)
shortened-weight weight (suc position) n (items ∷ tracks) lt =
    omega (arith, sum_by-cons (λ items. sum_by weight items) items (shortened position n tracks), sum_by-cons (λ items. sum_by weight items) items tracks, shortened-weight weight position n tracks (omega arith))

ended : {A : Type 0} (n : ℕ) (items : List A) → length items ≤ n → drop n items ≡ []
ended zero [] le = refl
ended (suc n) [] le = refl
ended zero (item ∷ items) le = absurd (omega (arith, le))
ended (suc n) (item ∷ items) le = ended n items (omega (arith, le))

no-weight : {A : Type 0} (weight : A → ℕ) (behind : ℕ → ℕ) (at : ℕ) (tracks : List (List A)) → ((position : ℕ) → position < length tracks → length (track_at tracks position) ≤ behind (at + position))
    → weigh weight (tails behind at tracks) ≡ 0
no-weight weight behind at [] h = refl
no-weight weight behind at (items ∷ tracks) h =
    let here : length items ≤ behind at = subst (λ (p : ℕ). length items ≤ behind p) (omega arith) (h 0 (omega arith)) in
    let rest = no-weight weight behind (at + 1) tracks (λ position lt. subst (λ (p : ℕ). length (track_at tracks position) ≤ behind p) (omega arith) (h (suc position) (omega (arith, lt)))) in
    sum_by-cons (λ items. sum_by weight items) (drop (behind at) items) (tails behind (at + 1) tracks) ∙ rw (ended (behind at) items here) (omega (arith, rest))

-- the samples of all tracks
abbrev samples_in : List TrackRecord → List (List SampleRecord)
samples_in tracks = map (λ (track : TrackRecord). track.samples) tracks

counted-at : (millis : ℕ) (tracks : List TrackRecord) (weight : SampleRecord → ℕ) (done : ℕ) → AreTracks (keys_for millis tracks) → done ≤ length (chunk_order (keys_for millis tracks))
    → sum_by (λ (chunk : SampleChunk). sum_by weight chunk.samples) (map (with_samples tracks) (take done (chunk_order (keys_for millis tracks))))
    + weigh weight (tails (gone (keys_for millis tracks) done) 0 (samples_in tracks))
    ≡ weigh weight (samples_in tracks)
counted-at millis tracks weight zero are le = omega (arith, ap (weigh weight) (tails-none 0 (samples_in tracks)))
counted-at millis tracks weight (suc done) are le =
    let keys = keys_for millis tracks in
    let items = samples_in tracks in
    let s = ahead-at keys done are (omega (arith, le)) in
    let chunk = s.chunk in
    let chunks = take done (chunk_order keys) in
    let inside : chunk.track < length items = omega (arith, s.is.inside, length-map tracks (keys_of millis), length-map tracks (λ (track : TrackRecord). track.samples)) in
    let before = counted-at millis tracks weight done are (omega (arith, le)) in
    let more = ap (λ (l : List Chunk). sum_by (λ (c : SampleChunk). sum_by weight c.samples) (map (with_samples tracks) l)) s.is.next.front
    ∙ (ap (sum_by (λ (c : SampleChunk). sum_by weight c.samples)) (map-append (with_samples tracks) chunks (chunk ∷ []))
    ∙ sum_by_push (λ (c : SampleChunk). sum_by weight c.samples) (map (with_samples tracks) chunks) (with_samples tracks chunk)) in
    let less = ap (λ (l : List Chunk). weigh weight (tails (held l) 0 items)) s.is.next.front ∙ ap (weigh weight) (tails-step chunks chunk 0 chunk.track items (omega arith)) in
    let left-there : track_at (tails (gone keys done) 0 items) chunk.track ≡ drop (chunk.first - 1) (track_at items chunk.track)
    = track-left (gone keys done) 0 chunk.track items inside ∙ ap (λ (n : ℕ). drop n (track_at items chunk.track)) (ap (gone keys done) (zero-add chunk.track) ∙ omega (arith, s.is.first)) in
    let all = shortened-weight weight chunk.track chunk.count (tails (gone keys done) 0 items) (omega (arith, inside, length-tails (gone keys done) 0 items)) in
    let taken = ap (λ (l : List SampleRecord). sum_by weight (take chunk.count l)) left-there in
    subst (λ (n : ℕ). sum_by (λ (c : SampleChunk). sum_by weight c.samples) (map (with_samples tracks) (take n (chunk_order keys))) + weigh weight (tails (gone keys n) 0 items) ≡ weigh weight items) (add-one done)
    (omega (arith, more, less, all, taken, before))
  where
    zero-add : (m : ℕ) → 0 + m ≡ m
    zero-add m = omega arith

    length-tails : (behind : ℕ → ℕ) (at : ℕ) (items : List (List SampleRecord)) → length (tails behind at items) ≡ length items
    length-tails behind at [] = refl
    length-tails behind at (one ∷ items) = ap suc (length-tails behind (at + 1) items)

pub counted : (millis : ℕ) (movie : MovieRecord) (weight : SampleRecord → ℕ) → AllByRecursion IsTimed movie.tracks
    → sum_by (λ (chunk : SampleChunk). sum_by weight chunk.samples) (chunks_of millis movie) ≡ sum_by (λ (track : TrackRecord). sum_by weight track.samples) movie.tracks
unfolding chunks_of
counted millis movie weight times =
    let keys = keys_for millis movie.tracks in
    let are = are-tracks millis movie.tracks times in
    let order = chunk_order keys in
    let items = samples_in movie.tracks in
    let none = no-weight weight (gone keys (length order)) 0 items (λ position lt. here position (omega (arith, lt, length-map movie.tracks (λ (track : TrackRecord). track.samples)))) in
    let all = counted-at millis movie.tracks weight (length order) are (omega arith) in
    ap (λ (l : List Chunk). sum_by (λ (chunk : SampleChunk). sum_by weight chunk.samples) (map (with_samples movie.tracks) l)) (sym (all-front order))
    ∙ (omega (arith, all, none) ∙ per-track movie.tracks)
  where
    per-track : (tracks : List TrackRecord) → weigh weight (samples_in tracks) ≡ sum_by (λ (track : TrackRecord). sum_by weight track.samples) tracks
    per-track [] = refl
    per-track (track ∷ tracks) =
        sum_by-cons (λ (items : List SampleRecord). sum_by weight items) track.samples (samples_in tracks)
        ∙ (ap (λ (n : ℕ). sum_by weight track.samples + n) (per-track tracks) ∙ sym (sum_by-cons (λ (track : TrackRecord). sum_by weight track.samples) track tracks))

    here : (position : ℕ) → position < length movie.tracks
        → length (samples_at movie.tracks position) ≤ gone (keys_for millis movie.tracks) (length (chunk_order (keys_for millis movie.tracks))) (0 + position)
    here position lt =
        let keys = keys_for millis movie.tracks in
        let long = ap length (keys-at millis movie.tracks position) ∙ length-from millis (scale_at movie.tracks position) 1 (samples_at movie.tracks position) in
        let all = all-gone keys position (are-tracks millis movie.tracks times) (omega (arith, lt, length-map movie.tracks (keys_of millis))) in
        let at : position ≡ 0 + position = omega arith in
        subst (λ (p : ℕ). length (samples_at movie.tracks position) ≤ gone keys (length (chunk_order keys)) p) at (omega (arith, all, long))

-- ---- plans

pub same-chunks : (files : List (List ℕ)) (millis : ℕ) (movie : PlacedMovie)
    → chunks_of millis (stands_for files movie) ≡ map (with_samples (stands_for files movie).tracks) (planned millis movie)
unfolding chunks_of
same-chunks files millis movie = ap (λ (keys : List (List Key)). map (with_samples (map (track_for files) movie.tracks)) (chunk_order keys)) (keys-of-kept files millis movie.tracks)

pub within-tracks : (millis : ℕ) (movie : PlacedMovie) → AllByRecursion (IsWithin movie.tracks) (planned millis movie)
within-tracks millis movie =
    let keys = keys_in millis movie.tracks in
    each (IsWithin movie.tracks) keys (kept-tracks millis movie.tracks) (λ done chunk a.
    let inside : chunk.track < length movie.tracks = omega (arith, a.inside, length-map movie.tracks (track_keys millis)) in
    record {
      track = inside;
      first = omega (arith, a.first);
      some = a.some;
      samples = λ d. omega (arith, a.first, a.within, length-keys millis movie.tracks chunk.track d inside);
    })

-- each chunk holds a sample
few-at : (keys : List (List Key)) (done : ℕ) → AreTracks keys → done ≤ length (chunk_order keys) → done + sum_by (λ (ks : List Key). length ks) (left keys done) ≤ sum_by (λ (ks : List Key). length ks) keys
few-at keys zero are le = omega (arith, ap (sum_by (λ (ks : List Key). length ks)) (tails-none 0 keys))
few-at keys (suc done) are le =
    let s = ahead-at keys done are (omega (arith, le)) in
    let chunk = s.chunk in
    let before = few-at keys done are (omega (arith, le)) in
    let next : left keys (done + 1) ≡ shortened chunk.track chunk.count (left keys done)
    = ap (λ (l : List Chunk). tails (held l) 0 keys) s.is.next.front ∙ tails-step (take done (chunk_order keys)) chunk 0 chunk.track keys (omega arith) in
    let at = track-left (gone keys done) 0 chunk.track keys s.is.inside ∙ ap (λ (p : ℕ). drop (gone keys done p) (track_at keys chunk.track)) (zero-add chunk.track) in
    let long = ap length at ∙ length-drop (gone keys done chunk.track) (track_at keys chunk.track) in
    let less = shorter chunk.track chunk.count (left keys done) (omega (arith, s.is.inside, length-tails (gone keys done) 0 keys)) (omega (arith, long, s.is.within, s.is.some)) in
    subst (λ (n : ℕ). n + sum_by (λ (ks : List Key). length ks) (left keys n) ≤ sum_by (λ (ks : List Key). length ks) keys) (add-one done)
    (omega (arith, ap (sum_by (λ (ks : List Key). length ks)) next, less, before, s.is.some))
  where
    zero-add : (m : ℕ) → 0 + m ≡ m
    zero-add m = omega arith

    length-tails : (behind : ℕ → ℕ) (at : ℕ) (items : List (List Key)) → length (tails behind at items) ≡ length items
    length-tails behind at [] = refl
    length-tails behind at (one ∷ items) = ap suc (length-tails behind (at + 1) items)

    shorter : (position n : ℕ) (items : List (List Key)) → position < length items → n ≤ length (track_at items position)
        → sum_by (λ (ks : List Key). length ks) (shortened position n items) + n ≡ sum_by (λ (ks : List Key). length ks) items
    shorter position n [] lt le = absurd (omega arith)
    shorter zero n (one ∷ items) lt le = omega (arith, sum_by-cons (λ (ks : List Key). length ks) (drop n one) items, sum_by-cons (λ (ks : List Key). length ks) one items, length-drop n one, le)
    shorter (suc position) n (one ∷ items) lt le =
        omega (arith, sum_by-cons (λ (ks : List Key). length ks) one (shortened position n items), sum_by-cons (λ (ks : List Key). length ks) one items, shorter position n items (omega arith) le)

pub few : (millis : ℕ) (movie : PlacedMovie) → length (planned millis movie) ≤ sample_count movie.tracks
few millis movie =
    let keys = keys_in millis movie.tracks in
    omega (arith, few-at keys (length (chunk_order keys)) (kept-tracks millis movie.tracks) (omega arith), count movie.tracks)
  where
    count : (tracks : List PlacedTrack) → sum_by (λ (ks : List Key). length ks) (keys_in millis tracks) ≡ sample_count tracks
    count [] = refl
    count (track ∷ tracks) =
        omega (arith, sum_by-cons (λ (ks : List Key). length ks) (track_keys millis track) (keys_in millis tracks), sum_by-cons (λ (t : PlacedTrack). length t.deltas) track tracks, length-keys millis (track ∷ tracks) 0 track (omega arith), count tracks)
