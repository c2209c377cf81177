-- The line of a track, by its columns.
use Rattle.std.proofs.Common.{◌≡◌, ℕ, ℤ, pos, ◌+◌, ◌+ℤ◌, Bool, true, false, List, [], ◌∷◌, ◌++◌, length, map, refl, sym, ap, ◌∙◌, codes, decimal}
use Rattle.std.specs.Prelude.{sum, fold, if◌then◌else◌}
use Rattle.std.specs.Fmt.{signed_decimal}
use Rattle.std.proofs.lemmas.List.Sums.{sum-map}
use Rattle.mp_columns.specs.Numbers.{total}
use Rattle.mp_timeline.specs.Movie.{SampleRecord}
use Rattle.mp_movie.specs.Columns.{sizes, sync_marks}
use Rattle.mp_movie.specs.Durations.{media_duration}
use Rattle.mp_movie.specs.Placed.{PlacedTrack}
use Rattle.mp_movie.specs.StandsFor.{HoldTrack, samples_of, track_for}
use Rattle.mp_movie.specs.WholeParts.{AreColumns, bare_track}
use Rattle.mp_movie.specs.PartsLaw.{ColumnsAreKept}
use Rattle.mp_dump.specs.Info.{samples_text, settings_text, sync_count, track_line, track_text}
use Rattle.mp_dump.proofs.Chains.{behind}

-- its three parts are its line
pub line_of : (files : List (List ℕ)) (track : PlacedTrack) (old a b new : List ℕ) → a ≡ old ++ track_text (bare_track track) → b ≡ a ++ samples_text (track_for files track)
    → new ≡ b ++ settings_text (bare_track track) → new ≡ old ++ track_line (track_for files track)
unfolding track_line track_text settings_text
line_of files track old a b new e f g = behind old b new _ _ (behind old a b _ _ e f) g

total_from : (n : ℕ) (xs : List ℕ) → fold ◌+ℤ◌ (pos n) (map pos xs) ≡ pos (fold (λ (a : ℕ) (x : ℕ). a + x) n xs)
total_from n [] = refl
total_from n (x ∷ xs) = total_from (n + x) xs

total_is : (xs : List ℕ) → total (map pos xs) ≡ pos (sum xs)
total_is xs = total_from 0 xs

abbrev mark : SampleRecord → ℕ
mark sample = if sample.sync then 1 else 0

mark_is : (sync : Bool) → (if sync then pos 1 else pos 0) ≡ pos (if sync then 1 else 0)
mark_is true = refl
mark_is false = refl

marks_are : (samples : List SampleRecord) → sync_marks samples ≡ map pos (map mark samples)
marks_are [] = refl
marks_are (sample ∷ samples) = rw (marks_are samples) (ap (λ (first : ℤ). first ∷ map pos (map mark samples)) (mark_is sample.sync))

-- the number of its sync samples, and that of its bytes
pub syncs_are : ColumnsAreKept → (files : List (List ℕ)) (track : PlacedTrack) → AreColumns track → total track.syncs ≡ pos (sync_count (samples_of files track))
syncs_are law files track columns =
    let samples = samples_of files track in
    sym (ap total (law.syncs files track columns)) ∙ (ap total (marks_are samples) ∙ (total_is (map mark samples) ∙ ap pos (sum-map mark samples)))

pub bytes_are : ColumnsAreKept → (files : List (List ℕ)) (track : PlacedTrack) → AreColumns track → HoldTrack (map length files) track → total track.sizes ≡ pos (sum (sizes (samples_of files track)))
bytes_are law files track columns held = sym (ap total (law.sizes files track columns held)) ∙ total_is (sizes (samples_of files track))

pub totals_are : ColumnsAreKept → (files : List (List ℕ)) (track : PlacedTrack) → AreColumns track → HoldTrack (map length files) track
    → (count duration : ℕ) (syncs bytes : ℤ) (old a b c new : List ℕ) → count ≡ length track.deltas → syncs ≡ total track.syncs → bytes ≡ total track.sizes → duration ≡ media_duration (track_for files track)
    → a ≡ old ++ (codes " samples " ++ decimal count) → b ≡ a ++ (codes " sync " ++ signed_decimal syncs) → c ≡ b ++ (codes " bytes " ++ signed_decimal bytes)
    → new ≡ c ++ (codes " duration " ++ decimal duration) → new ≡ old ++ samples_text (track_for files track)
unfolding samples_text
totals_are law files track columns held count duration syncs bytes old a b c new n k z u ea eb ec en =
    let samples = samples_of files track in
    let ea' : a ≡ old ++ (codes " samples " ++ decimal (length samples)) = ea ∙ ap (λ (x : ℕ). old ++ (codes " samples " ++ decimal x)) (n ∙ sym (law.count files track)) in
    let eb' : b ≡ a ++ (codes " sync " ++ decimal (sync_count samples)) = eb ∙ ap (λ (x : ℤ). a ++ (codes " sync " ++ signed_decimal x)) (k ∙ syncs_are law files track columns) in
    let ec' : c ≡ b ++ (codes " bytes " ++ decimal (sum (sizes samples))) = ec ∙ ap (λ (x : ℤ). b ++ (codes " bytes " ++ signed_decimal x)) (z ∙ bytes_are law files track columns held) in
    let en' : new ≡ c ++ (codes " duration " ++ decimal (media_duration (track_for files track))) = en ∙ ap (λ (x : ℕ). c ++ (codes " duration " ++ decimal x)) u in
    behind old c new _ _ (behind old b c _ _ (behind old a b _ _ ea' eb') ec') en'
