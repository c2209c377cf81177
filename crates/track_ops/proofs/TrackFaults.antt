-- Why a track can't be told in ticks of another scale, check after check.
use Rattle.std.proofs.Common.{◌≡◌, ℕ, Bool, true, false, List, [], ◌∷◌, Option, Some, None, refl, sym, ap, ◌∙◌}
use Rattle.mp_edits.specs.EditBox.{segments_in}
use Rattle.mp_movie.specs.PartsFit.{is_long, is_wide}
use Rattle.mp_movie.specs.Placed.{PlacedTrack}
use Rattle.mp_ports.specs.declared.code.Code.{Code}
use Rattle.mp_ports.specs.declared.code.Code.TheVariants.{DeltaLimit, NotWhole, OffsetLimit, StartLimit}
use Rattle.mp_ports.specs.Checks.{first_code}
use Rattle.track_ops.specs.KeptTimes.{are_whole, column_in_scale, kept_ticks, some_late_in}
use Rattle.track_ops.proofs.TrackIsSet.{track_check}

-- the limits of the samples
abbrev samples_check : ℕ → PlacedTrack → Option Code
samples_check scale track =
    first_code ((is_long (column_in_scale track.scale scale track.deltas), DeltaLimit) ∷ (is_wide (column_in_scale track.scale scale track.offsets), OffsetLimit) ∷ [])

front : (a b : Bool) (p q code : Code) (more : List (Bool × Code)) → Some code ≡ first_code ((a, p) ∷ (b, q) ∷ []) → Some code ≡ first_code ((a, p) ∷ (b, q) ∷ more)
front true b p q code more is = is
front false true p q code more is = is
front false false p q code more is = cc

behind : (a b : Bool) (p q : Code) (more : List (Bool × Code)) → None ≡ first_code ((a, p) ∷ (b, q) ∷ []) → first_code more ≡ first_code ((a, p) ∷ (b, q) ∷ more)
behind true b p q more is = cc
behind false true p q more is = cc
behind false false p q more is = refl

pub not_whole : (scale : ℕ) (track : PlacedTrack) (whole : Bool) → whole ≡ are_whole track.scale scale (kept_ticks track) → whole ≡ false → Some NotWhole ≡ track_check scale track
not_whole scale track whole is none = rw (sym is, none) refl

pub limit_of_samples : (scale : ℕ) (track : PlacedTrack) (whole : Bool) (code : Code) → whole ≡ are_whole track.scale scale (kept_ticks track) → whole ≡ true → Some code ≡ samples_check scale track → Some code ≡ track_check scale track
limit_of_samples scale track whole code is all found = front _ _ DeltaLimit OffsetLimit code ((some_late_in track.scale scale (segments_in track.edits), StartLimit) ∷ []) found ∙ rw (sym is, all) refl

pub limit_is_late : (scale : ℕ) (track : PlacedTrack) (whole late : Bool) → whole ≡ are_whole track.scale scale (kept_ticks track) → whole ≡ true → None ≡ samples_check scale track
    → late ≡ some_late_in track.scale scale (segments_in track.edits) → late ≡ true → Some StartLimit ≡ track_check scale track
limit_is_late scale track whole late is all none test passed =
    ap (λ (b : Bool). first_code ((b, StartLimit) ∷ [])) (sym passed ∙ test) ∙ (behind _ _ DeltaLimit OffsetLimit ((some_late_in track.scale scale (segments_in track.edits), StartLimit) ∷ []) none ∙ rw (sym is, all) refl)

pub no_fault : (scale : ℕ) (track : PlacedTrack) (whole late : Bool) → whole ≡ are_whole track.scale scale (kept_ticks track) → whole ≡ true → None ≡ samples_check scale track
    → late ≡ some_late_in track.scale scale (segments_in track.edits) → late ≡ false → None ≡ track_check scale track
no_fault scale track whole late is all none test passed =
    ap (λ (b : Bool). first_code ((b, StartLimit) ∷ [])) (sym passed ∙ test) ∙ (behind _ _ DeltaLimit OffsetLimit ((some_late_in track.scale scale (segments_in track.edits), StartLimit) ∷ []) none ∙ rw (sym is, all) refl)
