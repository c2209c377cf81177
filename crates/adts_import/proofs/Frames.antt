-- One step of cutting a stream into frames, and its end.
use Rattle.std.proofs.Common.{◌≡◌, ◌+◌, ◌<◌, ℕ, zero, suc, List, [], ◌∷◌, length, take, drop, Some, None, Ok, Err, refl, false, ◌==◌, ne_eqb, arith}
use Rattle.mp_ports.specs.Checks.{◌>>=◌}
use Rattle.mp_ports.specs.declared.fault.Bad.{Bad}
use Rattle.adts_import.specs.declared.header.Configuration.{Configuration}
use Rattle.adts_import.specs.Header.{frame_len}
use Rattle.adts_import.specs.Stream.{next_fault, frames_from}

pub frames_from-none : (fuel : ℕ) (stream : Configuration) (k place : ℕ) → frames_from fuel stream k place [] ≡ Ok []
unfolding frames_from
frames_from-none zero stream k place = refl
frames_from-none (suc fuel) stream k place = refl

pub frames_from-fault : (fuel : ℕ) (stream : Configuration) (k place : ℕ) (rest : List ℕ) (bad : Bad) → 0 < length rest
    → next_fault stream k place rest (length rest) ≡ Some bad → frames_from (suc fuel) stream k place rest ≡ Err bad
unfolding frames_from
frames_from-fault fuel stream k place rest bad some fault =
    let test : (length rest == 0) ≡ false = ne_eqb (length rest) 0 (λ e. omega arith) in
    rw (test, fault) refl

pub frames_from-frame : (fuel : ℕ) (stream : Configuration) (k place : ℕ) (rest : List ℕ) → 0 < length rest → next_fault stream k place rest (length rest) ≡ None
    → frames_from (suc fuel) stream k place rest ≡ (frames_from fuel stream (k + 1) (place + frame_len rest) (drop (frame_len rest) rest) >>= (λ frames. Ok (take (frame_len rest) rest ∷ frames)))
unfolding frames_from
frames_from-frame fuel stream k place rest some fault =
    let test : (length rest == 0) ≡ false = ne_eqb (length rest) 0 (λ e. omega arith) in
    rw (test, fault) refl
