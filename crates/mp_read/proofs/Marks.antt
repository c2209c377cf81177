-- There is a sync mark for each sample.
use Rattle.std.proofs.Common.{◌≡◌, ℕ, ℤ, List, length, Option, Some, None, Result, Ok, Err, sym, ap, ◌∙◌, IfOk}
use Rattle.std.proofs.lemmas.List.FromFn.{length-map-range_with_len}
use Rattle.mp_ports.specs.declared.code.Code.{Code}
use Rattle.mp_ports.specs.declared.fault.Fail.{Fail}
use Rattle.mp_ports.specs.Checks.{placed, unless}
use Rattle.mp_ports.specs.Gives.{Gives, refusal}
use Rattle.mp_times.specs.Sync.{mark, marks, numbers_of, stss_fault, stss_of}

marks_len : (place samples : ℕ) (body : List ℕ) (column : List ℤ) → placed place (stss_of samples body) ≡ Ok column → length column ≡ samples
marks_len place samples body column e = by (stss_fault samples body) e
  where
    by : (fault : Option Code) → placed place (unless fault (marks samples (numbers_of body))) ≡ Ok column → length column ≡ samples
    by None e = let same : marks samples (numbers_of body) ≡ column = cc in ap length (sym same) ∙ length-map-range_with_len (mark (numbers_of body)) 1 samples
    by (Some code) e = absurd cc

pub marks_given : (place samples : ℕ) (body : List ℕ) (r : Result (List ℤ) Fail) → Gives refusal (λ (column : List ℤ). column) r (placed place (stss_of samples body)) → IfOk r (λ column. length column ≡ samples)
marks_given place samples body (Ok column) given = marks_len place samples body column given
marks_given place samples body (Err fail) given = tt
