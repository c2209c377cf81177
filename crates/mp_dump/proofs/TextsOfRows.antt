-- The texts of a sample's numbers, one behind another.
use Rattle.std.proofs.Common.{◌≡◌, ℕ, ℤ, pos, negsuc, List, ◌++◌, codes}
use Rattle.std.specs.Prelude.{if◌then◌else◌}
use Rattle.std.specs.Fmt.{signed_decimal}
use Rattle.serde_json.specs.Find.{of_integer}
use Rattle.serde_json.specs.Written.{compact_text, number_text}
use Rattle.mp_dump.specs.declared.row.Row.{Row}
use Rattle.mp_dump.specs.Json.{row_value}
use Rattle.mp_dump.specs.Timeline.{row_line}
use Rattle.mp_dump.specs.Words.{field}
use Rattle.mp_dump.proofs.Chains.{behind}

pub line_of_row : (number : ℕ) (row : Row) (old a b c d e f g new : List ℕ)
    → a ≡ old ++ field (codes "sample ") number → b ≡ a ++ field (codes " size ") row.size → c ≡ b ++ field (codes " decode ") row.decode
    → d ≡ c ++ field (codes " duration ") row.dur → e ≡ d ++ (codes " composition " ++ signed_decimal row.comp)
    → f ≡ e ++ (if row.sync then codes " sync" else codes " plain") → g ≡ f ++ field (codes " entry ") row.entry → new ≡ g ++ codes "\n"
    → new ≡ old ++ row_line number row
unfolding row_line
line_of_row number row old a b c d e f g new h1 h2 h3 h4 h5 h6 h7 h8 =
    behind old g new _ _ (behind old f g _ _ (behind old e f _ _ (behind old d e _ _ (behind old c d _ _ (behind old b c _ _ (behind old a b _ _ h1 h2) h3) h4) h5) h6) h7) h8

signed : (z : ℤ) (old new : List ℕ) → new ≡ old ++ (codes "," ++ signed_decimal z) → new ≡ old ++ (codes "," ++ number_text (of_integer z))
signed (pos n) old new e = e
signed (negsuc n) old new e = e

pub value_of_row : (row : Row) (old a b c d e f new : List ℕ)
    → a ≡ old ++ field (codes "[") row.size → b ≡ a ++ field (codes ",") row.decode → c ≡ b ++ field (codes ",") row.dur → d ≡ c ++ (codes "," ++ signed_decimal row.comp)
    → e ≡ d ++ field (codes ",") (if row.sync then 1 else 0) → f ≡ e ++ field (codes ",") row.entry → new ≡ f ++ codes "]"
    → new ≡ old ++ compact_text (row_value row)
unfolding row_value
value_of_row row old a b c d e f new h1 h2 h3 h4 h5 h6 h7 =
    behind old a new _ _ h1 (behind a b new _ _ h2 (behind b c new _ _ h3 (behind c d new _ _ (signed row.comp c d h4) (behind d e new _ _ h5 (behind e f new _ _ h6 h7)))))
