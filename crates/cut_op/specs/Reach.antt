-- Whether a sample has a tick in common with one of some spans of the media.
use Rattle.std.specs.Prelude.{◌≡◌, ℕ, max, Bool, ◌&&◌, nat_lt, List, [], ◌∷◌}
use Rattle.std.specs.List.{list_any}
use Rattle.std.specs.List.Sorted.{IsNonDecreasingBy, IsPermutation}
use Rattle.mp_clip.specs.declared.touching.Span.{Span}
use Rattle.mp_clip.specs.Touched.{touches}

-- a range is some ticks, and has one in common with one of the spans
abbrev pub touches_any : (start end : ℕ) → List Span → Bool
touches_any start end spans = nat_lt start end && list_any (touches start end) spans

-- spans that each end where the latest of those up to it ends, and not before `latest`
abbrev pub reaching : (latest : ℕ) → List Span → List Span
reaching latest [] = []
reaching latest (span ∷ spans) = record span { to = max span.to latest } ∷ reaching (max span.to latest) spans

-- these spans in the order in which they start, each ending so
pub record AreInOrder (those spans : List Span) : Type 0 where
  pub sorted : List Span
  pub same : IsPermutation those sorted
  pub order : IsNonDecreasingBy (λ span. span.from) sorted
  pub reach : spans ≡ reaching 0 sorted
