-- Commands on plain values, worked out by hand.
use Rattle.std.proofs.Common.{◌≡◌, true, false, [], ◌∷◌, refl}
use Rattle.std.specs.Prelude.{codes}
use Rattle.mp_timeline.specs.Plain.{plain_track_head}
use Rattle.track_ops.specs.declared.heads.HeadChange.TheVariants.{Enabled}
use Rattle.track_ops.specs.Heads.{changed, language_of}
use Rattle.track_ops.specs.Numbers.{numbers_for}

german : language_of (codes "deu") ≡ 0x10B5
german = refl

undetermined : language_of (codes "und") ≡ 0x55C4
undetermined = refl

disabled : (changed (Enabled false) (plain_track_head (codes "vide"))).flags ≡ 2
disabled = refl

enabled : (changed (Enabled true) (plain_track_head (codes "vide"))).flags ≡ 3
enabled = refl

-- ---- numbers

-- tracks 1 and 2 behind a track 1
behind_one : numbers_for (1 ∷ []) (1 ∷ 2 ∷ []) ≡ 2 ∷ 3 ∷ []
behind_one = refl

-- the second track of a file, and then its first
second_then_first : numbers_for (2 ∷ []) (1 ∷ []) ≡ 1 ∷ []
second_then_first = refl

-- the greatest number twice, though 1 is free
none_behind : numbers_for (0xFFFFFFFF ∷ []) (0xFFFFFFFF ∷ []) ≡ 0x100000000 ∷ []
none_behind = refl

-- the same with a number that is free
one_is_free : numbers_for (0xFFFFFFFF ∷ []) (1 ∷ []) ≡ 1 ∷ []
one_is_free = refl
