-- The times of an import: each picture lasts equally long (this project's own; H.264, E.2.1 for the timing of a stream).
use Rattle.std.specs.Prelude.{ℕ, zero, suc, ◌+◌, ◌*◌, ◌/◌, ◌%◌, ◌==◌, ◌||◌, if◌then◌else◌, Option, Some, None}
use Rattle.avc_import.specs.declared.rate.Rate.{Rate}
use Rattle.avc_import.specs.declared.schedule.Duration.{Duration}

-- 25 pictures a second, where nothing is said
abbrev pub usual : Duration
usual = record { n = 1; d = 25 }

-- by the timing of a stream: a picture lasts two ticks
abbrev pub timed : Option (ℕ × ℕ) → Duration
timed None = usual
timed (Some tick) = if (tick.0 == 0) || (tick.1 == 0) then usual else (record { n = 2 * tick.0; d = tick.1 })

-- how long a picture lasts: by the rate where one is given
abbrev pub lasting : Option Rate → Option (ℕ × ℕ) → Duration
lasting None tick = timed tick
lasting (Some rate) tick = record { n = rate.den; d = rate.num }

-- the first of these multiples of a scale, from `k` times it on, in which the duration is whole
abbrev pub first_whole : ℕ → ℕ → Duration → ℕ → ℕ
first_whole scale zero time k = k
first_whole scale (suc more) time k = if time.n * (scale * k) % time.d == 0 then k else first_whole scale more time (k + 1)

-- the least multiple of a scale in which the duration is whole: its d-th multiple is one
unfoldable pub least_whole : ℕ → Duration → ℕ
least_whole scale time = scale * first_whole scale time.d time 1

-- the ticks of a scale that the duration has
abbrev pub ticks_in : ℕ → Duration → ℕ
ticks_in scale time = time.n * scale / time.d

-- so many pictures together
abbrev pub together : ℕ → Duration → Duration
together pictures time = record { n = pictures * time.n; d = time.d }
