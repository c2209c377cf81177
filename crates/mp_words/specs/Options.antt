-- The options of a line.
use Rattle.std.specs.Prelude.{ℕ, Bool, true, false, ◌||◌, List, [], ◌∷◌, codes, bytes_eq, Option, Some, None, is_some}
use Rattle.std.specs.Bool.{then_some}
use Rattle.mp_ports.specs.Checks.{first_some}
use Rattle.mp_words.specs.declared.options.LineOption.{LineOption}
use Rattle.mp_words.specs.declared.options.LineOption.TheVariants.{Add, Cat, Rem, Delay, SplitChunk, TrackScale, MovieScale, Lang, Enable, Disable, Inter, Out, Info, Timeline, Json, Gen}
use Rattle.mp_words.specs.declared.job.DumpKind.{DumpKind}
use Rattle.mp_words.specs.declared.job.DumpKind.TheVariants.{Info as OfInfo, Timeline as OfTimeline, Json as OfJson}

-- the option that a word names
abbrev pub option_of : List ℕ → Option LineOption
option_of word =
    first_some
    (then_some (bytes_eq word (codes "-add")) Add
    ∷ then_some (bytes_eq word (codes "-cat")) Cat
    ∷ then_some (bytes_eq word (codes "-rem")) Rem
    ∷ then_some (bytes_eq word (codes "-delay")) Delay
    ∷ then_some (bytes_eq word (codes "-split-chunk")) SplitChunk
    ∷ then_some (bytes_eq word (codes "-tscale")) TrackScale
    ∷ then_some (bytes_eq word (codes "-mscale")) MovieScale
    ∷ then_some (bytes_eq word (codes "-lang")) Lang
    ∷ then_some (bytes_eq word (codes "-enable")) Enable
    ∷ then_some (bytes_eq word (codes "-disable")) Disable
    ∷ then_some (bytes_eq word (codes "-inter")) Inter
    ∷ then_some (bytes_eq word (codes "-out")) Out
    ∷ then_some (bytes_eq word (codes "-info")) Info
    ∷ then_some (bytes_eq word (codes "-timeline")) Timeline
    ∷ then_some (bytes_eq word (codes "-json")) Json
    ∷ then_some (bytes_eq word (codes "-gen")) Gen
    ∷ [])

-- what a dump option tells
abbrev pub dump_kind : LineOption → Option DumpKind
dump_kind Info = Some OfInfo
dump_kind Timeline = Some OfTimeline
dump_kind Json = Some OfJson
dump_kind _ = None

abbrev pub is_gen : LineOption → Bool
is_gen Gen = true
is_gen _ = false

abbrev pub is_out : LineOption → Bool
is_out Out = true
is_out _ = false

-- the whole line is this option and its argument
abbrev pub stands_alone : LineOption → Bool
stands_alone option = is_some (dump_kind option) || is_gen option
