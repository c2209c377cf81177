use Rattle.std.proofs.Common.{◌≡◌, ◌++◌, map}
use Rattle.std.specs.List.{range_with_len}
use Rattle.generator.specs.Files.{frame_byte, frame_head}
use Rattle.generator.proofs.files.push_frame.Given as goal

abbrev pub invariant-loop-place : goal.invariant-loop-place
invariant-loop-place l = l.made.items ≡ l.fn.made.items ++ frame_head l.number ++ map (frame_byte l.number) (range_with_len 0 l.place)
