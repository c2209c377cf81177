use Rattle.mp4edit.proofs.Folds.{FoldsTo}
use Rattle.mp4edit.proofs.options.fold.Given as goal

abbrev pub invariant-loop-command : goal.invariant-loop-command
invariant-loop-command g l = FoldsTo l.commands l.command-index l.movie (g.F.Folder.state l.initial.folder) (g.F.Folder.state l.folder)
