use Rattle.std.proofs.Common.{take}
use Rattle.app_trace.proofs.FilesPlaced.{AreAdded}
use Rattle.app_trace.proofs.files.files_of.Given as goal

-- the files so far
abbrev pub invariant-loop-item : goal.invariant-loop-item
invariant-loop-item l = AreAdded (take l.item-index l.item-items) l.files
