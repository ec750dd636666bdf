use Rattle.std.proofs.Common.{◌≡◌, ◌∙◌, ap, false, sym, true}
use Rattle.file_ops.specs.Creates.{is_nowhere}
use Rattle.file_ops.proofs.created.target_at.Goals as goal

pub unreachable-requires : goal.unreachable-requires
unreachable-requires c = let no : false ≡ true = ap is_nowhere (sym c.in-Below.is) ∙ c.requires in cc

pub unreachable-requires-in-Folder : goal.unreachable-requires-in-Folder
unreachable-requires-in-Folder c = let no : false ≡ true = ap is_nowhere (sym c.in-Folder.is) ∙ c.requires in cc
