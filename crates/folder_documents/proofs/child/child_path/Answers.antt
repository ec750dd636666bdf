use Rattle.folder_documents.proofs.BrokenPaths.{broken-child}
use Rattle.folder_documents.proofs.child.child_path.Goals as goal

pub returns-in-Err-BadName : goal.returns-in-Err-BadName
returns-in-Err-BadName c = broken-child c.args.parent.now c.args.name.now c.in-Err-BadName.field-0-0 (rw c.in-Err-BadName.field-0-is at c.in-Err-BadName.ensures.bad)
