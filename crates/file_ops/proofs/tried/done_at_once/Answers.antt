use Rattle.std.proofs.Common.{◌∙◌, ap, length}
use Rattle.file_ops.proofs.Tries.{first-two}
use Rattle.file_ops.proofs.tried.done_at_once.Goals as goal

pub done-requires : goal.done-requires
done-requires c = ap length c.truncate.ensures ∙ first-two c.args.room c.requires
