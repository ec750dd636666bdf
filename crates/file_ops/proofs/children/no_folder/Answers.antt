use Rattle.file_ops.proofs.ChildWalks.{refused-at-once}
use Rattle.file_ops.proofs.children.no_folder.Goals as goal

pub returns : goal.returns
returns c = refused-at-once c.args.look c.refusal_on_file.result c.at_once.result c.refusal_on_file.ensures c.at_once.ensures
