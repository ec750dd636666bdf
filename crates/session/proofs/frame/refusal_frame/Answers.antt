use Rattle.session.specs.Frames.{refusal_errno}
use Rattle.session.proofs.ToldFrame.{refused}
use Rattle.session.proofs.frame.refusal_frame.Goals as goal

pub returns-clause-frame : goal.returns-clause-frame
returns-clause-frame c = refused c.args.unique c.errno_of.result (refusal_errno c.args.refused) c.told_frame.result c.errno_of.ensures c.told_frame.ensures.frame
