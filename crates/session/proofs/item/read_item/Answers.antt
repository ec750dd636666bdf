use Rattle.std.proofs.Common.{length, subst}
use Rattle.session.specs.Cuts.{Cuts, whole_item}
use Rattle.session.specs.declared.phase.Phase.{Phase}
use Rattle.session.proofs.NextCut.{frame_whole, line_fits, message_whole}
use Rattle.session.proofs.item.read_item.Goals as goal

pub step-requires : goal.step-requires
step-requires c =
    line_fits c.in-Handshake.auth c.args.item.now (subst (λ (p : Phase). Cuts p c.args.item.now (whole_item (length c.args.item.now))) c.in-Handshake.is c.requires)

pub read_call-requires : goal.read_call-requires
read_call-requires c =
    message_whole c.args.item.now (subst (λ (p : Phase). Cuts p c.args.item.now (whole_item (length c.args.item.now))) c.in-Messages.is c.requires)

pub read_frame-requires : goal.read_frame-requires
read_frame-requires c =
    frame_whole c.args.item.now (subst (λ (p : Phase). Cuts p c.args.item.now (whole_item (length c.args.item.now))) c.in-Frames.is c.requires)

pub returns-in-Frames-clause-may_answer : goal.returns-in-Frames-clause-may_answer
returns-in-Frames-clause-may_answer c = c.read_frame.ensures.may_answer c.args.client.now
