use Rattle.std.proofs.Common.{ap}
use Rattle.portal_model.specs.declared.request.Request.{Request}
use Rattle.session.specs.Asked.{asked_by}
use Rattle.poll_steps.proofs.ask.take_room.Goals as goal

pub returns-in-Node-clause-needs : goal.returns-in-Node-clause-needs
returns-in-Node-clause-needs c = λ was. (Request.Node c.in-Node.request, ap asked_by c.in-Node.is)

pub returns-in-Portal-clause-needs : goal.returns-in-Portal-clause-needs
returns-in-Portal-clause-needs c = λ was. (c.in-Portal.request, ap asked_by c.in-Portal.is)
