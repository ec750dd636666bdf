use Rattle.std.proofs.Common.{◌∙◌}
use Rattle.add_calls.proofs.Giving.{taken-back}
use Rattle.add_calls.proofs.give.take_back.Goals as goal

pub returns-clause-rights : goal.returns-clause-rights
returns-clause-rights c = λ rights apps gave. c.remove.ensures ∙ taken-back c.args.app.now c.args.id c.args.rights c.args.given c.args.grants.now c.args.applications.now c.minus.result c.minus.ensures rights apps gave

pub returns-clause-applications : goal.returns-clause-applications
returns-clause-applications c = λ rights apps gave. c.take_number_back.ensures c.args.app.now apps gave.numbered.joined
