use Rattle.document_calls.proofs.AddedRights.{taken-back-seen}
use Rattle.document_calls.proofs.granting.give_rights.Goals as goal

pub returns-in-Ok-true-clause-given : goal.returns-in-Ok-true-clause-given
returns-in-Ok-true-clause-given g c =
    taken-back-seen c.args.plan.now.app c.args.plan.now.id c.args.plan.now.rights c.args.grants.now c.add.new.self c.remove.new.self c.minus-gained.result c.rights.result
    c.rights.ensures.order c.rights.ensures.held c.minus-gained.ensures c.in_ok-add.ensures.ok c.remove.ensures

pub returns-in-Err-clause-grants : goal.returns-in-Err-clause-grants
returns-in-Err-clause-grants g c =
    taken-back-seen c.args.plan.now.app c.args.plan.now.id c.args.plan.now.rights c.args.grants.now c.add.new.self c.remove-in-Err.new.self c.minus-gained.result c.rights.result
    c.rights.ensures.order c.rights.ensures.held c.minus-gained.ensures c.in_ok-add.ensures.ok c.remove-in-Err.ensures
