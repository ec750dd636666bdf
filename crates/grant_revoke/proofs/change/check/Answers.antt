use Rattle.std.proofs.Common.{◌∙◌}
use Rattle.grant_revoke.proofs.ChangeLemmas.{call-everywhere, done-everywhere, plan-seen, refused-everywhere, sound-seen}
use Rattle.grant_revoke.proofs.change.check.Goals as goal

pub returns-clause-call : goal.returns-clause-call
returns-clause-call c =
    call-everywhere c.args.kind c.args.documents.now.live c.args.grants.now c.args.who.now c.args.call.now c.plan.result
    (c.plan.ensures
    ∙ plan-seen c.args.kind c.args.documents.now.live c.args.grants.now c.args.who.now c.args.call.now c.in_ok-app.app c.in_ok-rights.rights c.as_slice-2.result.now (c.in_ok-app.ensures.ok.0 ∙ c.as_slice.ensures) c.in_ok-rights.ensures.ok c.as_slice-2.ensures)

pub returns-clause-ok : goal.returns-clause-ok
returns-clause-ok c =
    done-everywhere c.args.kind c.args.documents.now.live c.args.grants.now c.args.who.now c.args.call.now c.plan.result
    (c.plan.ensures
    ∙ plan-seen c.args.kind c.args.documents.now.live c.args.grants.now c.args.who.now c.args.call.now c.in_ok-app.app c.in_ok-rights.rights c.as_slice-2.result.now (c.in_ok-app.ensures.ok.0 ∙ c.as_slice.ensures) c.in_ok-rights.ensures.ok c.as_slice-2.ensures)
    (sound-seen c.args.call.now c.as_slice.result.now c.as_slice.ensures c.in_ok-app.ensures.ok.1 c.in_ok-rights.ensures.known)

pub returns-clause-err : goal.returns-clause-err
returns-clause-err c =
    refused-everywhere c.args.kind c.args.documents.now.live c.args.grants.now c.args.who.now c.args.call.now c.plan.result
    (c.plan.ensures
    ∙ plan-seen c.args.kind c.args.documents.now.live c.args.grants.now c.args.who.now c.args.call.now c.in_ok-app.app c.in_ok-rights.rights c.as_slice-2.result.now (c.in_ok-app.ensures.ok.0 ∙ c.as_slice.ensures) c.in_ok-rights.ensures.ok c.as_slice-2.ensures)
    (sound-seen c.args.call.now c.as_slice.result.now c.as_slice.ensures c.in_ok-app.ensures.ok.1 c.in_ok-rights.ensures.known)
