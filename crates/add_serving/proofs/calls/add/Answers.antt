use Rattle.std.proofs.Common.{ℕ, List, take, sym, ap, ◌∙◌}
use Rattle.portal_model.specs.declared.reply.Code.{Code}
use Rattle.portal_model.specs.AddArguments.{are_presented}
use Rattle.add_calls.specs.Placing.{book_of}
use Rattle.add_serving.specs.Outcomes.{refused_call}
use Rattle.add_serving.proofs.AddSteps.{add-draws, add-follows, not-presented}
use Rattle.add_serving.proofs.calls.add.Goals as goal

pub returns-then-not-are_presented-clause-ok : goal.returns-then-not-are_presented-clause-ok
returns-then-not-are_presented-clause-ok g c =
    not-presented c.args.add.now c.args.who.now c.args.queue.now (book_of c.args.documents.now c.args.grants.now c.args.applications.now) (g.T.HostTree.is c.args.tree.now).told (g.K.Keeper.is c.args.keeper.now) c.refused.result
    (ap (λ (queue : List (List ℕ)). are_presented queue c.args.add.now) (sym c.as_slice.ensures) ∙ sym c.if-not-are_presented.ensures) (c.refused.ensures ∙ ap (refused_call Code.InvalidArgs) c.new.ensures)

pub returns-in-Ok-clause-ok : goal.returns-in-Ok-clause-ok
returns-in-Ok-clause-ok g c =
    add-follows c.args.add.now c.args.who.now c.args.queue.now c.taken.result.now c.leave.new.queue (book_of c.args.documents.now c.args.grants.now c.args.applications.now)
    (book_of c.add_presented.new.documents c.add_presented.new.grants c.add_presented.new.applications) (g.T.HostTree.is c.args.tree.now).told (g.K.Keeper.is c.args.keeper.now) (g.K.Keeper.is c.add_presented.new.keeper)
    c.in-Ok.served (ap (λ (queue : List (List ℕ)). are_presented queue c.args.add.now) (sym c.as_slice.ensures) ∙ sym c.if-not-are_presented.ensures) (c.taken.ensures ∙ ap (take c.args.add.now.fds) c.as_slice-2.ensures) c.leave.ensures
    c.in-Ok.ensures.ok

pub returns-in-Err-clause-made : goal.returns-in-Err-clause-made
returns-in-Err-clause-made g c =
    add-draws c.args.add.now c.args.who.now c.args.queue.now c.taken.result.now (book_of c.args.documents.now c.args.grants.now c.args.applications.now) (g.T.HostTree.is c.args.tree.now).told (g.W.Words.told c.args.words.now) (g.W.Words.told c.add_presented.new.words)
    (ap (λ (queue : List (List ℕ)). are_presented queue c.args.add.now) (sym c.as_slice.ensures) ∙ sym c.if-not-are_presented.ensures) (c.taken.ensures ∙ ap (take c.args.add.now.fds) c.as_slice-2.ensures) c.in-Err.ensures.made
