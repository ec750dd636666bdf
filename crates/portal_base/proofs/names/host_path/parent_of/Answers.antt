use Rattle.std.proofs.Common.{◌∙◌, arith}
use Rattle.portal_base.proofs.Parents.{root_path, ahead_path, root_parent, ahead_parent}
use Rattle.portal_base.proofs.names.host_path.parent_of.Goals as goal

pub returns-then-behind-le1-clause-value : goal.returns-then-behind-le1-clause-value
returns-then-behind-le1-clause-value c =
    let b = c.behind_last_slash-behind in
    root_parent c.args.text.now b.result b.ensures.within b.ensures.place c.if-behind-le1.true

pub returns-then-behind-le1-clause-rule : goal.returns-then-behind-le1-clause-rule
returns-then-behind-le1-clause-rule c = λ h. root_path

pub returns-clause-value : goal.returns-clause-value
returns-clause-value c =
    let b = c.behind_last_slash-behind in
    let f = c.if-behind-le1.false in
    c.split_at.ensures.front ∙ ahead_parent c.args.text.now b.result b.ensures.within b.ensures.place (omega arith)

pub returns-clause-rule : goal.returns-clause-rule
returns-clause-rule c =
    let b = c.behind_last_slash-behind in
    let f = c.if-behind-le1.false in
    λ h. rw c.split_at.ensures.front (ahead_path c.args.text.now b.result b.ensures.within (omega arith) (b.ensures.slash (omega arith)) h)
