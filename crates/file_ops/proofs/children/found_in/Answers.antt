use Rattle.std.proofs.Common.{List, Option, sym, subst, ap, ◌∙◌, ℕ}
use Rattle.std.specs.Result.{IfOk}
use Rattle.portal_model.specs.Errno.{enoent}
use Rattle.node_looks.proofs.DoneLemmas.{handles-stay}
use Rattle.file_ops.specs.Children.{found_below}
use Rattle.file_ops.specs.Creates.{NumberingWith}
use Rattle.file_ops.specs.Tries.{done_of_tried}
use Rattle.file_ops.proofs.ChildWalks.{unlooked-so}
use Rattle.file_ops.proofs.Numberings.{same-named}
use Rattle.file_ops.proofs.children.found_in.Goals as goal

pub returns-in-Some-clause-ok : goal.returns-in-Some-clause-ok
returns-in-Some-clause-ok g c = λ table.
    subst (λ (o : Option (List ℕ)). IfOk c.found_at.result (λ tried. NumberingWith (found_below c.args.call.now.request.now c.args.parent.now o) c.args.call.now.seat table c.args.namings.now (g.T.HostTree.is c.args.tree.now) (done_of_tried tried) table c.found_at.new.namings
    (g.T.HostTree.is c.found_at.new.tree))) (sym c.in-Some.is ∙ c.in_ok-path.ensures) (c.found_at.ensures.ok table)

pub returns-in-None-clause-ok : goal.returns-in-None-clause-ok
returns-in-None-clause-ok g c = λ table has e.
    unlooked-so _ enoent c.args.call.now.seat table c.args.namings.now _ c.unlooked.result c.refused.result table c.args.namings.now
    (ap (λ (o : Option (List ℕ)). found_below c.args.call.now.request.now c.args.parent.now o has) (sym c.in_ok-path.ensures ∙ c.in-None.is)) c.unlooked.ensures c.refused.ensures.same (handles-stay c.args.call.now.seat table) (same-named c.args.call.now.seat c.args.namings.now)
