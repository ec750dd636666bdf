use Rattle.std.proofs.Common.{◌∙◌, Option, sym, subst}
use Rattle.portal_model.specs.declared.request.NodeOp.TheVariants as NodeOp
use Rattle.portal_model.specs.GetAttr.{get_attr}
use Rattle.portal_model.specs.Place.{Sight, reach_at}
use Rattle.portal_model.specs.State.{handle_of}
use Rattle.portal_base.specs.declared.who.Who.{Who}
use Rattle.node_looks.specs.Sights.{naming_by, node_seen, temp_by}
use Rattle.node_looks.specs.Walks.{Follows}
use Rattle.node_looks.proofs.DoneLemmas.{handle-is}
use Rattle.node_looks.proofs.Follow.{seen-by-caller}
use Rattle.node_looks.proofs.OpenFiles.{follows-does-at, with-handle}
use Rattle.node_looks.proofs.described.get_attr.Goals as goal

pub returns-clause-ok : goal.returns-clause-ok
returns-clause-ok g c = λ op. follows-does-at (naming_by c.args.own) (temp_by c.args.own) c.args.book.now c.args.call.now c.args.handles.now _ c.described-asked.result c.done.result _ (NodeOp.GetAttr c.args.flags c.args.fh) op tt c.done.ensures (λ s d a h.
    let r = c.args.call.now.request.now in
    let who = c.args.call.now.who.now in
    let old = g.T.HostTree.is c.args.tree.now in
    let new = g.T.HostTree.is c.described-asked.new.tree in
    subst (λ (sight : Option Sight). Follows (get_attr (reach_at s d.who) r c.args.flags sight (handle_of s.handles d.seat c.args.fh)) old c.described-asked.result new) (sym (seen-by-caller s d who r.node (naming_by c.args.own) (temp_by c.args.own) a.caller h.naming_is h.temp_is))
    (subst (λ (w : Who). Follows (get_attr (reach_at s w) r c.args.flags (node_seen s who c.args.own r.node) (handle_of s.handles d.seat c.args.fh)) old c.described-asked.result new) (sym a.caller)
    (with-handle (get_attr (reach_at s who) r c.args.flags (node_seen s who c.args.own r.node)) _ _ _ _ _
    (sym (c.get-handle.ensures.handle ∙ handle-is s d c.args.book.now c.args.call.now c.args.handles.now _ a c.args.fh))
    (c.described-asked.ensures s a.lists))))
