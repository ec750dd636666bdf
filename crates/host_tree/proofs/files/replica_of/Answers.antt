use Rattle.std.proofs.Common.{◌∙◌}
use Rattle.std.specs.BTreeMap.{insert_entry}
use Rattle.portal_base.specs.PathOrder.{path_order}
use Rattle.host_tree.proofs.Entries.{copied-on}
use Rattle.host_tree.proofs.files.replica_of.Goals as goal

pub loop-path-preserved-in_ok-insert : goal.loop-path-preserved-in_ok-insert
loop-path-preserved-in_ok-insert c = copied-on c.args.map.now.entries c.loop-path.copy.entries c.insert.new.self.entries c.loop-path.path-iterator c.next.new.self c.in-Some.path.now c.in-Some.stored.now
    c.iter-path-items.ensures.ordered c.loop-path.invariant c.in-Some.ensures.steps
    (c.in_ok-insert.ensures.entries ∙ (λ i. insert_entry path_order c.loop-path.copy.entries (c.in_ok-replica.ensures i) (c.in_ok-replica-2.ensures i)))

pub loop-path-preserved : goal.loop-path-preserved
loop-path-preserved c = copied-on c.args.map.now.entries c.loop-path.copy.entries c.insert.new.self.entries c.loop-path.path-iterator c.next.new.self c.in-Some.path.now c.in-Some.stored.now
    c.iter-path-items.ensures.ordered c.loop-path.invariant c.in-Some.ensures.steps
    (c.in_ok-insert.ensures.entries ∙ (λ i. insert_entry path_order c.loop-path.copy.entries (c.in_ok-replica.ensures i) (c.in_ok-replica-2.ensures i)))
