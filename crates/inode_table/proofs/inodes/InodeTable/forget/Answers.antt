use Rattle.std.proofs.Common.{◌≡◌, ◌-◌, ap, sym, subst, List, rules}
use Rattle.std.specs.List.{IsDistinct}
use Rattle.inode_table.specs.declared.inodes.SeatNode.{SeatNode}
use Rattle.inode_table.specs.Counts.{NodeCounts, count_of, is_same_node}
use Rattle.inode_table.proofs.CountLemmas.{still-counted, shown-as}
use Rattle.inode_table.proofs.inodes.InodeTable.forget.Goals as goal

pub invariant_of-self : goal.invariant_of-self
invariant_of-self c = record {
  differ = subst (λ (ks : List SeatNode). IsDistinct is_same_node ks) (sym c.lower.ensures.keys) c.self.invariant.differ;
  counted = still-counted _ _ _ _ c.lower.ensures.updates.0 (λ e. search rules) c.self.invariant.counted;
}

pub invariant_of-self-else-get-count : goal.invariant_of-self-else-get-count
invariant_of-self-else-get-count c = record {
  differ = c.swap_remove.ensures.unique;
  counted = still-counted _ _ _ _ c.swap_remove.ensures.updates.0 (λ e. cc) c.self.invariant.counted;
}

pub returns-else-get-count-clause-counts : goal.returns-else-get-count-clause-counts
returns-else-get-count-clause-counts c =
    let gone : 0 ≡ count_of c.args.self.now.counts c.args.seat c.args.node - c.args.count = search rules in
    shown-as _ _ _ _ _ _ c.swap_remove.ensures.updates.0 (ap (λ (t : NodeCounts). t.counts) c.self.view_is) gone
