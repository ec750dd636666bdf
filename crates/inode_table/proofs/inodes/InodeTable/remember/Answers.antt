use Rattle.std.proofs.Common.{◌≡◌, ◌+◌, min, ap, rules}
use Rattle.inode_table.specs.Counts.{NodeCounts, count_of, most}
use Rattle.inode_table.proofs.CountLemmas.{still-counted, shown-as}
use Rattle.inode_table.proofs.inodes.InodeTable.remember.Goals as goal

pub invariant_of-self-2 : goal.invariant_of-self-2
invariant_of-self-2 c = record {
  differ = c.in_ok-insert.ensures.unique;
  counted = still-counted _ _ _ _ c.in_ok-insert.ensures.updates.0 (λ e. search rules) c.self.invariant.counted;
}

pub returns-clause-ok : goal.returns-clause-ok
returns-clause-ok c =
    let raised : c.saturating_add.result ≡ min (count_of c.args.self.now.counts c.args.seat c.args.node + 1) most = search rules in
    shown-as _ _ _ _ _ _ c.in_ok-insert.ensures.updates.0 (ap (λ (t : NodeCounts). t.counts) c.self.view_is) raised
