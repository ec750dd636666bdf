use Rattle.std.proofs.Common.{ap, subst, List, ℕ}
use Rattle.inode_table.specs.declared.inodes.SeatNode.{SeatNode}
use Rattle.inode_table.specs.Counts.{NodeCounts, IsEmptied}
use Rattle.inode_table.proofs.CountLemmas.{emptied, counts-elsewhere}
use Rattle.inode_table.proofs.inodes.InodeTable.leave.Goals as goal

pub invariant_of-self : goal.invariant_of-self
invariant_of-self c = counts-elsewhere c.args.seat _ _ c.leave_others.ensures.counts c.self.invariant

pub returns-clause-counts : goal.returns-clause-counts
returns-clause-counts c =
    subst (λ (es : List (SeatNode × ℕ)). IsEmptied es c.leave_others.new.counts.entries c.args.seat) (ap (λ (t : NodeCounts). t.counts) c.self.view_is)
    (emptied c.args.seat _ _ c.leave_others.ensures.counts)
