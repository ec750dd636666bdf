use Rattle.std.proofs.Common.{rules}
use Rattle.std.proofs.lemmas.Map.Made.{filter_same_pairs}
use Rattle.inode_table.specs.Counts.{is_elsewhere}
use Rattle.inode_table.proofs.inodes.leave_others.Goals as goal

pub returns-clause-counts : goal.returns-clause-counts
returns-clause-counts c = filter_same_pairs _ (is_elsewhere c.args.seat) _ (λ k v b w f' t. search rules) _ _ c.retain.ensures.filtered
