use Rattle.trace_items.proofs.NodeParts.{if-ok}
use Rattle.trace_items.proofs.OwnAddLaws.{reused-where, reused-nowhere}
use Rattle.trace_items.proofs.adds.reused_of.Goals as goal

pub returns-then-reuses : goal.returns-then-reuses
returns-then-reuses c = if-ok c.reused_files.result c.reused_files.ensures (λ ids e. reused-where c.args.add.now c.args.documents.now.live c.args.plan.now.items _ ids c.as_slice.ensures c.reuses.ensures c.if-reuses.true e)

pub returns : goal.returns
returns c = reused-nowhere c.args.add.now _ _ c.new.ensures c.reuses.ensures c.if-reuses.false
