use Rattle.std.proofs.Common.{arith, ap, length, length-append}
use Rattle.portal_history.specs.Blocks.{InBlocks, joined}
use Rattle.portal_history.proofs.BlockLemmas.{length-joined}
use Rattle.portal_history.proofs.blocks.Blocks.len.Goals as goal

pub returns : goal.returns
returns c =
    let b = c.self.inside in
    omega (arith, length-joined b.full.items c.self.invariant.whole, length-append (joined b.full.items) b.last.items, ap (λ (v : InBlocks). length v.entries) c.self.view_is)
