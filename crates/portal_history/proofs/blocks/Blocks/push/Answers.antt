use Rattle.std.proofs.Common.{ap, ◌-◌, ◌∙◌, ◌++◌, [], ◌∷◌}
use Rattle.portal_history.specs.Blocks.{InBlocks}
use Rattle.portal_history.proofs.BlockLemmas.{filled, filled-items, filled-room}
use Rattle.portal_history.proofs.blocks.Blocks.push.Goals as goal

pub invariant_of-self : goal.invariant_of-self
invariant_of-self c =
    let old = c.self.inside in
    let new = c.open.new in
    let pushed = c.push_reserved in
    filled old.full new.full old.last new.last pushed.new.self old.ahead new.ahead c.open.ensures c.args.entry pushed.ensures.items pushed.ensures.len pushed.ensures.capacity

pub returns : goal.returns
returns c =
    let old = c.self.inside in
    let new = c.open.new in
    let pushed = c.push_reserved in
    let items = filled-items old.full new.full old.last new.last pushed.new.self old.ahead new.ahead c.open.ensures c.args.entry pushed.ensures.items pushed.ensures.len pushed.ensures.capacity in
    let room = filled-room old.full new.full old.last new.last pushed.new.self old.ahead new.ahead c.open.ensures c.args.entry pushed.ensures.items pushed.ensures.len pushed.ensures.capacity in
    (λ i. record { entries = items i; spare = room i })
    ∙ ap (λ (v : InBlocks). record { entries = v.entries ++ c.args.entry ∷ []; spare = v.spare - 1 }) c.self.view_is
