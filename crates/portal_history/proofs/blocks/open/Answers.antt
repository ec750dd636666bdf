use Rattle.std.proofs.Common.{arith, ◌≡◌, [], ◌∷◌, ◌++◌, Global, Vec, sym, ap, subst, ◌∙◌}
use Rattle.portal_model.specs.declared.entry.Entry.{Entry}
use Rattle.portal_history.specs.Blocks.{closed_behind}
use Rattle.portal_history.proofs.BlockLemmas.{begins}
use Rattle.portal_history.proofs.blocks.open.Goals as goal

pub returns : goal.returns
returns c =
    let full = c.args.full.now in
    let last = c.args.last.now in
    let ahead = c.args.ahead.now in
    let next = c.replace-filled.new.dest in
    let left = c.take_last-next.new.self in
    let taken = subst (λ (v : Vec Entry Global). ahead.items ≡ left.items ++ v ∷ []) (sym c.replace-filled.ensures.after) c.take_last-next.ensures.items in
    let closed = c.close.ensures.blocks ∙ ap (λ (v : Vec Entry Global). closed_behind full.items v.items) c.replace-filled.ensures.value in
    begins full c.close.new.full last next ahead left c.requires.stand (omega arith) taken c.take_last-next.ensures.len closed c.close.ensures.len c.close.ensures.capacity
