use Rattle.std.proofs.Common.{◌++◌, ℕ, List, sym, ap, ◌∙◌, arith}
use Rattle.std.proofs.lemmas.List.{append-nil}
use Rattle.poll_steps.proofs.Sending.{put_more}
use Rattle.poll_steps.proofs.send.put_each.Goals as goal

pub pieces-init : goal.pieces-init
pieces-init c = sym (append-nil c.args.unsent.now.items)

pub pieces-preserved : goal.pieces-preserved
pieces-preserved c =
    put_more c.args.unsent.now.items c.pieces.unsent.items c.extend_from_slice.new.self.items c.args.pieces.now c.pieces.piece-index c.piece-item.result (omega arith) c.piece-item.is c.pieces.invariant
    (c.in_ok-extend_from_slice.ensures.ok ∙ ap (λ (z : List ℕ). c.pieces.unsent.items ++ z) c.as_slice.ensures)
