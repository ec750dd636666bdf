use Rattle.std.proofs.Common.{◌≡◌, ◌+◌, ◌-◌, ◌<◌, List, [], ◌∷◌, ◌++◌, drop, ap, arith, append_assoc, length-drop, ◌∙◌, sym}
use Rattle.portal_model.specs.declared.request.ForgetItem.{ForgetItem}
use Rattle.fuse_wire.specs.Bodies.{forget_one, forget_one_len, forget_ones}
use Rattle.fuse_wire.proofs.Nodes.{ones-next}
use Rattle.fuse_wire.proofs.body.forget_ones.Goals as goal

pub loop-done-preserved : goal.loop-done-preserved
loop-done-preserved c =
    let rest = c.loop-done.rest.now in
    let more : c.loop-done.done < c.args.count = omega (arith, c.loop-done-test.true) in
    let next = ones-next c.args.count c.loop-done.done rest more in (
      rw (c.in_ok-push.ensures.ok, c.forget_one.ensures, c.behind-rest.ensures) (
          append_assoc c.loop-done.nodes (forget_one rest ∷ []) (forget_ones (c.args.count - (c.loop-done.done + 1)) (drop forget_one_len rest))
          ∙ (ap (λ (x : List ForgetItem). c.loop-done.nodes ++ x) (sym next) ∙ c.loop-done.invariant.0)
          ),
      rw (c.behind-rest.ensures) (omega (arith, length-drop forget_one_len rest, c.loop-done.invariant.1, more)),
    )
