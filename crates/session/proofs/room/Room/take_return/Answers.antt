use Rattle.std.proofs.Common.{ℕ, subst, arith}
use Rattle.bus_answers.specs.Begun.{IsBegunIf}
use Rattle.session.proofs.room.Room.take_return.Goals as goal

pub returns : goal.returns
returns c = (
  omega (arith, c.in_ok-reserve.ensures.ok),
  subst (λ (n : ℕ). IsBegunIf c.args.client.now.settings.mountpoint c.args.call.now n c.in_ok-begun.begun) c.serial_after-next.ensures c.in_ok-begun.ensures,
)
