use Rattle.std.proofs.Common.{◌≡◌}
use Rattle.turn_desk.specs.Sights.{Stays}
use Rattle.turn_desk.proofs.waiting.WaitingSeatDesk.ask.Given as goal

abbrev pub invariant-loop : goal.invariant-loop
invariant-loop g l = record {
  goes : (goal.iterator-loop g).can_next l.iterator' × (goal.iterator-loop g).is_finite l.iterator';
  request : l.request ≡ l.fn.request;
  stays : Stays l.fn.self l.self-inside.seat;
  seen : l.self-inside.seat.knows.seen ≡ l.fn.self.knows.seen;
  mine : l.self-inside.seat.knows.mine ≡ l.fn.self.knows.mine;
  refusals : l.self-inside.seat.refusals ≡ l.fn.self.refusals;
}
