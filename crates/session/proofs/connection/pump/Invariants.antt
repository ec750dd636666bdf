use Rattle.std.proofs.Common.{◌≡◌, ℕ, ◌+◌, ◌-◌, ◌<◌, ◌≤◌, ◌^◌, List, length}
use Rattle.portal_base.specs.Outside.{behind}
use Rattle.session.specs.declared.served.Fed.TheVariants as fed
use Rattle.session.specs.declared.served.Stop.TheVariants as stop
use Rattle.session.specs.Ledger.{world}
use Rattle.session.specs.Pumps.{Kept}
use Rattle.session.specs.Sessions.{IsOpen}
use Rattle.session.proofs.connection.pump.Given as goal

abbrev pub invariant-pieces : goal.invariant-pieces
invariant-pieces g l = record {
  some : 0 < length l.buffer.items;
  most : length l.buffer.items ≤ 262144;
  so_far : (read : List ℕ) × (g.S.Source.left l.fn.source ≡ behind read (g.S.Source.left l.source)) × Kept l.fn.session.client read stop.More (world (g.D.Desk.seated l.fn.desk) (g.K.Sink.told l.fn.sink) (g.K.Sink.faults l.fn.sink)) l.session (world (g.D.Desk.seated l.desk) (g.K.Sink.told l.sink) (g.K.Sink.faults l.sink));
  faults : g.S.Source.faults l.source ≡ g.S.Source.faults l.fn.source;
  still : l.session.fed ≡ fed.More;
  client_is : l.session.client ≡ l.fn.session.client;
  stays : IsOpen l.fn.session.client (g.D.Desk.seated l.fn.desk) → IsOpen l.fn.session.client (g.D.Desk.seated l.desk);
  goes : g.D.Desk.goes l.fn.desk l.desk;
}

-- what the connection may still have
abbrev pub decreases-pieces : goal.decreases-pieces
decreases-pieces g l = 2 ^ 40 - (l.session.before + length l.session.rest)
