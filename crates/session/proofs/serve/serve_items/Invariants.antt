use Rattle.std.proofs.Common.{◌-◌, ◌≤◌, length, take, drop}
use Rattle.session.specs.declared.served.Stop.TheVariants as stop
use Rattle.session.specs.Cuts.{Cuts, no_item}
use Rattle.session.specs.Ledger.{world, Did}
use Rattle.session.proofs.serve.serve_items.Given as goal

abbrev pub invariant-items : goal.invariant-items
invariant-items g l = record {
  within : l.len ≤ length l.bytes;
  seen : l.seen ≤ length (drop l.len l.bytes);
  too_few : Cuts l.stage.phase (take l.seen (drop l.len l.bytes)) (no_item stop.More);
  did : Did l.client l.fn.stage (world (g.D.Desk.seated l.fn.desk) (g.K.Sink.told l.fn.sink) (g.K.Sink.faults l.fn.sink)) (take l.len l.bytes) l.stage (world (g.D.Desk.seated l.desk) (g.K.Sink.told l.sink) (g.K.Sink.faults l.sink));
  goes : g.D.Desk.goes l.fn.desk l.desk;
}

abbrev pub decreases-items : goal.decreases-items
decreases-items g l = length l.bytes - l.len
