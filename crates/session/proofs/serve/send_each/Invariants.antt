use Rattle.std.proofs.Common.{◌≡◌, take}
use Rattle.portal_base.specs.Outside.{onto}
use Rattle.session.proofs.serve.send_each.Given as goal

-- the pieces so far are written, and none failed
abbrev pub invariant-loop-piece : goal.invariant-loop-piece
invariant-loop-piece g l = record {
  told : g.K.Sink.told l.sink ≡ onto (g.K.Sink.told l.fn.sink) (take l.piece-index l.pieces);
  faults : g.K.Sink.faults l.sink ≡ g.K.Sink.faults l.fn.sink;
}
