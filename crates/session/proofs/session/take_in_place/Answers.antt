use Rattle.std.proofs.Common.{◌++◌, sym, inl}
use Rattle.std.specs.Prelude.{ℕ, List}
use Rattle.std.proofs.Common.{subst}
use Rattle.session.specs.Ledger.{Began, world}
use Rattle.session.proofs.ServeItems.{began}
use Rattle.session.proofs.session.take_in_place.Goals as goal

-- there is no memory to hold what stands behind the items
pub returns-in-Err-clause-stops : goal.returns-in-Err-clause-stops
returns-in-Err-clause-stops g c =
    let v = world (g.D.Desk.seated c.args.desk.now) (g.K.Sink.told c.args.sink.now) (g.K.Sink.faults c.args.sink.now) in
    let w = world (g.D.Desk.seated c.serve_items.new.desk) (g.K.Sink.told c.serve_items.new.sink) (g.K.Sink.faults c.serve_items.new.sink) in
    let piece = c.args.piece.now in
    let front = began c.args.client.now c.args.stage.now c.serve_items.new.stage v w piece c.in_ok-run.run'.len c.in_ok-run.ensures.stops.1 in
    inl (subst (λ (z : List ℕ). Began c.args.client.now c.args.stage.now v (z ++ piece) w) (sym c.requires) front)
