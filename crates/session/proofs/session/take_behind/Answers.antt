use Rattle.std.proofs.Common.{ℕ, List, Err, inl, subst, ◌≡◌, ◌++◌, ◌∙◌, rules}
use Rattle.session.specs.Ledger.{Stops, world}
use Rattle.session.proofs.SessionCalls.{began_none}
use Rattle.session.proofs.session.take_behind.Goals as goal

-- there is no memory to hold the piece
pub returns-then-is_err-clause-stops : goal.returns-then-is_err-clause-stops
returns-then-is_err-clause-stops g c = inl (began_none _ _ _ _)

pub returns-in-Err-clause-stops : goal.returns-in-Err-clause-stops
returns-in-Err-clause-stops g c =
    let v = world (g.D.Desk.seated c.args.desk.now) (g.K.Sink.told c.args.sink.now) (g.K.Sink.faults c.args.sink.now) in
    let w = world (g.D.Desk.seated c.serve_items.new.desk) (g.K.Sink.told c.serve_items.new.sink) (g.K.Sink.faults c.serve_items.new.sink) in
    let grown : c.extend_from_slice.new.self.items ≡ c.args.held.now.items ++ c.args.piece.now = search rules in
    subst (λ (z : List ℕ). Stops c.args.client.now (Err c.in-Err.halt) c.args.stage.now v z c.serve_items.new.stage w) (c.as_slice.ensures ∙ grown) c.in-Err.ensures.stops
