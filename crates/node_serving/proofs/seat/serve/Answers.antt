use Rattle.std.proofs.Common.{List, ap, option_copied, refl, subst, sym, ◌∙◌}
use Rattle.portal_model.specs.declared.state.Connection.{Connection}
use Rattle.portal_model.specs.State.{connection_of}
use Rattle.portal_model.specs.Step.{mount_of}
use Rattle.file_ops.specs.SeatNames.{own_tables}
use Rattle.node_serving.specs.Seats.{ServesSeat}
use Rattle.node_serving.proofs.SeatSteps.{serves-mount, serves-nobody}
use Rattle.node_serving.proofs.seat.serve.Goals as goal

pub returns-in_default-clause-ok : goal.returns-in_default-clause-ok
returns-in_default-clause-ok g c = λ s x.
    let nobody = ap (λ (l : List Connection). mount_of (connection_of l c.args.seat)) (sym c.as_slice.ensures) ∙ sym c.in_default.ensures in
    serves-nobody s c.args.book.now c.args.connections.now c.args.handles.now (own_tables c.args.namings.now c.args.temps.now) (g.T.HostTree.is c.args.tree.now) c.not_here.result x c.args.seat c.args.request.now nobody c.not_here.ensures

pub returns-clause-ok : goal.returns-clause-ok
returns-clause-ok g c = λ s x.
    let old = g.T.HostTree.is c.args.tree.now in
    let new = g.T.HostTree.is c.serve_node.new.tree in
    let done = c.in_ok-done.done in
    let after = c.serve_node.new.handles in
    let here = ap (λ (l : List Connection). mount_of (connection_of l c.args.seat)) (sym c.as_slice.ensures) ∙ (sym c.mount_of.ensures ∙ ap option_copied c.in-Some.is) in
    subst (λ (l : List Connection). ServesSeat s c.args.seat c.args.request.now old done l after (own_tables c.serve_node.new.namings c.serve_node.new.temps) new) (sym c.number.ensures.numbered)
    (serves-mount s c.args.book.now c.args.connections.now c.args.handles.now (own_tables c.args.namings.now c.args.temps.now) old done x (record { seat = c.args.seat; who = _; request = c.args.request }) after (own_tables c.serve_node.new.namings c.serve_node.new.temps) new c.in-Some.connection.now here refl c.in_ok-done.ensures.ok)
