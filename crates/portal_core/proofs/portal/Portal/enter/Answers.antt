use Rattle.std.proofs.Common.{◌≡◌, List, [], ◌∷◌, ap, arith, false, is_some, length, length-append, rules, refl, subst, sym, ◌∙◌}
use Rattle.node_looks.specs.OpenHandles.{AreOpen}
use Rattle.file_ops.specs.SeatNames.{own_tables}
use Rattle.portal_model.specs.declared.entry.Fault.TheVariants as Fault
use Rattle.portal_model.specs.declared.reply.Answer.{Answer}
use Rattle.portal_model.specs.declared.reply.Code.TheVariants as Code
use Rattle.portal_model.specs.declared.request.Request.TheVariants as Request
use Rattle.portal_model.specs.Enter.{new_connection}
use Rattle.portal_model.specs.State.{connection_of}
use Rattle.portal_model.specs.Step.{reply_at, reply_with}
use Rattle.portal_steps.specs.Served.{entry_of}
use Rattle.portal_steps.specs.Story.{PortalIs, state_now}
use Rattle.portal_steps.proofs.Steps.{closed, keeps-entered, new_replied, stands_new, stands_there, stands_wanting, stored_new, stored_there, there_replied, unheard, unnamed_now, unowned_now}
use Rattle.portal_steps.proofs.NodeSteps.{alike-same}
use Rattle.portal_steps.proofs.WentDevices.{went-plain}
use Rattle.portal_model.specs.Opening.{opened_over}
use Rattle.portal_core.proofs.HeldCounts.{held_same}
use Rattle.portal_model.specs.declared.state.Connection.{Connection}
use Rattle.std.proofs.lemmas.Result.{err_from_is_err_and}
use Rattle.portal_core.proofs.portal.Portal.enter.Goals as goal

pub invariant_of-self-then-is_here : goal.invariant_of-self-then-is_here
invariant_of-self-then-is_here g c =
    let room = rw (c.as_slice-2.ensures) at c.in_ok-make_room.ensures.room in
    rw (c.push.ensures, c.in_ok-make_room.ensures.entries, c.in_ok-make_room.ensures.limit, c.entry_made-refused.ensures, c.in_ok-name.ensures) (
      stands_there (g.T.HostTree.is c.self.inside.tree).began c.self.inside.opening c.self.inside.history.entries c.self.inside.history.limit c.self.inside.documents c.self.inside.rights c.self.inside.applications c.self.inside.connections c.self.inside.handles (own_tables c.self.inside.namings c.self.inside.temps) (g.T.HostTree.is c.self.inside.tree).told c.self.invariant.0
          c.args.seat c.args.who c.args.kind c.check_caller.ensures (search rules) (rw (← c.self.view_is) at c.requires),
      omega (arith, room),
      keeps-entered (g.T.HostTree.is c.self.inside.tree).began c.self.inside.opening c.self.inside.history.entries c.self.inside.history.limit c.self.inside.documents c.self.inside.rights c.self.inside.applications c.self.inside.connections c.self.inside.handles (own_tables c.self.inside.namings c.self.inside.temps) (g.T.HostTree.is c.self.inside.tree).told c.self.invariant.0 c.args.seat c.args.who c.args.kind (g.K.Keeper.is c.self.inside.keeper).told c.self.invariant.2,
      stored_there (g.T.HostTree.is c.self.inside.tree).began c.self.inside.opening c.self.inside.history.entries c.self.inside.history.limit c.self.inside.documents c.self.inside.rights c.self.inside.applications c.self.inside.connections c.self.inside.handles (own_tables c.self.inside.namings c.self.inside.temps) (g.T.HostTree.is c.self.inside.tree).told c.self.invariant.0 c.args.seat c.args.who c.args.kind c.self.inside.tables c.self.inside.outboxes (search rules) c.self.invariant.3,
      c.self.invariant.4,
      held_same (opened_over (g.T.HostTree.is c.self.inside.tree).began c.self.inside.opening) c.self.inside.history.entries (entry_of c.args.seat (Request.Enter c.args.who c.args.kind) [] Fault.None) c.self.inside.counts.counts (λ answer held. refl) c.self.invariant.5,
    )

pub invariant_of-self-2 : goal.invariant_of-self-2
invariant_of-self-2 g c =
    let room = rw (c.as_slice-2.ensures) at c.in_ok-make_room.ensures.room in
    let named = rw (c.opened_connection.ensures) at c.in_ok-enter.ensures.named in
    let begun = rw (c.opened_connection.ensures) at c.in_ok-enter.ensures.begun in
    rw (c.push-2.ensures, c.in_ok-make_room.ensures.entries, c.in_ok-make_room.ensures.limit, c.in_ok-enter.ensures.connected, c.opened_connection.ensures, c.entry_made-entry.ensures, c.in_ok-name.ensures) (
      stands_new (g.T.HostTree.is c.self.inside.tree).began c.self.inside.opening c.self.inside.history.entries c.self.inside.history.limit c.self.inside.documents c.self.inside.rights c.self.inside.applications c.self.inside.connections c.self.inside.handles (own_tables c.self.inside.namings c.self.inside.temps) (g.T.HostTree.is c.self.inside.tree).told c.self.invariant.0
          c.args.seat c.args.who c.args.kind c.enter.new.handles (own_tables c.enter.new.namings c.enter.new.temps) c.check_caller.ensures (search rules) (search rules) (search rules) (record { names = named; temps = begun; taken = c.enter.ensures.taken }) (rw (← c.self.view_is) at c.requires),
      rw (length-append c.self.inside.connections (new_connection c.args.seat c.args.who c.args.kind ∷ [])) (omega (arith, room)),
      keeps-entered (g.T.HostTree.is c.self.inside.tree).began c.self.inside.opening c.self.inside.history.entries c.self.inside.history.limit c.self.inside.documents c.self.inside.rights c.self.inside.applications c.self.inside.connections c.self.inside.handles (own_tables c.self.inside.namings c.self.inside.temps) (g.T.HostTree.is c.self.inside.tree).told c.self.invariant.0 c.args.seat c.args.who c.args.kind (g.K.Keeper.is c.self.inside.keeper).told c.self.invariant.2,
      stored_new (g.T.HostTree.is c.self.inside.tree).began c.self.inside.opening c.self.inside.history.entries c.self.inside.history.limit c.self.inside.documents c.self.inside.rights c.self.inside.applications c.self.inside.connections c.self.inside.handles (own_tables c.self.inside.namings c.self.inside.temps) (g.T.HostTree.is c.self.inside.tree).told c.self.invariant.0 c.args.seat c.args.who c.args.kind c.self.inside.tables c.self.inside.outboxes c.enter.new.outboxes (search rules) (rw (c.opened_connection.ensures) at c.in_ok-enter.ensures.heard) c.self.invariant.3,
      c.self.invariant.4,
      held_same (opened_over (g.T.HostTree.is c.self.inside.tree).began c.self.inside.opening) c.self.inside.history.entries (entry_of c.args.seat (Request.Enter c.args.who c.args.kind) [] Fault.None) c.self.inside.counts.counts (λ answer held. refl) c.self.invariant.5,
    )

pub enter-requires-clause-outboxes : goal.enter-requires-clause-outboxes
enter-requires-clause-outboxes g c =
    let free : is_some (connection_of c.self.inside.connections c.args.seat) ≡ false = search rules in
    rw (c.opened_connection.ensures) (unheard (g.T.HostTree.is c.self.inside.tree).began c.self.inside.opening c.self.inside.history.entries c.self.inside.history.limit c.self.inside.documents c.self.inside.rights c.self.inside.applications c.self.inside.connections c.self.inside.handles (own_tables c.self.inside.namings c.self.inside.temps) (g.T.HostTree.is c.self.inside.tree).told c.self.invariant.0 c.args.seat c.self.inside.tables c.self.inside.outboxes free c.self.invariant.3)

pub enter-requires-clause-handles : goal.enter-requires-clause-handles
enter-requires-clause-handles g c =
    let free : is_some (connection_of c.self.inside.connections c.args.seat) ≡ false = search rules in
    rw (c.opened_connection.ensures) (closed (g.T.HostTree.is c.self.inside.tree).began c.self.inside.opening c.self.inside.history.entries c.self.inside.history.limit c.self.inside.documents c.self.inside.rights c.self.inside.applications c.self.inside.connections c.self.inside.handles (own_tables c.self.inside.namings c.self.inside.temps) (g.T.HostTree.is c.self.inside.tree).told c.self.invariant.0 c.args.seat free)

pub enter-requires-clause-names : goal.enter-requires-clause-names
enter-requires-clause-names g c =
    let free : is_some (connection_of c.self.inside.connections c.args.seat) ≡ false = search rules in
    rw (c.opened_connection.ensures) (unnamed_now (g.T.HostTree.is c.self.inside.tree).began c.self.inside.opening c.self.inside.history.entries c.self.inside.history.limit c.self.inside.documents c.self.inside.rights c.self.inside.applications c.self.inside.connections c.self.inside.handles (own_tables c.self.inside.namings c.self.inside.temps) (g.T.HostTree.is c.self.inside.tree).told c.self.invariant.0 c.args.seat free)

pub enter-requires-clause-temps : goal.enter-requires-clause-temps
enter-requires-clause-temps g c =
    let free : is_some (connection_of c.self.inside.connections c.args.seat) ≡ false = search rules in
    rw (c.opened_connection.ensures) (unowned_now (g.T.HostTree.is c.self.inside.tree).began c.self.inside.opening c.self.inside.history.entries c.self.inside.history.limit c.self.inside.documents c.self.inside.rights c.self.inside.applications c.self.inside.connections c.self.inside.handles (own_tables c.self.inside.namings c.self.inside.temps) (g.T.HostTree.is c.self.inside.tree).told c.self.invariant.0 c.args.seat free)

pub invariant_of-self-in_err-enter : goal.invariant_of-self-in_err-enter
invariant_of-self-in_err-enter g c =
    let room = rw (c.as_slice-2.ensures) at c.in_ok-make_room.ensures.room in
    let boxes = c.in_err-enter.ensures.outboxes in
    let st = c.self.invariant.3 in
    let same : c.enter.new.handles ≡ c.self.inside.handles = λ i. record { most = c.enter.ensures.limit i; seats = c.in_err-enter.ensures.handles i } in
    rw (c.in_err-enter.ensures.connections, c.in_ok-make_room.ensures.entries, c.in_ok-make_room.ensures.limit) (
      stands_wanting (g.T.HostTree.is c.self.inside.tree).began c.self.inside.opening c.self.inside.history.entries c.self.inside.history.limit c.self.inside.documents c.self.inside.rights c.self.inside.applications c.self.inside.connections c.self.inside.handles (own_tables c.self.inside.namings c.self.inside.temps) (g.T.HostTree.is c.self.inside.tree).told c.self.invariant.0
          c.enter.new.handles (own_tables c.enter.new.namings c.enter.new.temps) (λ s a. subst (AreOpen s) (sym same) a) (record { names = c.in_err-enter.ensures.names; temps = (c.in_err-enter.ensures.temps, c.enter.ensures.taken) }),
      omega (arith, room),
      c.self.invariant.2,
      record { stored = st.stored; waiting = λ q. boxes q ∙ st.waiting q },
      c.self.invariant.4,
      c.self.invariant.5,
    )

pub returns-then-is_here-clause-ok : goal.returns-then-is_here-clause-ok
returns-then-is_here-clause-ok g c =
    let replied : reply_with [] (Answer.Refused Code.NotHere) ≡ reply_at (state_now c.args.self.now.story) (entry_of c.args.seat (Request.Enter c.args.who c.args.kind) [] Fault.None) =
    rw (← c.self.view_is) (there_replied (g.T.HostTree.is c.self.inside.tree).began c.self.inside.opening c.self.inside.history.entries c.self.inside.history.limit c.self.inside.documents c.self.inside.rights c.self.inside.applications c.self.inside.connections c.self.inside.handles (own_tables c.self.inside.namings c.self.inside.temps) (g.T.HostTree.is c.self.inside.tree).told c.self.invariant.0 c.args.seat c.args.who c.args.kind (search rules)) in
    record {
      entry = c.entry_made-refused.result;
      grown = search rules;
      seat_is = search rules;
      request_is = search rules;
      lawful = search rules;
      reply_is = alike-same _ _ _ _ refl (c.silent_reply.ensures ∙ rw (c.entry_made-refused.ensures) replied);
      went = went-plain _ _ _ _ _ _ _ (search rules) (search rules) (search rules) (search rules) (search rules) (search rules) (search rules) (search rules) (search rules) (search rules) (search rules) (search rules);
    }

pub returns-clause-ok : goal.returns-clause-ok
returns-clause-ok g c =
    let replied : reply_with [] Answer.Done ≡ reply_at (state_now c.args.self.now.story) (entry_of c.args.seat (Request.Enter c.args.who c.args.kind) [] Fault.None) =
    rw (← c.self.view_is) (new_replied (g.T.HostTree.is c.self.inside.tree).began c.self.inside.opening c.self.inside.history.entries c.self.inside.history.limit c.self.inside.documents c.self.inside.rights c.self.inside.applications c.self.inside.connections c.self.inside.handles (own_tables c.self.inside.namings c.self.inside.temps) (g.T.HostTree.is c.self.inside.tree).told c.self.invariant.0 c.args.seat c.args.who c.args.kind (search rules)) in
    record {
      entry = c.entry_made-entry.result;
      grown = search rules;
      seat_is = search rules;
      request_is = search rules;
      lawful = search rules;
      reply_is = alike-same _ _ _ _ refl (c.silent_reply-2.ensures ∙ rw (c.entry_made-entry.ensures) replied);
      went = went-plain _ _ _ _ _ _ _ (search rules) (search rules) (search rules) (search rules) (search rules) (search rules) (search rules) (search rules) (search rules) (search rules) (search rules) (search rules);
    }

-- ---- memory that was taken ahead

pub returns-in_err-name-clause-remains : goal.returns-in_err-name-clause-remains
returns-in_err-name-clause-remains g c =
    let is_err = err_from_is_err_and c.from_residual.result c.from_residual.ensures.1 in
    rw is_err.1 (omega (arith, ap (λ (p : PortalIs _ _ _ _). p.spare) c.self.view_is))

pub returns-in_err-make_room-clause-remains : goal.returns-in_err-make_room-clause-remains
returns-in_err-make_room-clause-remains g c =
    let is_err = err_from_is_err_and c.from_residual-in_err-make_room.result c.from_residual-in_err-make_room.ensures.1 in
    rw is_err.1 (omega (arith, ap (λ (p : PortalIs _ _ _ _). p.spare) c.self.view_is, c.in_err-make_room.ensures.spare))

pub returns-in_err-enter-clause-remains : goal.returns-in_err-enter-clause-remains
returns-in_err-enter-clause-remains g c =
    let as_many = ap (λ (l : List Connection). length l) c.in_err-enter.ensures.connections in
    let is_err = err_from_is_err_and c.from_residual-in_err-enter.result c.from_residual-in_err-enter.ensures.1 in
    rw is_err.1 (omega (arith, ap (λ (p : PortalIs _ _ _ _). p.spare) c.self.view_is, as_many, c.in_ok-make_room.ensures.spare))
