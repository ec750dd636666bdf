use Rattle.std.proofs.Common.{◌≡◌, [], ◌<◌, ap, length, is_some, arith, rules, true, refl, ◌∙◌}
use Rattle.file_ops.specs.SeatNames.{own_tables}
use Rattle.portal_model.specs.declared.entry.Fault.TheVariants as Fault
use Rattle.portal_model.specs.declared.reply.Answer.{Answer}
use Rattle.portal_model.specs.declared.reply.Code.TheVariants as Code
use Rattle.portal_model.specs.declared.request.Request.TheVariants as Request
use Rattle.portal_model.specs.Leave.{of_others}
use Rattle.portal_model.specs.State.{connection_of}
use Rattle.portal_model.specs.Step.{reply_at, reply_with}
use Rattle.portal_steps.specs.Served.{entry_of}
use Rattle.portal_steps.specs.Story.{PortalIs, state_now}
use Rattle.portal_steps.proofs.Steps.{absent_closed, absent_replied, fewer_others, keeps-left, left_replied, stands_absent, stands_left, stored_absent, stored_left}
use Rattle.portal_steps.proofs.NodeSteps.{alike-same}
use Rattle.portal_steps.proofs.WentDevices.{went-plain}
use Rattle.portal_model.specs.Opening.{opened_over}
use Rattle.portal_core.proofs.HeldCounts.{held_left}
use Rattle.std.proofs.lemmas.Result.{err_from_is_err_and}
use Rattle.portal_core.proofs.portal.Portal.leave.Goals as goal

pub invariant_of-self-then-not-is_here : goal.invariant_of-self-then-not-is_here
invariant_of-self-then-not-is_here g c =
    let room = rw (c.as_slice-then-not-is_here.ensures) at c.in_ok-make_room.ensures.room in
    rw (c.push.ensures, c.in_ok-make_room.ensures.entries, c.in_ok-make_room.ensures.limit, c.entry_made-refused.ensures) (
      stands_absent (g.T.HostTree.is c.self.inside.tree).began c.self.inside.opening c.self.inside.history.entries c.self.inside.history.limit c.self.inside.documents c.self.inside.rights c.self.inside.applications c.self.inside.connections c.self.inside.handles (own_tables c.self.inside.namings c.self.inside.temps) (g.T.HostTree.is c.self.inside.tree).told c.self.invariant.0
          c.args.seat (search rules),
      omega (arith, room),
      keeps-left (g.T.HostTree.is c.self.inside.tree).began c.self.inside.opening c.self.inside.history.entries c.self.inside.history.limit c.self.inside.documents c.self.inside.rights c.self.inside.applications c.self.inside.connections c.self.inside.handles (own_tables c.self.inside.namings c.self.inside.temps) (g.T.HostTree.is c.self.inside.tree).told c.self.invariant.0 c.args.seat (g.K.Keeper.is c.self.inside.keeper).told c.self.invariant.2,
      stored_absent (g.T.HostTree.is c.self.inside.tree).began c.self.inside.opening c.self.inside.history.entries c.self.inside.history.limit c.self.inside.documents c.self.inside.rights c.self.inside.applications c.self.inside.connections c.self.inside.handles (own_tables c.self.inside.namings c.self.inside.temps) (g.T.HostTree.is c.self.inside.tree).told c.self.invariant.0 c.args.seat c.self.inside.tables c.self.inside.outboxes (search rules) c.self.invariant.3,
      c.self.invariant.4,
      held_left (opened_over (g.T.HostTree.is c.self.inside.tree).began c.self.inside.opening) c.self.inside.history.entries (entry_of c.args.seat Request.Leave [] Fault.None) (Answer.Refused Code.NotHere) c.self.inside.counts.counts c.self.inside.counts.counts refl (absent_replied (g.T.HostTree.is c.self.inside.tree).began c.self.inside.opening c.self.inside.history.entries c.self.inside.history.limit c.self.inside.documents c.self.inside.rights c.self.inside.applications c.self.inside.connections c.self.inside.handles (own_tables c.self.inside.namings c.self.inside.temps) (g.T.HostTree.is c.self.inside.tree).told c.self.invariant.0 c.args.seat (search rules)) (λ q n. refl) c.self.invariant.5,
    )

pub invariant_of-self-2 : goal.invariant_of-self-2
invariant_of-self-2 g c =
    let here : is_some (connection_of c.self.inside.connections c.args.seat) ≡ true = search rules in
    let fewer : length (of_others c.args.seat c.self.inside.connections) < length c.self.inside.connections = fewer_others c.args.seat c.self.inside.connections here in
    rw (c.push-2.ensures, c.of_others.ensures, c.replace-connections.ensures.value, c.entry_made-entry.ensures) (
      stands_left (g.T.HostTree.is c.self.inside.tree).began c.self.inside.opening c.self.inside.history.entries c.self.inside.history.limit c.self.inside.documents c.self.inside.rights c.self.inside.applications c.self.inside.connections c.self.inside.handles (own_tables c.self.inside.namings c.self.inside.temps) (g.T.HostTree.is c.self.inside.tree).told c.self.invariant.0 c.args.seat c.leave.new.self (own_tables c.leave-2.new.self c.leave-3.new.self) here c.leave.ensures.limit c.leave.ensures.rest (record { names = c.leave-2.ensures; temps = c.leave-3.ensures.rest; taken = c.leave-3.ensures.taken }),
      omega (arith, c.self.invariant.1),
      keeps-left (g.T.HostTree.is c.self.inside.tree).began c.self.inside.opening c.self.inside.history.entries c.self.inside.history.limit c.self.inside.documents c.self.inside.rights c.self.inside.applications c.self.inside.connections c.self.inside.handles (own_tables c.self.inside.namings c.self.inside.temps) (g.T.HostTree.is c.self.inside.tree).told c.self.invariant.0 c.args.seat (g.K.Keeper.is c.self.inside.keeper).told c.self.invariant.2,
      stored_left (g.T.HostTree.is c.self.inside.tree).began c.self.inside.opening c.self.inside.history.entries c.self.inside.history.limit c.self.inside.documents c.self.inside.rights c.self.inside.applications c.self.inside.connections c.self.inside.handles (own_tables c.self.inside.namings c.self.inside.temps) (g.T.HostTree.is c.self.inside.tree).told c.self.invariant.0 c.args.seat c.self.inside.tables c.self.inside.outboxes c.leave-5.new.self here c.leave-5.ensures c.self.invariant.3,
      c.self.invariant.4,
      held_left (opened_over (g.T.HostTree.is c.self.inside.tree).began c.self.inside.opening) c.self.inside.history.entries (entry_of c.args.seat Request.Leave [] Fault.None) Answer.Done c.self.inside.counts.counts c.leave-4.new.self.counts refl (left_replied (g.T.HostTree.is c.self.inside.tree).began c.self.inside.opening c.self.inside.history.entries c.self.inside.history.limit c.self.inside.documents c.self.inside.rights c.self.inside.applications c.self.inside.connections c.self.inside.handles (own_tables c.self.inside.namings c.self.inside.temps) (g.T.HostTree.is c.self.inside.tree).told c.self.invariant.0 c.args.seat here) c.leave-4.ensures.counts c.self.invariant.5,
    )

pub returns-then-not-is_here-clause-ok : goal.returns-then-not-is_here-clause-ok
returns-then-not-is_here-clause-ok g c =
    let replied : reply_with [] (Answer.Refused Code.NotHere) ≡ reply_at (state_now c.args.self.now.story) (entry_of c.args.seat Request.Leave [] Fault.None) =
    rw (← c.self.view_is) (absent_replied (g.T.HostTree.is c.self.inside.tree).began c.self.inside.opening c.self.inside.history.entries c.self.inside.history.limit c.self.inside.documents c.self.inside.rights c.self.inside.applications c.self.inside.connections c.self.inside.handles (own_tables c.self.inside.namings c.self.inside.temps) (g.T.HostTree.is c.self.inside.tree).told c.self.invariant.0 c.args.seat (search rules)) in
    record {
      entry = c.entry_made-refused.result;
      grown = search rules;
      seat_is = search rules;
      request_is = search rules;
      lawful = search rules;
      reply_is = alike-same _ _ _ _ refl (c.silent_reply.ensures ∙ rw (c.entry_made-refused.ensures) replied);
      went = went-plain _ _ _ _ _ _ _ (search rules) (search rules) (search rules) (search rules) (search rules) (search rules) (search rules) (search rules) (search rules) (search rules) (search rules) (search rules);
    }

pub returns-clause-ok : goal.returns-clause-ok
returns-clause-ok g c =
    let replied : reply_with [] Answer.Done ≡ reply_at (state_now c.args.self.now.story) (entry_of c.args.seat Request.Leave [] Fault.None) =
    rw (← c.self.view_is) (left_replied (g.T.HostTree.is c.self.inside.tree).began c.self.inside.opening c.self.inside.history.entries c.self.inside.history.limit c.self.inside.documents c.self.inside.rights c.self.inside.applications c.self.inside.connections c.self.inside.handles (own_tables c.self.inside.namings c.self.inside.temps) (g.T.HostTree.is c.self.inside.tree).told c.self.invariant.0 c.args.seat (search rules)) in
    record {
      entry = c.entry_made-entry.result;
      grown = search rules;
      seat_is = search rules;
      request_is = search rules;
      lawful = search rules;
      reply_is = alike-same _ _ _ _ refl (c.silent_reply-2.ensures ∙ rw (c.entry_made-entry.ensures) replied);
      went = went-plain _ _ _ _ _ _ _ (search rules) (search rules) (search rules) (search rules) (search rules) (search rules) (search rules) (search rules) (search rules) (search rules) (search rules) (search rules);
    }

pub returns-in_err-make_room-clause-here : goal.returns-in_err-make_room-clause-here
returns-in_err-make_room-clause-here g c = λ h. absurd (absent_closed (g.T.HostTree.is c.self.inside.tree).began c.self.inside.opening c.self.inside.history.entries c.self.inside.history.limit c.self.inside.documents c.self.inside.rights c.self.inside.applications c.self.inside.connections c.self.inside.handles (own_tables c.self.inside.namings c.self.inside.temps) (g.T.HostTree.is c.self.inside.tree).told c.self.invariant.0 c.args.seat (search rules) (rw (← c.self.view_is) at h))

pub returns-in_err-make_room-clause-freed : goal.returns-in_err-make_room-clause-freed
returns-in_err-make_room-clause-freed g c = λ h. absurd (absent_closed (g.T.HostTree.is c.self.inside.tree).began c.self.inside.opening c.self.inside.history.entries c.self.inside.history.limit c.self.inside.documents c.self.inside.rights c.self.inside.applications c.self.inside.connections c.self.inside.handles (own_tables c.self.inside.namings c.self.inside.temps) (g.T.HostTree.is c.self.inside.tree).told c.self.invariant.0 c.args.seat (search rules) (rw (← c.self.view_is) at h))

pub returns-then-not-is_here-clause-freed : goal.returns-then-not-is_here-clause-freed
returns-then-not-is_here-clause-freed g c = λ h. absurd (absent_closed (g.T.HostTree.is c.self.inside.tree).began c.self.inside.opening c.self.inside.history.entries c.self.inside.history.limit c.self.inside.documents c.self.inside.rights c.self.inside.applications c.self.inside.connections c.self.inside.handles (own_tables c.self.inside.namings c.self.inside.temps) (g.T.HostTree.is c.self.inside.tree).told c.self.invariant.0 c.args.seat (search rules) (rw (← c.self.view_is) at h))

pub returns-clause-freed : goal.returns-clause-freed
returns-clause-freed g c = λ h.
    let here : is_some (connection_of c.self.inside.connections c.args.seat) ≡ true = search rules in
    let fewer : length (of_others c.args.seat c.self.inside.connections) < length c.self.inside.connections = fewer_others c.args.seat c.self.inside.connections here in
    rw (← c.self.view_is) (rw (c.push-2.ensures, c.of_others.ensures, c.replace-connections.ensures.value) (omega (arith, fewer, c.self.invariant.1, c.leave-4.ensures.room)))

-- ---- memory that was taken ahead

pub returns-in_err-make_room-clause-remains : goal.returns-in_err-make_room-clause-remains
returns-in_err-make_room-clause-remains g c =
    let is_err = err_from_is_err_and c.from_residual.result c.from_residual.ensures.1 in
    rw is_err.1 (omega (arith, ap (λ (p : PortalIs _ _ _ _). p.spare) c.self.view_is, c.in_err-make_room.ensures.spare))
