use Rattle.std.proofs.Common.{◌≡◌, ◌∙◌, [], ap, arith, refl, rules}
use Rattle.file_ops.specs.SeatNames.{own_tables}
use Rattle.portal_model.specs.declared.entry.Fault.TheVariants as Fault
use Rattle.portal_model.specs.declared.request.Request.TheVariants as Request
use Rattle.portal_model.specs.State.{connection_of}
use Rattle.portal_model.specs.Step.{bus_of, reply_at, reply_with}
use Rattle.portal_steps.specs.Served.{collect_answer, entry_of}
use Rattle.portal_steps.specs.Story.{PortalIs, state_now}
use Rattle.portal_steps.proofs.Steps.{collect_answered, keeps-collected, stands_collected, stored_collected}
use Rattle.portal_steps.proofs.NodeSteps.{alike-same}
use Rattle.portal_steps.proofs.WentDevices.{went-plain}
use Rattle.portal_model.specs.Opening.{opened_over}
use Rattle.portal_core.proofs.HeldCounts.{held_same}
use Rattle.std.proofs.lemmas.Result.{err_from_is_err_and}
use Rattle.portal_core.proofs.portal.Portal.collect.Goals as goal

pub invariant_of-self-2 : goal.invariant_of-self-2
invariant_of-self-2 g c =
    let room = rw (c.as_slice.ensures) at c.in_ok-signals.ensures.room in
    rw (c.push.ensures, c.taken.ensures.entries, c.taken.ensures.limit, c.entry_made-entry.ensures) (
      stands_collected (g.T.HostTree.is c.self.inside.tree).began c.self.inside.opening c.self.inside.history.entries c.self.inside.history.limit c.self.inside.documents c.self.inside.rights c.self.inside.applications c.self.inside.connections c.self.inside.handles (own_tables c.self.inside.namings c.self.inside.temps) (g.T.HostTree.is c.self.inside.tree).told c.self.invariant.0
          c.args.seat (rw (← c.self.view_is) at c.requires),
      omega (arith, room),
      keeps-collected (g.T.HostTree.is c.self.inside.tree).began c.self.inside.opening c.self.inside.history.entries c.self.inside.history.limit c.self.inside.documents c.self.inside.rights c.self.inside.applications c.self.inside.connections c.self.inside.handles (own_tables c.self.inside.namings c.self.inside.temps) (g.T.HostTree.is c.self.inside.tree).told c.self.invariant.0 c.args.seat (g.K.Keeper.is c.self.inside.keeper).told c.self.invariant.2,
      stored_collected (g.T.HostTree.is c.self.inside.tree).began c.self.inside.opening c.self.inside.history.entries c.self.inside.history.limit c.self.inside.documents c.self.inside.rights c.self.inside.applications c.self.inside.connections c.self.inside.handles (own_tables c.self.inside.namings c.self.inside.temps) (g.T.HostTree.is c.self.inside.tree).told c.self.invariant.0 c.args.seat c.self.inside.tables c.self.inside.outboxes c.taken.new.outboxes c.in_ok-signals.ensures.rest c.self.invariant.3,
      c.self.invariant.4,
      held_same (opened_over (g.T.HostTree.is c.self.inside.tree).began c.self.inside.opening) c.self.inside.history.entries (entry_of c.args.seat Request.Collect [] Fault.None) c.self.inside.counts.counts (λ answer held. refl) c.self.invariant.5,
    )

pub returns-clause-ok : goal.returns-clause-ok
returns-clause-ok g c =
    let replied : reply_with c.in_ok-signals.signals (collect_answer (bus_of (connection_of c.self.inside.connections c.args.seat))) ≡ reply_at (state_now c.args.self.now.story) (entry_of c.args.seat Request.Collect [] Fault.None) =
    rw (← c.self.view_is) (collect_answered (g.T.HostTree.is c.self.inside.tree).began c.self.inside.opening c.self.inside.history.entries c.self.inside.history.limit c.self.inside.documents c.self.inside.rights c.self.inside.applications c.self.inside.connections c.self.inside.handles (own_tables c.self.inside.namings c.self.inside.temps) (g.T.HostTree.is c.self.inside.tree).told c.self.invariant.0 c.args.seat c.self.inside.tables c.self.inside.outboxes c.in_ok-signals.signals c.self.invariant.3 c.in_ok-signals.ensures.signals) in
    let answered : c.collect_answer-answer.result ≡ collect_answer (bus_of (connection_of c.self.inside.connections c.args.seat)) =
    rw (c.collect_answer-answer.ensures, c.bus_of.ensures, c.as_slice-2.ensures) refl in
    record {
      entry = c.entry_made-entry.result;
      grown = search rules;
      seat_is = search rules;
      request_is = search rules;
      lawful = search rules;
      went = went-plain _ _ _ _ _ _ _ (search rules) (search rules) (search rules) (search rules) (search rules) (search rules) (search rules) (search rules) (search rules) (search rules) (search rules) (search rules);
      reply_is = alike-same _ _ _ _ refl (ap (reply_with c.in_ok-signals.signals) answered ∙ rw (c.entry_made-entry.ensures) replied);
    }

-- ---- memory that was taken ahead

pub returns-in_err-signals-clause-remains : goal.returns-in_err-signals-clause-remains
returns-in_err-signals-clause-remains g c =
    let is_err = err_from_is_err_and c.from_residual.result c.from_residual.ensures.1 in
    rw is_err.1 (omega (arith, ap (λ (p : PortalIs _ _ _ _). p.spare) c.self.view_is, c.in_err-signals.ensures.spare))
