use Rattle.std.proofs.Common.{◌≡◌, ◌≤◌, ◌+◌, ◌∷◌, ◌++◌, [], ap, arith, inr, refl, rules, ◌∙◌}
use Rattle.file_ops.specs.SeatNames.{own_tables}
use Rattle.portal_model.specs.History.{cost, cost_of, run}
use Rattle.portal_model.specs.Lawful.{Lawful}
use Rattle.portal_model.specs.Opening.{opened_over}
use Rattle.portal_model.specs.State.{connection_of}
use Rattle.portal_model.specs.Step.{bus_of, reply_at, reply_with}
use Rattle.portal_steps.specs.Devices.{Keeping}
use Rattle.portal_steps.specs.Story.{PortalIs, state_now}
use Rattle.portal_steps.specs.TreeCalls.{entry_calls}
use Rattle.portal_steps.proofs.BusCalls.{call-calls, on-bus}
use Rattle.portal_steps.proofs.CallSteps.{comes, entry_with, keeping_run, keeps_run, stands_served, stays_told, stored_served, untreed}
use Rattle.portal_steps.proofs.CallVerdicts.{call-on-bus}
use Rattle.portal_steps.proofs.NodeSteps.{alike-same, call-off-nodes}
use Rattle.portal_steps.proofs.Boxes.{taken-empty}
use Rattle.portal_steps.proofs.Steps.{signals-now, stored_back}
use Rattle.portal_steps.proofs.WentDevices.{went-call}
use Rattle.portal_core.proofs.HeldCounts.{held_same, uncounted}
use Rattle.portal_core.proofs.portal.Portal.document.Goals as goal

pub invariant_of-self-in-Ok-served : goal.invariant_of-self-in-Ok-served
invariant_of-self-in-Ok-served g c =
    let k = c.self.inside in
    let began = (g.T.HostTree.is k.tree).began in
    let told = (g.T.HostTree.is k.tree).told in
    let served = c.serve-served.new in
    let room = rw (c.as_slice.ensures) at c.in-Ok.ensures.room in
    let count = c.serve-served.ensures.count in
    let fits : cost k.history.entries + cost_of c.args.request ≤ k.opening.limits.history = rw (← c.self.view_is) at c.requires.fits in
    let sent = signals-now began k.opening k.history.entries k.history.limit k.documents k.rights k.applications k.connections k.handles (own_tables k.namings k.temps) told c.self.invariant.0 c.args.seat k.tables k.outboxes c.in-Ok.signals c.self.invariant.3 c.in-Ok.ensures.signals in
    let came = comes began k.opening k.history.entries k.history.limit k.documents k.rights k.applications k.connections k.handles (own_tables k.namings k.temps) told c.self.invariant.0 served.documents served.rights served.applications served.connections c.args.seat c.args.request c.in-Ok-served.field-0.given c.in-Ok.signals c.in-Ok-served.field-0.answer
    (g.K.Keeper.is k.keeper) (g.K.Keeper.is served.keeper) c.requires.call sent c.self.invariant.2 c.in-Ok-served.ensures.ok in
    let stands = stands_served began k.opening k.history.entries k.history.limit k.documents k.rights k.applications k.connections k.handles (own_tables k.namings k.temps) told c.self.invariant.0 served.documents served.rights served.applications served.connections c.args.seat c.args.request c.in-Ok-served.field-0.given c.in-Ok.signals c.in-Ok-served.field-0.answer
    (g.K.Keeper.is k.keeper) (g.K.Keeper.is served.keeper) (call-on-bus c.args.request c.requires.call) c.serve-served.ensures.queues came c.serve-served.ensures.limits fits in
    rw (c.push.ensures, c.taken-taken.ensures.entries, c.taken-taken.ensures.limit) (
      stands,
      omega (arith, room, count),
      keeps_run began k.opening k.history.entries k.history.limit k.documents k.rights k.applications k.connections k.handles (own_tables k.namings k.temps) told c.self.invariant.0 served.documents served.rights served.applications served.connections c.args.seat c.args.request c.in-Ok-served.field-0.given c.in-Ok.signals c.in-Ok-served.field-0.answer
          (g.K.Keeper.is k.keeper) (g.K.Keeper.is served.keeper) came,
      stored_served began k.opening k.history.entries k.history.limit k.documents k.rights k.applications k.connections k.handles (own_tables k.namings k.temps) told c.self.invariant.0 served.documents served.rights served.applications served.connections c.args.seat c.args.request c.in-Ok-served.field-0.given c.in-Ok.signals c.in-Ok-served.field-0.answer
          (g.K.Keeper.is k.keeper) (g.K.Keeper.is served.keeper) k.tables k.outboxes c.taken-taken.new.outboxes came c.in-Ok.ensures.rest c.self.invariant.3,
      c.self.invariant.4,
      held_same (opened_over began k.opening) k.history.entries (entry_with c.args.seat c.args.request c.in-Ok-served.field-0.given) k.counts.counts (λ answer held. uncounted c.args.request c.args.seat answer held c.requires.call) c.self.invariant.5,
    )

pub give_back-requires : goal.give_back-requires
give_back-requires g c = taken-empty c.args.seat c.self.inside.outboxes c.taken-taken.new.outboxes c.taken-taken.new.outboxes c.in-Ok.ensures.rest (λ s. refl)

pub invariant_of-self-in-Err : goal.invariant_of-self-in-Err
invariant_of-self-in-Err g c =
    let k = c.self.inside in
    let tree = g.T.HostTree.is k.tree in
    let served = c.serve-served.new in
    let room = rw (c.as_slice.ensures) at c.in-Ok.ensures.room in
    let told = stays_told (g.K.Keeper.is k.keeper) (g.K.Keeper.is served.keeper) c.in-Err.ensures.keeper in
    rw (c.in-Err.ensures.documents, c.in-Err.ensures.rights, c.in-Err.ensures.applications, c.in-Err.ensures.connections, c.taken-taken.ensures.entries, c.taken-taken.ensures.limit, told) (
      c.self.invariant.0,
      omega (arith, room),
      c.self.invariant.2,
      stored_back tree.began k.opening k.history.entries k.history.limit k.documents k.rights k.applications k.connections k.handles (own_tables k.namings k.temps) tree.told c.self.invariant.0 c.args.seat k.tables k.outboxes c.taken-taken.new.outboxes c.taken-taken.new.outboxes c.give_back.new.self c.in-Ok.signals
          c.in-Ok.ensures.rest (λ s. refl) c.in-Ok.ensures.signals c.give_back.ensures c.self.invariant.3,
      c.self.invariant.4,
      c.self.invariant.5,
    )

pub returns-in-Ok-served-clause-ok : goal.returns-in-Ok-served-clause-ok
returns-in-Ok-served-clause-ok g c =
    let k = c.self.inside in
    let began = (g.T.HostTree.is k.tree).began in
    let told = (g.T.HostTree.is k.tree).told in
    let served = c.serve-served.new in
    let entry = entry_with c.args.seat c.args.request c.in-Ok-served.field-0.given in
    let sent = signals-now began k.opening k.history.entries k.history.limit k.documents k.rights k.applications k.connections k.handles (own_tables k.namings k.temps) told c.self.invariant.0 c.args.seat k.tables k.outboxes c.in-Ok.signals c.self.invariant.3 c.in-Ok.ensures.signals in
    let came = comes began k.opening k.history.entries k.history.limit k.documents k.rights k.applications k.connections k.handles (own_tables k.namings k.temps) told c.self.invariant.0 served.documents served.rights served.applications served.connections c.args.seat c.args.request c.in-Ok-served.field-0.given c.in-Ok.signals c.in-Ok-served.field-0.answer
    (g.K.Keeper.is k.keeper) (g.K.Keeper.is served.keeper) c.requires.call sent c.self.invariant.2 c.in-Ok-served.ensures.ok in
    let plain = untreed began k.opening k.history.entries k.history.limit k.documents k.rights k.applications k.connections k.handles (own_tables k.namings k.temps) told c.self.invariant.0 served.documents served.rights served.applications served.connections c.args.seat c.args.request c.in-Ok-served.field-0.given c.in-Ok.signals c.in-Ok-served.field-0.answer
    (g.K.Keeper.is k.keeper) (g.K.Keeper.is served.keeper) c.requires.call c.in-Ok-served.ensures.ok in
    let lawful : Lawful (state_now c.args.self.now.story) entry =
    rw (← c.self.view_is) came.lawful in
    let replied : reply_with c.in-Ok.signals c.in-Ok-served.field-0.answer ≡ reply_at (state_now c.args.self.now.story) entry =
    rw (← c.self.view_is) came.reply_is in
    let keeping : Keeping (state_now c.args.self.now.story) entry (run (opened_over began k.opening) (k.history.entries ++ entry ∷ [])) (g.K.Keeper.is c.args.self.now.keeper) (g.K.Keeper.is served.keeper) =
    rw (← c.self.view_is) (keeping_run began k.opening k.history.entries k.history.limit k.documents k.rights k.applications k.connections k.handles (own_tables k.namings k.temps) told c.self.invariant.0 served.documents served.rights served.applications served.connections c.args.seat c.args.request c.in-Ok-served.field-0.given c.in-Ok.signals c.in-Ok-served.field-0.answer
    (g.K.Keeper.is k.keeper) (g.K.Keeper.is served.keeper) came) in
    let at = run (opened_over began k.opening) k.history.entries in
    let called : entry_calls (state_now c.args.self.now.story) entry ≡ [] =
    rw (← c.self.view_is) (on-bus at c.args.seat c.args.request c.in-Ok-served.field-0.given (call-on-bus c.args.request c.requires.call)
    ∙ call-calls at c.args.request c.in-Ok-served.field-0.given (bus_of (connection_of at.connections c.args.seat)) c.requires.call) in
    record {
      entry = entry;
      grown = search rules;
      seat_is = refl;
      request_is = refl;
      lawful = lawful;
      reply_is = alike-same _ c.args.request _ _ (call-off-nodes c.args.request c.requires.call) replied;
      went = went-call _ _ _ _ _ _ _ (search rules) (search rules) (search rules) (search rules) called (rw (c.push.ensures, c.taken-taken.ensures.entries) keeping) plain.moment (search rules) plain.words (search rules)
          (λ h. (plain.unkept h, rw (← c.self.view_is) (c.serve-served.ensures.unasked h)));
    }

pub returns-in-Ok-served-clause-fault : goal.returns-in-Ok-served-clause-fault
returns-in-Ok-served-clause-fault g c =
    let k = c.self.inside in
    let began = (g.T.HostTree.is k.tree).began in
    let told = (g.T.HostTree.is k.tree).told in
    let served = c.serve-served.new in
    let sent = signals-now began k.opening k.history.entries k.history.limit k.documents k.rights k.applications k.connections k.handles (own_tables k.namings k.temps) told c.self.invariant.0 c.args.seat k.tables k.outboxes c.in-Ok.signals c.self.invariant.3 c.in-Ok.ensures.signals in
    let came = comes began k.opening k.history.entries k.history.limit k.documents k.rights k.applications k.connections k.handles (own_tables k.namings k.temps) told c.self.invariant.0 served.documents served.rights served.applications served.connections c.args.seat c.args.request c.in-Ok-served.field-0.given c.in-Ok.signals c.in-Ok-served.field-0.answer
    (g.K.Keeper.is k.keeper) (g.K.Keeper.is served.keeper) c.requires.call sent c.self.invariant.2 c.in-Ok-served.ensures.ok in
    λ h. absurd (came.settles.no_errno h)

pub returns-in-Ok-served-clause-failure : goal.returns-in-Ok-served-clause-failure
returns-in-Ok-served-clause-failure g c =
    let k = c.self.inside in
    let began = (g.T.HostTree.is k.tree).began in
    let told = (g.T.HostTree.is k.tree).told in
    let served = c.serve-served.new in
    let sent = signals-now began k.opening k.history.entries k.history.limit k.documents k.rights k.applications k.connections k.handles (own_tables k.namings k.temps) told c.self.invariant.0 c.args.seat k.tables k.outboxes c.in-Ok.signals c.self.invariant.3 c.in-Ok.ensures.signals in
    let came = comes began k.opening k.history.entries k.history.limit k.documents k.rights k.applications k.connections k.handles (own_tables k.namings k.temps) told c.self.invariant.0 served.documents served.rights served.applications served.connections c.args.seat c.args.request c.in-Ok-served.field-0.given c.in-Ok.signals c.in-Ok-served.field-0.answer
    (g.K.Keeper.is k.keeper) (g.K.Keeper.is served.keeper) c.requires.call sent c.self.invariant.2 c.in-Ok-served.ensures.ok in
    let plain = untreed began k.opening k.history.entries k.history.limit k.documents k.rights k.applications k.connections k.handles (own_tables k.namings k.temps) told c.self.invariant.0 served.documents served.rights served.applications served.connections c.args.seat c.args.request c.in-Ok-served.field-0.given c.in-Ok.signals c.in-Ok-served.field-0.answer
    (g.K.Keeper.is k.keeper) (g.K.Keeper.is served.keeper) c.requires.call c.in-Ok-served.ensures.ok in
    λ h. inr (rw (← c.self.view_is) (came.settles.failed plain.untreed h))

-- ---- memory that was taken ahead

pub returns-in_default-clause-remains : goal.returns-in_default-clause-remains
returns-in_default-clause-remains g c = omega (arith, ap (λ (p : PortalIs _ _ _ _). p.spare) c.self.view_is, c.taken-taken.ensures.spare)

pub returns-in-Err-clause-remains : goal.returns-in-Err-clause-remains
returns-in-Err-clause-remains g c = omega (arith, ap (λ (p : PortalIs _ _ _ _). p.spare) c.self.view_is, c.taken-taken.ensures.spare, c.serve-served.ensures.count)
