use Rattle.std.proofs.Common.{◌≡◌, ◌≤◌, ◌+◌, ◌∷◌, ◌++◌, [], ap, arith, inr, refl, rules}
use Rattle.file_ops.specs.SeatNames.{own_tables}
use Rattle.portal_model.specs.declared.request.Request.TheVariants as Request
use Rattle.portal_model.specs.History.{cost, cost_of, run}
use Rattle.portal_model.specs.Lawful.{Lawful}
use Rattle.portal_model.specs.Opening.{opened_over}
use Rattle.portal_model.specs.State.{connection_of}
use Rattle.portal_model.specs.Step.{bus_of, reply_at, reply_with}
use Rattle.portal_steps.specs.Devices.{Keeping}
use Rattle.portal_steps.specs.Story.{PortalIs, state_now}
use Rattle.portal_steps.specs.TreeCalls.{entry_calls}
use Rattle.portal_steps.proofs.Boxes.{taken-empty}
use Rattle.portal_steps.proofs.BusCalls.{store-calls}
use Rattle.portal_steps.proofs.CallSteps.{entry_with, stays_told}
use Rattle.portal_steps.proofs.NodeSteps.{alike-same}
use Rattle.portal_steps.proofs.Steps.{signals-now, stored_back}
use Rattle.portal_steps.proofs.StoredCalls.{keeping_stored, keeps_stored, stands_stored, stored_stored, stores}
use Rattle.portal_steps.proofs.WentDevices.{went-call}
use Rattle.portal_core.proofs.HeldCounts.{held_same}
use Rattle.portal_core.proofs.portal.Portal.store.Goals as goal

pub invariant_of-self-in-Ok-served : goal.invariant_of-self-in-Ok-served
invariant_of-self-in-Ok-served g c =
    let k = c.self.inside in
    let tree = g.T.HostTree.is k.tree in
    let began = tree.began in
    let told = tree.told in
    let new = c.serve-served.new in
    let old_keeper = g.K.Keeper.is k.keeper in
    let new_keeper = g.K.Keeper.is new.keeper in
    let signals = c.in-Ok.signals in
    let taken = c.taken-taken.new.outboxes in
    let served = c.in-Ok-served.field-0 in
    let sent = signals-now began k.opening k.history.entries k.history.limit k.documents k.rights k.applications k.connections k.handles (own_tables k.namings k.temps) told c.self.invariant.0 c.args.seat k.tables k.outboxes signals c.self.invariant.3 c.in-Ok.ensures.signals in
    let came = stores began k.opening k.history.entries k.history.limit k.documents k.rights k.applications k.connections k.handles (own_tables k.namings k.temps) told c.self.invariant.0 c.args.seat c.args.call k.tables new.tables k.outboxes taken new.outboxes signals old_keeper new_keeper served
    sent c.in-Ok.ensures.rest c.self.invariant.2 c.self.invariant.3 (rw (c.as_slice-2.ensures) at c.in-Ok-served.ensures.ok) in
    let room = rw (c.as_slice.ensures) at c.in-Ok.ensures.room in
    let fits : cost k.history.entries + cost_of (Request.Store c.args.call) ≤ k.opening.limits.history = rw (← c.self.view_is) at c.requires in
    rw (c.push.ensures, c.taken-taken.ensures.entries, c.taken-taken.ensures.limit) (
      stands_stored began k.opening k.history.entries k.history.limit k.documents k.rights k.applications k.connections k.handles (own_tables k.namings k.temps) told c.self.invariant.0 c.args.seat c.args.call k.tables new.tables k.outboxes taken new.outboxes signals old_keeper new_keeper served came fits,
      omega (arith, room),
      keeps_stored began k.opening k.history.entries k.history.limit k.documents k.rights k.applications k.connections k.handles (own_tables k.namings k.temps) told c.self.invariant.0 c.args.seat c.args.call k.tables new.tables k.outboxes taken new.outboxes signals old_keeper new_keeper served came,
      stored_stored began k.opening k.history.entries k.history.limit k.documents k.rights k.applications k.connections k.handles (own_tables k.namings k.temps) told c.self.invariant.0 c.args.seat c.args.call k.tables new.tables k.outboxes taken new.outboxes signals old_keeper new_keeper served came,
      c.self.invariant.4,
      held_same (opened_over began k.opening) k.history.entries (entry_with c.args.seat (Request.Store c.args.call) served.given) k.counts.counts (λ answer held. refl) c.self.invariant.5,
    )

pub give_back-requires : goal.give_back-requires
give_back-requires g c = taken-empty c.args.seat c.self.inside.outboxes c.taken-taken.new.outboxes c.serve-served.new.outboxes c.in-Ok.ensures.rest c.in-Err.ensures.outboxes

pub invariant_of-self-in-Err : goal.invariant_of-self-in-Err
invariant_of-self-in-Err g c =
    let k = c.self.inside in
    let tree = g.T.HostTree.is k.tree in
    let new = c.serve-served.new in
    let room = rw (c.as_slice.ensures) at c.in-Ok.ensures.room in
    let told = stays_told (g.K.Keeper.is k.keeper) (g.K.Keeper.is new.keeper) c.in-Err.ensures.keeper in
    rw (c.in-Err.ensures.tables, c.taken-taken.ensures.entries, c.taken-taken.ensures.limit, told) (
      c.self.invariant.0,
      omega (arith, room),
      c.self.invariant.2,
      stored_back tree.began k.opening k.history.entries k.history.limit k.documents k.rights k.applications k.connections k.handles (own_tables k.namings k.temps) tree.told c.self.invariant.0 c.args.seat k.tables k.outboxes c.taken-taken.new.outboxes new.outboxes c.give_back.new.self c.in-Ok.signals
          c.in-Ok.ensures.rest c.in-Err.ensures.outboxes c.in-Ok.ensures.signals c.give_back.ensures c.self.invariant.3,
      c.self.invariant.4,
      c.self.invariant.5,
    )

pub returns-in-Ok-served-clause-ok : goal.returns-in-Ok-served-clause-ok
returns-in-Ok-served-clause-ok g c =
    let k = c.self.inside in
    let tree = g.T.HostTree.is k.tree in
    let began = tree.began in
    let told = tree.told in
    let new = c.serve-served.new in
    let old_keeper = g.K.Keeper.is k.keeper in
    let new_keeper = g.K.Keeper.is new.keeper in
    let signals = c.in-Ok.signals in
    let taken = c.taken-taken.new.outboxes in
    let served = c.in-Ok-served.field-0 in
    let sent = signals-now began k.opening k.history.entries k.history.limit k.documents k.rights k.applications k.connections k.handles (own_tables k.namings k.temps) told c.self.invariant.0 c.args.seat k.tables k.outboxes signals c.self.invariant.3 c.in-Ok.ensures.signals in
    let came = stores began k.opening k.history.entries k.history.limit k.documents k.rights k.applications k.connections k.handles (own_tables k.namings k.temps) told c.self.invariant.0 c.args.seat c.args.call k.tables new.tables k.outboxes taken new.outboxes signals old_keeper new_keeper served
    sent c.in-Ok.ensures.rest c.self.invariant.2 c.self.invariant.3 (rw (c.as_slice-2.ensures) at c.in-Ok-served.ensures.ok) in
    let entry = entry_with c.args.seat (Request.Store c.args.call) served.given in
    let lawful : Lawful (state_now c.args.self.now.story) entry = rw (← c.self.view_is) came.comes.lawful in
    let replied : reply_with signals served.answer ≡ reply_at (state_now c.args.self.now.story) entry = rw (← c.self.view_is) came.comes.reply_is in
    let keeping : Keeping (state_now c.args.self.now.story) entry (run (opened_over began k.opening) (k.history.entries ++ entry ∷ [])) (g.K.Keeper.is c.args.self.now.keeper) new_keeper =
    rw (← c.self.view_is) (keeping_stored began k.opening k.history.entries k.history.limit k.documents k.rights k.applications k.connections k.handles (own_tables k.namings k.temps) told c.self.invariant.0 c.args.seat c.args.call k.tables new.tables k.outboxes taken new.outboxes signals old_keeper new_keeper served came) in
    let at = run (opened_over began k.opening) k.history.entries in
    let called : entry_calls (state_now c.args.self.now.story) entry ≡ [] =
    rw (← c.self.view_is) (store-calls at c.args.call served.given (bus_of (connection_of at.connections c.args.seat))) in
    record {
      entry = entry;
      grown = search rules;
      seat_is = refl;
      request_is = refl;
      lawful = lawful;
      reply_is = alike-same _ (Request.Store c.args.call) _ _ refl replied;
      went = went-call _ _ _ _ _ _ _ (search rules) (search rules) (search rules) (search rules) called (rw (c.push.ensures, c.taken-taken.ensures.entries) keeping) came.untreed.moment (search rules) came.untreed.words (search rules)
          (λ h. (came.untreed.unkept h, rw (← c.self.view_is) (c.serve-served.ensures.unasked h)));
    }

pub returns-in-Ok-served-clause-fault : goal.returns-in-Ok-served-clause-fault
returns-in-Ok-served-clause-fault g c =
    let k = c.self.inside in
    let tree = g.T.HostTree.is k.tree in
    let began = tree.began in
    let told = tree.told in
    let new = c.serve-served.new in
    let old_keeper = g.K.Keeper.is k.keeper in
    let new_keeper = g.K.Keeper.is new.keeper in
    let signals = c.in-Ok.signals in
    let taken = c.taken-taken.new.outboxes in
    let served = c.in-Ok-served.field-0 in
    let sent = signals-now began k.opening k.history.entries k.history.limit k.documents k.rights k.applications k.connections k.handles (own_tables k.namings k.temps) told c.self.invariant.0 c.args.seat k.tables k.outboxes signals c.self.invariant.3 c.in-Ok.ensures.signals in
    let came = stores began k.opening k.history.entries k.history.limit k.documents k.rights k.applications k.connections k.handles (own_tables k.namings k.temps) told c.self.invariant.0 c.args.seat c.args.call k.tables new.tables k.outboxes taken new.outboxes signals old_keeper new_keeper served
    sent c.in-Ok.ensures.rest c.self.invariant.2 c.self.invariant.3 (rw (c.as_slice-2.ensures) at c.in-Ok-served.ensures.ok) in
    λ h. absurd (came.comes.settles.no_errno h)

pub returns-in-Ok-served-clause-failure : goal.returns-in-Ok-served-clause-failure
returns-in-Ok-served-clause-failure g c =
    let k = c.self.inside in
    let tree = g.T.HostTree.is k.tree in
    let began = tree.began in
    let told = tree.told in
    let new = c.serve-served.new in
    let old_keeper = g.K.Keeper.is k.keeper in
    let new_keeper = g.K.Keeper.is new.keeper in
    let signals = c.in-Ok.signals in
    let taken = c.taken-taken.new.outboxes in
    let served = c.in-Ok-served.field-0 in
    let sent = signals-now began k.opening k.history.entries k.history.limit k.documents k.rights k.applications k.connections k.handles (own_tables k.namings k.temps) told c.self.invariant.0 c.args.seat k.tables k.outboxes signals c.self.invariant.3 c.in-Ok.ensures.signals in
    let came = stores began k.opening k.history.entries k.history.limit k.documents k.rights k.applications k.connections k.handles (own_tables k.namings k.temps) told c.self.invariant.0 c.args.seat c.args.call k.tables new.tables k.outboxes taken new.outboxes signals old_keeper new_keeper served
    sent c.in-Ok.ensures.rest c.self.invariant.2 c.self.invariant.3 (rw (c.as_slice-2.ensures) at c.in-Ok-served.ensures.ok) in
    λ h. inr (rw (← c.self.view_is) (came.comes.settles.failed came.untreed.untreed h))

-- ---- memory that was taken ahead

pub returns-in_default-clause-remains : goal.returns-in_default-clause-remains
returns-in_default-clause-remains g c = omega (arith, ap (λ (p : PortalIs _ _ _ _). p.spare) c.self.view_is, c.taken-taken.ensures.spare)

pub returns-in-Err-clause-remains : goal.returns-in-Err-clause-remains
returns-in-Err-clause-remains g c = omega (arith, ap (λ (p : PortalIs _ _ _ _). p.spare) c.self.view_is, c.taken-taken.ensures.spare)
