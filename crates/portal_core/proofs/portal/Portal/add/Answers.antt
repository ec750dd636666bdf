use Rattle.std.proofs.Common.{◌≡◌, ◌≤◌, ◌+◌, ◌∷◌, ◌++◌, [], length, None, ap, arith, inr, refl, rules}
use Rattle.file_ops.specs.SeatNames.{own_tables}
use Rattle.portal_model.specs.declared.request.Request.TheVariants as Request
use Rattle.portal_model.specs.Bus.{is_tree}
use Rattle.portal_model.specs.History.{cost, cost_of, run}
use Rattle.portal_model.specs.Lawful.{Lawful}
use Rattle.portal_model.specs.Opening.{opened_over}
use Rattle.portal_model.specs.State.{connection_of}
use Rattle.portal_model.specs.Step.{bus_of, reply_at, reply_with}
use Rattle.portal_steps.specs.Devices.{Keeping}
use Rattle.portal_steps.specs.Story.{PortalIs, state_now}
use Rattle.portal_steps.specs.TreeCalls.{entry_calls}
use Rattle.portal_steps.proofs.BusCalls.{add-calls, bus-moment, listed}
use Rattle.portal_steps.proofs.NodeSteps.{alike-same}
use Rattle.portal_steps.proofs.AskedCalls.{asked-keeps, was-asked-keeps}
use Rattle.portal_steps.proofs.CallSteps.{comes_added, drew_by, entry_with, failed_device, keeping_over, keeping_run, keeps_run, stands_over, stands_served, stays_told, stored_over, stored_served, undrew}
use Rattle.portal_steps.proofs.Boxes.{taken-empty}
use Rattle.portal_steps.proofs.Steps.{signals-now, stored_back}
use Rattle.portal_steps.proofs.WentDevices.{spends-add, went-add}
use Rattle.portal_core.proofs.HeldCounts.{held_over, held_same}
use Rattle.portal_core.proofs.portal.Portal.add.Goals as goal

pub invariant_of-self-in-Ok-served : goal.invariant_of-self-in-Ok-served
invariant_of-self-in-Ok-served g c =
    let k = c.self.inside in
    let tree = g.T.HostTree.is k.tree in
    let began = tree.began in
    let served = c.serve_add-served.new in
    let after = g.T.HostTree.is served.tree in
    let given = c.in-Ok-served.field-0.given in
    let answer = c.in-Ok-served.field-0.answer in
    let sent = signals-now began k.opening k.history.entries k.history.limit k.documents k.rights k.applications k.connections k.handles (own_tables k.namings k.temps) tree.told c.self.invariant.0 c.args.seat k.tables k.outboxes c.in-Ok.signals c.self.invariant.3 c.in-Ok.ensures.signals in
    let came = comes_added began k.opening k.history.entries k.history.limit k.documents k.rights k.applications k.connections k.handles (own_tables k.namings k.temps) tree.told c.self.invariant.0 served.documents served.rights served.applications served.connections c.args.seat (Request.Add c.args.add) given c.in-Ok.signals answer (g.K.Keeper.is k.keeper) (g.K.Keeper.is served.keeper) c.args.add refl tree.told refl sent c.self.invariant.2 c.in-Ok-served.ensures.ok in
    let room = rw (c.as_slice.ensures) at c.in-Ok.ensures.room in
    let count = c.serve_add-served.ensures.count in
    let fits : cost k.history.entries + cost_of (Request.Add c.args.add) ≤ k.opening.limits.history = rw (← c.self.view_is) at c.requires in
    let stands = stands_served began k.opening k.history.entries k.history.limit k.documents k.rights k.applications k.connections k.handles (own_tables k.namings k.temps) tree.told c.self.invariant.0 served.documents served.rights served.applications served.connections c.args.seat (Request.Add c.args.add) given c.in-Ok.signals answer (g.K.Keeper.is k.keeper) (g.K.Keeper.is served.keeper) refl c.serve_add-served.ensures.queues came c.serve_add-served.ensures.limits fits in
    let kept = asked-keeps (length given.looks) (is_tree given.fault) tree after c.in-Ok-served.ensures.asked in
    let keeps = keeps_run began k.opening k.history.entries k.history.limit k.documents k.rights k.applications k.connections k.handles (own_tables k.namings k.temps) tree.told c.self.invariant.0 served.documents served.rights served.applications served.connections c.args.seat (Request.Add c.args.add) given c.in-Ok.signals answer (g.K.Keeper.is k.keeper) (g.K.Keeper.is served.keeper) came in
    let both = stands_over began after.began k.opening (k.history.entries ++ entry_with c.args.seat (Request.Add c.args.add) given ∷ []) k.history.limit served.documents served.rights served.applications served.connections k.handles (own_tables k.namings k.temps) tree.told after.told (g.K.Keeper.is served.keeper).told kept.0 kept.1 stands keeps in
    let stored = stored_served began k.opening k.history.entries k.history.limit k.documents k.rights k.applications k.connections k.handles (own_tables k.namings k.temps) tree.told c.self.invariant.0 served.documents served.rights served.applications served.connections c.args.seat (Request.Add c.args.add) given c.in-Ok.signals answer (g.K.Keeper.is k.keeper) (g.K.Keeper.is served.keeper) k.tables k.outboxes c.taken-taken.new.outboxes came c.in-Ok.ensures.rest c.self.invariant.3 in
    rw (c.push.ensures, c.taken-taken.ensures.entries, c.taken-taken.ensures.limit) (
      both.0,
      omega (arith, room, count),
      both.1,
      stored_over began after.began k.opening (k.history.entries ++ entry_with c.args.seat (Request.Add c.args.add) given ∷ []) k.tables c.taken-taken.new.outboxes kept.0 stored,
      c.self.invariant.4,
      held_over began after.began k.opening (k.history.entries ++ entry_with c.args.seat (Request.Add c.args.add) given ∷ []) k.counts.counts kept.0
          (held_same (opened_over began k.opening) k.history.entries (entry_with c.args.seat (Request.Add c.args.add) given) k.counts.counts (λ answer held. refl) c.self.invariant.5),
    )

pub give_back-requires : goal.give_back-requires
give_back-requires g c = taken-empty c.args.seat c.self.inside.outboxes c.taken-taken.new.outboxes c.taken-taken.new.outboxes c.in-Ok.ensures.rest (λ s. refl)

pub invariant_of-self-in-Err : goal.invariant_of-self-in-Err
invariant_of-self-in-Err g c =
    let k = c.self.inside in
    let tree = g.T.HostTree.is k.tree in
    let served = c.serve_add-served.new in
    let after = g.T.HostTree.is served.tree in
    let room = rw (c.as_slice.ensures) at c.in-Ok.ensures.room in
    let kept = was-asked-keeps _ tree after c.in-Err.ensures.tree in
    let told = stays_told (g.K.Keeper.is k.keeper) (g.K.Keeper.is served.keeper) c.in-Err.ensures.keeper in
    let both = stands_over tree.began after.began k.opening k.history.entries k.history.limit k.documents k.rights k.applications k.connections k.handles (own_tables k.namings k.temps) tree.told after.told (g.K.Keeper.is k.keeper).told kept.0 kept.1 c.self.invariant.0 c.self.invariant.2 in
    rw (c.in-Err.ensures.documents, c.in-Err.ensures.rights, c.in-Err.ensures.applications, c.in-Err.ensures.connections, c.taken-taken.ensures.entries, c.taken-taken.ensures.limit, told) (
      both.0,
      omega (arith, room),
      both.1,
      stored_over tree.began after.began k.opening k.history.entries k.tables c.give_back.new.self kept.0
          (stored_back tree.began k.opening k.history.entries k.history.limit k.documents k.rights k.applications k.connections k.handles (own_tables k.namings k.temps) tree.told c.self.invariant.0 c.args.seat k.tables k.outboxes c.taken-taken.new.outboxes c.taken-taken.new.outboxes c.give_back.new.self c.in-Ok.signals
          c.in-Ok.ensures.rest (λ s. refl) c.in-Ok.ensures.signals c.give_back.ensures c.self.invariant.3),
      c.self.invariant.4,
      held_over tree.began after.began k.opening k.history.entries k.counts.counts kept.0 c.self.invariant.5,
    )

pub returns-in-Ok-served-clause-began : goal.returns-in-Ok-served-clause-began
returns-in-Ok-served-clause-began g c =
    let kept = asked-keeps (length c.in-Ok-served.field-0.given.looks) (is_tree c.in-Ok-served.field-0.given.fault) (g.T.HostTree.is c.self.inside.tree) (g.T.HostTree.is c.serve_add-served.new.tree) c.in-Ok-served.ensures.asked in
    rw (← c.self.view_is) kept.0

pub returns-in-Err-clause-began : goal.returns-in-Err-clause-began
returns-in-Err-clause-began g c =
    let kept = was-asked-keeps _ (g.T.HostTree.is c.self.inside.tree) (g.T.HostTree.is c.serve_add-served.new.tree) c.in-Err.ensures.tree in
    rw (← c.self.view_is) kept.0

pub returns-in-Ok-served-clause-ok : goal.returns-in-Ok-served-clause-ok
returns-in-Ok-served-clause-ok g c =
    let k = c.self.inside in
    let tree = g.T.HostTree.is k.tree in
    let began = tree.began in
    let served = c.serve_add-served.new in
    let after = g.T.HostTree.is served.tree in
    let given = c.in-Ok-served.field-0.given in
    let answer = c.in-Ok-served.field-0.answer in
    let sent = signals-now began k.opening k.history.entries k.history.limit k.documents k.rights k.applications k.connections k.handles (own_tables k.namings k.temps) tree.told c.self.invariant.0 c.args.seat k.tables k.outboxes c.in-Ok.signals c.self.invariant.3 c.in-Ok.ensures.signals in
    let came = comes_added began k.opening k.history.entries k.history.limit k.documents k.rights k.applications k.connections k.handles (own_tables k.namings k.temps) tree.told c.self.invariant.0 served.documents served.rights served.applications served.connections c.args.seat (Request.Add c.args.add) given c.in-Ok.signals answer (g.K.Keeper.is k.keeper) (g.K.Keeper.is served.keeper) c.args.add refl tree.told refl sent c.self.invariant.2 c.in-Ok-served.ensures.ok in
    let entry = entry_with c.args.seat (Request.Add c.args.add) given in
    let kept = asked-keeps (length given.looks) (is_tree given.fault) tree after c.in-Ok-served.ensures.asked in
    let lawful : Lawful (state_now c.args.self.now.story) entry = rw (← c.self.view_is) came.lawful in
    let replied : reply_with c.in-Ok.signals answer ≡ reply_at (state_now c.args.self.now.story) entry = rw (← c.self.view_is) came.reply_is in
    let keeping : Keeping (state_now c.args.self.now.story) entry (run (opened_over after.began k.opening) (k.history.entries ++ entry ∷ [])) (g.K.Keeper.is c.args.self.now.keeper) (g.K.Keeper.is served.keeper) =
    rw (← c.self.view_is) (keeping_over began after.began k.opening (k.history.entries ++ entry ∷ []) (run (opened_over began k.opening) k.history.entries) entry (g.K.Keeper.is k.keeper) (g.K.Keeper.is served.keeper) kept.0 (keeping_run began k.opening k.history.entries k.history.limit k.documents k.rights k.applications k.connections k.handles (own_tables k.namings k.temps) tree.told c.self.invariant.0 served.documents served.rights served.applications served.connections c.args.seat (Request.Add c.args.add) given c.in-Ok.signals answer (g.K.Keeper.is k.keeper) (g.K.Keeper.is served.keeper) came)) in
    let at = run (opened_over began k.opening) k.history.entries in
    let moment : given.now ≡ None = bus-moment at (Request.Add c.args.add) given (bus_of (connection_of at.connections c.args.seat)) came.lawful.given in
    let called : entry_calls (state_now c.args.self.now.story) entry ≡ listed (length given.looks) (is_tree given.fault) =
    rw (← c.self.view_is) (add-calls at c.args.add given (bus_of (connection_of at.connections c.args.seat)) came.lawful.given) in
    record {
      entry = entry;
      grown = search rules;
      seat_is = refl;
      request_is = refl;
      lawful = lawful;
      reply_is = alike-same _ (Request.Add c.args.add) _ _ refl replied;
      went = went-add _ _ _ _ _ _ _ (rw (← c.self.view_is) kept.0) (search rules) (search rules) refl refl called (rw (← c.self.view_is) c.in-Ok-served.ensures.asked) (rw (c.push.ensures, c.taken-taken.ensures.entries) keeping) moment (search rules) (rw (← c.self.view_is) c.in-Ok-served.ensures.drew);
    }

pub returns-in-Ok-served-clause-fault : goal.returns-in-Ok-served-clause-fault
returns-in-Ok-served-clause-fault g c =
    let k = c.self.inside in
    let tree = g.T.HostTree.is k.tree in
    let began = tree.began in
    let served = c.serve_add-served.new in
    let after = g.T.HostTree.is served.tree in
    let given = c.in-Ok-served.field-0.given in
    let answer = c.in-Ok-served.field-0.answer in
    let sent = signals-now began k.opening k.history.entries k.history.limit k.documents k.rights k.applications k.connections k.handles (own_tables k.namings k.temps) tree.told c.self.invariant.0 c.args.seat k.tables k.outboxes c.in-Ok.signals c.self.invariant.3 c.in-Ok.ensures.signals in
    let came = comes_added began k.opening k.history.entries k.history.limit k.documents k.rights k.applications k.connections k.handles (own_tables k.namings k.temps) tree.told c.self.invariant.0 served.documents served.rights served.applications served.connections c.args.seat (Request.Add c.args.add) given c.in-Ok.signals answer (g.K.Keeper.is k.keeper) (g.K.Keeper.is served.keeper) c.args.add refl tree.told refl sent c.self.invariant.2 c.in-Ok-served.ensures.ok in
    λ h. absurd (came.settles.no_errno h)

pub returns-in-Ok-served-clause-failure : goal.returns-in-Ok-served-clause-failure
returns-in-Ok-served-clause-failure g c =
    let k = c.self.inside in
    let tree = g.T.HostTree.is k.tree in
    let began = tree.began in
    let served = c.serve_add-served.new in
    let after = g.T.HostTree.is served.tree in
    let given = c.in-Ok-served.field-0.given in
    let answer = c.in-Ok-served.field-0.answer in
    let sent = signals-now began k.opening k.history.entries k.history.limit k.documents k.rights k.applications k.connections k.handles (own_tables k.namings k.temps) tree.told c.self.invariant.0 c.args.seat k.tables k.outboxes c.in-Ok.signals c.self.invariant.3 c.in-Ok.ensures.signals in
    let came = comes_added began k.opening k.history.entries k.history.limit k.documents k.rights k.applications k.connections k.handles (own_tables k.namings k.temps) tree.told c.self.invariant.0 served.documents served.rights served.applications served.connections c.args.seat (Request.Add c.args.add) given c.in-Ok.signals answer (g.K.Keeper.is k.keeper) (g.K.Keeper.is served.keeper) c.args.add refl tree.told refl sent c.self.invariant.2 c.in-Ok-served.ensures.ok in
    λ h. rw (← c.self.view_is) (failed_device tree after (length given.looks) given.fault _ answer (g.K.Keeper.is k.keeper) (g.K.Keeper.is served.keeper) c.in-Ok-served.ensures.asked came.settles h)

pub returns-in-Err-clause-err : goal.returns-in-Err-clause-err
returns-in-Err-clause-err g c =
    let k = c.self.inside in
    let tree = g.T.HostTree.is k.tree in
    let served = c.serve_add-served.new in
    let kept = was-asked-keeps _ tree (g.T.HostTree.is served.tree) c.in-Err.ensures.tree in
    let made = drew_by tree.began k.opening k.history.entries k.history.limit k.documents k.rights k.applications k.connections k.handles (own_tables k.namings k.temps) tree.told c.self.invariant.0 c.args.seat c.args.add tree.told refl (g.W.Words.told k.words) (g.W.Words.told served.words) c.in-Err.ensures.made in
    spends-add _ _ _ _ _ _ _ c.args.add refl (rw (← c.self.view_is) c.in-Err.ensures.tree) (rw (← c.self.view_is) c.in-Err.ensures.keeper) (search rules) (rw (← c.self.view_is) c.in-Err.ensures.words) (rw (← c.self.view_is) (inr (c.args.seat, made))) (rw (← c.self.view_is) kept.0) (search rules) (search rules)

pub returns-in_default-clause-drew : goal.returns-in_default-clause-drew
returns-in_default-clause-drew g c = rw (← c.self.view_is) (undrew _ c.args.seat (Request.Add c.args.add) (g.W.Words.told c.self.inside.words))

pub returns-in-Err-clause-drew : goal.returns-in-Err-clause-drew
returns-in-Err-clause-drew g c =
    let k = c.self.inside in
    let tree = g.T.HostTree.is k.tree in
    let drew = drew_by tree.began k.opening k.history.entries k.history.limit k.documents k.rights k.applications k.connections k.handles (own_tables k.namings k.temps) tree.told c.self.invariant.0 c.args.seat c.args.add tree.told refl (g.W.Words.told k.words) (g.W.Words.told c.serve_add-served.new.words) c.in-Err.ensures.made in
    rw (← c.self.view_is) drew

-- ---- memory that was taken ahead

pub returns-in_default-clause-remains : goal.returns-in_default-clause-remains
returns-in_default-clause-remains g c = omega (arith, ap (λ (p : PortalIs _ _ _ _). p.spare) c.self.view_is, c.taken-taken.ensures.spare)

pub returns-in-Err-clause-remains : goal.returns-in-Err-clause-remains
returns-in-Err-clause-remains g c = omega (arith, ap (λ (p : PortalIs _ _ _ _). p.spare) c.self.view_is, c.taken-taken.ensures.spare, c.serve_add-served.ensures.count)
