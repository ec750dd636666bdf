use Rattle.std.proofs.Common.{◌≡◌, ◌≢◌, ◌≤◌, ◌<◌, ◌+◌, ℕ, false, true, List, ◌∷◌, ◌++◌, [], length, map, ap, arith, refl, rules, subst, sym, ◌∙◌}
use Rattle.file_ops.specs.Wanting.{calls_in_vain}
use Rattle.node_looks.specs.Done.{Reads}
use Rattle.node_looks.specs.Served.{given_to}
use Rattle.node_serving.specs.Seats.{seat_calls, seat_step, unnamed}
use Rattle.file_ops.specs.SeatNames.{own_tables}
use Rattle.portal_model.specs.declared.entry.Entry.{Entry}
use Rattle.portal_model.specs.declared.entry.Fault.TheVariants as Fault
use Rattle.portal_model.specs.declared.reply.Answer.{Answer}
use Rattle.portal_model.specs.declared.reply.Reply.{Reply}
use Rattle.portal_model.specs.declared.request.Request.TheVariants as Request
use Rattle.portal_model.specs.Alike.{Alike}
use Rattle.portal_model.specs.History.{cost, cost_of, run}
use Rattle.portal_model.specs.Lawful.{Lawful}
use Rattle.portal_model.specs.Opening.{opened_over}
use Rattle.portal_model.specs.Step.{reply_at, reply_with}
use Rattle.portal_steps.specs.Served.{node_entry}
use Rattle.portal_steps.specs.Story.{Story, state_first, state_now}
use Rattle.portal_steps.specs.TreeCalls.{Calling, entry_calls}
use Rattle.portal_steps.proofs.CallSteps.{stands_over, stored_over}
use Rattle.portal_steps.proofs.NodeSteps.{calls-keep, never-kept, replied-node, still-file, told-on, was-called-keeps}
use Rattle.portal_steps.proofs.QuietNodes.{quiet}
use Rattle.portal_steps.proofs.Steps.{entered-now, keeps-node, lawful_node, loud-served, served_in, stands_node, stands_wanting, stored_node}
use Rattle.portal_steps.proofs.WentDevices.{same-portal, spends-node, went-node}
use Rattle.portal_core.proofs.HeldCounts.{held_node, held_over}
use Rattle.portal_core.specs.LookUps.{AreHeld}
use Rattle.portal_core.specs.Reserve.{room_in}
use Rattle.inode_table.specs.declared.inodes.SeatNode.{SeatNode}
use Rattle.portal_core.proofs.portal.Portal.node.Goals as goal

pub serve-served-requires : goal.serve-served-requires
serve-served-requires g c =
    let k = c.self.inside in
    let tree = g.T.HostTree.is k.tree in
    entered-now tree.began k.opening k.history.entries k.history.limit k.documents k.rights k.applications k.connections k.handles (own_tables k.namings k.temps) tree.told c.self.invariant.0

pub invariant_of-self-in-Ok : goal.invariant_of-self-in-Ok
invariant_of-self-in-Ok g c =
    let k = c.self.inside in
    let tree = g.T.HostTree.is k.tree in
    let new = c.serve-served.new in
    let after = g.T.HostTree.is new.tree in
    let done = c.in-Ok.done in
    let room = rw (c.as_slice.ensures) at c.in_ok-make_room.ensures.room in
    let count = c.serve-served.ensures.count in
    let counted = rw c.keep_ahead.ensures.counts at c.in-Ok.ensures.counts in
    let at = run (opened_over tree.began k.opening) k.history.entries in
    let s = c.in-Ok.ensures.ok (quiet at) (served_in tree.began k.opening k.history.entries k.history.limit k.documents k.rights k.applications k.connections k.handles (own_tables k.namings k.temps) tree.told c.self.invariant.0 _ refl refl refl refl) in
    let fits : cost k.history.entries + cost_of (Request.Node c.args.request) ≤ k.opening.limits.history = rw (← c.self.view_is) at c.requires in
    let stands = stands_node tree.began k.opening k.history.entries k.history.limit k.documents k.rights k.applications k.connections k.handles (own_tables k.namings k.temps) tree.told c.self.invariant.0 c.args.seat c.args.request tree done new.connections new.handles (own_tables new.namings new.temps) after s fits in
    let keeps = keeps-node tree.began k.opening k.history.entries k.history.limit k.documents k.rights k.applications k.connections k.handles (own_tables k.namings k.temps) tree.told c.self.invariant.0 c.args.seat c.args.request tree done new.connections new.handles (own_tables new.namings new.temps) after s (g.K.Keeper.is k.keeper).told c.self.invariant.2 in
    let kept = calls-keep tree (seat_calls (quiet at) c.args.seat c.args.request (given_to done)) after.told after s.calls in
    let loud = loud-served tree.began k.opening k.history.entries k.history.limit k.documents k.rights k.applications k.connections k.handles (own_tables k.namings k.temps) tree.told c.self.invariant.0 c.args.seat c.args.request tree done new.connections new.handles (own_tables new.namings new.temps) after s in
    let both = stands_over tree.began after.began k.opening (k.history.entries ++ node_entry c.args.seat c.args.request done ∷ []) k.history.limit k.documents k.rights k.applications new.connections new.handles (own_tables new.namings new.temps) after.told after.told (g.K.Keeper.is k.keeper).told kept refl stands keeps in
    rw (c.push.ensures, c.in_ok-make_room.ensures.entries, c.in_ok-make_room.ensures.limit, c.node_entry-entry.ensures) (
      both.0,
      omega (arith, room, count),
      both.1,
      stored_over tree.began after.began k.opening (k.history.entries ++ node_entry c.args.seat c.args.request done ∷ []) k.tables k.outboxes kept
          (stored_node tree.began k.opening k.history.entries k.history.limit k.documents k.rights k.applications k.connections k.handles (own_tables k.namings k.temps) tree.told c.self.invariant.0 c.args.seat c.args.request tree done new.connections new.handles (own_tables new.namings new.temps) after s k.tables k.outboxes c.self.invariant.3),
      c.self.invariant.4,
      held_over tree.began after.began k.opening (k.history.entries ++ node_entry c.args.seat c.args.request done ∷ []) new.counts.counts kept
          (held_node (opened_over tree.began k.opening) k.history.entries (node_entry c.args.seat c.args.request done) c.args.request done.answer at.told k.counts.counts new.counts.counts refl counted loud.serves.reply c.self.invariant.5),
    )

pub invariant_of-self-in-Err : goal.invariant_of-self-in-Err
invariant_of-self-in-Err g c =
    let k = c.self.inside in
    let tree = g.T.HostTree.is k.tree in
    let after = g.T.HostTree.is c.serve-served.new.tree in
    let room = rw (c.as_slice.ensures) at c.in_ok-make_room.ensures.room in
    let kept = was-called-keeps (calls_in_vain c.args.request) tree after c.in-Err.ensures.err.calls in
    let wanting = stands_wanting tree.began k.opening k.history.entries k.history.limit k.documents k.rights k.applications k.connections k.handles (own_tables k.namings k.temps) tree.told c.self.invariant.0 c.serve-served.new.handles (own_tables c.serve-served.new.namings c.serve-served.new.temps) c.in-Err.ensures.err.handles (record { names = c.in-Err.ensures.names_err; temps = c.in-Err.ensures.temps_err }) in
    let both = stands_over tree.began after.began k.opening k.history.entries k.history.limit k.documents k.rights k.applications k.connections c.serve-served.new.handles (own_tables c.serve-served.new.namings c.serve-served.new.temps) tree.told after.told (g.K.Keeper.is k.keeper).told kept.0 kept.1 wanting c.self.invariant.2 in
    rw (c.in-Err.ensures.connections, c.in_ok-make_room.ensures.entries, c.in_ok-make_room.ensures.limit) (
      both.0,
      omega (arith, room),
      both.1,
      stored_over tree.began after.began k.opening k.history.entries k.tables k.outboxes kept.0 c.self.invariant.3,
      c.self.invariant.4,
      held_over tree.began after.began k.opening k.history.entries c.serve-served.new.counts.counts kept.0
          (subst (λ (counts : List (SeatNode × ℕ)). AreHeld (opened_over tree.began k.opening) k.history.entries counts) (sym (c.in-Err.ensures.kept ∙ c.keep_ahead.ensures.counts)) c.self.invariant.5),
    )

pub returns-in-Ok-clause-ok : goal.returns-in-Ok-clause-ok
returns-in-Ok-clause-ok g c =
    let k = c.self.inside in
    let tree = g.T.HostTree.is k.tree in
    let new = c.serve-served.new in
    let after = g.T.HostTree.is new.tree in
    let done = c.in-Ok.done in
    let at = run (opened_over tree.began k.opening) k.history.entries in
    let s = c.in-Ok.ensures.ok (quiet at) (served_in tree.began k.opening k.history.entries k.history.limit k.documents k.rights k.applications k.connections k.handles (own_tables k.namings k.temps) tree.told c.self.invariant.0 _ refl refl refl refl) in
    let kept = calls-keep tree (seat_calls (quiet at) c.args.seat c.args.request (given_to done)) after.told after s.calls in
    let loud = loud-served tree.began k.opening k.history.entries k.history.limit k.documents k.rights k.applications k.connections k.handles (own_tables k.namings k.temps) tree.told c.self.invariant.0 c.args.seat c.args.request tree done new.connections new.handles (own_tables new.namings new.temps) after s in
    let made : Entry = node_entry c.args.seat c.args.request done in
    let entry_is : c.node_entry-entry.result.0 ≡ made = ap (λ (x : Entry × Answer). x.0) c.node_entry-entry.ensures in
    let answer_is : done.answer ≡ c.node_entry-entry.result.1 = sym (ap (λ (x : Entry × Answer). x.1) c.node_entry-entry.ensures) in
    let reply_made : reply_with [] done.answer ≡ c.silent_reply.result = ap (reply_with []) answer_is ∙ sym c.silent_reply.ensures in
    let lawful : Lawful (state_now c.args.self.now.story) made =
    rw (← c.self.view_is) (lawful_node tree.began k.opening k.history.entries k.history.limit k.documents k.rights k.applications k.connections k.handles (own_tables k.namings k.temps) tree.told c.self.invariant.0 c.args.seat c.args.request tree done new.connections new.handles (own_tables new.namings new.temps) after s) in
    let replied : Alike (state_first c.args.self.now.story).told (Request.Node c.args.request) (reply_at (state_now c.args.self.now.story) made) (reply_with [] done.answer) =
    rw (← c.self.view_is) (replied-node (opened_over tree.began k.opening).told at c.args.seat c.args.request tree done (map unnamed (seat_step at c.args.seat c.args.request (given_to done)).0.connections) new.handles (own_tables new.namings new.temps) after (told-on k.history.entries (opened_over tree.began k.opening)) loud.serves) in
    let calling : Calling (g.T.HostTree.is c.args.self.now.tree) (entry_calls (state_now c.args.self.now.story) made) after.told after = rw (← c.self.view_is) loud.serves.calls in
    let kept_not : made.given.fault ≢ Fault.Keeper = never-kept _ c.args.request made.given _ loud.serves.lawful in
    let moment : Reads g.C.Clock.reads c.args.self.now.clock made.given.now new.clock = rw (← c.self.view_is) c.in-Ok.ensures.clock in
    record {
      entry = c.node_entry-entry.result.0;
      grown = search rules;
      seat_is = rw entry_is refl;
      request_is = rw entry_is refl;
      lawful = rw entry_is lawful;
      reply_is = rw (entry_is, ← reply_made) replied;
      went = went-node _ _ _ _ _ _ _ (rw (← c.self.view_is) kept) (search rules) (search rules) (rw entry_is refl) (rw entry_is calling) (rw entry_is kept_not) (rw entry_is refl) (search rules) (rw entry_is moment) (search rules);
    }

pub returns-in-Ok-clause-began : goal.returns-in-Ok-clause-began
returns-in-Ok-clause-began g c =
    let k = c.self.inside in
    let tree = g.T.HostTree.is k.tree in
    let after = g.T.HostTree.is c.serve-served.new.tree in
    let at = run (opened_over tree.began k.opening) k.history.entries in
    let s = c.in-Ok.ensures.ok (quiet at) (served_in tree.began k.opening k.history.entries k.history.limit k.documents k.rights k.applications k.connections k.handles (own_tables k.namings k.temps) tree.told c.self.invariant.0 _ refl refl refl refl) in
    rw (← c.self.view_is) (calls-keep tree (seat_calls (quiet at) c.args.seat c.args.request (given_to c.in-Ok.done)) after.told after s.calls)

pub returns-in-Err-clause-began : goal.returns-in-Err-clause-began
returns-in-Err-clause-began g c =
    rw (← c.self.view_is) (was-called-keeps (calls_in_vain c.args.request) (g.T.HostTree.is c.self.inside.tree) (g.T.HostTree.is c.serve-served.new.tree) c.in-Err.ensures.err.calls).0

pub returns-in-Ok-clause-fault : goal.returns-in-Ok-clause-fault
returns-in-Ok-clause-fault g c =
    let k = c.self.inside in
    let tree = g.T.HostTree.is k.tree in
    let s = c.in-Ok.ensures.ok (quiet (run (opened_over tree.began k.opening) k.history.entries)) (served_in tree.began k.opening k.history.entries k.history.limit k.documents k.rights k.applications k.connections k.handles (own_tables k.namings k.temps) tree.told c.self.invariant.0 _ refl refl refl refl) in
    let answer_is : c.node_entry-entry.result.1 ≡ c.in-Ok.done.answer = ap (λ (x : Entry × Answer). x.1) c.node_entry-entry.ensures in
    λ h. rw (← c.self.view_is) (s.fault (sym answer_is ∙ (sym (ap (λ (r : Reply). r.answer) c.silent_reply.ensures) ∙ h)))

pub returns-in-Ok-clause-failure : goal.returns-in-Ok-clause-failure
returns-in-Ok-clause-failure g c =
    let k = c.self.inside in
    let tree = g.T.HostTree.is k.tree in
    let s = c.in-Ok.ensures.ok (quiet (run (opened_over tree.began k.opening) k.history.entries)) (served_in tree.began k.opening k.history.entries k.history.limit k.documents k.rights k.applications k.connections k.handles (own_tables k.namings k.temps) tree.told c.self.invariant.0 _ refl refl refl refl) in
    let answer_is : c.node_entry-entry.result.1 ≡ c.in-Ok.done.answer = ap (λ (x : Entry × Answer). x.1) c.node_entry-entry.ensures in
    λ h. absurd (s.failure (sym answer_is ∙ (sym (ap (λ (r : Reply). r.answer) c.silent_reply.ensures) ∙ h)))

pub returns-in-Err-clause-err : goal.returns-in-Err-clause-err
returns-in-Err-clause-err g c =
    let kept = was-called-keeps (calls_in_vain c.args.request) (g.T.HostTree.is c.self.inside.tree) (g.T.HostTree.is c.serve-served.new.tree) c.in-Err.ensures.err.calls in
    spends-node _ _ _ _ _ _ _ c.args.request refl (λ h. rw (← c.self.view_is) (c.in-Err.ensures.unasked h)) (λ h. rw (← c.self.view_is) (c.serve-served.ensures.unread h)) (rw (← c.self.view_is) c.in-Err.ensures.err.calls) (search rules) (rw (← c.self.view_is) c.in-Err.ensures.clock_err) (search rules) (rw (← c.self.view_is) kept.0) (search rules) (search rules)

pub returns-in-Err-clause-unasked : goal.returns-in-Err-clause-unasked
returns-in-Err-clause-unasked g c = λ h.
    let kept = was-called-keeps (calls_in_vain c.args.request) (g.T.HostTree.is c.self.inside.tree) (g.T.HostTree.is c.serve-served.new.tree) c.in-Err.ensures.err.calls in
    let k = c.self.inside in
    let served = c.serve-served.new in
    let story : Story = record { began = (g.T.HostTree.is served.tree).began; opening = k.opening; history = c.make_room.new.history.entries } in
    let spare = room_in (length served.connections) c.make_room.new.history.spare served.counts.room served.rooms in
    same-portal c.args.self.now (record { tree = served.tree; keeper = k.keeper; clock = served.clock; words = k.words; story = story; spare = spare; refusals = k.refusals })
    (rw (← c.self.view_is) (c.in-Err.ensures.unasked h)) (search rules) (rw (← c.self.view_is) (c.serve-served.ensures.unread (still-file c.args.request h))) (search rules) (rw (← c.self.view_is) kept.0) (search rules) (search rules)

-- ---- memory that was taken ahead

pub returns-in_err-make_room-clause-reserved : goal.returns-in_err-make_room-clause-reserved
returns-in_err-make_room-clause-reserved g c = λ r h.
    let k = c.self.inside in
    let spare : 0 < room_in (length k.connections) k.history.spare k.counts.room k.rooms = rw (← c.self.view_is) at h in
    let no : false ≡ true = c.in_err-make_room.ensures.reserved (rw c.as_slice.ensures (omega (arith, spare))) in
    absurd (cc)

pub returns-in-Err-clause-reserved : goal.returns-in-Err-clause-reserved
returns-in-Err-clause-reserved g c = λ r h.
    let k = c.self.inside in
    let spare : 0 < room_in (length k.connections) k.history.spare k.counts.room k.rooms = rw (← c.self.view_is) at h in
    let no : false ≡ true = c.in-Err.ensures.reserved r (omega (arith, spare, c.keep_ahead.ensures.rooms)) (omega (arith, spare, c.keep_ahead.ensures.room)) in
    absurd (cc)

pub returns-in-Ok-clause-spare : goal.returns-in-Ok-clause-spare
returns-in-Ok-clause-spare g c =
    rw (← c.self.view_is) (rw c.push.ensures (omega (arith, c.serve-served.ensures.count, c.serve-served.ensures.rooms, c.serve-served.ensures.room, c.keep_ahead.ensures.rooms, c.keep_ahead.ensures.room, c.in_ok-make_room.ensures.spare)))

pub returns-in-Err-clause-spare : goal.returns-in-Err-clause-spare
returns-in-Err-clause-spare g c =
    rw (← c.self.view_is) (omega (arith, c.serve-served.ensures.count, c.serve-served.ensures.rooms, c.serve-served.ensures.room, c.keep_ahead.ensures.rooms, c.keep_ahead.ensures.room, c.in_ok-make_room.ensures.spare))

pub returns-in_err-make_room-clause-spare : goal.returns-in_err-make_room-clause-spare
returns-in_err-make_room-clause-spare g c = rw (← c.self.view_is) (omega (arith, c.in_err-make_room.ensures.spare))
