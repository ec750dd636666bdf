-- What a connection wasn't told yet tells of entries as they are.
use Rattle.std.proofs.Common.{◌≡◌, ℕ, List, Bool, true, false, cond, Option, Some, None, refl}
use Rattle.std.specs.Prelude.{◌&&◌, ◌||◌, ◌==◌}
use Rattle.std.specs.List.{list_all}
use Rattle.portal_model.specs.declared.entry.Entry.{Entry}
use Rattle.portal_model.specs.declared.entry.Given.{Given}
use Rattle.portal_model.specs.declared.reply.Change.{Change}
use Rattle.portal_model.specs.declared.request.NodeRequest.{NodeRequest}
use Rattle.portal_model.specs.declared.request.Request.{Request}
use Rattle.portal_model.specs.declared.state.Connection.{Connection}
use Rattle.portal_model.specs.State.{State, connection_of, is_mount}
use Rattle.portal_model.specs.Step.{bus_of, bus_step, collect_step, mount_of, node_step, reply_at, request_step}
use Rattle.portal_model.specs.Valid.{Valid, is_caller, is_host_bus, is_none, is_sound_change, is_sound_connection}
use Rattle.portal_model.proofs.DocumentChanges.{first_of_both, second_of_both}
use Rattle.portal_model.proofs.ListLookups.{found_in_all}
use Rattle.portal_model.proofs.Queues.{is_sound_queue}

abbrev AreSound : List Change → Type 0
AreSound changes = list_all is_sound_change changes ≡ true

one_sound : (queued : ℕ) (c : Connection) → is_sound_connection queued c ≡ true → AreSound c.unsent
one_sound queued c h =
    let waits = is_none c.unsent || is_host_bus c.who c.kind in
    let changes = list_all is_sound_change c.unsent in
    let queue = is_sound_queue queued c.queue in
    first_of_both changes queue (second_of_both waits (changes && queue) (second_of_both (is_caller c.who) (waits && (changes && queue)) h))

-- the changes that the connection waits for, where there is one
abbrev WaitsSound : Option Connection → Type 0
WaitsSound None = Unit {0}
WaitsSound (Some c) = AreSound c.unsent

found_sound : (s : State) (seat : ℕ) (o : Option Connection) → Valid s → connection_of s.connections seat ≡ o → WaitsSound o
found_sound s seat None valid e = tt
found_sound s seat (Some c) valid e =
    one_sound s.limits.queued c (found_in_all (λ (x : Connection). x.seat == seat) (is_sound_connection s.limits.queued) s.connections c e valid.connections_sound)

if_mount : (b : Bool) (c : Connection) → AreSound c.unsent → WaitsSound (cond b (Some c) None)
if_mount true c h = h
if_mount false c h = tt

if_bus : (b : Bool) (c : Connection) → AreSound c.unsent → WaitsSound (cond b None (Some c))
if_bus true c h = tt
if_bus false c h = h

mount_sound : (o : Option Connection) → WaitsSound o → WaitsSound (mount_of o)
mount_sound None h = tt
mount_sound (Some c) h = if_mount (is_mount c.kind) c h

bus_sound : (o : Option Connection) → WaitsSound o → WaitsSound (bus_of o)
bus_sound None h = tt
bus_sound (Some c) h = if_bus (is_mount c.kind) c h

on_mount : (s : State) (request : NodeRequest) (given : Given) (o : Option Connection) → WaitsSound o → AreSound (node_step s request given o).1.signals
on_mount s request given None h = refl
on_mount s request given (Some c) h = h

on_bus : (s : State) (request : Request) (given : Given) (o : Option Connection) → WaitsSound o → AreSound (bus_step s request given o).1.signals
on_bus s request given None h = refl
on_bus s request given (Some c) h = h

on_collect : (s : State) (o : Option Connection) → WaitsSound o → AreSound (collect_step s o).1.signals
on_collect s None h = refl
on_collect s (Some c) h = h

step_sound : (s : State) (seat : ℕ) (request : Request) (given : Given) → WaitsSound (connection_of s.connections seat) → AreSound (request_step s seat request given).1.signals
step_sound s seat (Request.Enter who kind) given h = refl
step_sound s seat Request.Leave given h = refl
step_sound s seat Request.Collect given h = on_collect s (bus_of (connection_of s.connections seat)) (bus_sound (connection_of s.connections seat) h)
step_sound s seat (Request.Node r) given h = on_mount s r given (mount_of (connection_of s.connections seat)) (mount_sound (connection_of s.connections seat) h)
step_sound s seat request given h = on_bus s request given (bus_of (connection_of s.connections seat)) (bus_sound (connection_of s.connections seat) h)

pub signals_told : (s : State) (e : Entry) → Valid s → list_all is_sound_change (reply_at s e).signals ≡ true
signals_told s e valid = step_sound s e.seat e.request e.given (found_sound s e.seat (connection_of s.connections e.seat) valid refl)
