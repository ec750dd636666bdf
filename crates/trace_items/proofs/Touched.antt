-- What a request leaves of the files, and what a view is told of one on a node.
use Rattle.std.proofs.Common.{◌≡◌, ℕ, List, [], Bool, true, false, cond, Option, Some, None, refl, sym, ap, subst, ◌∙◌}
use Rattle.file_generations.specs.Generations.{Held, all_held}
use Rattle.portal_model.specs.declared.entry.Entry.{Entry}
use Rattle.portal_model.specs.declared.entry.Given.{Given}
use Rattle.portal_model.specs.declared.request.NodeRequest.{NodeRequest}
use Rattle.portal_model.specs.declared.request.Request.{Request}
use Rattle.portal_model.specs.declared.state.Connection.{Connection}
use Rattle.portal_model.specs.Bus.{is_tree, moment_given}
use Rattle.portal_model.specs.Lawful.{LawfulOnNode}
use Rattle.portal_model.specs.Node.{facts_of, files_after, node_given, settled_on_node, walk_on_node}
use Rattle.portal_model.specs.NodeOutside.{LawfulNode}
use Rattle.portal_model.specs.NodeVerdict.{FileChange, FilesStay, Writes, Resizes, Creates, Adds, Stands, NodeVerdict, Errs, Yields}
use Rattle.portal_model.specs.State.{State, connection_of, held_in, is_mount}
use Rattle.portal_model.specs.Step.{after, all_told, bus_of, bus_step, collect_step, mount_of, node_step, reply_at, request_step}
use Rattle.portal_model.specs.Valid.{Valid}
use Rattle.portal_model.specs.Walk.{Gives}
use Rattle.portal_model.proofs.BusLaws.{bus_step-holds}
use Rattle.app_world.specs.Node.{content_named, file_effects, node_touch, verdict_touch}
use Rattle.app_world.specs.Touched.{is_done}
use Rattle.app_world.specs.View.{view}
use Rattle.app_world.proofs.HeldFiles.{SoundTree}
use Rattle.app_world.proofs.ViewedNames.{tree-sound}
use Rattle.app_world.proofs.WalksAlong.{AnyCall, AnyName, AnyPath, AnyTarget, CanBe, CanChange, all-along, given-can}
use Rattle.trace_items.specs.Awaited.{Comes, is_node}
use Rattle.trace_items.specs.FilesChanged.{IsThere, file_change, told_of_change}
use Rattle.trace_items.proofs.BytesAfter.{effects-after}
use Rattle.trace_items.proofs.FilesChanged.{Changes, around, node-changes}

-- ---- requests of buses, and of seats that come and go

abbrev HasFiles : Held → State → Type 0
HasFiles files s = held_in s ≡ files

bus-files : (s : State) (request : Request) (given : Given) (o : Option Connection) → held_in (bus_step s request given o).0 ≡ held_in s
bus-files s request given o =
    bus_step-holds (HasFiles (held_in s)) (λ t seat h. h) (λ t seat change h. h) (λ t ds made rights apps h. h) (λ t es h. h) (λ t change h. h) s request given o refl

same-files : {X : Type 0} (b : Bool) (x y : X) → x ≡ y → x ≡ cond b y y
same-files true x y e = e
same-files false x y e = e

-- ---- requests on nodes

-- what is done can be done with these files
can-be : (s : State) (c : Connection) (r : NodeRequest) (given : Given) → s.told ≡ true → LawfulNode (all_told c.seat s) c r given → CanBe (held_in s) AnyName AnyName (node_given (walk_on_node s c r) given)
can-be s c r given told l =
    given-can (held_in s) AnyName AnyName AnyTarget AnyCall AnyPath (walk_on_node s c r) (moment_given given.now) given.listed given.looks (is_tree given.fault)
    (subst (λ (b : Bool). Gives (cond b (Some (held_in s)) None) (walk_on_node s c r) given.looks (is_tree given.fault)) told l.looks)
    (all-along (held_in s) AnyName (facts_of s c r.node) r r.op (λ path. tt))

module _ (s : State) (told : s.told ≡ true) (change : FileChange) where
  settled-files : (c : Connection) (v : Option NodeVerdict) → Changes change v → held_in (settled_on_node (all_told c.seat s) c v).0 ≡ cond (is_done (settled_on_node (all_told c.seat s) c v).1) (files_after true change (held_in s)) (held_in s)
  settled-files c None h = refl
  settled-files c (Some (Errs errno)) h = refl
  settled-files c (Some (Yields d)) h = λ i. files_after (told i) (h i) (held_in s)

  settled-told : (app : List ℕ) (sound : SoundTree (held_in s)) (c : Connection) (o : Option NodeVerdict) → Changes change o → CanBe (held_in s) AnyName AnyName o → is_done (settled_on_node (all_told c.seat s) c o).1 ≡ true →
      verdict_touch app s o ≡ told_of_change (view s app) change (held_in (settled_on_node (all_told c.seat s) c o).0)
  settled-told app sound c None h can e = cc
  settled-told app sound c (Some (Errs errno)) h can e = cc
  settled-told app sound c (Some (Yields d)) h can e =
      ap (λ (b : Bool). cond b (file_effects (view s app) (content_named (all_held (held_in s))) d.file) []) told
      ∙ (effects-after (held_in s) sound (view s app) d.file can.file
      ∙ (λ i. told_of_change (view s app) (h i) (files_after (sym told i) d.file (held_in s))))

-- what is changed is there
change-there : (held : Held) (change : FileChange) → CanChange held AnyName AnyName change → IsThere change held
change-there held FilesStay h = tt
change-there held (Writes name offset content now) h = h
change-there held (Resizes name size now) h = h
change-there held (Creates path now) h = tt
change-there held (Adds name now) h = tt
change-there held (Stands name) h = h.1

settled-there : (s : State) (change : FileChange) (c : Connection) (o : Option NodeVerdict) → Changes change o → CanBe (held_in s) AnyName AnyName o → is_done (settled_on_node (all_told c.seat s) c o).1 ≡ true → IsThere change (held_in s)
settled-there s change c None h can e = cc
settled-there s change c (Some (Errs errno)) h can e = cc
settled-there s change c (Some (Yields d)) h can e = subst (λ (x : FileChange). IsThere x (held_in s)) h (change-there (held_in s) d.file can.file)

abbrev pub change_on : State → NodeRequest → Given → Connection → FileChange
change_on s r given c = file_change (around (facts_of s c r.node) given.looks (moment_given given.now) given.generation) r.op

abbrev pub change_over : State → NodeRequest → Given → Option Connection → FileChange
change_over s r given None = FilesStay
change_over s r given (Some c) = change_on s r given c

-- the change of a request on a node over a connection, or over none
abbrev pub change_at : State → ℕ → NodeRequest → Given → FileChange
change_at s seat r given = change_over s r given (mount_of (connection_of s.connections seat))

-- a seat's mount is its open connection
pub mount-there : (o : Option Connection) (c : Connection) → mount_of o ≡ Some c → o ≡ Some c
mount-there None c e = cc
mount-there (Some d) c e = by_kind (is_mount d.kind) e
  where
    by_kind : (b : Bool) → cond b (Some d) None ≡ Some c → Some d ≡ Some c
    by_kind true f = f
    by_kind false f = cc

node-comes : (s : State) (valid : Valid s) (told : s.told ≡ true) (seat : ℕ) (r : NodeRequest) (given : Given) (o : Option Connection) → mount_of (connection_of s.connections seat) ≡ o → LawfulOnNode s r given o →
    (held_in (node_step s r given o).0 ≡ cond (is_done (node_step s r given o).1.answer) (files_after true (change_over s r given o) (held_in s)) (held_in s))
    × (is_done (node_step s r given o).1.answer ≡ true → IsThere (change_over s r given o) (held_in s))
    × ((app : List ℕ) → is_done (node_step s r given o).1.answer ≡ true → node_touch app s r given o ≡ told_of_change (view s app) (change_over s r given o) (held_in (node_step s r given o).0))
node-comes s valid told seat r given None m l = (refl, λ e. tt, λ app e. cc)
node-comes s valid told seat r given (Some c) m l =
    let v : Option NodeVerdict = node_given (walk_on_node s c r) given in
    let h : Changes (change_on s r given c) v = node-changes (facts_of s c r.node) r r.op given.generation (moment_given given.now) given.listed given.looks (is_tree given.fault) l.generation in
    let can : CanBe (held_in s) AnyName AnyName v = can-be s c r given told l in (
      settled-files s told (change_on s r given c) c v h,
      λ e. settled-there s (change_on s r given c) c v h can e,
      λ app e. settled-told s told (change_on s r given c) app (tree-sound app s valid) c v h can e,
    )

-- an entry on a node
pub comes-node : (s : State) (seat : ℕ) (r : NodeRequest) (given : Given) → Valid s → s.told ≡ true → LawfulOnNode s r given (mount_of (connection_of s.connections seat)) →
    Comes s (record { seat = seat; request = Request.Node r; given = given }) (change_at s seat r given)
comes-node s seat r given valid told l =
    let both = node-comes s valid told seat r given (mount_of (connection_of s.connections seat)) refl l in
    record { files = both.0; there = both.1; node = λ app n. both.2 app }

-- any other entry leaves the files
pub comes-stay : (s : State) (e : Entry) → is_node e.request ≡ false → Comes s e FilesStay
comes-stay s e n = record { files = same-files (is_done (reply_at s e).answer) (held_in (after s e)) (held_in s) (stays e.request n); there = λ d. tt; node = λ app m. absurd (true-false (sym m ∙ n)) }
  where
    true-false : true ≡ false → ⊥
    true-false x = cc

    stays : (request : Request) → is_node request ≡ false → held_in (request_step s e.seat request e.given).0 ≡ held_in s
    stays (Request.Node r) n = cc
    stays (Request.Enter who kind) n = refl
    stays Request.Leave n = refl
    stays Request.Collect n = collected (bus_of (connection_of s.connections e.seat))
      where
        collected : (o : Option Connection) → held_in (collect_step s o).0 ≡ held_in s
        collected None = refl
        collected (Some c) = refl
    stays (Request.Present path) n = bus-files s (Request.Present path) e.given (bus_of (connection_of s.connections e.seat))
    stays (Request.Add a) n = bus-files s (Request.Add a) e.given (bus_of (connection_of s.connections e.seat))
    stays (Request.Grant call) n = bus-files s (Request.Grant call) e.given (bus_of (connection_of s.connections e.seat))
    stays (Request.Revoke call) n = bus-files s (Request.Revoke call) e.given (bus_of (connection_of s.connections e.seat))
    stays (Request.DeleteDocument doc) n = bus-files s (Request.DeleteDocument doc) e.given (bus_of (connection_of s.connections e.seat))
    stays (Request.LookupDocument path) n = bus-files s (Request.LookupDocument path) e.given (bus_of (connection_of s.connections e.seat))
    stays (Request.Info doc) n = bus-files s (Request.Info doc) e.given (bus_of (connection_of s.connections e.seat))
    stays (Request.ListDocuments name) n = bus-files s (Request.ListDocuments name) e.given (bus_of (connection_of s.connections e.seat))
    stays (Request.Store call) n = bus-files s (Request.Store call) e.given (bus_of (connection_of s.connections e.seat))
