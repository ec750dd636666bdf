-- Where the looks lie that stand in the item of a request that an application makes.
use Rattle.std.proofs.Common.{◌≡◌, ◌≤◌, ℕ, ◌==◌, List, [], ◌∷◌, ◌++◌, length, map, take, Bool, true, false, Option, Some, None, cond, refl, sym, subst, arith}
use Rattle.std.specs.List.{All, AllByRecursion}
use Rattle.std.proofs.lemmas.List.Elements.{All-from_recursion}
use Rattle.file_generations.specs.Generations.{Held}
use Rattle.portal_base.specs.declared.files.Look.{Look}
use Rattle.portal_model.specs.declared.entry.Entry.{Entry}
use Rattle.portal_model.specs.declared.entry.Given.{Given}
use Rattle.portal_model.specs.declared.request.AddRequest.{AddRequest}
use Rattle.portal_model.specs.declared.request.NodeRequest.{NodeRequest}
use Rattle.portal_model.specs.declared.request.Request.{Request}
use Rattle.portal_model.specs.declared.state.Connection.{Connection}
use Rattle.portal_model.specs.Add.{add}
use Rattle.portal_model.specs.Bus.{is_tree}
use Rattle.portal_model.specs.History.{EachLawful, made_by, makes, run}
use Rattle.portal_model.specs.Lawful.{LawfulGiven, LawfulOnBus, LawfulOnNode, nothing_given}
use Rattle.portal_model.specs.Node.{facts_of, walk_on_node}
use Rattle.portal_model.specs.Outside.{files_told, walk_of}
use Rattle.portal_model.specs.State.{State, connection_of, held_in, is_app}
use Rattle.portal_model.specs.Step.{after, all_told, bus_of, is_mount, mount_of}
use Rattle.portal_model.specs.Valid.{Valid, is_sound_connection}
use Rattle.portal_model.specs.Walk.{Gives, Target, Walk, shown_at}
use Rattle.portal_model.proofs.NodeValid.{asking_in}
use Rattle.portal_model.proofs.ListLookups.{found_in_all, found_passes, nat_is}
use Rattle.portal_model.proofs.Queues.{queue_sound}
use Rattle.portal_model.proofs.ValidLaws.{after-Valid, told-sight}
use Rattle.app_world.specs.View.{OwnConnection, own_connection, view}
use Rattle.app_world.proofs.ViewLaws.{is_app-named, own-some}
use Rattle.app_world.proofs.ViewedNames.{placed-temps}
use Rattle.served_world.specs.OwnPlaces.{MayAsk, OwnLooksAreOfItsFiles, PresentsItsOwn, add_places, add_shown, node_places, node_shown, places_asked, places_of, shown_of, waits_at_home}
use Rattle.served_world.proofs.AddPlaces.{add-places}
use Rattle.served_world.proofs.NodePlaces.{node-places}
use Rattle.served_world.proofs.PlacesAlong.{looks-placed}
use Rattle.served_world.proofs.PresentedPaths.{after-home}
use Rattle.served_world.proofs.ShownPlaces.{add-made, node-made, shown-along}

-- ---- a place for each look

nothing-shown : (n : ℕ) (given : Given) → given ≡ nothing_given → length given.looks ≤ n
nothing-shown n given e = subst (λ (g : Given). length g.looks ≤ n) (sym e) (omega arith)

none-shown : (n : ℕ) (looks : List Look) → looks ≡ [] → length looks ≤ n
none-shown n looks e = subst (λ (l : List Look). length l ≤ n) (sym e) (omega arith)

module _ (s : State) (given : Given) where
  node-placed : (r : NodeRequest) (o : Option Connection) → LawfulOnNode s r given o → length given.looks ≤ length (node_places s r given o)
  node-placed r None l = nothing-shown 0 given l
  node-placed r (Some c) l = looks-placed _ (files_told (all_told c.seat s)) given.looks (is_tree given.fault) l.looks

  add-placed : (a : AddRequest) (o : Option Connection) → LawfulOnBus s (Request.Add a) given o → length given.looks ≤ length (add_places s a given o)
  add-placed a None l = nothing-shown 0 given l
  add-placed a (Some c) l = looks-placed _ (files_told (all_told c.seat s)) given.looks (is_tree given.fault) l.looks

  -- another request of a bus looks nowhere
  bus-placed : (request : Request) →
      ((t : State) (c : Connection) → Gives (files_told t) (walk_of t c request given) given.looks (is_tree given.fault) → given.looks ≡ []) → (o : Option Connection) → LawfulOnBus s request given o → length given.looks ≤ 0
  bus-placed request f None l = nothing-shown 0 given l
  bus-placed request f (Some c) l = none-shown 0 given.looks (f (all_told c.seat s) c l.looks)

  placed : (seat : ℕ) (request : Request) → LawfulGiven s seat request given → length given.looks ≤ length (places_of s seat given request)
  placed seat (Request.Node r) l = node-placed r (mount_of (connection_of s.connections seat)) l
  placed seat (Request.Add a) l = add-placed a (bus_of (connection_of s.connections seat)) l
  placed seat (Request.Enter who kind) l = nothing-shown 0 given l.1
  placed seat Request.Leave l = nothing-shown 0 given l
  placed seat Request.Collect l = nothing-shown 0 given l
  placed seat (Request.Present path) l = bus-placed (Request.Present path) (λ t c g. g.0) (bus_of (connection_of s.connections seat)) l
  placed seat (Request.Grant call) l = bus-placed (Request.Grant call) (λ t c g. g.0) (bus_of (connection_of s.connections seat)) l
  placed seat (Request.Revoke call) l = bus-placed (Request.Revoke call) (λ t c g. g.0) (bus_of (connection_of s.connections seat)) l
  placed seat (Request.DeleteDocument doc) l = bus-placed (Request.DeleteDocument doc) (λ t c g. g.0) (bus_of (connection_of s.connections seat)) l
  placed seat (Request.LookupDocument path) l = bus-placed (Request.LookupDocument path) (λ t c g. g.0) (bus_of (connection_of s.connections seat)) l
  placed seat (Request.Info doc) l = bus-placed (Request.Info doc) (λ t c g. g.0) (bus_of (connection_of s.connections seat)) l
  placed seat (Request.ListDocuments name) l = bus-placed (Request.ListDocuments name) (λ t c g. g.0) (bus_of (connection_of s.connections seat)) l
  placed seat (Request.Store call) l = bus-placed (Request.Store call) (λ t c g. g.0) (bus_of (connection_of s.connections seat)) l

-- ---- what the files have there

module _ (s : State) (given : Given) (t : s.told ≡ true) where
  abbrev Shown : List Look → Type 0
  Shown looks = given.looks ≡ take (length given.looks) looks

  abbrev tree : Held
  tree = held_in s

  nothing-is : given ≡ nothing_given → Shown []
  nothing-is e = subst (λ (g : Given). g.looks ≡ take (length g.looks) []) (sym e) refl

  none-is : given.looks ≡ [] → Shown []
  none-is e = subst (λ (l : List Look). l ≡ take (length l) []) (sym e) refl

  by_files : {X : Type 0} (w : Walk X) → Gives (cond s.told (Some tree) None) w given.looks (is_tree given.fault) → Gives (Some tree) w given.looks (is_tree given.fault)
  by_files w g = subst (λ (b : Bool). Gives (cond b (Some tree) None) w given.looks (is_tree given.fault)) t g

  node-shown : (r : NodeRequest) (o : Option Connection) → LawfulOnNode s r given o → Shown (node_shown s r given o)
  node-shown r None l = nothing-is l
  node-shown r (Some c) l =
      let told : State = all_told c.seat s in
      shown-along tree (walk_on_node told c r) (node-made tree (facts_of told c r.node) r r.op) given.looks (is_tree given.fault) (by_files (walk_on_node told c r) l.looks)

  add-shown : (a : AddRequest) (o : Option Connection) → LawfulOnBus s (Request.Add a) given o → Shown (add_shown s a given o)
  add-shown a None l = nothing-is l
  add-shown a (Some c) l =
      let told : State = all_told c.seat s in
      shown-along tree (add told c a given.numbers) (add-made tree told c a given.numbers) given.looks (is_tree given.fault) (by_files (add told c a given.numbers) l.looks)

  bus-shown : (request : Request) →
      ((u : State) (c : Connection) → Gives (files_told u) (walk_of u c request given) given.looks (is_tree given.fault) → given.looks ≡ []) → (o : Option Connection) → LawfulOnBus s request given o → Shown []
  bus-shown request f None l = nothing-is l
  bus-shown request f (Some c) l = none-is (f (all_told c.seat s) c l.looks)

  shown : (seat : ℕ) (request : Request) → LawfulGiven s seat request given → Shown (shown_of s seat given request)
  shown seat (Request.Node r) l = node-shown r (mount_of (connection_of s.connections seat)) l
  shown seat (Request.Add a) l = add-shown a (bus_of (connection_of s.connections seat)) l
  shown seat (Request.Enter who kind) l = nothing-is l.1
  shown seat Request.Leave l = nothing-is l
  shown seat Request.Collect l = nothing-is l
  shown seat (Request.Present path) l = bus-shown (Request.Present path) (λ u c g. g.0) (bus_of (connection_of s.connections seat)) l
  shown seat (Request.Grant call) l = bus-shown (Request.Grant call) (λ u c g. g.0) (bus_of (connection_of s.connections seat)) l
  shown seat (Request.Revoke call) l = bus-shown (Request.Revoke call) (λ u c g. g.0) (bus_of (connection_of s.connections seat)) l
  shown seat (Request.DeleteDocument doc) l = bus-shown (Request.DeleteDocument doc) (λ u c g. g.0) (bus_of (connection_of s.connections seat)) l
  shown seat (Request.LookupDocument path) l = bus-shown (Request.LookupDocument path) (λ u c g. g.0) (bus_of (connection_of s.connections seat)) l
  shown seat (Request.Info doc) l = bus-shown (Request.Info doc) (λ u c g. g.0) (bus_of (connection_of s.connections seat)) l
  shown seat (Request.ListDocuments name) l = bus-shown (Request.ListDocuments name) (λ u c g. g.0) (bus_of (connection_of s.connections seat)) l
  shown seat (Request.Store call) l = bus-shown (Request.Store call) (λ u c g. g.0) (bus_of (connection_of s.connections seat)) l

-- ---- each place

module _ (app : List ℕ) (s : State) (v : Valid s) (p : PresentsItsOwn app s) (seat : ℕ) (given : Given) where
  abbrev MayAll : Request → List Target → Type 0
  MayAll request places = AllByRecursion (MayAsk app s seat request) places

  module _ (c : Connection) (e : connection_of s.connections seat ≡ Some c) (h : is_app app c.who ≡ true) where
    seat-is : c.seat ≡ seat
    seat-is = nat_is c.seat seat (found_passes (λ (x : Connection). x.seat == seat) s.connections c e)

    node-here : (r : NodeRequest) (b : Bool) → MayAll (Request.Node r) (node_places s r given (cond b (Some c) None))
    node-here r true = subst (λ (n : ℕ). AllByRecursion (MayAsk app s n (Request.Node r)) (node_places s r given (Some c))) seat-is (node-places app s c r (is_app-named app c.who h) (asking_in s c.who) (told-sight s seat c e v) (placed-temps app s v seat c e) given.looks)
    node-here r false = tt

    add-here : (a : AddRequest) (b : Bool) → MayAll (Request.Add a) (add_places s a given (cond b None (Some c)))
    add-here a true = tt
    add-here a false =
        subst (λ (n : ℕ). AllByRecursion (MayAsk app s n (Request.Add a)) (add_places s a given (Some c))) seat-is
        (add-places app s c a (subst (λ (n : ℕ). connection_of s.connections n ≡ Some c) (sym seat-is) e)
        (found_in_all (λ (x : OwnConnection). x.seat == seat) (waits_at_home app) (view s app).connections (own_connection app s.handles c) (own-some app s.handles seat s.connections c e h) p)
        (queue_sound s.limits.queued c (found_in_all (λ (x : Connection). x.seat == seat) (is_sound_connection s.limits.queued) s.connections c e v.connections_sound)) given)

  node-may : (r : NodeRequest) (found : Option Connection) → connection_of s.connections seat ≡ found → made_by app found (Request.Node r) ≡ true → MayAll (Request.Node r) (node_places s r given (mount_of found))
  node-may r None e m = tt
  node-may r (Some c) e m = node-here c e m r (is_mount c.kind)

  add-may : (a : AddRequest) (found : Option Connection) → connection_of s.connections seat ≡ found → made_by app found (Request.Add a) ≡ true → MayAll (Request.Add a) (add_places s a given (bus_of found))
  add-may a None e m = tt
  add-may a (Some c) e m = add-here c e m a (is_mount c.kind)

  all-may : (request : Request) → made_by app (connection_of s.connections seat) request ≡ true → MayAll request (places_of s seat given request)
  all-may (Request.Node r) m = node-may r (connection_of s.connections seat) refl m
  all-may (Request.Add a) m = add-may a (connection_of s.connections seat) refl m
  all-may request m = tt

-- ---- in a history

places-in : (front rest : List Entry) (e : Entry) (app : List ℕ) (s : State) → Valid s → EachLawful s (front ++ e ∷ rest) → PresentsItsOwn app s → makes app (run s front) e ≡ true →
    All (MayAsk app (run s front) e.seat e.request) (places_asked (run s front) e)
places-in [] rest e app s v l p m = All-from_recursion (MayAsk app s e.seat e.request) (places_asked s e) (all-may app s v p e.seat e.given e.request m)
places-in (f ∷ front) rest e app s v l p m = places-in front rest e app (after s f) (after-Valid s f v l.0) l.1 (after-home app s f v l.0 p) m

pub own_looks_placed : OwnLooksAreOfItsFiles
own_looks_placed = record {
  looks = λ s e l. placed s e.given e.seat e.request l.given;
  shows = λ s e t l. shown s e.given t e.seat e.request l.given;
  places = λ app s front rest e l p m. places-in front rest e app s l.opening l.lawful p m;
  opened = λ app files o. refl;
}
