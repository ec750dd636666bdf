-- A request on a node is served alike whatever connections wait for: what serves the state but for that serves the state.
use Rattle.std.proofs.Common.{◌≡◌, ℕ, ◌==◌, ◌+◌, nat_eq, List, [], ◌∷◌, map, Bool, true, false, ◌&&◌, ◌||◌, cond, Option, Some, None, option_map, refl, sym, ap, subst, ◌∙◌, arith}
use Rattle.std.specs.List.{list_all, IsDistinct}
use Rattle.change_signals.specs.Unsent.{Boxes}
use Rattle.node_looks.specs.OpenHandles.{AreOpen}
use Rattle.node_looks.specs.Served.{given_to}
use Rattle.node_looks.specs.TreeCalls.{Call, Calling, calls_of}
use Rattle.node_looks.specs.declared.served.NodeDone.{NodeDone}
use Rattle.host_tree.specs.Trees.{TreeIs}
use Rattle.file_ops.specs.SeatNames.{AreOwn, OwnTables}
use Rattle.node_serving.specs.Seats.{ServesSeat, calls_on, seat_step, unnamed}
use Rattle.open_handles.specs.Opened.{HandleTable}
use Rattle.file_generations.specs.Generations.{all_held}
use Rattle.portal_base.specs.declared.who.Who.{Who}
use Rattle.portal_model.specs.declared.entry.Given.{Given}
use Rattle.portal_model.specs.declared.handle.OpenHandle.{OpenHandle}
use Rattle.portal_model.specs.declared.naming.Naming.{Naming}
use Rattle.portal_model.specs.declared.place.Place.{Place}
use Rattle.portal_model.specs.declared.reply.Answer.{Answer}
use Rattle.portal_model.specs.declared.reply.Reply.{Reply}
use Rattle.portal_model.specs.declared.request.NodeRequest.{NodeRequest}
use Rattle.portal_model.specs.declared.request.Request.TheVariants as Request
use Rattle.portal_model.specs.declared.state.Connection.{Connection}
use Rattle.portal_model.specs.declared.temporary.Temp.{Temp}
use Rattle.portal_model.specs.Alike.{Alike}
use Rattle.portal_model.specs.Bus.{is_tree}
use Rattle.portal_model.specs.Lawful.{LawfulOnNode}
use Rattle.portal_model.specs.Node.{bytes_named, connections_after, connections_named, counted, files_after, handles_after, named_on, node_answer, node_given, node_walk, room_of, settled_on_node, walk_on_node, taken_after, temps_changed, temps_seen, with_temps}
use Rattle.portal_model.specs.NodeVerdict.{HandleChange, HandlesStay, Opens, Closes, NameChange, NamesStay, Names, NodeVerdict, Errs, Yields, Temps}
use Rattle.portal_model.specs.Outside.{files_told}
use Rattle.portal_model.specs.Place.{place_named, reach_of_subject, sight_at, subject_of, view_of_node, naming_on, temp_on}
use Rattle.portal_model.specs.SeatNames.{with_naming, TempChange}
use Rattle.portal_model.specs.State.{State, connection_of, handle_of, is_mount, held_in}
use Rattle.portal_model.specs.Step.{all_told, mount_of, node_step, reply_with, told_of, with_signals}
use Rattle.portal_model.specs.Walk.{Walk, Gives, reads_clock, GivesNames, generation_reached}
use Rattle.portal_model.specs.Valid.{Valid, is_caller, is_host_bus, is_none, is_sound_change, is_sound_connection}
use Rattle.portal_model.proofs.DocumentChanges.{both, first_of_both, second_of_both}
use Rattle.portal_model.proofs.SeatsValid.{seats-mapped}
use Rattle.portal_model.proofs.OpenHandles.{Alike as AlikeConnections, mapped-handles}
use Rattle.portal_model.proofs.Queues.{is_sound_queue, seats}
use Rattle.portal_model.proofs.SoundParts.{Valid-connections, valid-handles, valid-seats}
use Rattle.portal_model.proofs.WhoWaits.{node_step-quiet}
use Rattle.portal_steps.proofs.Boxes.{hushed, hushed-found, hushed-unnamed, kept-waits, mount-hushed, told-hushed}
use Rattle.portal_steps.proofs.NamedSteps.{own-loud}
use Rattle.portal_steps.proofs.OpenSteps.{open-loud}
use Rattle.store_serving.specs.Waiting.{AreWaiting, box_of, silent}

-- the state but for what connections wait for
abbrev pub quiet : State → State
quiet s = record s { connections = map hushed s.connections }

-- ---- the mount of a seat

mount_found : (o : Option Connection) (c : Connection) → mount_of o ≡ Some c → o ≡ Some c
mount_found None c e = cc
mount_found (Some d) c e = elim (is_mount d.kind) as (λ b. cond b (Some d) None ≡ Some c → Some d ≡ Some c) [ true ↦ λ h. h | false ↦ λ h. cc ] e

mount_kind : (o : Option Connection) (c : Connection) → mount_of o ≡ Some c → is_mount c.kind ≡ true
mount_kind None c e = cc
mount_kind (Some d) c e = by_kind (is_mount d.kind) refl e
  where
    by_kind : (b : Bool) → is_mount d.kind ≡ b → cond b (Some d) None ≡ Some c → is_mount c.kind ≡ true
    by_kind true k h = let same : d ≡ c = cc in ap (λ (x : Connection). is_mount x.kind) (sym same) ∙ k
    by_kind false k h = cc

-- ---- it is valid too

quiet-seats : (cs : List Connection) → seats (map hushed cs) ≡ seats cs
quiet-seats [] = refl
quiet-seats (c ∷ cs) = ap (λ (x : List ℕ). c.seat ∷ x) (quiet-seats cs)

quiet-one : (queued : ℕ) (c : Connection) → is_sound_connection queued c ≡ true → is_sound_connection queued (hushed c) ≡ true
quiet-one queued c h =
    let waits = is_none c.unsent || is_host_bus c.who c.kind in
    let changes = list_all is_sound_change c.unsent in
    let queue = is_sound_queue queued c.queue in
    let later = second_of_both waits (changes && queue) (second_of_both (is_caller c.who) (waits && (changes && queue)) h) in
    both (is_caller c.who) queue (first_of_both (is_caller c.who) (waits && (changes && queue)) h) (second_of_both changes queue later)

quiet-sound : (queued : ℕ) (cs : List Connection) → list_all (is_sound_connection queued) cs ≡ true → list_all (is_sound_connection queued) (map hushed cs) ≡ true
quiet-sound queued [] h = refl
quiet-sound queued (c ∷ cs) h =
    both (is_sound_connection queued (hushed c)) (list_all (is_sound_connection queued) (map hushed cs))
    (quiet-one queued c (first_of_both (is_sound_connection queued c) (list_all (is_sound_connection queued) cs) h))
    (quiet-sound queued cs (second_of_both (is_sound_connection queued c) (list_all (is_sound_connection queued) cs) h))

quiet-alike : (c : Connection) → AlikeConnections c (hushed c)
quiet-alike c = record { seat = refl; who = refl; kind = refl; opens = omega arith }

pub quiet-valid : (s : State) → Valid s → Valid (quiet s)
quiet-valid s v = Valid-connections s (map hushed s.connections) v
    (subst (IsDistinct nat_eq) (sym (quiet-seats s.connections)) v.seats_differ, quiet-sound s.limits.queued s.connections v.connections_sound)
    (mapped-handles hushed quiet-alike s.limits.handles s.connections s.handles (valid-handles s v))
    (seats-mapped s.made s.documents s.told s.taken hushed (λ c. record { namings = refl; temps = refl; added = refl; who = refl }) s.connections (valid-seats s v))

-- ---- the step

counted-seat : (seat : ℕ) (c : Connection) → (counted seat c).seat ≡ c.seat
counted-seat seat c = elim (c.seat == seat) as (λ b. (cond b (record c { opens = c.opens + 1 }) c).seat ≡ c.seat) [ true ↦ refl | false ↦ refl ]

counted-box : (seat : ℕ) (c : Connection) → box_of (counted seat c) ≡ box_of c
counted-box seat c = elim (c.seat == seat) as (λ b. box_of (cond b (record c { opens = c.opens + 1 }) c) ≡ box_of c) [ true ↦ refl | false ↦ refl ]

counted-hushed : (seat : ℕ) (c : Connection) → counted seat (hushed c) ≡ hushed (counted seat c)
counted-hushed seat c = elim (c.seat == seat) as (λ b. cond b (record (hushed c) { opens = c.opens + 1 }) (hushed c) ≡ hushed (cond b (record c { opens = c.opens + 1 }) c)) [ true ↦ refl | false ↦ refl ]

all-counted : (seat : ℕ) (cs : List Connection) → map (counted seat) (map hushed cs) ≡ map hushed (map (counted seat) cs)
all-counted seat [] = refl
all-counted seat (c ∷ cs) = λ i. counted-hushed seat c i ∷ all-counted seat cs i

connections-hushed : (c : Connection) (change : HandleChange) (cs : List Connection) → connections_after (hushed c) change (map hushed cs) ≡ map hushed (connections_after c change cs)
connections-hushed c HandlesStay cs = refl
connections-hushed c (Opens handle) cs = all-counted c.seat cs
connections-hushed c (Closes fh) cs = refl

-- what a request names goes onto the connection of the seat
named-seat : (seat : ℕ) (naming : Naming) (c : Connection) → (named_on seat naming c).seat ≡ c.seat
named-seat seat naming c = elim (c.seat == seat) as (λ b. (cond b (record c { namings = with_naming c.namings naming }) c).seat ≡ c.seat) [ true ↦ refl | false ↦ refl ]

named-box : (seat : ℕ) (naming : Naming) (c : Connection) → box_of (named_on seat naming c) ≡ box_of c
named-box seat naming c = elim (c.seat == seat) as (λ b. box_of (cond b (record c { namings = with_naming c.namings naming }) c) ≡ box_of c) [ true ↦ refl | false ↦ refl ]

one-named : (seat : ℕ) (naming : Naming) (c : Connection) → named_on seat naming (hushed c) ≡ hushed (named_on seat naming c)
one-named seat naming c =
    elim (c.seat == seat) as (λ b. cond b (record (hushed c) { namings = with_naming c.namings naming }) (hushed c) ≡ hushed (cond b (record c { namings = with_naming c.namings naming }) c)) [ true ↦ refl | false ↦ refl ]

all-named : (seat : ℕ) (naming : Naming) (cs : List Connection) → map (named_on seat naming) (map hushed cs) ≡ map hushed (map (named_on seat naming) cs)
all-named seat naming [] = refl
all-named seat naming (c ∷ cs) = λ i. one-named seat naming c i ∷ all-named seat naming cs i

-- so do its temporaries
temps-seat : (seat : ℕ) (change : TempChange) (c : Connection) → (temps_changed seat change c).seat ≡ c.seat
temps-seat seat change c = elim (c.seat == seat) as (λ b. (cond b (with_temps change c) c).seat ≡ c.seat) [ true ↦ refl | false ↦ refl ]

temps-box : (seat : ℕ) (change : TempChange) (c : Connection) → box_of (temps_changed seat change c) ≡ box_of c
temps-box seat change c = elim (c.seat == seat) as (λ b. box_of (cond b (with_temps change c) c) ≡ box_of c) [ true ↦ refl | false ↦ refl ]

one-temps : (seat : ℕ) (change : TempChange) (c : Connection) → temps_changed seat change (hushed c) ≡ hushed (temps_changed seat change c)
one-temps seat change c = elim (c.seat == seat) as (λ b. cond b (with_temps change (hushed c)) (hushed c) ≡ hushed (cond b (with_temps change c) c)) [ true ↦ refl | false ↦ refl ]

all-temps : (seat : ℕ) (change : TempChange) (cs : List Connection) → map (temps_changed seat change) (map hushed cs) ≡ map hushed (map (temps_changed seat change) cs)
all-temps seat change [] = refl
all-temps seat change (c ∷ cs) = λ i. one-temps seat change c i ∷ all-temps seat change cs i

names-hushed : (c : Connection) (change : NameChange) (cs : List Connection) → connections_named (hushed c) change (map hushed cs) ≡ map hushed (connections_named c change cs)
names-hushed c NamesStay cs = refl
names-hushed c (Names naming) cs = all-named c.seat naming cs
names-hushed c (Temps change) cs = all-temps c.seat change cs

names-waiting : (c : Connection) (change : NameChange) (cs : List Connection) (boxes : Boxes) → AreWaiting cs boxes → AreWaiting (connections_named c change cs) boxes
names-waiting c NamesStay cs boxes w = w
names-waiting c (Names naming) cs boxes w = kept-waits (named_on c.seat naming) cs boxes (named-seat c.seat naming) (named-box c.seat naming) w
names-waiting c (Temps change) cs boxes w = kept-waits (temps_changed c.seat change) cs boxes (temps-seat c.seat change) (temps-box c.seat change) w

connections-waiting : (c : Connection) (change : HandleChange) (cs : List Connection) (boxes : Boxes) → AreWaiting cs boxes → AreWaiting (connections_after c change cs) boxes
connections-waiting c HandlesStay cs boxes w = w
connections-waiting c (Opens handle) cs boxes w = kept-waits (counted c.seat) cs boxes (counted-seat c.seat) (counted-box c.seat) w
connections-waiting c (Closes fh) cs boxes w = w

handles-hushed : (c : Connection) (change : HandleChange) (hs : List OpenHandle) → handles_after (hushed c) change hs ≡ handles_after c change hs
handles-hushed c HandlesStay hs = refl
handles-hushed c (Opens handle) hs = refl
handles-hushed c (Closes fh) hs = refl

-- what a request comes to has nothing to do with connections
module _ (s : State) (cs ds : List Connection) where
  place-over : (who : Who) (naming : Option Naming) (temp : Option Temp) (o : Option Place) → sight_at (record s { connections = cs }) who naming temp o ≡ sight_at (record s { connections = ds }) who naming temp o
  place-over who naming temp None = refl
  place-over who naming temp (Some (Place.Root view)) = refl
  place-over who naming temp (Some Place.ByApp) = refl
  place-over who naming temp (Some (Place.Folder view id)) = refl
  place-over who naming temp (Some (Place.File view id)) = refl
  place-over who naming temp (Some (Place.Named view k)) = refl
  place-over who naming temp (Some (Place.Temporary view k)) = refl

  reach-over : (number : ℕ) (subject : Option Who) → reach_of_subject (record s { connections = cs }) number subject ≡ reach_of_subject (record s { connections = ds }) number subject
  reach-over number None = refl
  reach-over number (Some who) = refl

  walk-over : (c : Connection) (r : NodeRequest) → walk_on_node (record s { connections = cs }) (hushed c) r ≡ walk_on_node (record s { connections = ds }) c r
  walk-over c r = λ i. node_walk (record {
    sight = place-over c.who (naming_on c r.node) (temp_on c r.node) (place_named r.node) i;
    sight_of = λ node. place-over c.who (naming_on c node) (temp_on c node) (place_named node) i;
    handle = handle_of s.handles c.seat;
    reach = λ node number. reach-over number (subject_of s.applications c.who (view_of_node node)) i;
    bytes = bytes_named (all_held (held_in s));
    room = room_of s c;
    namings = c.namings;
    temps = temps_seen s c;
    file_limit = s.limits.file_bytes;
  }) r r.op

-- the state of an answer, but for what connections wait for
abbrev quiet_answer : State × Answer → State × Answer
quiet_answer done = (quiet done.0, done.1)

abbrev quiet_reply : State × Reply → State × Reply
quiet_reply done = (quiet done.0, done.1)

settled-quiet : (s : State) (c : Connection) (v : Option NodeVerdict) → settled_on_node (quiet s) (hushed c) v ≡ quiet_answer (settled_on_node s c v)
settled-quiet s c None = refl
settled-quiet s c (Some (Errs errno)) = refl
settled-quiet s c (Some (Yields d)) = λ i. (
  record s {
    connections = (ap (connections_named (hushed c) d.names) (connections-hushed c d.handle s.connections) ∙ names-hushed c d.names (connections_after c d.handle s.connections)) i;
    handles = handles-hushed c d.handle s.handles i;
    files = (files_after s.told d.file (held_in s)).present;
    hidden = (files_after s.told d.file (held_in s)).hidden;
    taken = taken_after d.file s.taken;
  },
  Answer.Node d.answer,
)

settled-waiting : (s : State) (c : Connection) (v : Option NodeVerdict) (boxes : Boxes) → AreWaiting s.connections boxes → AreWaiting (settled_on_node s c v).0.connections boxes
settled-waiting s c None boxes w = w
settled-waiting s c (Some (Errs errno)) boxes w = w
settled-waiting s c (Some (Yields d)) boxes w = names-waiting c d.names (connections_after c d.handle s.connections) boxes (connections-waiting c d.handle s.connections boxes w)

told-quiet : (s : State) (seat : ℕ) → all_told seat (quiet s) ≡ quiet s
told-quiet s seat = λ i. record s { connections = told-hushed seat s.connections i }

module _ (s : State) (v : Valid s) (seat : ℕ) (r : NodeRequest) (given : Given) where
  -- on the mount of the seat
  mount-step : (c : Connection) → connection_of s.connections seat ≡ Some c → is_mount c.kind ≡ true → node_step (quiet s) r given (Some (hushed c)) ≡ quiet_reply (node_step s r given (Some c))
  mount-step c f m =
      (λ i. with_signals [] (node_answer (told-quiet s c.seat i) (hushed c) r given))
      ∙ (ap (λ (w : Walk NodeVerdict). with_signals [] (settled_on_node (quiet s) (hushed c) (node_given w given))) (walk-over s (map hushed s.connections) s.connections c r)
      ∙ (ap (with_signals []) (settled-quiet s c (node_given (walk_on_node s c r) given))
      ∙ ap quiet_reply (sym (node_step-quiet s seat c r given v f m))))

  by-mount : (m : Option Connection) → mount_of (connection_of s.connections seat) ≡ m → node_step (quiet s) r given (option_map hushed m) ≡ quiet_reply (node_step s r given m)
  by-mount None e = refl
  by-mount (Some c) e = mount-step c (mount_found (connection_of s.connections seat) c e) (mount_kind (connection_of s.connections seat) c e)

  mount-now : mount_of (connection_of (quiet s).connections seat) ≡ option_map hushed (mount_of (connection_of s.connections seat))
  mount-now = ap mount_of (hushed-found s.connections seat) ∙ mount-hushed (connection_of s.connections seat)

  quiet-step : seat_step (quiet s) seat r given ≡ quiet_reply (seat_step s seat r given)
  quiet-step = ap (node_step (quiet s) r given) mount-now ∙ by-mount (mount_of (connection_of s.connections seat)) refl

  -- what it makes of the state, of a mount or not
  step-waiting : (m : Option Connection) (boxes : Boxes) → mount_of (connection_of s.connections seat) ≡ m → AreWaiting s.connections boxes → AreWaiting (node_step s r given m).0.connections boxes
  step-waiting None boxes e w = w
  step-waiting (Some c) boxes e w =
      let f = mount_found (connection_of s.connections seat) c e in
      let m = mount_kind (connection_of s.connections seat) c e in
      subst (λ (x : State × Reply). AreWaiting x.0.connections boxes) (sym (node_step-quiet s seat c r given v f m)) (settled-waiting s c (node_given (walk_on_node s c r) given) boxes w)

  walk-told : (c : Connection) → walk_on_node (all_told c.seat (quiet s)) (hushed c) r ≡ walk_on_node (all_told c.seat s) c r
  walk-told c = walk-over s (map (told_of c.seat) (map hushed s.connections)) (map (told_of c.seat) s.connections) c r

  lawful-loud : (m : Option Connection) → LawfulOnNode (quiet s) r given (option_map hushed m) → LawfulOnNode s r given m
  lawful-loud None l = l
  lawful-loud (Some c) l = record {
    looks = subst (λ (w : Walk NodeVerdict). Gives (files_told s) w given.looks (is_tree given.fault)) (walk-told c) l.looks;
    clock = l.clock ∙ ap (λ (w : Walk NodeVerdict). reads_clock w given.looks) (walk-told c);
    listed = subst (λ (w : Walk NodeVerdict). GivesNames (files_told s) w given.looks given.listed (is_tree given.fault)) (walk-told c) l.listed;
    generation = l.generation ∙ ap (λ (w : Walk NodeVerdict). generation_reached w given.looks) (walk-told c);
    words = l.words;
    numbers = l.numbers;
    full = l.full;
    keeper = l.keeper;
  }

  calls-loud : (m : Option Connection) → calls_on (quiet s) r given (option_map hushed m) ≡ calls_on s r given m
  calls-loud None = refl
  calls-loud (Some c) = ap (λ (w : Walk NodeVerdict). calls_of w given.looks (is_tree given.fault)) (walk-told c)

-- ---- what serves the state but for that serves the state

pub record ServesLoudly (s : State) (seat : ℕ) (r : NodeRequest) (old : TreeIs) (done : NodeDone) (cs' : List Connection) (table' : HandleTable) (own' : OwnTables) (new : TreeIs) : Type 0 where
  pub serves : ServesSeat s seat r old done (map unnamed (seat_step s seat r (given_to done)).0.connections) table' own' new
  pub connected : map silent (seat_step s seat r (given_to done)).0.connections ≡ cs'
  pub waiting : (boxes : Boxes) → AreWaiting s.connections boxes → AreWaiting (seat_step s seat r (given_to done)).0.connections boxes

pub serves-loudly : (s : State) (seat : ℕ) (r : NodeRequest) (old : TreeIs) (done : NodeDone) (cs' : List Connection) (table' : HandleTable) (own' : OwnTables) (new : TreeIs) → Valid s → ServesSeat (quiet s) seat r old done cs' table' own' new →
    ServesLoudly s seat r old done cs' table' own' new
serves-loudly s seat r old done cs' table' own' new v k =
    let given : Given = given_to done in
    let step : State × Reply = seat_step s seat r given in
    let hushed_step : State × Reply = seat_step (quiet s) seat r given in
    let same : hushed_step ≡ quiet_reply step = quiet-step s v seat r given in
    let stays : quiet step.0 ≡ record (quiet s) { connections = hushed_step.0.connections; handles = step.0.handles; files = step.0.files; hidden = step.0.hidden; taken = step.0.taken } =
    ap (λ (x : State × Reply). x.0) (sym same) ∙ (k.stays ∙ (λ i. record (quiet s) { connections = hushed_step.0.connections; handles = (same i).0.handles; files = (same i).0.files; hidden = (same i).0.hidden; taken = (same i).0.taken })) in
    let mount : Option Connection = mount_of (connection_of s.connections seat) in
    let mount_is : mount_of (connection_of (quiet s).connections seat) ≡ option_map hushed mount = mount-now s v seat r given in
    record {
      serves = record {
        lawful = lawful-loud s v seat r given mount (subst (LawfulOnNode (quiet s) r given) mount_is k.lawful);
        reply = subst (λ (x : State × Reply). Alike s.told (Request.Node r) x.1 (reply_with [] done.answer)) same k.reply;
        stays = λ i. record step.0 {
          limits = (ap (λ (t : State). t.limits) stays) i;
          documents = (ap (λ (t : State). t.documents) stays) i;
          made = (ap (λ (t : State). t.made) stays) i;
          rights = (ap (λ (t : State). t.rights) stays) i;
          applications = (ap (λ (t : State). t.applications) stays) i;
          told = (ap (λ (t : State). t.told) stays) i;
          entries = (ap (λ (t : State). t.entries) stays) i;
        };
        connected = refl;
        own = own-loud own' step.0 (subst (λ (x : State × Reply). AreOwn x.0 own') same k.own);
        handles = open-loud table' step.0 (subst (λ (x : State × Reply). AreOpen x.0 table') same k.handles);
        files = ap (λ (x : State × Reply). files_told x.0) (sym same) ∙ k.files;
        calls = subst (λ (calls : List Call). Calling old calls new.told new) (ap (calls_on (quiet s) r given) mount_is ∙ calls-loud s v seat r given mount) k.calls;
        fault = k.fault;
        failure = k.failure;
      };
      connected = sym (hushed-unnamed step.0.connections) ∙ (ap (λ (x : State × Reply). map unnamed x.0.connections) (sym same) ∙ k.connected);
      waiting = λ boxes w. step-waiting s v seat r given mount boxes refl w;
    }
