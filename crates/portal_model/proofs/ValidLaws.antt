-- A valid state stays valid.
use Rattle.std.proofs.Common.{◌≡◌, ℕ, ◌==◌, nat_eq, drop, length, List, [], ◌∷◌, ◌++◌, map, Bool, true, false, not, ◌||◌, cond, Option, Some, None, refl, sym, ap, subst, ◌∙◌, arith}
use Rattle.std.specs.List.{filter, list_any, list_all, IsDistinct}
use Rattle.std.proofs.lemmas.Bool.Decides.{nat_tests}
use Rattle.std.proofs.lemmas.List.Folds.{list_all-append}
use Rattle.std.proofs.lemmas.Cmp.{nat_eq_equiv}
use Rattle.std.proofs.lemmas.Map.Keys.{IsDistinct-push}
use Rattle.portal_base.specs.Names.{is_app_name, is_same}
use Rattle.file_generations.specs.Generations.{Held}
use Rattle.portal_base.specs.declared.names.doc_id.DocId.{DocId}
use Rattle.portal_base.specs.declared.who.Kind.{Kind}
use Rattle.portal_base.specs.declared.who.Who.{Who}
use Rattle.portal_model.specs.declared.entry.Entry.{Entry}
use Rattle.portal_model.specs.declared.entry.Fault.{Fault}
use Rattle.portal_model.specs.declared.entry.Given.{Given}
use Rattle.portal_model.specs.declared.handle.OpenHandle.{OpenHandle}
use Rattle.portal_model.specs.declared.opening.TakenGeneration.{TakenGeneration}
use Rattle.portal_model.specs.declared.reply.Answer.{Answer}
use Rattle.portal_model.specs.declared.reply.Code.{Code}
use Rattle.portal_model.specs.declared.request.AddRequest.{AddRequest}
use Rattle.portal_model.specs.declared.request.NodeRequest.{NodeRequest}
use Rattle.portal_model.specs.declared.request.Request.{Request}
use Rattle.portal_model.specs.declared.state.Connection.{Connection}
use Rattle.portal_model.specs.declared.state.Document.{Document}
use Rattle.portal_model.specs.AddArguments.{are_presented}
use Rattle.portal_model.specs.Arguments.{ahead_of_end, document_named, is_ended_path}
use Rattle.portal_model.specs.Bus.{bus_answer, bus_walk, is_tree, kept, moment_given, refused_state, settled}
use Rattle.portal_model.specs.Documents.{first_of}
use Rattle.portal_model.specs.Enter.{entered, new_connection}
use Rattle.portal_model.specs.History.{run, EachLawful, Legal}
use Rattle.portal_model.specs.Info.{info, info_of}
use Rattle.portal_model.specs.Lawful.{Lawful, LawfulGiven, LawfulOnBus, LawfulOnNode}
use Rattle.portal_model.specs.Leave.{handles_left, left, of_others}
use Rattle.portal_model.specs.ListDocuments.{documents_listed, list_documents}
use Rattle.portal_model.specs.LookupDocument.{lookup_document, text_of}
use Rattle.portal_model.specs.Outside.{AreDrawn, LawfulBus, files_told, meets_limit, verdict_of, words_drawn}
use Rattle.portal_model.specs.Place.{sight_on}
use Rattle.portal_model.specs.Present.{requeued, with_queue}
use Rattle.portal_model.specs.SoundGenerations.{has_taken_handle, has_taken_temps}
use Rattle.portal_model.specs.State.{State, connection_of, held_in}
use Rattle.portal_model.specs.Step.{after, all_told, bus_of, bus_step, collect_step, is_mount, told_of, node_step, request_step, mount_of}
use Rattle.portal_model.specs.Valid.{Valid, is_caller, is_sound_connection}
use Rattle.portal_model.specs.Verdict.{Doing, Verdict, Refuses, Does, does}
use Rattle.portal_model.proofs.AddValid.{add-valid}
use Rattle.portal_model.proofs.DistinctItems.{IsDistinct-filter, list_all-filter}
use Rattle.portal_model.proofs.DeleteDocumentValid.{delete-valid}
use Rattle.portal_model.proofs.WalkDoings.{IfDoes, IfGiven, OnTree, if-passes, tree-walked}
use Rattle.portal_model.proofs.DrawnNumbers.{Unused, drawn-length, drawn-unused}
use Rattle.portal_model.proofs.ListLookups.{found_in_all, found_passes, nat_is}
use Rattle.portal_model.proofs.GrantValid.{grant-valid}
use Rattle.portal_model.proofs.PresentValid.{present-valid}
use Rattle.portal_model.proofs.MadeHandles.{left-made}
use Rattle.portal_model.proofs.NamesValid.{names-found}
use Rattle.portal_model.proofs.NodeValid.{IsSoundSight, node-valid, place-sound, asking_in}
use Rattle.portal_model.proofs.OpenHandles.{entered-handles, left-handles, requeued-handles, told-handles}
use Rattle.portal_model.proofs.Queues.{caller_sound, dropped-connections, found_told, seats}
use Rattle.portal_model.proofs.RevokeValid.{revoke-valid}
use Rattle.portal_model.proofs.SeatsValid.{requeued_same, seats-entered, seats-filtered, seats-mapped, temps-found, told_same}
use Rattle.portal_model.proofs.SoundParts.{SoundConnections, SoundSeats, Valid-connections, Valid-open, valid-files, valid-handles, valid-seats}
use Rattle.portal_model.proofs.StoreValid.{store-valid}

-- ---- Enter

no_seat : (seat : ℕ) (cs : List Connection) → connection_of cs seat ≡ None → list_any (nat_eq seat) (seats cs) ≡ false
no_seat seat [] e = refl
no_seat seat (c ∷ cs) e = grind (arith, nat_tests, no_seat seat cs)

entered_seats : (seat : ℕ) (who : Who) (kind : Kind) (cs : List Connection) → seats (cs ++ new_connection seat who kind ∷ []) ≡ seats cs ++ seat ∷ []
entered_seats seat who kind [] = refl
entered_seats seat who kind (c ∷ cs) = ap (λ (x : List ℕ). c.seat ∷ x) (entered_seats seat who kind cs)

new_sound : (seat : ℕ) (who : Who) (kind : Kind) (queued : ℕ) → is_caller who ≡ true → is_sound_connection queued (new_connection seat who kind) ≡ true
new_sound seat who kind queued named = grind (arith, named)

entered_sound : (seat : ℕ) (who : Who) (kind : Kind) (queued : ℕ) → is_caller who ≡ true → (cs : List Connection) (o : Option Connection) → connection_of cs seat ≡ o → SoundConnections queued cs →
    SoundConnections queued (entered seat who kind cs o)
entered_sound seat who kind queued named cs None e k = (
  subst (IsDistinct nat_eq) (sym (entered_seats seat who kind cs)) (IsDistinct-push nat_eq_equiv (seats cs) seat k.0 (no_seat seat cs e)),
  rw (list_all-append (is_sound_connection queued) cs (new_connection seat who kind ∷ []), k.1, new_sound seat who kind queued named) refl,
)
entered_sound seat who kind queued named cs (Some c) e k = k

-- ---- Leave

left_seats : (seat : ℕ) (cs : List Connection) → seats (of_others seat cs) ≡ filter (λ (n : ℕ). not (n == seat)) (seats cs)
left_seats seat [] = refl
left_seats seat (c ∷ cs) = elim (c.seat == seat) as (λ b. seats (cond (not b) (c ∷ of_others seat cs) (of_others seat cs)) ≡ cond (not b) (c.seat ∷ filter (λ (n : ℕ). not (n == seat)) (seats cs)) (filter (λ (n : ℕ). not (n == seat)) (seats cs))) [
  | true ↦ left_seats seat cs
  | false ↦ ap (λ (x : List ℕ). c.seat ∷ x) (left_seats seat cs)
]

left_sound : (seat queued : ℕ) (cs : List Connection) (o : Option Connection) → SoundConnections queued cs → SoundConnections queued (left seat cs o)
left_sound seat queued cs None k = k
left_sound seat queued cs (Some c) k = (
  subst (IsDistinct nat_eq) (sym (left_seats seat cs)) (IsDistinct-filter nat_eq (λ (n : ℕ). not (n == seat)) (seats cs) k.0),
  list_all-filter (is_sound_connection queued) _ cs k.1,
)

-- ---- what was named on them

entered_names : (seat : ℕ) (who : Who) (kind : Kind) (s : State) (o : Option Connection) → SoundSeats s.made s.documents s.told s.taken s.connections → SoundSeats s.made s.documents s.told s.taken (entered seat who kind s.connections o)
entered_names seat who kind s None h = seats-entered s.made s.documents s.told s.taken s.connections (new_connection seat who kind) refl refl (omega arith) h
entered_names seat who kind s (Some c) h = h

left_names : (seat : ℕ) (s : State) (o : Option Connection) → SoundSeats s.made s.documents s.told s.taken s.connections → SoundSeats s.made s.documents s.told s.taken (left seat s.connections o)
left_names seat s None h = h
left_names seat s (Some c) h = seats-filtered s.made s.documents s.told s.taken (λ (d : Connection). not (d.seat == seat)) s.connections h

-- and what they have open
left_taken : (told : Bool) (taken : List TakenGeneration) (seat : ℕ) (hs : List OpenHandle) (o : Option Connection) → list_all (has_taken_handle told taken) hs ≡ true → list_all (has_taken_handle told taken) (handles_left seat hs o) ≡ true
left_taken told taken seat hs None h = h
left_taken told taken seat hs (Some c) h = list_all-filter (has_taken_handle told taken) _ hs h

-- ---- what is told

told_seats : (seat : ℕ) (cs : List Connection) → seats (map (told_of seat) cs) ≡ seats cs
told_seats seat [] = refl
told_seats seat (c ∷ cs) = elim (c.seat == seat) as (λ b. (cond b (record c { unsent = [] }) c).seat ∷ seats (map (told_of seat) cs) ≡ c.seat ∷ seats cs) [
  | true ↦ ap (λ (x : List ℕ). c.seat ∷ x) (told_seats seat cs)
  | false ↦ ap (λ (x : List ℕ). c.seat ∷ x) (told_seats seat cs)
]

told_one : (queued : ℕ) (c : Connection) (b : Bool) → is_sound_connection queued c ≡ true → is_sound_connection queued (cond b (record c { unsent = [] }) c) ≡ true
told_one queued c true h = grind arith
told_one queued c false h = h

told_sound : (queued seat : ℕ) (cs : List Connection) → list_all (is_sound_connection queued) cs ≡ true → list_all (is_sound_connection queued) (map (told_of seat) cs) ≡ true
told_sound queued seat [] h = refl
told_sound queued seat (c ∷ cs) h = grind (arith, told_one queued c (c.seat == seat), told_sound queued seat cs)

pub all_told-Valid : (s : State) (seat : ℕ) → Valid s → Valid (all_told seat s)
all_told-Valid s seat v = Valid-connections s (map (told_of seat) s.connections) v
    (subst (IsDistinct nat_eq) (sym (told_seats seat s.connections)) v.seats_differ, told_sound s.limits.queued seat s.connections v.connections_sound)
    (told-handles seat s.limits.handles s.connections s.handles (valid-handles s v))
    (seats-mapped s.made s.documents s.told s.taken (told_of seat) (told_same seat) s.connections (valid-seats s v))

-- ---- a step

collect_step-Valid : (s : State) (o : Option Connection) → Valid s → Valid (collect_step s o).0
collect_step-Valid s None v = v
collect_step-Valid s (Some c) v = all_told-Valid s c.seat v

-- ---- a request on documents

-- what a walk does leaves a valid state, where no limit is met and the numbers of new documents are as many as it makes
abbrev Good : State → List DocId → Doing → Type 0
Good s numbers d = d.exceeds ≡ false → length numbers ≡ d.makes → Unused s.made numbers → Valid d.state

module _ (s : State) (c found : Connection) (numbers : List DocId) (f : connection_of s.connections c.seat ≡ Some found) (q : found.queue ≡ c.queue) (caller : is_caller c.who ≡ true) (v : Valid s) where
  abbrev P : Doing → Type 0
  P = Good s numbers

  always : (d : Doing) → Valid d.state → P d
  always d h = λ e l u. h

  info_of-valid : (o : Option Document) → IfDoes P (info_of s o)
  info_of-valid None = tt
  info_of-valid (Some d) = λ e l u. v

  lookup-valid : (who : Who) (bytes : List ℕ) → IfDoes P (lookup_document s who bytes)
  lookup-valid (Who.App app) bytes = tt
  lookup-valid Who.Host bytes = if-passes P (is_ended_path bytes) Code.InvalidArgument (does s (Answer.Ids (text_of (first_of s.documents (ahead_of_end bytes)) ∷ []))) (λ ended. λ e l u. v)

  info-valid : (who : Who) (doc : List ℕ) → IfDoes P (info s who doc)
  info-valid (Who.App app) doc = tt
  info-valid Who.Host doc = info_of-valid (document_named s.documents doc)

  list-valid : (who : Who) (app : List ℕ) → IfDoes P (list_documents s who app)
  list-valid (Who.App caller) app = tt
  list-valid Who.Host app = if-passes P (is_same app [] || is_app_name app) Code.InvalidArgument (does s (Answer.Listed (documents_listed s app))) (λ named. λ e l u. v)

  abbrev tree : Option Held
  tree = files_told s

  walk-valid : (request : Request) → OnTree tree P (bus_walk s c request numbers)
  walk-valid (Request.Present path) = present-valid P always s c found path f q v
  walk-valid (Request.Add a) = add-valid P s c found a numbers (λ d h. h) f q caller v
  walk-valid (Request.Grant call) = grant-valid P (λ d h. λ e l u. h e) s c.who call v
  walk-valid (Request.Revoke call) = revoke-valid P always s c.who call v
  walk-valid (Request.DeleteDocument doc) = delete-valid P always s c.who v doc
  walk-valid (Request.LookupDocument path) = lookup-valid c.who path
  walk-valid (Request.Info doc) = info-valid c.who doc
  walk-valid (Request.ListDocuments app) = list-valid c.who app
  walk-valid (Request.Store call) = store-valid P always s v c.who call
  walk-valid (Request.Enter who kind) = λ e l u. v
  walk-valid Request.Leave = λ e l u. v
  walk-valid Request.Collect = λ e l u. v
  walk-valid (Request.Node r) = λ e l u. v

  taken-valid : (a : AddRequest) (b : Bool) → Valid (cond b (with_queue c.seat (drop a.fds) s) s)
  taken-valid a true = Valid-connections s _ v (dropped-connections s.limits.queued c.seat a.fds s.connections (v.seats_differ, v.connections_sound))
      (requeued-handles c.seat s.limits.handles (drop a.fds) s.connections s.handles (valid-handles s v))
      (seats-mapped s.made s.documents s.told s.taken (requeued c.seat (drop a.fds)) (requeued_same c.seat (drop a.fds)) s.connections (valid-seats s v))
  taken-valid a false = v

  refused-valid : (request : Request) → Valid (refused_state s c request)
  refused-valid (Request.Add a) = taken-valid a (are_presented c.queue a)
  refused-valid request = v

  kept-valid : (fault : Fault) (d : Doing) → Valid d.state → Valid (kept s fault d).0
  kept-valid Fault.None d h = h
  kept-valid Fault.Tree d h = h
  kept-valid Fault.Keeper d h = v

  done-valid : (refused : State) (full : Bool) (fault : Fault) (d : Doing) → Valid refused → (full ≡ false → Valid d.state) → Valid (cond full (refused, Answer.Refused Code.LimitsExceeded) (kept s fault d)).0
  done-valid refused true fault d r h = r
  done-valid refused false fault d r h = kept-valid fault d (h refl)

  -- as many words as documents are made, where no limit is met
  words_made : (d : Doing) → d.exceeds ≡ false → words_drawn (Some (Does d)) ≡ d.makes
  words_made d e = ap (λ (b : Bool). cond b 0 d.makes) e

  settled-valid : (refused : State) (given : Given) (w : Option Verdict) → Valid refused → AreDrawn s.made given.words numbers → length given.words ≡ words_drawn w → given.full ≡ meets_limit w → IfGiven P w →
      Valid (settled s refused given w).0
  settled-valid refused given None r drawn words full h = v
  settled-valid refused given (Some (Refuses code)) r drawn words full h = r
  settled-valid refused given (Some (Does d)) r drawn words full h =
      done-valid refused given.full given.fault d r
      (λ e.
      let free : d.exceeds ≡ false = sym full ∙ e in
      h free (sym (drawn-length s.made given.words numbers drawn) ∙ (words ∙ words_made d free)) (drawn-unused s.made given.words numbers drawn))

bus_answer-Valid : (s : State) (c found : Connection) (request : Request) (given : Given) → connection_of s.connections c.seat ≡ Some found → found.queue ≡ c.queue → is_caller c.who ≡ true → Valid s → LawfulBus s c request given → Valid (bus_answer s c request given).0
bus_answer-Valid s c found request given f q caller v l =
    settled-valid s c found given.numbers f q caller v (refused_state s c request) given (verdict_of s c request given) (refused-valid s c found given.numbers f q caller v request) l.numbers l.words l.full
    (tree-walked (files_told s) (Good s given.numbers) (bus_walk s c request given.numbers) (moment_given given.now) given.looks (is_tree given.fault) l.looks (walk-valid s c found given.numbers f q caller v request))

bus_is : (o : Option Connection) (c : Connection) → bus_of o ≡ Some c → o ≡ Some c
bus_is None c e = cc
bus_is (Some d) c e = elim (is_mount d.kind) as (λ b. cond b None (Some d) ≡ Some c → Some d ≡ Some c) [ true ↦ λ h. cc | false ↦ λ h. h ] e

bus_step-Valid : (s : State) (seat : ℕ) (request : Request) (given : Given) (o : Option Connection) → bus_of (connection_of s.connections seat) ≡ o → Valid s → LawfulOnBus s request given o → Valid (bus_step s request given o).0
bus_step-Valid s seat request given None e v l = v
bus_step-Valid s seat request given (Some c) e v l =
    let there : connection_of s.connections seat ≡ Some c = bus_is (connection_of s.connections seat) c e in
    let own : c.seat ≡ seat = nat_is c.seat seat (found_passes (λ (x : Connection). x.seat == seat) s.connections c there) in
    let here : connection_of s.connections c.seat ≡ Some c = subst (λ (n : ℕ). connection_of s.connections n ≡ Some c) (sym own) there in
    let sound : is_sound_connection s.limits.queued c ≡ true = found_in_all (λ (x : Connection). x.seat == seat) (is_sound_connection s.limits.queued) s.connections c there v.connections_sound in
    bus_answer-Valid (all_told c.seat s) c (record c { unsent = [] }) request given (found_told c.seat c s.connections here) refl (caller_sound s.limits.queued c sound) (all_told-Valid s c.seat v) l

mount_is : (o : Option Connection) (c : Connection) → mount_of o ≡ Some c → (o ≡ Some c) × (is_mount c.kind ≡ true)
mount_is None c e = cc
mount_is (Some d) c e = elim (is_mount d.kind) as (λ b. is_mount d.kind ≡ b → cond b (Some d) None ≡ Some c → (Some d ≡ Some c) × (is_mount c.kind ≡ true)) [
  | true ↦ λ m h. (h, let same : d ≡ c = cc in ap (λ (x : Connection). is_mount x.kind) (sym same) ∙ m)
  | false ↦ λ m h. cc
] refl e

node_step-Valid : (s : State) (seat : ℕ) (r : NodeRequest) (given : Given) (o : Option Connection) → mount_of (connection_of s.connections seat) ≡ o → Valid s → LawfulOnNode s r given o → Valid (node_step s r given o).0
node_step-Valid s seat r given None e v l = v
node_step-Valid s seat r given (Some c) e v l =
    let there = mount_is (connection_of s.connections seat) c e in
    let own : c.seat ≡ seat = nat_is c.seat seat (found_passes (λ (x : Connection). x.seat == seat) s.connections c there.0) in
    let here : connection_of s.connections c.seat ≡ Some c = subst (λ (n : ℕ). connection_of s.connections n ≡ Some c) (sym own) there.0 in
    node-valid (all_told c.seat s) c (record c { unsent = [] }) (found_told c.seat c s.connections here)
    (record { opens = refl; who = refl; namings = refl; temps = refl; added = refl; mount = there.1 }) (all_told-Valid s c.seat v) r given l

-- what the connection of a seat sees
pub told-sight : (s : State) (seat : ℕ) (c : Connection) → connection_of s.connections seat ≡ Some c → Valid s → (node : ℕ) → IsSoundSight (asking_in s c.who) node (sight_on (all_told c.seat s) c node)
told-sight s seat c e v node =
    place-sound (all_told c.seat s) (all_told-Valid s c.seat v) c node (names-found s.made s.documents seat s.connections c e v.namings_sound) (temps-found s.made s.documents seat s.connections c e v.temps_sound)
    (found_in_all (λ (x : Connection). x.seat == seat) (has_taken_temps s.told s.taken) s.connections c e v.temps_taken)

request_step-Valid : (s : State) (seat : ℕ) (request : Request) (given : Given) → LawfulGiven s seat request given → Valid s → Valid (request_step s seat request given).0
request_step-Valid s seat (Request.Enter who kind) given l v =
    Valid-connections s _ v (entered_sound seat who kind s.limits.queued l.0 s.connections (connection_of s.connections seat) refl (v.seats_differ, v.connections_sound))
    (entered-handles seat s.limits.handles who kind s.connections s.handles (connection_of s.connections seat) refl (valid-handles s v))
    (entered_names seat who kind s (connection_of s.connections seat) (valid-seats s v))
request_step-Valid s seat Request.Leave given l v =
    let gone : Option Connection = connection_of s.connections seat in
    Valid-open s _ _ (held_in s) s.taken v (left_sound seat s.limits.queued s.connections gone (v.seats_differ, v.connections_sound))
    (left-handles seat s.limits.handles s.connections s.handles gone (valid-handles s v))
    (record {
      made = left-made s.made seat s.handles gone v.handles_made;
      handles_taken = left_taken s.told s.taken seat s.handles gone v.handles_taken;
      files = valid-files s v;
      generations = v.generations_sound;
      seats = left_names seat s gone (valid-seats s v);
      folders = v.folders_sound;
    })
request_step-Valid s seat Request.Collect given l v = collect_step-Valid s (bus_of (connection_of s.connections seat)) v
request_step-Valid s seat (Request.Node r) given l v = node_step-Valid s seat r given (mount_of (connection_of s.connections seat)) refl v l
request_step-Valid s seat (Request.Present path) given l v = bus_step-Valid s seat (Request.Present path) given (bus_of (connection_of s.connections seat)) refl v l
request_step-Valid s seat (Request.Add a) given l v = bus_step-Valid s seat (Request.Add a) given (bus_of (connection_of s.connections seat)) refl v l
request_step-Valid s seat (Request.Grant call) given l v = bus_step-Valid s seat (Request.Grant call) given (bus_of (connection_of s.connections seat)) refl v l
request_step-Valid s seat (Request.Revoke call) given l v = bus_step-Valid s seat (Request.Revoke call) given (bus_of (connection_of s.connections seat)) refl v l
request_step-Valid s seat (Request.DeleteDocument doc) given l v = bus_step-Valid s seat (Request.DeleteDocument doc) given (bus_of (connection_of s.connections seat)) refl v l
request_step-Valid s seat (Request.LookupDocument path) given l v = bus_step-Valid s seat (Request.LookupDocument path) given (bus_of (connection_of s.connections seat)) refl v l
request_step-Valid s seat (Request.Info doc) given l v = bus_step-Valid s seat (Request.Info doc) given (bus_of (connection_of s.connections seat)) refl v l
request_step-Valid s seat (Request.ListDocuments app) given l v = bus_step-Valid s seat (Request.ListDocuments app) given (bus_of (connection_of s.connections seat)) refl v l
request_step-Valid s seat (Request.Store call) given l v = bus_step-Valid s seat (Request.Store call) given (bus_of (connection_of s.connections seat)) refl v l

pub after-Valid : (s : State) (e : Entry) → Valid s → Lawful s e → Valid (after s e)
after-Valid s e v l = request_step-Valid s e.seat e.request e.given l.given v

pub lawful-Valid : (h : List Entry) (s : State) → Valid s → EachLawful s h → Valid (run s h)
lawful-Valid [] s v l = v
lawful-Valid (e ∷ es) s v l = lawful-Valid es (after s e) (after-Valid s e v l.0) l.1

pub run-Valid : (h : List Entry) (s : State) → Legal s h → Valid (run s h)
run-Valid h s l = lawful-Valid h s l.opening l.lawful
