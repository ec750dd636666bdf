-- What is true of a state after a request of a bus, where it doesn't depend on queues, on documents, rights and applications, on entries of the permission store and on what connections wait for.
use Rattle.std.proofs.Common.{◌≡◌, ℕ, ◌==◌, List, [], ◌∷◌, ◌++◌, drop, fold, length, nat_lt, Bool, true, false, not, ◌||◌, cond, Option, Some, None, Ok, Err, refl}
use Rattle.std.specs.List.{filter}
use Rattle.portal_base.specs.Names.{is_app_name, is_same}
use Rattle.portal_base.specs.declared.files.Look.{Look}
use Rattle.portal_base.specs.declared.names.doc_id.DocId.{DocId}
use Rattle.portal_base.specs.declared.who.Who.{Who}
use Rattle.rights_rule.specs.Rights.{RightSet, rights_named}
use Rattle.portal_model.specs.declared.entry.Fault.{Fault}
use Rattle.portal_model.specs.declared.entry.Given.{Given}
use Rattle.portal_model.specs.declared.reply.Answer.{Answer}
use Rattle.portal_model.specs.declared.reply.Change.{Change}
use Rattle.portal_model.specs.declared.reply.Code.{Code}
use Rattle.portal_model.specs.declared.request.AddRequest.{AddRequest}
use Rattle.portal_model.specs.declared.request.Request.{Request}
use Rattle.portal_model.specs.declared.request.RightsCall.{RightsCall}
use Rattle.portal_model.specs.declared.state.Connection.{Connection}
use Rattle.portal_model.specs.declared.state.Document.{Document}
use Rattle.portal_model.specs.declared.state.Triple.{Triple}
use Rattle.portal_model.specs.declared.store.StoreAnswer.{StoreAnswer}
use Rattle.portal_model.specs.declared.store.StoreCall.{StoreCall}
use Rattle.portal_model.specs.declared.store.StoredEntry.{StoredEntry}
use Rattle.portal_model.specs.Allowed.{is_refusal}
use Rattle.portal_model.specs.Add.{Added, add, add_allowed, add_file, add_looking, add_presented, add_shown, added, added_files, adding_rights, are_of_kind, caller_rights, first_number, may_list_all, new_document, taken_from_queue, use_document, used_again, with_new_document, with_rights_of}
use Rattle.portal_model.specs.AddArguments.{are_add_arguments, are_presented, document_paths, is_left_out, names_nobody, paths_shown}
use Rattle.portal_model.specs.Arguments.{ahead_of_end, document_named, is_ended_path, reached}
use Rattle.portal_model.specs.Bus.{bus_answer, bus_walk, is_tree, kept, moment_given, refused_state, settled, verdict_given}
use Rattle.portal_model.specs.DeleteDocument.{delete_reached, deleted}
use Rattle.portal_model.specs.Documents.{first_of}
use Rattle.portal_model.specs.Grant.{are_rights_arguments, given_rights, grant_reached, granted, may_grant, numbered_with}
use Rattle.portal_model.specs.Info.{info, info_of}
use Rattle.portal_model.specs.ListDocuments.{documents_listed, list_documents}
use Rattle.portal_model.specs.LookupDocument.{lookup_document, text_of}
use Rattle.portal_model.specs.Present.{may_present, present, present_path, queue_path, with_queue}
use Rattle.portal_model.specs.Revoke.{may_revoke, names_itself, revoke_reached, revoked}
use Rattle.portal_model.specs.Rights.{add_rights, forget_document, held_by, take_rights}
use Rattle.portal_model.specs.State.{State}
use Rattle.portal_model.specs.Step.{all_told, bus_step}
use Rattle.portal_model.specs.Store.{Entries, Outcome, change_of, entry_of, store_call}
use Rattle.portal_model.specs.StoreRequest.{are_store_arguments, identifier_of, own_table, store_allowed, store_answered, store_request, store_verdict, table_of, tell_hosts, tell_kept}
use Rattle.portal_model.specs.Verdict.{Doing, Verdict, Refuses, Does, does, unless, walk_unless}
use Rattle.portal_model.specs.Walk.{Walk, Answers, Looks, Ends, Lists, looks_at_all, walked}

module _ (P : State → Type 0)
    (told : (s : State) (seat : ℕ) → P s → P (all_told seat s))
    (queue : (s : State) (seat : ℕ) (change : List (List ℕ) → List (List ℕ)) → P s → P (with_queue seat change s))
    (lists : (s : State) (ds : List Document) (made : List DocId) (rights : List Triple) (apps : List (List ℕ)) → P s → P (record s { documents = ds; made = made; rights = rights; applications = apps }))
    (entries : (s : State) (es : Entries) → P s → P (record s { entries = es }))
    (telling : (s : State) (change : Change) → P s → P (tell_hosts change s)) where
  abbrev pub Holds : Verdict → Type 0
  Holds (Refuses code) = Unit {0}
  Holds (Does d) = P d.state × (is_refusal d.answer ≡ false)

  abbrev pub HoldsWalk : Walk Verdict → Type 0
  HoldsWalk (Answers v) = Holds v
  HoldsWalk (Looks target next) = (look : Look) → HoldsWalk (next look)
  HoldsWalk (Ends call done missing) = ((now : ℕ) → Holds (done now)) × Holds missing
  HoldsWalk (Lists path done missing) = Holds missing

  abbrev pub HoldsGiven : Option Verdict → Type 0
  HoldsGiven None = Unit {0}
  HoldsGiven (Some v) = Holds v

  unless-holds : (wrong : Bool) (code : Code) (v : Verdict) → Holds v → Holds (unless wrong code v)
  unless-holds true code v h = tt
  unless-holds false code v h = h

  walk_unless-holds : (wrong : Bool) (code : Code) (w : Walk Verdict) → HoldsWalk w → HoldsWalk (walk_unless wrong code w)
  walk_unless-holds true code w h = tt
  walk_unless-holds false code w h = h

  looks-hold : (paths : List (List ℕ)) (next : List Look → Walk Verdict) → ((looks : List Look) → HoldsWalk (next looks)) → HoldsWalk (looks_at_all paths next)
  looks-hold [] next h = h []
  looks-hold (path ∷ paths) next h = λ look. looks-hold paths (λ looks. next (look ∷ looks)) (λ looks. h (look ∷ looks))

  pub walked-holds : (w : Walk Verdict) (now : ℕ) (looks : List Look) (failed : Bool) → HoldsWalk w → HoldsGiven (walked w now looks failed)
  walked-holds (Answers v) now looks failed h = h
  walked-holds (Looks target next) now [] failed h = tt
  walked-holds (Looks target next) now (look ∷ looks) failed h = walked-holds (next look) now looks failed (h look)
  walked-holds (Ends call done missing) now [] true h = tt
  walked-holds (Ends call done missing) now [] false h = h.0 now
  walked-holds (Ends call done missing) now (look ∷ looks) failed h = h.1
  walked-holds (Lists path done missing) now looks true h = tt
  walked-holds (Lists path done missing) now looks false h = h

  -- ---- each kind

  present-holds : (s : State) (c : Connection) (bytes : List ℕ) → P s → Holds (present s c bytes)
  present-holds s c bytes h =
      let path = ahead_of_end bytes in
      let queued = does (with_queue c.seat (λ queue. queue ++ path ∷ []) s) (Answer.Place (length c.queue)) in
      unless-holds (not (is_ended_path bytes)) Code.InvalidArgument (present_path s c path)
      (unless-holds (not (may_present c.who path)) Code.NotAllowed (queue_path s c path)
      (unless-holds (not (nat_lt (length c.queue) s.limits.queued)) Code.LimitsExceeded queued (queue s c.seat (λ queue. queue ++ path ∷ []) h, refl)))

  grant_reached-holds : (s : State) (who : Who) (call : RightsCall) (d : Option Document) → P s → Holds (grant_reached s who call d)
  grant_reached-holds s who call None h = tt
  grant_reached-holds s who call (Some d) h =
      let listed = rights_named call.names in
      unless-holds (not (may_grant (held_by s.rights who d.id.number) listed)) Code.NotAllowed (granted s call d)
      (lists s s.documents s.made (add_rights call.app d.id listed s.rights) (numbered_with call.app listed s.applications) h, refl)

  revoke_reached-holds : (s : State) (who : Who) (call : RightsCall) (d : Option Document) → P s → Holds (revoke_reached s who call d)
  revoke_reached-holds s who call None h = tt
  revoke_reached-holds s who call (Some d) h =
      unless-holds (not (may_revoke (held_by s.rights who d.id.number) (names_itself who call.app))) Code.NotAllowed (does (revoked s call d) Answer.Done)
      (lists s s.documents s.made (take_rights call.app d.id.number (rights_named call.names) s.rights) s.applications h, refl)

  delete_reached-holds : (s : State) (who : Who) (d : Option Document) → P s → Holds (delete_reached s who d)
  delete_reached-holds s who None h = tt
  delete_reached-holds s who (Some d) h =
      unless-holds (not (held_by s.rights who d.id.number).delete) Code.NotAllowed (does (deleted s d.id.number) Answer.Done)
      (lists s (filter (λ (e : Document). not (e.id.number == d.id.number)) s.documents) s.made (forget_document d.id.number s.rights) s.applications h, refl)

  lookup-holds : (s : State) (who : Who) (bytes : List ℕ) → P s → Holds (lookup_document s who bytes)
  lookup-holds s (Who.App app) bytes h = tt
  lookup-holds s Who.Host bytes h =
      unless-holds (not (is_ended_path bytes)) Code.InvalidArgument (does s (Answer.Ids (text_of (first_of s.documents (ahead_of_end bytes)) ∷ []))) (h, refl)

  info_of-holds : (s : State) (d : Option Document) → P s → Holds (info_of s d)
  info_of-holds s None h = tt
  info_of-holds s (Some d) h = (h, refl)

  info-holds : (s : State) (who : Who) (doc : List ℕ) → P s → Holds (info s who doc)
  info-holds s (Who.App app) doc h = tt
  info-holds s Who.Host doc h = info_of-holds s (document_named s.documents doc) h

  list-holds : (s : State) (who : Who) (app : List ℕ) → P s → Holds (list_documents s who app)
  list-holds s (Who.App caller) app h = tt
  list-holds s Who.Host app h =
      unless-holds (not (is_same app [] || is_app_name app)) Code.InvalidArgument (does s (Answer.Listed (documents_listed s app))) (h, refl)

  -- ---- the permission store

  kept_told-holds : (s : State) (o : Option StoredEntry) → P s → P (tell_kept o s)
  kept_told-holds s None h = h
  kept_told-holds s (Some e) h = telling s (change_of false e) h

  answered-holds : (s : State) (call : StoreCall) (answer : StoreAnswer) → P s → Holds (store_answered s call answer)
  answered-holds s call (StoreAnswer.Done change) h = (telling s change h, refl)
  answered-holds s call StoreAnswer.Kept h = (kept_told-holds s (entry_of s.entries (table_of call) (identifier_of call)) h, refl)
  answered-holds s call (StoreAnswer.Entry rows datum) h = (h, refl)
  answered-holds s call (StoreAnswer.Names names) h = (h, refl)

  outcome-holds : (s : State) (call : StoreCall) (outcome : Outcome) → P s → Holds (store_verdict s call outcome)
  outcome-holds s call (Err error) h = tt
  outcome-holds s call (Ok (es, answer)) h = answered-holds (record s { entries = es }) call answer (entries s es h)

  store-holds : (s : State) (who : Who) (call : StoreCall) → P s → Holds (store_request s who call)
  store-holds s (Who.App app) call h = tt
  store-holds s Who.Host call h =
      unless-holds (not (are_store_arguments call)) Code.InvalidArgument (store_allowed s call)
      (unless-holds (is_same (table_of call) own_table) Code.NotAllowed (store_verdict s call (store_call call s.entries))
      (outcome-holds s call (store_call call s.entries) h))

  -- ---- additions

  either : (b : Bool) (s t : State) → P s → P t → P (cond b s t)
  either true s t h k = h
  either false s t h k = k

  given-holds : (app : List ℕ) (id : DocId) (set : RightSet) (s : State) → P s → P (given_rights app id set s)
  given-holds app id set s h = lists s s.documents s.made (add_rights app id set s.rights) (numbered_with app set s.applications) h

  caller-holds : (who : Who) (a : AddRequest) (id : DocId) (s : State) → P s → P (caller_rights who a id s)
  caller-holds Who.Host a id s h = h
  caller-holds (Who.App app) a id s h = given-holds app id (adding_rights a) s h

  rights-hold : (who : Who) (a : AddRequest) (id : DocId) (s : State) → P s → P (with_rights_of who a id s)
  rights-hold who a id s h =
      let first : P (caller_rights who a id s) = caller-holds who a id s h in
      let listed = rights_named a.names in
      either (names_nobody a) (caller_rights who a id s) (given_rights a.app id listed (caller_rights who a id s)) first (given-holds a.app id listed (caller_rights who a id s) first)

  use-holds : (who : Who) (a : AddRequest) (path : List ℕ) (done : Added) (again : Option DocId) → P done.state → P (use_document who a path done again).state
  use-holds who a path done None h =
      let id = first_number done.numbers in
      let d = new_document a id path in
      rights-hold who a id (with_new_document d done.state) (lists done.state (done.state.documents ++ d ∷ []) (done.state.made ++ id ∷ []) done.state.rights done.state.applications h)
  use-holds who a path done (Some id) h = rights-hold who a id done.state h

  either_added : (b : Bool) (x y : Added) → P x.state → P y.state → P (cond b x y).state
  either_added true x y h k = h
  either_added false x y h k = k

  add_file-holds : (who : Who) (a : AddRequest) (done : Added) (path : List ℕ) → P done.state → P (add_file who a done path).state
  add_file-holds who a done path h =
      let again = used_again done.state.documents a path in
      either_added (is_left_out a path) (record done { ids = done.ids ++ [] ∷ [] }) (use_document who a path done again) h (use-holds who a path done again h)

  add_files-hold : (who : Who) (a : AddRequest) (paths : List (List ℕ)) (done : Added) → P done.state → P (fold (add_file who a) done paths).state
  add_files-hold who a [] done h = h
  add_files-hold who a (path ∷ paths) done h = add_files-hold who a paths (add_file who a done path) (add_file-holds who a done path h)

  taken-holds : (c : Connection) (a : AddRequest) (s : State) → P s → P (taken_from_queue c a s)
  taken-holds c a s h = either (are_presented c.queue a) (with_queue c.seat (drop a.fds) s) s (queue s c.seat (drop a.fds) h) h

  add-holds : (s : State) (c : Connection) (a : AddRequest) (numbers : List DocId) → P s → HoldsWalk (add s c a numbers)
  add-holds s c a numbers h =
      let paths = document_paths c.queue a in
      let done = added_files s c a numbers in
      let all : P done.state = add_files-hold c.who a paths (record { state = taken_from_queue c a s; numbers = numbers; ids = [] }) (taken-holds c a s h) in
      walk_unless-holds (not (are_presented c.queue a)) Code.InvalidArgs (add_presented s c a numbers)
      (walk_unless-holds (not (are_add_arguments c.queue a)) Code.InvalidArgument (add_allowed s c a numbers)
      (walk_unless-holds (not (may_list_all s c.who a paths)) Code.NotAllowed (add_looking s c a numbers)
      (looks-hold (paths_shown c.queue a) (add_shown s c a numbers)
      (λ looks. unless-holds (not (are_of_kind a (paths_shown c.queue a) looks)) Code.InvalidArgument (added s done) (all, refl)))))

  -- ---- a step

  pub bus_walk-holds : (s : State) (c : Connection) (request : Request) (numbers : List DocId) → P s → HoldsWalk (bus_walk s c request numbers)
  bus_walk-holds s c (Request.Present path) numbers h = present-holds s c path h
  bus_walk-holds s c (Request.Add a) numbers h = add-holds s c a numbers h
  bus_walk-holds s c (Request.Grant call) numbers h =
      let d = reached s c.who call.doc in
      unless-holds (not (are_rights_arguments call)) Code.InvalidArgument (grant_reached s c.who call d) (grant_reached-holds s c.who call d h)
  bus_walk-holds s c (Request.Revoke call) numbers h =
      let d = reached s c.who call.doc in
      unless-holds (not (are_rights_arguments call)) Code.InvalidArgument (revoke_reached s c.who call d) (revoke_reached-holds s c.who call d h)
  bus_walk-holds s c (Request.DeleteDocument doc) numbers h = delete_reached-holds s c.who (reached s c.who doc) h
  bus_walk-holds s c (Request.LookupDocument path) numbers h = lookup-holds s c.who path h
  bus_walk-holds s c (Request.Info doc) numbers h = info-holds s c.who doc h
  bus_walk-holds s c (Request.ListDocuments app) numbers h = list-holds s c.who app h
  bus_walk-holds s c (Request.Store call) numbers h = store-holds s c.who call h
  bus_walk-holds s c request numbers h = (h, refl)

  pub refused-holds : (s : State) (c : Connection) (request : Request) → P s → P (refused_state s c request)
  refused-holds s c (Request.Add a) h = taken-holds c a s h
  refused-holds s c request h = h

  kept-holds : (s : State) (fault : Fault) (d : Doing) → P s → P d.state → P (kept s fault d).0
  kept-holds s Fault.None d h k = k
  kept-holds s Fault.Tree d h k = k
  kept-holds s Fault.Keeper d h k = h

  full-holds : (s refused : State) (full : Bool) (fault : Fault) (d : Doing) → P s → P refused → P d.state → P (settled s refused (record { now = None; words = []; numbers = []; looks = []; listed = None; generation = None; full = full; fault = fault }) (Some (Does d))).0
  full-holds s refused true fault d h k l = k
  full-holds s refused false fault d h k l = kept-holds s fault d h l

  settled-holds : (s refused : State) (given : Given) (v : Option Verdict) → P s → P refused → HoldsGiven v → P (settled s refused given v).0
  settled-holds s refused given None h k l = h
  settled-holds s refused given (Some (Refuses code)) h k l = k
  settled-holds s refused given (Some (Does d)) h k l = full-holds s refused given.full given.fault d h k l.0

  pub bus_answer-holds : (s : State) (c : Connection) (request : Request) (given : Given) → P s → P (bus_answer s c request given).0
  bus_answer-holds s c request given h =
      settled-holds s (refused_state s c request) given (verdict_given (bus_walk s c request given.numbers) given) h (refused-holds s c request h)
      (walked-holds (bus_walk s c request given.numbers) (moment_given given.now) given.looks (is_tree given.fault) (bus_walk-holds s c request given.numbers h))

  pub bus_step-holds : (s : State) (request : Request) (given : Given) (o : Option Connection) → P s → P (bus_step s request given o).0
  bus_step-holds s request given None h = h
  bus_step-holds s request given (Some c) h = bus_answer-holds (all_told c.seat s) c request given (told s c.seat h)
