-- What a bus asks on documents is answered by no refusal for want of an open connection.
use Rattle.std.proofs.Common.{ℕ, List, [], ◌∷◌, ◌++◌, length, Bool, true, false, cond, map, not, Option, Some, None, Ok, Err}
use Rattle.dbus_types.specs.declared.types.Value.{Value}
use Rattle.std.specs.Prelude.{◌≢◌, nat_lt, ◌||◌}
use Rattle.portal_base.specs.Names.{is_app_name, is_same}
use Rattle.portal_base.specs.declared.files.ChildName.{ChildName}
use Rattle.portal_base.specs.declared.files.Look.{Look}
use Rattle.portal_base.specs.declared.names.doc_id.DocId.{DocId}
use Rattle.portal_base.specs.declared.who.Who.{Who}
use Rattle.portal_model.specs.declared.entry.Fault.{Fault}
use Rattle.portal_model.specs.declared.entry.Given.{Given}
use Rattle.portal_model.specs.declared.reply.Answer.{Answer}
use Rattle.portal_model.specs.declared.reply.Answer.TheVariants as answer
use Rattle.portal_model.specs.declared.reply.Code.{Code}
use Rattle.portal_model.specs.declared.reply.ListedDocument.{ListedDocument}
use Rattle.portal_model.specs.declared.records.Row.{Row}
use Rattle.portal_model.specs.declared.reply.Code.TheVariants as code
use Rattle.portal_model.specs.declared.request.AddRequest.{AddRequest}
use Rattle.portal_model.specs.declared.request.Request.{Request}
use Rattle.portal_model.specs.declared.request.RightsCall.{RightsCall}
use Rattle.portal_model.specs.declared.state.Connection.{Connection}
use Rattle.portal_model.specs.declared.state.Document.{Document}
use Rattle.portal_model.specs.Add.{add, add_allowed, add_looking, add_presented, add_shown, added, added_files, are_of_kind, may_list_all}
use Rattle.portal_model.specs.AddArguments.{are_add_arguments, are_presented, document_paths, paths_shown}
use Rattle.portal_model.specs.Arguments.{ahead_of_end, document_named, is_ended_path, reached}
use Rattle.portal_model.specs.Bus.{bus_answer, bus_walk, is_tree, kept, moment_given, refused_state, settled, verdict_given}
use Rattle.portal_model.specs.DeleteDocument.{delete_reached, deleted}
use Rattle.portal_model.specs.Grant.{are_rights_arguments, grant, grant_reached, granted}
use Rattle.portal_model.specs.Info.{holders, info, info_of, row_of}
use Rattle.portal_model.specs.ListDocuments.{documents_listed, list_documents}
use Rattle.portal_model.specs.LookupDocument.{lookup_document, text_of}
use Rattle.portal_model.specs.Documents.{first_of}
use Rattle.portal_model.specs.Rights.{held_by}
use Rattle.portal_model.specs.Present.{may_present, present, present_path, queue_path, with_queue}
use Rattle.portal_model.specs.Revoke.{may_revoke, names_itself, revoke, revoke_reached, revoked}
use Rattle.portal_model.specs.declared.store.StoreAnswer.{StoreAnswer}
use Rattle.portal_model.specs.declared.store.StoreAnswer.TheVariants.{Done, Entry, Kept, Names}
use Rattle.portal_model.specs.declared.store.StoreCall.{StoreCall}
use Rattle.portal_model.specs.declared.store.StoreError.{StoreError}
use Rattle.portal_model.specs.declared.store.StoreError.TheVariants.{Memory, NotFound, TooLong}
use Rattle.portal_model.specs.State.{State}
use Rattle.portal_model.specs.Store.{Outcome, store_call}
use Rattle.portal_model.specs.StoreRequest.{are_store_arguments, code_of, own_table, store_allowed, store_answered, store_request, store_verdict, table_of}
use Rattle.portal_model.specs.Verdict.{Doing, Verdict, Refuses, Does, does, unless, walk_unless}
use Rattle.portal_model.specs.Walk.{Walk, Answers, Looks, Ends, Lists, walked, looks_at_all}

abbrev pub IsHere : Answer → Type 0
IsHere met = met ≢ answer.Refused code.NotHere

abbrev IsSaid : Code → Type 0
IsSaid why = IsHere (answer.Refused why)

abbrev VerdictHeard : Verdict → Type 0
VerdictHeard (Refuses why) = IsSaid why
VerdictHeard (Does d) = IsHere d.answer

abbrev MaybeHeard : Option Verdict → Type 0
MaybeHeard None = Unit {0}
MaybeHeard (Some v) = VerdictHeard v

abbrev WalkHeard : Walk Verdict → Type 0
WalkHeard (Answers v) = VerdictHeard v
WalkHeard (Looks target next) = (look : Look) → WalkHeard (next look)
WalkHeard (Ends call done missing) = ((now : ℕ) → VerdictHeard (done now)) × VerdictHeard missing
WalkHeard (Lists path done missing) = ((names : List ChildName) → VerdictHeard (done names)) × VerdictHeard missing

-- ---- answers

arguments_said : IsSaid code.InvalidArgs
arguments_said e = cc

argument_said : IsSaid code.InvalidArgument
argument_said e = cc

limits_said : IsSaid code.LimitsExceeded
limits_said e = cc

none_said : IsSaid code.NotFound
none_said e = cc

denial_said : IsSaid code.NotAllowed
denial_said e = cc

failure_said : IsSaid code.Failed
failure_said e = cc

done_heard : IsHere answer.Done
done_heard e = cc

place_heard : (place : ℕ) → IsHere (answer.Place place)
place_heard place e = cc

ids_heard : (ids : List (List ℕ)) → IsHere (answer.Ids ids)
ids_heard ids e = cc

info_told : (path : List ℕ) (rights : List Row) → IsHere (answer.Info path rights)
info_told path rights e = cc

listed_heard : (documents : List ListedDocument) → IsHere (answer.Listed documents)
listed_heard documents e = cc

-- ---- checks

unless_heard : (wrong : Bool) (why : Code) (v : Verdict) → IsSaid why → VerdictHeard v → VerdictHeard (unless wrong why v)
unless_heard true why v a b = a
unless_heard false why v a b = b

walk_unless_heard : (wrong : Bool) (why : Code) (w : Walk Verdict) → IsSaid why → WalkHeard w → WalkHeard (walk_unless wrong why w)
walk_unless_heard true why w a b = a
walk_unless_heard false why w a b = b

looks_heard : (paths : List (List ℕ)) (next : List Look → Walk Verdict) → ((looks : List Look) → WalkHeard (next looks)) → WalkHeard (looks_at_all paths next)
looks_heard [] next h = h []
looks_heard (path ∷ paths) next h = λ look. looks_heard paths (λ looks. next (look ∷ looks)) (λ looks. h (look ∷ looks))

-- ---- requests

present_heard : (s : State) (c : Connection) (path : List ℕ) → VerdictHeard (present s c path)
present_heard s c bytes =
    let path : List ℕ = ahead_of_end bytes in
    unless_heard (not (is_ended_path bytes)) code.InvalidArgument (present_path s c path) argument_said
    (unless_heard (not (may_present c.who path)) code.NotAllowed (queue_path s c path) denial_said
    (unless_heard (not (nat_lt (length c.queue) s.limits.queued)) code.LimitsExceeded (does (with_queue c.seat (λ queue. queue ++ path ∷ []) s) (answer.Place (length c.queue))) limits_said (place_heard (length c.queue))))

reached_grant : (s : State) (who : Who) (call : RightsCall) (o : Option Document) → VerdictHeard (grant_reached s who call o)
reached_grant s who call None = none_said
reached_grant s who call (Some d) = unless_heard _ code.NotAllowed (granted s call d) denial_said done_heard

grant_heard : (s : State) (who : Who) (call : RightsCall) → VerdictHeard (grant s who call)
grant_heard s who call = unless_heard (not (are_rights_arguments call)) code.InvalidArgument (grant_reached s who call (reached s who call.doc)) argument_said (reached_grant s who call (reached s who call.doc))

reached_revoke : (s : State) (who : Who) (call : RightsCall) (o : Option Document) → VerdictHeard (revoke_reached s who call o)
reached_revoke s who call None = none_said
reached_revoke s who call (Some d) = unless_heard (not (may_revoke (held_by s.rights who d.id.number) (names_itself who call.app))) code.NotAllowed (does (revoked s call d) answer.Done) denial_said done_heard

revoke_heard : (s : State) (who : Who) (call : RightsCall) → VerdictHeard (revoke s who call)
revoke_heard s who call = unless_heard (not (are_rights_arguments call)) code.InvalidArgument (revoke_reached s who call (reached s who call.doc)) argument_said (reached_revoke s who call (reached s who call.doc))

reached_delete : (s : State) (who : Who) (o : Option Document) → VerdictHeard (delete_reached s who o)
reached_delete s who None = none_said
reached_delete s who (Some d) = unless_heard (not (held_by s.rights who d.id.number).delete) code.NotAllowed (does (deleted s d.id.number) answer.Done) denial_said done_heard

lookup_heard : (s : State) (who : Who) (path : List ℕ) → VerdictHeard (lookup_document s who path)
lookup_heard s (Who.App app) path = denial_said
lookup_heard s Who.Host path = unless_heard (not (is_ended_path path)) code.InvalidArgument (does s (answer.Ids (text_of (first_of s.documents (ahead_of_end path)) ∷ []))) argument_said (ids_heard (text_of (first_of s.documents (ahead_of_end path)) ∷ []))

of_document : (s : State) (o : Option Document) → VerdictHeard (info_of s o)
of_document s None = none_said
of_document s (Some d) = info_told d.path (map (row_of s.rights d.id.number) (holders s.rights d.id.number))

info_heard : (s : State) (who : Who) (doc : List ℕ) → VerdictHeard (info s who doc)
info_heard s (Who.App app) doc = denial_said
info_heard s Who.Host doc = of_document s (document_named s.documents doc)

list_heard : (s : State) (who : Who) (app : List ℕ) → VerdictHeard (list_documents s who app)
list_heard s (Who.App caller) app = denial_said
list_heard s Who.Host app = unless_heard (not (is_same app [] || is_app_name app)) code.InvalidArgument (does s (answer.Listed (documents_listed s app))) argument_said (listed_heard (documents_listed s app))

add_heard : (s : State) (c : Connection) (a : AddRequest) (numbers : List DocId) → WalkHeard (add s c a numbers)
add_heard s c a numbers =
    walk_unless_heard (not (are_presented c.queue a)) code.InvalidArgs (add_presented s c a numbers) arguments_said
    (walk_unless_heard (not (are_add_arguments c.queue a)) code.InvalidArgument (add_allowed s c a numbers) argument_said
    (walk_unless_heard (not (may_list_all s c.who a (document_paths c.queue a))) code.NotAllowed (add_looking s c a numbers) denial_said
    (looks_heard (paths_shown c.queue a) (add_shown s c a numbers)
    (λ looks. unless_heard (not (are_of_kind a (paths_shown c.queue a) looks)) code.InvalidArgument (added s (added_files s c a numbers)) argument_said (ids_heard (added_files s c a numbers).ids)))))

-- ---- the permission store

entry_heard : (rows : List Row) (datum : Value) → IsHere (answer.Entry rows datum)
entry_heard rows datum e = cc

names_heard : (names : List (List ℕ)) → IsHere (answer.Names names)
names_heard names e = cc

access_said : IsSaid code.AccessDenied
access_said e = cc

error_said : (error : StoreError) → IsSaid (code_of error)
error_said NotFound = none_said
error_said TooLong = limits_said
error_said Memory = failure_said

answered_heard : (s : State) (call : StoreCall) (told : StoreAnswer) → VerdictHeard (store_answered s call told)
answered_heard s call (Done change) = done_heard
answered_heard s call Kept = done_heard
answered_heard s call (Entry rows datum) = entry_heard rows datum
answered_heard s call (Names names) = names_heard names

outcome_heard : (s : State) (call : StoreCall) (outcome : Outcome) → VerdictHeard (store_verdict s call outcome)
outcome_heard s call (Err error) = error_said error
outcome_heard s call (Ok done) = answered_heard (record s { entries = done.0 }) call done.1

store_heard : (s : State) (who : Who) (call : StoreCall) → VerdictHeard (store_request s who call)
store_heard s (Who.App app) call = access_said
store_heard s Who.Host call =
    unless_heard (not (are_store_arguments call)) code.InvalidArgument (store_allowed s call) argument_said
    (unless_heard (is_same (table_of call) own_table) code.NotAllowed (store_verdict s call (store_call call s.entries)) denial_said (outcome_heard s call (store_call call s.entries)))

-- what a walk of a bus comes to; a request of another kind isn't asked so
pub walk_heard : (s : State) (c : Connection) (r : Request) (numbers : List DocId) → WalkHeard (bus_walk s c r numbers)
walk_heard s c (Request.Present path) numbers = present_heard s c path
walk_heard s c (Request.Add a) numbers = add_heard s c a numbers
walk_heard s c (Request.Grant call) numbers = grant_heard s c.who call
walk_heard s c (Request.Revoke call) numbers = revoke_heard s c.who call
walk_heard s c (Request.DeleteDocument doc) numbers = reached_delete s c.who (reached s c.who doc)
walk_heard s c (Request.LookupDocument path) numbers = lookup_heard s c.who path
walk_heard s c (Request.Info doc) numbers = info_heard s c.who doc
walk_heard s c (Request.ListDocuments app) numbers = list_heard s c.who app
walk_heard s c (Request.Store call) numbers = store_heard s c.who call
walk_heard s c (Request.Enter who kind) numbers = done_heard
walk_heard s c Request.Leave numbers = done_heard
walk_heard s c Request.Collect numbers = done_heard
walk_heard s c (Request.Node r) numbers = done_heard

-- ---- what is answered

walked_heard : (w : Walk Verdict) (now : ℕ) (looks : List Look) (failed : Bool) → WalkHeard w → MaybeHeard (walked w now looks failed)
walked_heard (Answers v) now looks failed h = h
walked_heard (Looks target next) now [] failed h = tt
walked_heard (Looks target next) now (look ∷ looks) failed h = walked_heard (next look) now looks failed (h look)
walked_heard (Ends call done missing) now [] true h = tt
walked_heard (Ends call done missing) now [] false h = h.0 now
walked_heard (Ends call done missing) now (look ∷ looks) failed h = h.1
walked_heard (Lists path done missing) now looks true h = tt
walked_heard (Lists path done missing) now looks false h = h.1

keeper_heard : (s : State) (f : Fault) (d : Doing) → IsHere d.answer → IsHere (kept s f d).1
keeper_heard s Fault.None d h = h
keeper_heard s Fault.Tree d h = h
keeper_heard s Fault.Keeper d h = failure_said

full_heard : (s refused : State) (full : Bool) (f : Fault) (d : Doing) → IsHere d.answer → IsHere (cond full (refused, Answer.Refused code.LimitsExceeded) (kept s f d)).1
full_heard s refused true f d h = limits_said
full_heard s refused false f d h = keeper_heard s f d h

settled_heard : (s refused : State) (given : Given) (o : Option Verdict) → MaybeHeard o → IsHere (settled s refused given o).1
settled_heard s refused given None h = failure_said
settled_heard s refused given (Some (Refuses why)) h = h
settled_heard s refused given (Some (Does d)) h = full_heard s refused given.full given.fault d h

pub answer_heard : (s : State) (c : Connection) (r : Request) (given : Given) → IsHere (bus_answer s c r given).1
answer_heard s c r given =
    let walk : Walk Verdict = bus_walk s c r given.numbers in
    settled_heard s (refused_state s c r) given (verdict_given walk given) (walked_heard walk (moment_given given.now) given.looks (is_tree given.fault) (walk_heard s c r given.numbers))
