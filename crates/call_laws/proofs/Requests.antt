-- What the requests on documents come to can be told.
use Rattle.std.proofs.Common.{◌≡◌, ℕ, ◌+◌, ◌<◌, ◌^◌, Bool, true, false, not, cond, nat_lt, List, [], ◌∷◌, ◌++◌, fold, get_or, take, length, Option, Some, None, refl, subst, arith}
use Rattle.std.specs.Prelude.{All, ◌||◌}
use Rattle.std.proofs.lemmas.Bool.Decides.{nat_tests}
use Rattle.std.proofs.lemmas.List.{length-append, length-map}
use Rattle.std.proofs.lemmas.List.Elements.{All-nil, All-cons, All-append}
use Rattle.portal_base.specs.Names.{doc_text, is_app_name, is_same}
use Rattle.portal_base.specs.declared.names.doc_id.DocId.{DocId}
use Rattle.portal_base.specs.declared.who.Who.{Who}
use Rattle.rights_rule.specs.Rights.{rights_named}
use Rattle.dbus_values.specs.Values.{IsText}
use Rattle.portal_model.specs.declared.reply.Answer.TheVariants as A
use Rattle.portal_model.specs.declared.reply.Code.TheVariants as Code
use Rattle.portal_model.specs.declared.request.AddRequest.{AddRequest}
use Rattle.portal_model.specs.declared.request.RightsCall.{RightsCall}
use Rattle.portal_model.specs.declared.state.Connection.{Connection}
use Rattle.portal_model.specs.declared.state.Document.{Document}
use Rattle.portal_model.specs.Add.{Added, add, add_allowed, add_file, add_files, add_looking, add_presented, add_shown, added, added_files, are_of_kind, may_list_all, taken_from_queue, use_document, used_again}
use Rattle.portal_model.specs.AddArguments.{are_add_arguments, are_presented, document_path, document_paths, is_left_out, paths_presented, paths_shown}
use Rattle.portal_model.specs.Arguments.{ahead_of_end, document_named, is_ended_path, reached}
use Rattle.portal_model.specs.DeleteDocument.{delete_document, delete_reached, deleted}
use Rattle.portal_model.specs.Documents.{first_of}
use Rattle.portal_model.specs.Grant.{are_rights_arguments, grant, grant_reached, granted, may_grant}
use Rattle.portal_model.specs.Info.{info, info_of}
use Rattle.portal_model.specs.ListDocuments.{documents_listed, list_documents}
use Rattle.portal_model.specs.LookupDocument.{lookup_document, text_of}
use Rattle.portal_model.specs.Present.{may_present, present, present_path, queue_path, with_queue}
use Rattle.portal_model.specs.Revoke.{may_revoke, names_itself, revoke, revoke_reached, revoked}
use Rattle.portal_model.specs.Rights.{held_by}
use Rattle.portal_model.specs.State.{State}
use Rattle.portal_model.specs.Valid.{Valid}
use Rattle.portal_model.specs.Verdict.{Verdict, does}
use Rattle.dbus_calls.specs.declared.method.Method.{Method}
use Rattle.dbus_calls.specs.declared.method.Method.TheVariants as M
use Rattle.dbus_dispatch.specs.Writable.{IsTold, HasItsIdentifiers}
use Rattle.dbus_dispatch.proofs.Identifiers.{identifier_text}
use Rattle.call_laws.proofs.Texts.{empty_text, path_bytes}
use Rattle.call_laws.proofs.Records.{IfOnHost, named_on_host, listed_have_bytes, rows_have_texts}
use Rattle.call_laws.proofs.Verdicts.{VerdictTold, WalkTold, unless_told, walk_unless_told, looks_told}

-- ---- Present

below_limit : (a b : ℕ) → not (nat_lt a b) ≡ false → a < b
below_limit a b h = grind (arith, nat_tests)

pub present_told : (s : State) (c : Connection) (path : List ℕ) → s.limits.queued < 2 ^ 32 → VerdictTold M.Present (present s c path)
present_told s c bytes small =
    let path : List ℕ = ahead_of_end bytes in
    let place : Verdict = does (with_queue c.seat (λ queue. queue ++ path ∷ []) s) (A.Place (length c.queue)) in
    unless_told M.Present (not (is_ended_path bytes)) Code.InvalidArgument (present_path s c path)
    (λ e. unless_told M.Present (not (may_present c.who path)) Code.NotAllowed (queue_path s c path)
    (λ f. unless_told M.Present (not (nat_lt (length c.queue) s.limits.queued)) Code.LimitsExceeded place (λ g. omega (arith, below_limit (length c.queue) s.limits.queued g, small))))

-- ---- rights, and Delete

reached_grant : (m : Method) (s : State) (who : Who) (call : RightsCall) (o : Option Document) → VerdictTold m (grant_reached s who call o)
reached_grant m s who call None = tt
reached_grant m s who call (Some d) = unless_told m (not (may_grant (held_by s.rights who d.id.number) (rights_named call.names))) Code.NotAllowed (granted s call d) (λ e. tt)

pub grant_told : (m : Method) (s : State) (who : Who) (call : RightsCall) → VerdictTold m (grant s who call)
grant_told m s who call =
    unless_told m (not (are_rights_arguments call)) Code.InvalidArgument (grant_reached s who call (reached s who call.doc)) (λ e. reached_grant m s who call (reached s who call.doc))

reached_revoke : (m : Method) (s : State) (who : Who) (call : RightsCall) (o : Option Document) → VerdictTold m (revoke_reached s who call o)
reached_revoke m s who call None = tt
reached_revoke m s who call (Some d) =
    unless_told m (not (may_revoke (held_by s.rights who d.id.number) (names_itself who call.app))) Code.NotAllowed (does (revoked s call d) A.Done) (λ e. tt)

pub revoke_told : (m : Method) (s : State) (who : Who) (call : RightsCall) → VerdictTold m (revoke s who call)
revoke_told m s who call =
    unless_told m (not (are_rights_arguments call)) Code.InvalidArgument (revoke_reached s who call (reached s who call.doc)) (λ e. reached_revoke m s who call (reached s who call.doc))

reached_delete : (m : Method) (s : State) (who : Who) (o : Option Document) → VerdictTold m (delete_reached s who o)
reached_delete m s who None = tt
reached_delete m s who (Some d) = unless_told m (not (held_by s.rights who d.id.number).delete) Code.NotAllowed (does (deleted s d.id.number) A.Done) (λ e. tt)

pub delete_told : (m : Method) (s : State) (who : Who) (doc : List ℕ) → VerdictTold m (delete_document s who doc)
delete_told m s who doc = reached_delete m s who (reached s who doc)

-- ---- Lookup, Info and List

one_told : (o : Option DocId) → IsTold M.LookupDocument (A.Ids (text_of o ∷ []))
one_told None = (All-cons IsText [] [] empty_text (All-nil IsText), refl)
one_told (Some id) = (All-cons IsText (doc_text id.number) [] (identifier_text id.number) (All-nil IsText), refl)

pub lookup_told : (s : State) (who : Who) (bytes : List ℕ) → VerdictTold M.LookupDocument (lookup_document s who bytes)
lookup_told s (Who.App app) bytes = tt
lookup_told s Who.Host bytes =
    let o : Option DocId = first_of s.documents (ahead_of_end bytes) in
    unless_told M.LookupDocument (not (is_ended_path bytes)) Code.InvalidArgument (does s (A.Ids (text_of o ∷ []))) (λ e. one_told o)

of_document : (s : State) (o : Option Document) → Valid s → IfOnHost o → VerdictTold M.Info (info_of s o)
of_document s None valid h = tt
of_document s (Some d) valid h = (path_bytes d.path h, rows_have_texts s d.id.number valid)

pub info_told : (s : State) (who : Who) (doc : List ℕ) → Valid s → VerdictTold M.Info (info s who doc)
info_told s (Who.App app) doc valid = tt
info_told s Who.Host doc valid = of_document s (document_named s.documents doc) valid (named_on_host s doc valid)

pub list_told : (s : State) (who : Who) (app : List ℕ) → Valid s → VerdictTold M.ListDocuments (list_documents s who app)
list_told s (Who.App caller) app valid = tt
list_told s Who.Host app valid =
    unless_told M.ListDocuments (not (is_same app [] || is_app_name app)) Code.InvalidArgument (does s (A.Listed (documents_listed s app))) (λ e. listed_have_bytes s app valid)

-- ---- additions

-- an identifier, or the empty text, for each file so far
abbrev ForEach : ℕ → Added → Type 0
ForEach n done = All IsText done.ids × (length done.ids ≡ n)

one_more : (n : ℕ) (ids : List (List ℕ)) (text : List ℕ) → All IsText ids → length ids ≡ n → IsText text → All IsText (ids ++ text ∷ []) × (length (ids ++ text ∷ []) ≡ n + 1)
one_more n ids text h count t = (All-append IsText ids (text ∷ []) h (All-cons IsText text [] t (All-nil IsText)), omega (arith, count, length-append ids (text ∷ [])))

used_each : (who : Who) (a : AddRequest) (path : List ℕ) (done : Added) (o : Option DocId) (n : ℕ) → ForEach n done → ForEach (n + 1) (use_document who a path done o)
used_each who a path done (Some id) n h = one_more n done.ids (doc_text id.number) h.0 h.1 (identifier_text id.number)
used_each who a path done None n h = one_more n done.ids _ h.0 h.1 (identifier_text _)

file_each : (who : Who) (a : AddRequest) (path : List ℕ) (done : Added) (b : Bool) (o : Option DocId) (n : ℕ) → ForEach n done
    → ForEach (n + 1) (cond b (record done { ids = done.ids ++ [] ∷ [] }) (use_document who a path done o))
file_each who a path done true o n h = one_more n done.ids [] h.0 h.1 empty_text
file_each who a path done false o n h = used_each who a path done o n h

files_each : (who : Who) (a : AddRequest) (paths : List (List ℕ)) (done : Added) (n : ℕ) → ForEach n done → ForEach (n + length paths) (fold (add_file who a) done paths)
files_each who a [] done n h = subst (λ (k : ℕ). ForEach k done) (omega arith) h
files_each who a (path ∷ paths) done n h =
    let first : Added = add_file who a done path in
    let here : ForEach (n + 1) first = file_each who a path done (is_left_out a path) (used_again done.state.documents a path) n h in
    let whole : ForEach (n + 1 + length paths) (fold (add_file who a) first paths) = files_each who a paths first (n + 1) here in
    subst (λ (k : ℕ). ForEach k (fold (add_file who a) first paths)) (omega arith) whole

-- the identifiers are as many as the handles
pub ids_each : (who : Who) (a : AddRequest) (s : State) (numbers : List DocId) (queue : List (List ℕ)) → ForEach (length a.handles) (add_files who a s numbers (document_paths queue a))
ids_each who a s numbers queue =
    let count : 0 + length (document_paths queue a) ≡ length a.handles = omega (arith, length-map (paths_presented queue a) (document_path a), length-map a.handles (λ handle. get_or (take a.fds queue) handle [])) in
    subst (λ (k : ℕ). ForEach k (add_files who a s numbers (document_paths queue a))) count
    (files_each who a (document_paths queue a) (record { state = s; numbers = numbers; ids = [] }) 0 (All-nil IsText, refl))

pub add_told : (m : Method) (s : State) (c : Connection) (a : AddRequest) (numbers : List DocId) → ((ids : List (List ℕ)) → length ids ≡ length a.handles → HasItsIdentifiers m ids) → WalkTold m (add s c a numbers)
add_told m s c a numbers has =
    let done : Added = added_files s c a numbers in
    let each : ForEach (length a.handles) done = ids_each c.who a (taken_from_queue c a s) numbers c.queue in
    walk_unless_told m (not (are_presented c.queue a)) Code.InvalidArgs (add_presented s c a numbers)
    (λ e. walk_unless_told m (not (are_add_arguments c.queue a)) Code.InvalidArgument (add_allowed s c a numbers)
    (λ f. walk_unless_told m (not (may_list_all s c.who a (document_paths c.queue a))) Code.NotAllowed (add_looking s c a numbers)
    (λ g. looks_told m (paths_shown c.queue a) (add_shown s c a numbers)
    (λ looks. unless_told m (not (are_of_kind a (paths_shown c.queue a) looks)) Code.InvalidArgument (added s done) (λ h. (each.0, has done.ids each.1))))))
