-- What is done on a bus was allowed there, and so was what opens and closes a connection.
use Rattle.std.proofs.Common.{◌≡◌, ℕ, List, [], ◌∷◌, map, Bool, true, false, not, ◌&&◌, ◌||◌, cond, Option, Some, None, is_some, refl, sym, ap, subst, ◌∙◌}
use Rattle.file_generations.specs.Generations.{Held}
use Rattle.portal_base.specs.Content.{look_at}
use Rattle.portal_base.specs.Names.{is_app_name, is_same}
use Rattle.portal_base.specs.declared.files.Look.{Look}
use Rattle.portal_base.specs.declared.names.doc_id.DocId.{DocId}
use Rattle.portal_base.specs.declared.who.Who.{Who}
use Rattle.rights_rule.specs.Rights.{holds_any, rights_named}
use Rattle.portal_model.specs.declared.entry.Fault.{Fault}
use Rattle.portal_model.specs.declared.entry.Given.{Given}
use Rattle.portal_model.specs.declared.reply.Code.{Code}
use Rattle.portal_model.specs.declared.reply.Code.TheVariants as Refusal
use Rattle.portal_model.specs.declared.request.AddRequest.{AddRequest}
use Rattle.portal_model.specs.declared.request.Request.{Request}
use Rattle.portal_model.specs.declared.request.RightsCall.{RightsCall}
use Rattle.portal_model.specs.declared.rights.Right.TheVariants.{Delete}
use Rattle.portal_model.specs.declared.state.Connection.{Connection}
use Rattle.portal_model.specs.declared.state.Document.{Document}
use Rattle.portal_model.specs.declared.state.Triple.{Triple}
use Rattle.portal_model.specs.declared.store.StoreCall.{StoreCall}
use Rattle.portal_model.specs.declared.store.StoreCall.TheVariants as Call
use Rattle.portal_model.specs.declared.store.StoredEntry.{StoredEntry}
use Rattle.portal_model.specs.Add.{add, add_allowed, add_looking, add_presented, add_shown, added, added_files, are_of_kind, may_list_all}
use Rattle.portal_model.specs.AddArguments.{are_add_arguments, are_presented, document_paths, paths_shown}
use Rattle.portal_model.specs.Allowed.{allowed, allowed_on_bus, is_allowed, is_live, is_refusal, may_add, may_delete_in, may_grant_in, may_revoke_in}
use Rattle.portal_model.specs.Arguments.{ahead_of_end, document_named, if_reached, is_ended_path, reached}
use Rattle.portal_model.specs.Bus.{bus_answer, bus_walk, is_tree, moment_given, refused_state, settled, verdict_given}
use Rattle.portal_model.specs.DeleteDocument.{delete_reached}
use Rattle.portal_model.specs.Enter.{enter_answer}
use Rattle.portal_model.specs.Grant.{are_rights_arguments, grant_reached, may_grant}
use Rattle.portal_model.specs.Info.{info, info_of}
use Rattle.portal_model.specs.Lawful.{LawfulGiven, LawfulOnBus}
use Rattle.portal_model.specs.Leave.{leave_answer}
use Rattle.portal_model.specs.ListDocuments.{list_documents}
use Rattle.portal_model.specs.LookupDocument.{lookup_document}
use Rattle.portal_model.specs.Outside.{LawfulBus}
use Rattle.portal_model.specs.Present.{may_present, present, present_path, queue_path}
use Rattle.portal_model.specs.Revoke.{may_revoke, names_itself, revoke_reached}
use Rattle.portal_model.specs.Rights.{held_by}
use Rattle.portal_model.specs.State.{State, connection_of, held_in, who_has}
use Rattle.portal_model.specs.Step.{all_told, bus_of, bus_step, collect_step, mount_of, request_step}
use Rattle.portal_model.specs.Store.{Outcome, entry_of, entry_to_set, store_call, with_entry}
use Rattle.portal_model.specs.StoreRequest.{are_store_arguments, has_entry_for, own_table, store_allowed, store_request, store_verdict, table_of}
use Rattle.portal_model.specs.Verdict.{Verdict, Refuses, Does, unless, walk_unless}
use Rattle.portal_model.specs.Walk.{Walk, Answers, listed_shown, looks_at_all, looks_shown, walked, walked_with}
use Rattle.portal_model.proofs.EntriesAllowed.{allowed-told}
use Rattle.portal_model.proofs.LooksTaken.{walk_taken}
use Rattle.portal_model.proofs.NodeAllowed.{met, walked_met}
use Rattle.app_world.proofs.ReachedLaws.{reached-named}
use Rattle.file_laws.specs.OnlyAllowed.{OnlyAllowedIsDone}
use Rattle.file_laws.proofs.DoneIsAllowed.{and-both, node-was, step-was}

-- ---- checks

abbrev IsDone : Verdict → Type 0
IsDone (Refuses code) = ⊥
IsDone (Does d) = Unit {0}

passed : (b : Bool) (code : Code) (v : Verdict) → IsDone (unless (not b) code v) → (b ≡ true) × IsDone v
passed true code v h = (refl, h)
passed false code v h = absurd h

-- ---- the document that is named

reached-holds : (s : State) (who : Who) (o : Option Document) (d : Document) → if_reached s.rights who o ≡ Some d → holds_any (held_by s.rights who d.id.number) ≡ true
reached-holds s who None d e = cc
reached-holds s who (Some x) d e = by_rights (holds_any (held_by s.rights who x.id.number)) refl e
  where
    by_rights : (b : Bool) → holds_any (held_by s.rights who x.id.number) ≡ b → cond b (Some x) None ≡ Some d → holds_any (held_by s.rights who d.id.number) ≡ true
    by_rights true h f = let same : x ≡ d = cc in subst (λ (y : Document). holds_any (held_by s.rights who y.id.number) ≡ true) same h
    by_rights false h f = cc

grant-was : (s : State) (who : Who) (call : RightsCall) (o : Option Document) → reached s who call.doc ≡ o → IsDone (grant_reached s who call o) → may_grant_in s who call (document_named s.documents call.doc) ≡ true
grant-was s who call None e h = absurd h
grant-was s who call (Some d) e h =
    ap (may_grant_in s who call) (reached-named s who call.doc d e)
    ∙ (passed (may_grant (held_by s.rights who d.id.number) (rights_named call.names)) Refusal.NotAllowed _ h).0

gives-or-own : (g i k : Bool) → (g || i) ≡ true → k ≡ true → (g || (i && k)) ≡ true
gives-or-own true i k h e = refl
gives-or-own false true k h e = e
gives-or-own false false k h e = cc

may-revoke : (s : State) (who : Who) (call : RightsCall) (d : Document) → may_revoke (held_by s.rights who d.id.number) (names_itself who call.app) ≡ true → holds_any (held_by s.rights who d.id.number) ≡ true → may_revoke_in s who call (Some d) ≡ true
may-revoke s Who.Host call d h k = refl
may-revoke s (Who.App app) call d h k = gives-or-own _ (is_same app call.app) _ h k

revoke-was : (s : State) (who : Who) (call : RightsCall) (o : Option Document) → reached s who call.doc ≡ o → IsDone (revoke_reached s who call o) → may_revoke_in s who call (document_named s.documents call.doc) ≡ true
revoke-was s who call None e h = absurd h
revoke-was s who call (Some d) e h =
    ap (may_revoke_in s who call) (reached-named s who call.doc d e)
    ∙ may-revoke s who call d (passed (may_revoke (held_by s.rights who d.id.number) (names_itself who call.app)) Refusal.NotAllowed _ h).0
    (reached-holds s who (document_named s.documents call.doc) d e)

may-delete : (rights : List Triple) (who : Who) (number : ℕ) → (held_by rights who number).delete ≡ true → who_has rights who number Delete ≡ true
may-delete rights Who.Host number h = refl
may-delete rights (Who.App app) number h = h

delete-was : (s : State) (who : Who) (doc : List ℕ) (o : Option Document) → reached s who doc ≡ o → IsDone (delete_reached s who o) → may_delete_in s who (document_named s.documents doc) ≡ true
delete-was s who doc None e h = absurd h
delete-was s who doc (Some d) e h =
    ap (may_delete_in s who) (reached-named s who doc d e)
    ∙ may-delete s.rights who d.id.number (passed (held_by s.rights who d.id.number).delete Refusal.NotAllowed _ h).0

-- ---- the other calls

present-was : (s : State) (c : Connection) (bytes : List ℕ) → IsDone (present s c bytes) → (is_ended_path bytes && may_present c.who (ahead_of_end bytes)) ≡ true
present-was s c bytes h =
    let first = passed (is_ended_path bytes) Refusal.InvalidArgument (present_path s c (ahead_of_end bytes)) h in
    and-both (is_ended_path bytes) (may_present c.who (ahead_of_end bytes)) first.0
    (passed (may_present c.who (ahead_of_end bytes)) Refusal.NotAllowed (queue_path s c (ahead_of_end bytes)) first.1).0

lookup-was : (s : State) (c : Connection) (who : Who) (bytes : List ℕ) → c.who ≡ who → IsDone (lookup_document s who bytes) → is_allowed s c (Request.LookupDocument bytes) ≡ true
lookup-was s c (Who.App app) bytes e h = absurd h
lookup-was s c Who.Host bytes e h = rw e (passed (is_ended_path bytes) Refusal.InvalidArgument _ h).0

live-was : (s : State) (o : Option Document) → IsDone (info_of s o) → is_live o ≡ true
live-was s None h = absurd h
live-was s (Some d) h = refl

info-was : (s : State) (c : Connection) (who : Who) (doc : List ℕ) → c.who ≡ who → IsDone (info s who doc) → is_allowed s c (Request.Info doc) ≡ true
info-was s c (Who.App app) doc e h = absurd h
info-was s c Who.Host doc e h = rw e (live-was s (document_named s.documents doc) h)

list-was : (s : State) (c : Connection) (who : Who) (app : List ℕ) → c.who ≡ who → IsDone (list_documents s who app) → is_allowed s c (Request.ListDocuments app) ≡ true
list-was s c (Who.App caller) app e h = absurd h
list-was s c Who.Host app e h = rw e (passed (is_same app [] || is_app_name app) Refusal.InvalidArgument _ h).0

-- ---- an addition

all-met : {X : Type 0} (held : Held) (now : ℕ) (paths : List (List ℕ)) (next : List Look → Walk X) → met held now (looks_at_all paths next) ≡ met held now (next (map (look_at held.present) paths))
all-met held now [] next = refl
all-met held now (path ∷ paths) next = all-met held now paths (λ (looks : List Look). next (look_at held.present path ∷ looks))

walk-passed : (held : Held) (now : ℕ) (b : Bool) (code : Code) (w : Walk Verdict) → IsDone (met held now (walk_unless (not b) code w)) → (b ≡ true) × IsDone (met held now w)
walk-passed held now true code w h = (refl, h)
walk-passed held now false code w h = absurd h

add-was : (s : State) (c : Connection) (a : AddRequest) (numbers : List DocId) (now : ℕ) → IsDone (met (held_in s) now (add s c a numbers)) → may_add s c a ≡ true
add-was s c a numbers now h =
    let listed = may_list_all s c.who a (document_paths c.queue a) in
    let looks = map (look_at s.files) (paths_shown c.queue a) in
    let first = walk-passed (held_in s) now (are_presented c.queue a) Refusal.InvalidArgs (add_presented s c a numbers) h in
    let second = walk-passed (held_in s) now (are_add_arguments c.queue a) Refusal.InvalidArgument (add_allowed s c a numbers) first.1 in
    let third = walk-passed (held_in s) now listed Refusal.NotAllowed (add_looking s c a numbers) second.1 in
    let shown : IsDone (met (held_in s) now (add_shown s c a numbers looks)) = subst IsDone (all-met (held_in s) now (paths_shown c.queue a) (add_shown s c a numbers)) third.1 in
    and-both (are_presented c.queue a) (are_add_arguments c.queue a && (listed && are_of_kind a (paths_shown c.queue a) looks)) first.0
    (and-both (are_add_arguments c.queue a) (listed && are_of_kind a (paths_shown c.queue a) looks) second.0
    (and-both listed (are_of_kind a (paths_shown c.queue a) looks) third.0
    (passed (are_of_kind a (paths_shown c.queue a) looks) Refusal.InvalidArgument (added s (added_files s c a numbers)) shown).0))

-- ---- a call of the permission store

free : (b : Bool) (code : Code) (v : Verdict) → IsDone (unless b code v) → (not b ≡ true) × IsDone v
free true code v h = absurd h
free false code v h = (refl, h)

module _ (s : State) (call : StoreCall) where
  there : (o : Option StoredEntry) (does : StoredEntry → Outcome) → IsDone (store_verdict s call (with_entry o does)) → is_some o ≡ true
  there None does h = absurd h
  there (Some e) does h = refl

entry-was : (s : State) (call : StoreCall) → IsDone (store_verdict s call (store_call call s.entries)) → has_entry_for s.entries call ≡ true
entry-was s (Call.Lookup table id) h = there s (Call.Lookup table id) (entry_of s.entries table id) _ h
entry-was s (Call.Set table create id rows datum) h = there s (Call.Set table create id rows datum) (entry_to_set s.entries create table id) _ h
entry-was s (Call.Delete table id) h = there s (Call.Delete table id) (entry_of s.entries table id) _ h
entry-was s (Call.SetValue table create id datum) h = there s (Call.SetValue table create id datum) (entry_to_set s.entries create table id) _ h
entry-was s (Call.SetPermission table create id app names) h = there s (Call.SetPermission table create id app names) (entry_to_set s.entries create table id) _ h
entry-was s (Call.DeletePermission table id app) h = there s (Call.DeletePermission table id app) (entry_of s.entries table id) _ h
entry-was s (Call.GetPermission table id app) h = there s (Call.GetPermission table id app) (entry_of s.entries table id) _ h
entry-was s (Call.List table) h = refl

store-was : (s : State) (c : Connection) (who : Who) (call : StoreCall) → c.who ≡ who → IsDone (store_request s who call) → is_allowed s c (Request.Store call) ≡ true
store-was s c (Who.App app) call e h = absurd h
store-was s c Who.Host call e h =
    let other = not (is_same (table_of call) own_table) in
    let first = passed (are_store_arguments call) Refusal.InvalidArgument (store_allowed s call) h in
    let second = free (is_same (table_of call) own_table) Refusal.NotAllowed (store_verdict s call (store_call call s.entries)) first.1 in
    rw e (and-both (are_store_arguments call) (other && has_entry_for s.entries call) first.0 (and-both other (has_entry_for s.entries call) second.0 (entry-was s call second.1)))

-- ---- each request of a bus

-- one of these, and not one that opens or closes a connection, or is on a node
abbrev on_bus : Request → Bool
on_bus (Request.Enter who kind) = false
on_bus Request.Leave = false
on_bus Request.Collect = false
on_bus (Request.Node r) = false
on_bus (Request.Present path) = true
on_bus (Request.Add a) = true
on_bus (Request.Grant call) = true
on_bus (Request.Revoke call) = true
on_bus (Request.DeleteDocument doc) = true
on_bus (Request.LookupDocument path) = true
on_bus (Request.Info doc) = true
on_bus (Request.ListDocuments app) = true
on_bus (Request.Store call) = true

walk-was : (s : State) (c : Connection) (request : Request) (numbers : List DocId) (now : ℕ) → on_bus request ≡ true → IsDone (met (held_in s) now (bus_walk s c request numbers)) → is_allowed s c request ≡ true
walk-was s c (Request.Present path) numbers now o h = present-was s c path h
walk-was s c (Request.Add a) numbers now o h = add-was s c a numbers now h
walk-was s c (Request.Grant call) numbers now o h =
    let first = passed (are_rights_arguments call) Refusal.InvalidArgument (grant_reached s c.who call (reached s c.who call.doc)) h in
    and-both (are_rights_arguments call) (may_grant_in s c.who call (document_named s.documents call.doc)) first.0 (grant-was s c.who call (reached s c.who call.doc) refl first.1)
walk-was s c (Request.Revoke call) numbers now o h =
    let first = passed (are_rights_arguments call) Refusal.InvalidArgument (revoke_reached s c.who call (reached s c.who call.doc)) h in
    and-both (are_rights_arguments call) (may_revoke_in s c.who call (document_named s.documents call.doc)) first.0 (revoke-was s c.who call (reached s c.who call.doc) refl first.1)
walk-was s c (Request.DeleteDocument doc) numbers now o h = delete-was s c.who doc (reached s c.who doc) refl h
walk-was s c (Request.LookupDocument path) numbers now o h = lookup-was s c c.who path refl h
walk-was s c (Request.Info doc) numbers now o h = info-was s c c.who doc refl h
walk-was s c (Request.ListDocuments app) numbers now o h = list-was s c c.who app refl h
walk-was s c (Request.Store call) numbers now o h = store-was s c c.who call refl h
walk-was s c request numbers now o h = cc

settled-was : (s refused : State) (given : Given) (v : Verdict) → is_refusal (settled s refused given (Some v)).1 ≡ false → IsDone v
settled-was s refused given (Refuses code) h = cc
settled-was s refused given (Does d) h = tt

-- no request of a bus lists a folder
unlisted-unless : (held : Held) (wrong : Bool) (code : Code) (w : Walk Verdict) → listed_shown held w ≡ None → listed_shown held (walk_unless wrong code w) ≡ None
unlisted-unless held true code w h = refl
unlisted-unless held false code w h = h

unlisted-all : (held : Held) (paths : List (List ℕ)) (v : List Look → Verdict) → listed_shown held (looks_at_all paths (λ looks. Answers (v looks))) ≡ None
unlisted-all held [] v = refl
unlisted-all held (path ∷ paths) v = unlisted-all held paths (λ looks. v (look_at held.present path ∷ looks))

unlisted : (held : Held) (s : State) (c : Connection) (request : Request) (numbers : List DocId) → listed_shown held (bus_walk s c request numbers) ≡ None
unlisted held s c (Request.Add a) numbers =
    unlisted-unless held (not (are_presented c.queue a)) Refusal.InvalidArgs (add_presented s c a numbers)
    (unlisted-unless held (not (are_add_arguments c.queue a)) Refusal.InvalidArgument (add_allowed s c a numbers)
    (unlisted-unless held (not (may_list_all s c.who a (document_paths c.queue a))) Refusal.NotAllowed (add_looking s c a numbers)
    (unlisted-all held (paths_shown c.queue a) (λ looks. unless (not (are_of_kind a (paths_shown c.queue a) looks)) Refusal.InvalidArgument (added s (added_files s c a numbers))))))
unlisted held s c request numbers = refl

bus-was : (s : State) (c : Connection) (request : Request) (given : Given) → s.told ≡ true → on_bus request ≡ true → LawfulBus s c request given → given.fault ≡ Fault.None → is_refusal (bus_answer s c request given).1 ≡ false → is_allowed s c request ≡ true
bus-was s c request given t o l e h =
    let w = bus_walk s c request given.numbers in
    let now = moment_given given.now in
    let looks : given.looks ≡ looks_shown (held_in s) w = walk_taken s w given t e l.looks in
    let verdict : verdict_given w given ≡ Some (met (held_in s) now w) = (λ i. walked w now (looks i) (is_tree (e i))) ∙ ((λ i. walked_with w now (sym (unlisted (held_in s) s c request given.numbers) i) (looks_shown (held_in s) w) false) ∙ walked_met (held_in s) now w) in
    walk-was s c request given.numbers now o
    (settled-was s (refused_state s c request) given (met (held_in s) now w) (sym (ap (λ (v : Option Verdict). is_refusal (settled s (refused_state s c request) given v).1) verdict) ∙ h))

on-bus-was : (s : State) (request : Request) (given : Given) (o : Option Connection) → s.told ≡ true → on_bus request ≡ true → LawfulOnBus s request given o → given.fault ≡ Fault.None → is_refusal (bus_step s request given o).1.answer ≡ false → allowed_on_bus s request o ≡ true
on-bus-was s request given None t d l e h = cc
on-bus-was s request given (Some c) t d l e h = sym (allowed-told c.seat s c request) ∙ bus-was (all_told c.seat s) c request given t d l e h

-- ---- connections that open and close

entered-was : (o : Option Connection) → is_refusal (enter_answer o) ≡ false → not (is_some o) ≡ true
entered-was None h = refl
entered-was (Some c) h = cc

left-was : (o : Option Connection) → is_refusal (leave_answer o) ≡ false → is_some o ≡ true
left-was None h = cc
left-was (Some c) h = refl

collected-was : (s : State) (o : Option Connection) → is_refusal (collect_step s o).1.answer ≡ false → is_some o ≡ true
collected-was s None h = cc
collected-was s (Some c) h = refl

-- ---- an entry

request-was : (s : State) (seat : ℕ) (request : Request) (given : Given) → s.told ≡ true → LawfulGiven s seat request given → given.fault ≡ Fault.None → is_refusal (request_step s seat request given).1.answer ≡ false → allowed s seat request ≡ true
request-was s seat (Request.Enter who kind) given t l e h = entered-was (connection_of s.connections seat) h
request-was s seat Request.Leave given t l e h = left-was (connection_of s.connections seat) h
request-was s seat Request.Collect given t l e h = collected-was s (bus_of (connection_of s.connections seat)) h
request-was s seat (Request.Node r) given t l e h = step-was s r given (mount_of (connection_of s.connections seat)) t l e h
request-was s seat (Request.Present path) given t l e h = on-bus-was s (Request.Present path) given (bus_of (connection_of s.connections seat)) t refl l e h
request-was s seat (Request.Add a) given t l e h = on-bus-was s (Request.Add a) given (bus_of (connection_of s.connections seat)) t refl l e h
request-was s seat (Request.Grant call) given t l e h = on-bus-was s (Request.Grant call) given (bus_of (connection_of s.connections seat)) t refl l e h
request-was s seat (Request.Revoke call) given t l e h = on-bus-was s (Request.Revoke call) given (bus_of (connection_of s.connections seat)) t refl l e h
request-was s seat (Request.DeleteDocument doc) given t l e h = on-bus-was s (Request.DeleteDocument doc) given (bus_of (connection_of s.connections seat)) t refl l e h
request-was s seat (Request.LookupDocument path) given t l e h = on-bus-was s (Request.LookupDocument path) given (bus_of (connection_of s.connections seat)) t refl l e h
request-was s seat (Request.Info doc) given t l e h = on-bus-was s (Request.Info doc) given (bus_of (connection_of s.connections seat)) t refl l e h
request-was s seat (Request.ListDocuments app) given t l e h = on-bus-was s (Request.ListDocuments app) given (bus_of (connection_of s.connections seat)) t refl l e h
request-was s seat (Request.Store call) given t l e h = on-bus-was s (Request.Store call) given (bus_of (connection_of s.connections seat)) t refl l e h

pub only-allowed : OnlyAllowedIsDone
only-allowed = record {
  entry = λ s e t l f h. request-was s e.seat e.request e.given t l.given f h;
  on_node = node-was;
}
