-- What a call that may change something is answered tells little, unless it is an error.
use Rattle.std.proofs.Common.{◌≡◌, ℕ, Bool, true, false, cond, not, nat_le, List, [], ◌∷◌, ◌++◌, fold, length, Option, Some, None, Ok, refl, ap, ◌∙◌, subst}
use Rattle.std.specs.Prelude.{◌&&◌, ◌||◌}
use Rattle.std.specs.List.{list_all}
use Rattle.std.specs.Option.{option_map}
use Rattle.bus_answers.specs.Little.{are_few, is_little, is_short, kind_of}
use Rattle.bus_answers.specs.declared.kind.ReturnKind.TheVariants.{Data}
use Rattle.dbus_calls.specs.Calls.{found}
use Rattle.dbus_calls.specs.declared.method.Method.{Method}
use Rattle.dbus_calls.specs.declared.method.Method.TheVariants as M
use Rattle.dbus_dispatch.specs.Asks.{ask_of, asked, asked_of_portal}
use Rattle.dbus_dispatch.specs.Replies.{error_in}
use Rattle.dbus_dispatch.specs.declared.ask.Ask.{Ask}
use Rattle.dbus_dispatch.specs.declared.ask.Ask.TheVariants.{Portal}
use Rattle.dbus_requests.specs.Arguments.{add_call, add_full_call, add_named_call, add_named_full_call, bytes_alone, delete_call, delete_permission_call, rights_call, set_call, set_permission_call, set_value_call, text_alone}
use Rattle.dbus_types.specs.declared.message.Message.{Message}
use Rattle.portal_base.specs.Names.{doc_text, is_app_name}
use Rattle.portal_base.specs.declared.limits.Settings.{Settings}
use Rattle.portal_base.specs.declared.names.doc_id.DocId.{DocId}
use Rattle.portal_base.specs.declared.who.Who.{Who}
use Rattle.portal_model.specs.Add.{Added, add, add_allowed, add_file, add_looking, add_presented, add_shown, added, added_files, are_of_kind, may_list_all, taken_from_queue, use_document, used_again}
use Rattle.portal_model.specs.AddArguments.{are_add_arguments, are_flags, are_presented, document_paths, files_limit, is_left_out, is_named_well, names_nobody, paths_shown}
use Rattle.rights_rule.specs.Rights.{are_right_names}
use Rattle.portal_model.specs.Bus.{bus_walk}
use Rattle.portal_model.specs.State.{State, connection_of}
use Rattle.portal_model.specs.Step.{all_told, bus_of, bus_step, reply_at, request_step}
use Rattle.portal_model.specs.Verdict.{Verdict, walk_unless}
use Rattle.portal_model.specs.Walk.{Walk}
use Rattle.portal_model.specs.declared.entry.Entry.{Entry}
use Rattle.portal_model.specs.declared.entry.Given.{Given}
use Rattle.portal_model.specs.declared.reply.Answer.{Answer}
use Rattle.portal_model.specs.declared.reply.Answer.TheVariants as A
use Rattle.portal_model.specs.declared.reply.Code.{Code}
use Rattle.portal_model.specs.declared.reply.Code.TheVariants as code
use Rattle.portal_model.specs.declared.request.AddRequest.{AddRequest}
use Rattle.portal_model.specs.declared.request.Request.{Request}
use Rattle.portal_model.specs.declared.state.Connection.{Connection}
use Rattle.portal_model.specs.declared.store.StoreCall.{StoreCall}
use Rattle.call_laws.proofs.Requests.{ids_each}
use Rattle.call_laws.proofs.ReturnRequests.{of_delete, of_grant, of_present, of_revoke}
use Rattle.call_laws.proofs.ReturnVerdicts.{OfWalk, of_looks, of_step, of_unless, of_walk_unless}
use Rattle.call_laws.proofs.ReturnsAsked.{by_method}
use Rattle.call_laws.proofs.StoreRequests.{OfArguments, of_delete_call, of_delete_permission_call, of_set_call, of_set_permission_call, of_set_value_call, of_store}

-- ---- identifiers

abbrev AreShort : List (List ℕ) → Type 0
AreShort ids = list_all is_short ids ≡ true

short_digits : (n : ℕ) → is_short (doc_text n) ≡ true
unfolding doc_text
short_digits n = refl

both_true : (x y : Bool) → x ≡ true → y ≡ true → (x && y) ≡ true
both_true x y e f = ap (λ (b : Bool). b && y) e ∙ f

first_true : (x y : Bool) → (x && y) ≡ true → x ≡ true
first_true true y e = refl
first_true false y e = e

rest_true : (x y : Bool) → (x && y) ≡ true → y ≡ true
rest_true true y e = e
rest_true false y e = cc

one_more : (ids : List (List ℕ)) (id : List ℕ) → AreShort ids → is_short id ≡ true → AreShort (ids ++ id ∷ [])
one_more [] id h s = both_true (is_short id) true s refl
one_more (x ∷ xs) id h s =
    both_true (is_short x) (list_all is_short (xs ++ id ∷ [])) (first_true (is_short x) (list_all is_short xs) h) (one_more xs id (rest_true (is_short x) (list_all is_short xs) h) s)

used_short : (who : Who) (a : AddRequest) (path : List ℕ) (done : Added) (o : Option DocId) → AreShort done.ids → AreShort (use_document who a path done o).ids
used_short who a path done (Some id) h = one_more done.ids (doc_text id.number) h (short_digits id.number)
used_short who a path done None h = one_more done.ids _ h (short_digits _)

file_short : (who : Who) (a : AddRequest) (path : List ℕ) (done : Added) (b : Bool) (o : Option DocId) → AreShort done.ids → AreShort (cond b (record done { ids = done.ids ++ [] ∷ [] }) (use_document who a path done o)).ids
file_short who a path done true o h = one_more done.ids [] h refl
file_short who a path done false o h = used_short who a path done o h

files_short : (who : Who) (a : AddRequest) (paths : List (List ℕ)) (done : Added) → AreShort done.ids → AreShort (fold (add_file who a) done paths).ids
files_short who a [] done h = h
files_short who a (path ∷ paths) done h =
    files_short who a paths (add_file who a done path) (file_short who a path done (is_left_out a path) (used_again done.state.documents a path) h)

-- ---- an addition

if_walk_unless : (P : Answer → Type 0) (wrong : Bool) (why : Code) (w : Walk Verdict) → (wrong ≡ false → OfWalk P w) → OfWalk P (walk_unless wrong why w)
if_walk_unless P true why w h = tt
if_walk_unless P false why w h = h refl

not_false : (b : Bool) → not b ≡ false → b ≡ true
not_false true e = refl
not_false false e = cc

few_handles : (queue : List (List ℕ)) (a : AddRequest) → not (are_add_arguments queue a) ≡ false → nat_le (length a.handles) files_limit ≡ true
few_handles queue a e =
    first_true (nat_le (length a.handles) files_limit) (are_flags a && ((names_nobody a || is_app_name a.app) && (are_right_names a.names && is_named_well queue a))) (not_false (are_add_arguments queue a) e)

few_ids : (s : State) (c : Connection) (a : AddRequest) (numbers : List DocId) → not (are_add_arguments c.queue a) ≡ false → are_few (added_files s c a numbers).ids ≡ true
few_ids s c a numbers e =
    let ids : List (List ℕ) = (added_files s c a numbers).ids in
    let count : length ids ≡ length a.handles = (ids_each c.who a (taken_from_queue c a s) numbers c.queue).1 in
    both_true (nat_le (length ids) files_limit) (list_all is_short ids) (ap (λ (n : ℕ). nat_le n files_limit) count ∙ few_handles c.queue a e)
    (files_short c.who a (document_paths c.queue a) (record { state = taken_from_queue c a s; numbers = numbers; ids = [] }) refl)

of_few : (P : Answer → Type 0) (s : State) (c : Connection) (a : AddRequest) (numbers : List DocId) → ((ids : List (List ℕ)) → are_few ids ≡ true → P (A.Ids ids)) → OfWalk P (add s c a numbers)
of_few P s c a numbers h =
    of_walk_unless P (not (are_presented c.queue a)) code.InvalidArgs (add_presented s c a numbers)
    (if_walk_unless P (not (are_add_arguments c.queue a)) code.InvalidArgument (add_allowed s c a numbers)
    (λ e. of_walk_unless P (not (may_list_all s c.who a (document_paths c.queue a))) code.NotAllowed (add_looking s c a numbers)
    (of_looks P (paths_shown c.queue a) (add_shown s c a numbers)
    (λ looks. of_unless P (not (are_of_kind a (paths_shown c.queue a) looks)) code.InvalidArgument (added s (added_files s c a numbers)) (h (added_files s c a numbers).ids (few_ids s c a numbers e))))))

-- ---- by the method

abbrev IsLittleIf : Method → Answer → Type 0
IsLittleIf m answer = (kind_of m ≡ Data → ⊥) → error_in answer ≡ None → is_little m answer ≡ true

refused_little : (m : Method) (why : Code) → IsLittleIf m (A.Refused why)
refused_little m why k e = absurd cc

module _ (mountpoint : List ℕ) (call : Message) (s : State) (seat : ℕ) (given : Given) where
  abbrev Little : Method → Request → Type 0
  Little m r = IsLittleIf m (request_step s seat r given).1.answer

  on_bus : (m : Method) (r : Request) → ((c : Connection) → OfWalk (IsLittleIf m) (bus_walk (all_told c.seat s) c r given.numbers))
      → IsLittleIf m (bus_step s r given (bus_of (connection_of s.connections seat))).1.answer
  on_bus m r h = of_step (IsLittleIf m) (refused_little m) s r given (bus_of (connection_of s.connections seat)) h

  made : {X : Type 0} (m : Method) (f : X → Request) (o : Option X) (r : Request) → ((x : X) → o ≡ Some x → Little m (f x)) → asked_of_portal call (option_map f o) ≡ Portal r → Little m r
  made m f None r h e = absurd cc
  made m f (Some x) r h e = subst (Little m) (same (f x) r e) (h x refl)
    where
      same : (a b : Request) → Portal a ≡ Portal b → a ≡ b
      same a b e = cc

  on_store : (m : Method) (o : Option StoreCall) (r : Request) → OfArguments (IsLittleIf m) o → asked_of_portal call (option_map Request.Store o) ≡ Portal r → Little m r
  on_store m o r h e =
      made m Request.Store o r
      (λ x is. on_bus m (Request.Store x) (λ c. of_store (IsLittleIf m) (all_told c.seat s) c.who x (subst (OfArguments (IsLittleIf m)) is h))) e

  on_add : (m : Method) (o : Option AddRequest) (r : Request) → ((ids : List (List ℕ)) → are_few ids ≡ true → IsLittleIf m (A.Ids ids)) → asked_of_portal call (option_map Request.Add o) ≡ Portal r → Little m r
  on_add m o r h e = made m Request.Add o r (λ a is. on_bus m (Request.Add a) (λ c. of_few (IsLittleIf m) (all_told c.seat s) c a given.numbers h)) e

  method_little : (m : Method) (r : Request) → asked mountpoint call m ≡ Portal r → Little m r
  method_little M.Present r e =
      made M.Present Request.Present (bytes_alone call.body) r
      (λ path is. on_bus M.Present (Request.Present path) (λ c. of_present (IsLittleIf M.Present) (all_told c.seat s) c path (λ place k f. refl))) e
  method_little M.Add r e = on_add M.Add (add_call call.fds call.body) r (λ ids few k f. few) e
  method_little M.AddNamed r e = on_add M.AddNamed (add_named_call call.fds call.body) r (λ ids few k f. few) e
  method_little M.AddFull r e = on_add M.AddFull (add_full_call call.fds call.body) r (λ ids few k f. few) e
  method_little M.AddNamedFull r e = on_add M.AddNamedFull (add_named_full_call call.fds call.body) r (λ ids few k f. few) e
  method_little M.GrantPermissions r e =
      made M.GrantPermissions Request.Grant (rights_call call.body) r
      (λ x is. on_bus M.GrantPermissions (Request.Grant x) (λ c. of_grant (IsLittleIf M.GrantPermissions) (all_told c.seat s) c.who x (λ k f. refl))) e
  method_little M.RevokePermissions r e =
      made M.RevokePermissions Request.Revoke (rights_call call.body) r
      (λ x is. on_bus M.RevokePermissions (Request.Revoke x) (λ c. of_revoke (IsLittleIf M.RevokePermissions) (all_told c.seat s) c.who x (λ k f. refl))) e
  method_little M.DeleteDocument r e =
      made M.DeleteDocument Request.DeleteDocument (text_alone call.body) r
      (λ doc is. on_bus M.DeleteDocument (Request.DeleteDocument doc) (λ c. of_delete (IsLittleIf M.DeleteDocument) (all_told c.seat s) c.who doc (λ k f. refl))) e
  method_little M.LookupDocument r e = λ k. absurd (k refl)
  method_little M.Info r e = λ k. absurd (k refl)
  method_little M.ListDocuments r e = λ k. absurd (k refl)
  method_little M.GetMountPoint r e = absurd cc
  method_little M.LookupEntry r e = λ k. absurd (k refl)
  method_little M.SetEntry r e = on_store M.SetEntry (set_call call.body) r (of_set_call (IsLittleIf M.SetEntry) (λ k f. refl) call.body) e
  method_little M.DeleteEntry r e = on_store M.DeleteEntry (delete_call call.body) r (of_delete_call (IsLittleIf M.DeleteEntry) (λ k f. refl) call.body) e
  method_little M.SetValue r e = on_store M.SetValue (set_value_call call.body) r (of_set_value_call (IsLittleIf M.SetValue) (λ k f. refl) call.body) e
  method_little M.SetPermission r e = on_store M.SetPermission (set_permission_call call.body) r (of_set_permission_call (IsLittleIf M.SetPermission) (λ k f. refl) call.body) e
  method_little M.DeletePermission r e =
      on_store M.DeletePermission (delete_permission_call call.body) r (of_delete_permission_call (IsLittleIf M.DeletePermission) (λ k f. refl) call.body) e
  method_little M.GetPermission r e = λ k. absurd (k refl)
  method_little M.ListEntries r e = λ k. absurd (k refl)
  method_little M.Get r e = absurd cc
  method_little M.GetAll r e = absurd cc
  method_little M.Ping r e = absurd cc

pub answers_little : (settings : Settings) (call : Message) (m : Method) (s : State) (e : Entry) → ask_of settings call ≡ Portal e.request → found call ≡ Ok m → (kind_of m ≡ Data → ⊥)
    → error_in (reply_at s e).answer ≡ None → is_little m (reply_at s e).answer ≡ true
answers_little settings call m s e asks is changes right =
    by_method (λ (ask : Ask). ask ≡ Portal e.request → IsLittleIf m (reply_at s e).answer) settings.mountpoint call m is
    (λ other. absurd cc)
    (λ other. absurd cc)
    (λ same. method_little settings.mountpoint call s e.seat e.given m e.request same)
    asks changes right
