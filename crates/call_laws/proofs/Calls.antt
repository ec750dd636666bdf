-- What a call asks is answered so that it can be told to this call.
use Rattle.std.proofs.Common.{◌≡◌, ℕ, Bool, true, false, cond, List, [], ◌∷◌, length, Option, Some, None, Result, Ok, Err, refl, ap, ◌∙◌, subst}
use Rattle.std.specs.Prelude.{unwrap_or}
use Rattle.std.specs.Option.{option_map}
use Rattle.std.specs.Str.{bytes_eq}
use Rattle.portal_base.specs.declared.limits.Settings.{Settings}
use Rattle.dbus_types.specs.Types.{types_text}
use Rattle.dbus_types.specs.declared.message.Message.{Message}
use Rattle.dbus_types.specs.declared.types.Value.{Value, out-Value}
use Rattle.portal_model.specs.declared.entry.Entry.{Entry}
use Rattle.portal_model.specs.declared.entry.Given.{Given}
use Rattle.portal_model.specs.declared.request.AddRequest.{AddRequest}
use Rattle.portal_model.specs.declared.request.Request.{Request}
use Rattle.portal_model.specs.declared.state.Connection.{Connection}
use Rattle.portal_model.specs.declared.store.StoreCall.{StoreCall}
use Rattle.portal_model.specs.State.{State, connection_of}
use Rattle.portal_model.specs.Step.{all_told, bus_of, reply_at, request_step}
use Rattle.portal_model.specs.Valid.{Valid}
use Rattle.portal_model.proofs.ValidLaws.{all_told-Valid}
use Rattle.dbus_dispatch.specs.declared.ask.Ask.TheVariants.{Ignore, Portal}
use Rattle.dbus_calls.specs.declared.error_name.ErrorName.{ErrorName}
use Rattle.dbus_calls.specs.declared.error_name.ErrorName.TheVariants.{InvalidArgs}
use Rattle.dbus_calls.specs.declared.method.Method.{Method}
use Rattle.dbus_calls.specs.declared.method.Method.TheVariants as M
use Rattle.dbus_calls.specs.Tables.{row}
use Rattle.dbus_requests.specs.Arguments.{text_of, flag_of, number_of, bytes_of, handle_of, items_of, text_alone, bytes_alone, rights_call, add_of, add_call, add_named_of, add_named_call, add_full_call, add_named_full_of, add_named_full_call, lookup_call, set_call, delete_call, list_call, set_value_call, set_permission_call, delete_permission_call, get_permission_call, request_in}
use Rattle.dbus_dispatch.specs.Asks.{ask_of, asked, asked_of_portal, asked_or_refused, is_call}
use Rattle.dbus_calls.specs.Calls.{called, found, with_signature}
use Rattle.dbus_dispatch.specs.Writable.{HasItsIdentifiers, IsTold, IsToldTo}
use Rattle.call_laws.specs.Answers.{IsOnRecords}
use Rattle.call_laws.proofs.Requests.{present_told, grant_told, revoke_told, delete_told, lookup_told, info_told, list_told, add_told}
use Rattle.call_laws.proofs.StoreAnswers.{store_told}
use Rattle.call_laws.proofs.Verdicts.{step_told}

-- ---- what a call asks

same_some : {X : Type 0} (x y : X) → Some x ≡ Some y → x ≡ y
same_some x y e = ap (λ (o : Option _). unwrap_or o x) e

-- what is made of something is made of it
made_of : {X Y : Type 0} (f : X → Y) (o : Option X) (y : Y) → option_map f o ≡ Some y → (x : X) × (f x ≡ y) × (o ≡ Some x)
made_of f None y e = absurd cc
made_of f (Some x) y e = (x, same_some (f x) y e, refl)

asks_this : (call : Message) (o : Option Request) (request : Request) → asked_of_portal call o ≡ Portal request → o ≡ Some request
asks_this call None request e = absurd cc
asks_this call (Some other) request e = cc

-- ---- how many files an addition names

abbrev NamesOne : Option AddRequest → Type 0
NamesOne None = Unit {0}
NamesOne (Some a) = length a.handles ≡ 1

one_named : (o : Option AddRequest) (a : AddRequest) → NamesOne o → o ≡ Some a → length a.handles ≡ 1
one_named o a h e = subst NamesOne e h

add_of_one : (fds : ℕ) (file : Option ℕ) (reuse persistent : Option Bool) → NamesOne (add_of fds file reuse persistent)
add_of_one fds (Some file) (Some reuse) (Some persistent) = refl
add_of_one fds (Some file) (Some reuse) None = tt
add_of_one fds (Some file) None persistent = tt
add_of_one fds None reuse persistent = tt

add_one : (fds : ℕ) (arguments : List Value) → NamesOne (add_call fds arguments)
add_one fds [] = tt
add_one fds (a ∷ []) = tt
add_one fds (a ∷ b ∷ []) = tt
add_one fds (a ∷ b ∷ c ∷ []) = add_of_one fds (handle_of (out-Value a)) (flag_of (out-Value b)) (flag_of (out-Value c))
add_one fds (a ∷ b ∷ c ∷ d ∷ more) = tt

add_named_of_one : (fds : ℕ) (file : Option ℕ) (name : Option (List ℕ)) (reuse persistent : Option Bool) → NamesOne (add_named_of fds file name reuse persistent)
add_named_of_one fds (Some file) (Some name) (Some reuse) (Some persistent) = refl
add_named_of_one fds (Some file) (Some name) (Some reuse) None = tt
add_named_of_one fds (Some file) (Some name) None persistent = tt
add_named_of_one fds (Some file) None reuse persistent = tt
add_named_of_one fds None name reuse persistent = tt

add_named_one : (fds : ℕ) (arguments : List Value) → NamesOne (add_named_call fds arguments)
add_named_one fds [] = tt
add_named_one fds (a ∷ []) = tt
add_named_one fds (a ∷ b ∷ []) = tt
add_named_one fds (a ∷ b ∷ c ∷ []) = tt
add_named_one fds (a ∷ b ∷ c ∷ d ∷ []) = add_named_of_one fds (handle_of (out-Value a)) (bytes_of (out-Value b)) (flag_of (out-Value c)) (flag_of (out-Value d))
add_named_one fds (a ∷ b ∷ c ∷ d ∷ e ∷ more) = tt

add_named_full_of_one : (fds : ℕ) (file : Option ℕ) (name : Option (List ℕ)) (flags : Option ℕ) (app : Option (List ℕ)) (names : Option (List Value)) → NamesOne (add_named_full_of fds file name flags app names)
add_named_full_of_one fds (Some file) (Some name) (Some flags) (Some app) (Some names) = refl
add_named_full_of_one fds (Some file) (Some name) (Some flags) (Some app) None = tt
add_named_full_of_one fds (Some file) (Some name) (Some flags) None names = tt
add_named_full_of_one fds (Some file) (Some name) None app names = tt
add_named_full_of_one fds (Some file) None flags app names = tt
add_named_full_of_one fds None name flags app names = tt

add_named_full_one : (fds : ℕ) (arguments : List Value) → NamesOne (add_named_full_call fds arguments)
add_named_full_one fds [] = tt
add_named_full_one fds (a ∷ []) = tt
add_named_full_one fds (a ∷ b ∷ []) = tt
add_named_full_one fds (a ∷ b ∷ c ∷ []) = tt
add_named_full_one fds (a ∷ b ∷ c ∷ d ∷ []) = tt
add_named_full_one fds (a ∷ b ∷ c ∷ d ∷ e ∷ []) =
    add_named_full_of_one fds (handle_of (out-Value a)) (bytes_of (out-Value b)) (number_of (out-Value c)) (text_of (out-Value d)) (items_of (out-Value e))
add_named_full_one fds (a ∷ b ∷ c ∷ d ∷ e ∷ f ∷ more) = tt

-- ---- its answer

module _ (s : State) (seat : ℕ) (given : Given) (valid : Valid s) where
  abbrev Told : Method → Request → Type 0
  Told m r = IsTold m (request_step s seat r given).1.answer

  still_valid : (c : Connection) → Valid (all_told c.seat s)
  still_valid c = all_told-Valid s c.seat valid

  add_answer : (m : Method) (a : AddRequest) → ((ids : List (List ℕ)) → length ids ≡ length a.handles → HasItsIdentifiers m ids) → Told m (Request.Add a)
  add_answer m a has = step_told m s (Request.Add a) given (bus_of (connection_of s.connections seat)) (λ c. add_told m (all_told c.seat s) c a given.numbers has)

  made_told : {X : Type 0} (m : Method) (f : X → Request) (o : Option X) (r : Request) → option_map f o ≡ Some r → ((x : X) → o ≡ Some x → Told m (f x)) → Told m r
  made_told m f o r e h = let p = made_of f o r e in subst (Told m) p.1 (h p.0 p.2)

  on_store : (call : Message) (m : Method) (o : Option StoreCall) (r : Request) → option_map Request.Store o ≡ Some r → Told m r
  on_store call m o r e =
      made_told m Request.Store o r e
      (λ x f. step_told m s (Request.Store x) given (bus_of (connection_of s.connections seat)) (λ c. store_told m (all_told c.seat s) c.who x (still_valid c)))

  request_told : (call : Message) (m : Method) (r : Request) → request_in call m ≡ Some r → Told m r
  request_told call M.Present r e =
      made_told M.Present Request.Present (bytes_alone call.body) r e
      (λ path f. step_told M.Present s (Request.Present path) given (bus_of (connection_of s.connections seat)) (λ c. present_told (all_told c.seat s) c path valid.queued_limit))
  request_told call M.Add r e =
      made_told M.Add Request.Add (add_call call.fds call.body) r e (λ a f. add_answer M.Add a (λ ids same. same ∙ one_named (add_call call.fds call.body) a (add_one call.fds call.body) f))
  request_told call M.AddNamed r e =
      made_told M.AddNamed Request.Add (add_named_call call.fds call.body) r e
      (λ a f. add_answer M.AddNamed a (λ ids same. same ∙ one_named (add_named_call call.fds call.body) a (add_named_one call.fds call.body) f))
  request_told call M.AddFull r e = made_told M.AddFull Request.Add (add_full_call call.fds call.body) r e (λ a f. add_answer M.AddFull a (λ ids same. tt))
  request_told call M.AddNamedFull r e =
      made_told M.AddNamedFull Request.Add (add_named_full_call call.fds call.body) r e
      (λ a f. add_answer M.AddNamedFull a (λ ids same. same ∙ one_named (add_named_full_call call.fds call.body) a (add_named_full_one call.fds call.body) f))
  request_told call M.GrantPermissions r e =
      made_told M.GrantPermissions Request.Grant (rights_call call.body) r e
      (λ x f. step_told M.GrantPermissions s (Request.Grant x) given (bus_of (connection_of s.connections seat)) (λ c. grant_told M.GrantPermissions (all_told c.seat s) c.who x))
  request_told call M.RevokePermissions r e =
      made_told M.RevokePermissions Request.Revoke (rights_call call.body) r e
      (λ x f. step_told M.RevokePermissions s (Request.Revoke x) given (bus_of (connection_of s.connections seat)) (λ c. revoke_told M.RevokePermissions (all_told c.seat s) c.who x))
  request_told call M.DeleteDocument r e =
      made_told M.DeleteDocument Request.DeleteDocument (text_alone call.body) r e
      (λ doc f. step_told M.DeleteDocument s (Request.DeleteDocument doc) given (bus_of (connection_of s.connections seat)) (λ c. delete_told M.DeleteDocument (all_told c.seat s) c.who doc))
  request_told call M.LookupDocument r e =
      made_told M.LookupDocument Request.LookupDocument (bytes_alone call.body) r e
      (λ path f. step_told M.LookupDocument s (Request.LookupDocument path) given (bus_of (connection_of s.connections seat)) (λ c. lookup_told (all_told c.seat s) c.who path))
  request_told call M.Info r e =
      made_told M.Info Request.Info (text_alone call.body) r e
      (λ doc f. step_told M.Info s (Request.Info doc) given (bus_of (connection_of s.connections seat)) (λ c. info_told (all_told c.seat s) c.who doc (still_valid c)))
  request_told call M.ListDocuments r e =
      made_told M.ListDocuments Request.ListDocuments (text_alone call.body) r e
      (λ app f. step_told M.ListDocuments s (Request.ListDocuments app) given (bus_of (connection_of s.connections seat)) (λ c. list_told (all_told c.seat s) c.who app (still_valid c)))
  request_told call M.GetMountPoint r e = absurd cc
  request_told call M.LookupEntry r e = on_store call M.LookupEntry (lookup_call call.body) r e
  request_told call M.SetEntry r e = on_store call M.SetEntry (set_call call.body) r e
  request_told call M.DeleteEntry r e = on_store call M.DeleteEntry (delete_call call.body) r e
  request_told call M.SetValue r e = on_store call M.SetValue (set_value_call call.body) r e
  request_told call M.SetPermission r e = on_store call M.SetPermission (set_permission_call call.body) r e
  request_told call M.DeletePermission r e = on_store call M.DeletePermission (delete_permission_call call.body) r e
  request_told call M.GetPermission r e = on_store call M.GetPermission (get_permission_call call.body) r e
  request_told call M.ListEntries r e = on_store call M.ListEntries (list_call call.body) r e
  request_told call M.Get r e = absurd cc
  request_told call M.GetAll r e = absurd cc
  request_told call M.Ping r e = absurd cc

-- ---- from the message

module _ (mountpoint : List ℕ) (call : Message) (r : Request) where
  by_method : (m : Method) → asked mountpoint call m ≡ Portal r → request_in call m ≡ Some r
  by_method M.Present e = asks_this call (request_in call M.Present) r e
  by_method M.Add e = asks_this call (request_in call M.Add) r e
  by_method M.AddNamed e = asks_this call (request_in call M.AddNamed) r e
  by_method M.AddFull e = asks_this call (request_in call M.AddFull) r e
  by_method M.AddNamedFull e = asks_this call (request_in call M.AddNamedFull) r e
  by_method M.GrantPermissions e = asks_this call (request_in call M.GrantPermissions) r e
  by_method M.RevokePermissions e = asks_this call (request_in call M.RevokePermissions) r e
  by_method M.DeleteDocument e = asks_this call (request_in call M.DeleteDocument) r e
  by_method M.LookupDocument e = asks_this call (request_in call M.LookupDocument) r e
  by_method M.Info e = asks_this call (request_in call M.Info) r e
  by_method M.ListDocuments e = asks_this call (request_in call M.ListDocuments) r e
  by_method M.GetMountPoint e = absurd cc
  by_method M.LookupEntry e = asks_this call (request_in call M.LookupEntry) r e
  by_method M.SetEntry e = asks_this call (request_in call M.SetEntry) r e
  by_method M.DeleteEntry e = asks_this call (request_in call M.DeleteEntry) r e
  by_method M.SetValue e = asks_this call (request_in call M.SetValue) r e
  by_method M.SetPermission e = asks_this call (request_in call M.SetPermission) r e
  by_method M.DeletePermission e = asks_this call (request_in call M.DeletePermission) r e
  by_method M.GetPermission e = asks_this call (request_in call M.GetPermission) r e
  by_method M.ListEntries e = asks_this call (request_in call M.ListEntries) r e
  by_method M.Get e = absurd cc
  by_method M.GetAll e = absurd cc
  by_method M.Ping e = absurd cc

  by_signature : (m : Method) (b : Bool) → asked_or_refused mountpoint call (cond b (Ok m) (Err InvalidArgs)) ≡ Portal r → asked mountpoint call m ≡ Portal r
  by_signature m true e = e
  by_signature m false e = absurd cc

  by_kind : (b : Bool) → cond b (asked_or_refused mountpoint call (called call)) Ignore ≡ Portal r → asked_or_refused mountpoint call (called call) ≡ Portal r
  by_kind true e = e
  by_kind false e = absurd cc

  asked_in : (m : Method) → cond (is_call call) (asked_or_refused mountpoint call (called call)) Ignore ≡ Portal r → found call ≡ Ok m → request_in call m ≡ Some r
  asked_in m e is =
      by_method m (by_signature m (bytes_eq (types_text call.signature) (row m).takes)
      (subst (λ (x : Result Method ErrorName). asked_or_refused mountpoint call (with_signature call x) ≡ Portal r) is (by_kind (is_call call) e)))

pub answers_told : (settings : Settings) (call : Message) (s : State) (e : Entry) → Valid s → ask_of settings call ≡ Portal e.request → IsToldTo call (reply_at s e).answer
answers_told settings call s e valid asks m is = request_told s e.seat e.given valid call m e.request (asked_in settings.mountpoint call e.request m asks is)

-- ---- on documents and entries

abbrev OnRecords : Option Request → Type 0
OnRecords None = Unit {0}
OnRecords (Some r) = IsOnRecords r

made_on : {X : Type 0} (f : X → Request) (o : Option X) → ((x : X) → IsOnRecords (f x)) → OnRecords (option_map f o)
made_on f None h = tt
made_on f (Some x) h = h x

request_on : (call : Message) (m : Method) → OnRecords (request_in call m)
request_on call M.Present = made_on Request.Present (bytes_alone call.body) (λ path. tt)
request_on call M.Add = made_on Request.Add (add_call call.fds call.body) (λ a. tt)
request_on call M.AddNamed = made_on Request.Add (add_named_call call.fds call.body) (λ a. tt)
request_on call M.AddFull = made_on Request.Add (add_full_call call.fds call.body) (λ a. tt)
request_on call M.AddNamedFull = made_on Request.Add (add_named_full_call call.fds call.body) (λ a. tt)
request_on call M.GrantPermissions = made_on Request.Grant (rights_call call.body) (λ x. tt)
request_on call M.RevokePermissions = made_on Request.Revoke (rights_call call.body) (λ x. tt)
request_on call M.DeleteDocument = made_on Request.DeleteDocument (text_alone call.body) (λ doc. tt)
request_on call M.LookupDocument = made_on Request.LookupDocument (bytes_alone call.body) (λ path. tt)
request_on call M.Info = made_on Request.Info (text_alone call.body) (λ doc. tt)
request_on call M.ListDocuments = made_on Request.ListDocuments (text_alone call.body) (λ app. tt)
request_on call M.GetMountPoint = tt
request_on call M.LookupEntry = made_on Request.Store (lookup_call call.body) (λ x. tt)
request_on call M.SetEntry = made_on Request.Store (set_call call.body) (λ x. tt)
request_on call M.DeleteEntry = made_on Request.Store (delete_call call.body) (λ x. tt)
request_on call M.SetValue = made_on Request.Store (set_value_call call.body) (λ x. tt)
request_on call M.SetPermission = made_on Request.Store (set_permission_call call.body) (λ x. tt)
request_on call M.DeletePermission = made_on Request.Store (delete_permission_call call.body) (λ x. tt)
request_on call M.GetPermission = made_on Request.Store (get_permission_call call.body) (λ x. tt)
request_on call M.ListEntries = made_on Request.Store (list_call call.body) (λ x. tt)
request_on call M.Get = tt
request_on call M.GetAll = tt
request_on call M.Ping = tt

method_on : (mountpoint : List ℕ) (call : Message) (r : Request) (m : Method) → asked mountpoint call m ≡ Portal r → IsOnRecords r
method_on mountpoint call r m e = subst OnRecords (by_method mountpoint call r m e) (request_on call m)

called_on : (mountpoint : List ℕ) (call : Message) (r : Request) (x : Result Method ErrorName) → asked_or_refused mountpoint call x ≡ Portal r → IsOnRecords r
called_on mountpoint call r (Ok m) e = method_on mountpoint call r m e
called_on mountpoint call r (Err error) e = absurd cc

pub calls_on_records : (settings : Settings) (call : Message) (r : Request) → ask_of settings call ≡ Portal r → IsOnRecords r
calls_on_records settings call r e = called_on settings.mountpoint call r (called call) (by_kind settings.mountpoint call r (is_call call) e)

-- ---- the method, and its request

request_or_none : (mountpoint : List ℕ) (call : Message) (r : Request) (x : Result Method ErrorName) → asked_or_refused mountpoint call x ≡ Portal r → (m : Method) × (request_in call m ≡ Some r)
request_or_none mountpoint call r (Ok m) e = (m, by_method mountpoint call r m e)
request_or_none mountpoint call r (Err error) e = absurd cc

pub asks_request : (settings : Settings) (call : Message) (r : Request) → ask_of settings call ≡ Portal r → (m : Method) × (request_in call m ≡ Some r)
asks_request settings call r e = request_or_none settings.mountpoint call r (called call) (by_kind settings.mountpoint call r (is_call call) e)
