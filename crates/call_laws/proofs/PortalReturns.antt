-- What is returned to a call that asks the portal has the signature of its method's returns.
use Rattle.std.proofs.Common.{◌≡◌, ℕ, List, Option, Some, None, Ok, refl, subst}
use Rattle.std.specs.Option.{option_map}
use Rattle.portal_base.specs.declared.limits.Settings.{Settings}
use Rattle.dbus_types.specs.declared.message.Message.{Message}
use Rattle.portal_model.specs.declared.entry.Entry.{Entry}
use Rattle.portal_model.specs.declared.entry.Given.{Given}
use Rattle.portal_model.specs.declared.reply.Answer.{Answer}
use Rattle.portal_model.specs.declared.reply.Answer.TheVariants as A
use Rattle.portal_model.specs.declared.reply.Code.{Code}
use Rattle.portal_model.specs.declared.request.AddRequest.{AddRequest}
use Rattle.portal_model.specs.declared.request.Request.{Request}
use Rattle.portal_model.specs.declared.state.Connection.{Connection}
use Rattle.portal_model.specs.declared.store.StoreCall.{StoreCall}
use Rattle.portal_model.specs.Bus.{bus_walk}
use Rattle.portal_model.specs.State.{State, connection_of}
use Rattle.portal_model.specs.Step.{all_told, bus_of, bus_step, reply_at, request_step}
use Rattle.portal_model.specs.Valid.{Valid}
use Rattle.dbus_dispatch.specs.declared.ask.Ask.{Ask}
use Rattle.dbus_dispatch.specs.declared.ask.Ask.TheVariants.{Portal}
use Rattle.dbus_calls.specs.declared.method.Method.{Method}
use Rattle.dbus_calls.specs.declared.method.Method.TheVariants as M
use Rattle.dbus_requests.specs.Arguments.{add_call, add_full_call, add_named_call, add_named_full_call, bytes_alone, delete_call, delete_permission_call, get_permission_call, list_call, lookup_call, rights_call, set_call, set_permission_call, set_value_call, text_alone}
use Rattle.dbus_dispatch.specs.Asks.{ask_of, asked, asked_of_portal}
use Rattle.dbus_calls.specs.Calls.{found}
use Rattle.dbus_dispatch.specs.Replies.{body_of, error_in}
use Rattle.dbus_dispatch.specs.Writable.{IsTold}
use Rattle.call_laws.proofs.Calls.{answers_told}
use Rattle.call_laws.specs.Returns.{HasItsSignature}
use Rattle.call_laws.proofs.ReturnsAsked.{by_method}
use Rattle.call_laws.proofs.ReturnRequests.{of_add, of_delete, of_grant, of_info, of_list, of_lookup, of_present, of_revoke}
use Rattle.call_laws.proofs.ReturnSignatures.{documents_signature, entry_signature, info_signature, number_signature, one_text, one_text_and_extra, texts_and_extra, texts_signature}
use Rattle.call_laws.proofs.StoreRequests.{OfArguments, of_delete_call, of_delete_permission_call, of_get_permission_call, of_list_call, of_lookup_call, of_set_call, of_set_permission_call, of_set_value_call, of_store}
use Rattle.call_laws.proofs.ReturnVerdicts.{OfWalk, of_step}

-- an answer that can be told to a call of the method, and is no error, is returned with the
-- signature of the method's returns
abbrev IsSigned : List ℕ → Method → Answer → Type 0
IsSigned mountpoint m answer = IsTold m answer → error_in answer ≡ None → HasItsSignature m (body_of m mountpoint answer)

refused_signed : (mountpoint : List ℕ) (m : Method) (code : Code) → IsSigned mountpoint m (A.Refused code)
refused_signed mountpoint m code told e = absurd cc

module _ (mountpoint : List ℕ) (call : Message) (s : State) (seat : ℕ) (given : Given) where
  abbrev Signed : Method → Request → Type 0
  Signed m r = IsSigned mountpoint m (request_step s seat r given).1.answer

  -- the answer of the step of a request that isn't on a node
  on_bus : (m : Method) (r : Request) → ((c : Connection) → OfWalk (IsSigned mountpoint m) (bus_walk (all_told c.seat s) c r given.numbers))
      → IsSigned mountpoint m (bus_step s r given (bus_of (connection_of s.connections seat))).1.answer
  on_bus m r h = of_step (IsSigned mountpoint m) (refused_signed mountpoint m) s r given (bus_of (connection_of s.connections seat)) h

  -- what is made of the arguments is what is asked
  made : {X : Type 0} (m : Method) (f : X → Request) (o : Option X) (r : Request) → ((x : X) → o ≡ Some x → Signed m (f x)) → asked_of_portal call (option_map f o) ≡ Portal r → Signed m r
  made m f None r h e = absurd cc
  made m f (Some x) r h e = subst (Signed m) (same (f x) r e) (h x refl)
    where
      same : (a b : Request) → Portal a ≡ Portal b → a ≡ b
      same a b e = cc

  on_store : (m : Method) (o : Option StoreCall) (r : Request) → OfArguments (IsSigned mountpoint m) o → asked_of_portal call (option_map Request.Store o) ≡ Portal r → Signed m r
  on_store m o r h e =
      made m Request.Store o r
      (λ x is. on_bus m (Request.Store x) (λ c. of_store (IsSigned mountpoint m) (all_told c.seat s) c.who x (subst (OfArguments (IsSigned mountpoint m)) is h))) e

  on_add : (m : Method) (o : Option AddRequest) (r : Request) → ((ids : List (List ℕ)) → IsSigned mountpoint m (A.Ids ids)) → asked_of_portal call (option_map Request.Add o) ≡ Portal r → Signed m r
  on_add m o r h e = made m Request.Add o r (λ a is. on_bus m (Request.Add a) (λ c. of_add (IsSigned mountpoint m) (all_told c.seat s) c a given.numbers h)) e

  method_signed : (m : Method) (r : Request) → asked mountpoint call m ≡ Portal r → Signed m r
  method_signed M.Present r e =
      made M.Present Request.Present (bytes_alone call.body) r
      (λ path is. on_bus M.Present (Request.Present path) (λ c. of_present (IsSigned mountpoint M.Present) (all_told c.seat s) c path (λ place told f. number_signature place))) e
  method_signed M.Add r e = on_add M.Add (add_call call.fds call.body) r (λ ids told f. one_text ids told.1) e
  method_signed M.AddNamed r e = on_add M.AddNamed (add_named_call call.fds call.body) r (λ ids told f. one_text ids told.1) e
  method_signed M.AddFull r e = on_add M.AddFull (add_full_call call.fds call.body) r (λ ids told f. texts_and_extra ids mountpoint) e
  method_signed M.AddNamedFull r e = on_add M.AddNamedFull (add_named_full_call call.fds call.body) r (λ ids told f. one_text_and_extra ids mountpoint told.1) e
  method_signed M.GrantPermissions r e =
      made M.GrantPermissions Request.Grant (rights_call call.body) r
      (λ x is. on_bus M.GrantPermissions (Request.Grant x) (λ c. of_grant (IsSigned mountpoint M.GrantPermissions) (all_told c.seat s) c.who x (λ told f. refl))) e
  method_signed M.RevokePermissions r e =
      made M.RevokePermissions Request.Revoke (rights_call call.body) r
      (λ x is. on_bus M.RevokePermissions (Request.Revoke x) (λ c. of_revoke (IsSigned mountpoint M.RevokePermissions) (all_told c.seat s) c.who x (λ told f. refl))) e
  method_signed M.DeleteDocument r e =
      made M.DeleteDocument Request.DeleteDocument (text_alone call.body) r
      (λ doc is. on_bus M.DeleteDocument (Request.DeleteDocument doc) (λ c. of_delete (IsSigned mountpoint M.DeleteDocument) (all_told c.seat s) c.who doc (λ told f. refl))) e
  method_signed M.LookupDocument r e =
      made M.LookupDocument Request.LookupDocument (bytes_alone call.body) r
      (λ path is. on_bus M.LookupDocument (Request.LookupDocument path) (λ c. of_lookup (IsSigned mountpoint M.LookupDocument) (all_told c.seat s) c.who path (λ ids told f. one_text ids told.1))) e
  method_signed M.Info r e =
      made M.Info Request.Info (text_alone call.body) r
      (λ doc is. on_bus M.Info (Request.Info doc) (λ c. of_info (IsSigned mountpoint M.Info) (all_told c.seat s) c.who doc (λ path rights told f. info_signature path rights))) e
  method_signed M.ListDocuments r e =
      made M.ListDocuments Request.ListDocuments (text_alone call.body) r
      (λ app is. on_bus M.ListDocuments (Request.ListDocuments app) (λ c. of_list (IsSigned mountpoint M.ListDocuments) (all_told c.seat s) c.who app (λ documents told f. documents_signature documents))) e
  method_signed M.GetMountPoint r e = absurd cc
  method_signed M.LookupEntry r e = on_store M.LookupEntry (lookup_call call.body) r (of_lookup_call (IsSigned mountpoint M.LookupEntry) (λ rows datum told f. entry_signature rows datum) call.body) e
  method_signed M.SetEntry r e = on_store M.SetEntry (set_call call.body) r (of_set_call (IsSigned mountpoint M.SetEntry) (λ told f. refl) call.body) e
  method_signed M.DeleteEntry r e = on_store M.DeleteEntry (delete_call call.body) r (of_delete_call (IsSigned mountpoint M.DeleteEntry) (λ told f. refl) call.body) e
  method_signed M.SetValue r e = on_store M.SetValue (set_value_call call.body) r (of_set_value_call (IsSigned mountpoint M.SetValue) (λ told f. refl) call.body) e
  method_signed M.SetPermission r e = on_store M.SetPermission (set_permission_call call.body) r (of_set_permission_call (IsSigned mountpoint M.SetPermission) (λ told f. refl) call.body) e
  method_signed M.DeletePermission r e =
      on_store M.DeletePermission (delete_permission_call call.body) r (of_delete_permission_call (IsSigned mountpoint M.DeletePermission) (λ told f. refl) call.body) e
  method_signed M.GetPermission r e =
      on_store M.GetPermission (get_permission_call call.body) r (of_get_permission_call (IsSigned mountpoint M.GetPermission) (λ names told f. texts_signature names) call.body) e
  method_signed M.ListEntries r e = on_store M.ListEntries (list_call call.body) r (of_list_call (IsSigned mountpoint M.ListEntries) (λ names told f. texts_signature names) call.body) e
  method_signed M.Get r e = absurd cc
  method_signed M.GetAll r e = absurd cc
  method_signed M.Ping r e = absurd cc

pub returns_signed : (settings : Settings) (call : Message) (m : Method) (s : State) (e : Entry) → Valid s → ask_of settings call ≡ Portal e.request → found call ≡ Ok m
    → error_in (reply_at s e).answer ≡ None → HasItsSignature m (body_of m settings.mountpoint (reply_at s e).answer)
returns_signed settings call m s e valid asks is right =
    by_method (λ (ask : Ask). ask ≡ Portal e.request → IsSigned settings.mountpoint m (reply_at s e).answer) settings.mountpoint call m is
    (λ other. absurd cc)
    (λ other. absurd cc)
    (λ same. method_signed settings.mountpoint call s e.seat e.given m e.request same)
    asks (answers_told settings call s e valid asks m is) right
