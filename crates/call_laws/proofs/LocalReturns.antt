-- What is returned to a call that needs no portal has the signature of its method's returns.
use Rattle.std.proofs.Common.{◌≡◌, ℕ, List, [], ◌∷◌, Option, Some, None, Result, Ok, Err, refl, subst}
use Rattle.portal_base.specs.declared.limits.Settings.{Settings}
use Rattle.dbus_types.specs.declared.message.Message.{Message}
use Rattle.dbus_types.specs.declared.message.OutMessage.TheVariants.{Return}
use Rattle.dbus_types.specs.declared.types.Value.{Value}
use Rattle.dbus_types.specs.declared.types.Value.TheVariants as V
use Rattle.portal_model.specs.declared.request.Request.{Request}
use Rattle.dbus_dispatch.specs.declared.ask.Ask.{Ask}
use Rattle.dbus_dispatch.specs.declared.ask.Ask.TheVariants.{Ignore, Local}
use Rattle.dbus_calls.specs.declared.error_name.ErrorName.{ErrorName}
use Rattle.dbus_calls.specs.declared.error_name.ErrorName.TheVariants.{InvalidArgs}
use Rattle.dbus_calls.specs.declared.method.Method.{Method}
use Rattle.dbus_calls.specs.declared.method.Method.TheVariants as M
use Rattle.dbus_requests.specs.Arguments.{request_in}
use Rattle.dbus_dispatch.specs.Asks.{answered, ask_of, asked, asked_of_portal, closed_bytes}
use Rattle.dbus_calls.specs.Calls.{found, object_of}
use Rattle.dbus_calls.specs.Errors.{error_to}
use Rattle.dbus_dispatch.specs.Properties.{dictionary, interface_in, texts, value_in, variant_of}
use Rattle.dbus_calls.specs.Tables.{properties_of}
use Rattle.call_laws.specs.Returns.{HasItsSignature}
use Rattle.call_laws.proofs.ReturnsAsked.{by_method}
use Rattle.call_laws.proofs.ReturnSignatures.{path_signature, properties_signature, variant_signature}

-- a return that this asks for has the signature of the method's returns
abbrev IsSigned : Method → Ask → Type 0
IsSigned m ask = (to : ℕ) (body : List Value) → ask ≡ Local (Return to body) → HasItsSignature m body

ignored_signed : (m : Method) → IsSigned m Ignore
ignored_signed m to body e = absurd cc

return_signed : (m : Method) (n : ℕ) (values : List Value) → HasItsSignature m values → IsSigned m (Local (Return n values))
return_signed m n values h to body e = subst (HasItsSignature m) same h
  where
    same : values ≡ body
    same = cc

module _ (call : Message) where
  error_signed : (m : Method) (error : ErrorName) → IsSigned m (Local (error_to call error))
  error_signed m error to body e = absurd cc

  portal_signed : (m : Method) (o : Option Request) → IsSigned m (asked_of_portal call o)
  portal_signed m None to body e = absurd cc
  portal_signed m (Some request) to body e = absurd cc

  answered_signed : {X : Type 0} (m : Method) (value : X → Value) (r : Result X ErrorName) → ((x : X) → HasItsSignature m (value x ∷ [])) → IsSigned m (Local (answered call value r))
  answered_signed m value (Ok x) h = return_signed m call.serial (value x ∷ []) (h x)
  answered_signed m value (Err error) h = error_signed m error

  method_signed : (mountpoint : List ℕ) (m : Method) → IsSigned m (asked mountpoint call m)
  method_signed mountpoint M.Ping = return_signed M.Ping call.serial [] refl
  method_signed mountpoint M.Get = answered_signed M.Get variant_of (value_in (object_of call) (texts call.body)) (λ n. variant_signature (V.U32 n))
  method_signed mountpoint M.GetAll =
      answered_signed M.GetAll (λ interface. dictionary (properties_of interface)) (interface_in (object_of call) (texts call.body)) (λ interface. properties_signature (properties_of interface))
  method_signed mountpoint M.GetMountPoint = return_signed M.GetMountPoint call.serial (closed_bytes mountpoint ∷ []) (path_signature mountpoint)
  method_signed mountpoint M.Present = portal_signed M.Present (request_in call M.Present)
  method_signed mountpoint M.Add = portal_signed M.Add (request_in call M.Add)
  method_signed mountpoint M.AddNamed = portal_signed M.AddNamed (request_in call M.AddNamed)
  method_signed mountpoint M.AddFull = portal_signed M.AddFull (request_in call M.AddFull)
  method_signed mountpoint M.AddNamedFull = portal_signed M.AddNamedFull (request_in call M.AddNamedFull)
  method_signed mountpoint M.GrantPermissions = portal_signed M.GrantPermissions (request_in call M.GrantPermissions)
  method_signed mountpoint M.RevokePermissions = portal_signed M.RevokePermissions (request_in call M.RevokePermissions)
  method_signed mountpoint M.DeleteDocument = portal_signed M.DeleteDocument (request_in call M.DeleteDocument)
  method_signed mountpoint M.LookupDocument = portal_signed M.LookupDocument (request_in call M.LookupDocument)
  method_signed mountpoint M.Info = portal_signed M.Info (request_in call M.Info)
  method_signed mountpoint M.ListDocuments = portal_signed M.ListDocuments (request_in call M.ListDocuments)
  method_signed mountpoint M.LookupEntry = portal_signed M.LookupEntry (request_in call M.LookupEntry)
  method_signed mountpoint M.SetEntry = portal_signed M.SetEntry (request_in call M.SetEntry)
  method_signed mountpoint M.DeleteEntry = portal_signed M.DeleteEntry (request_in call M.DeleteEntry)
  method_signed mountpoint M.SetValue = portal_signed M.SetValue (request_in call M.SetValue)
  method_signed mountpoint M.SetPermission = portal_signed M.SetPermission (request_in call M.SetPermission)
  method_signed mountpoint M.DeletePermission = portal_signed M.DeletePermission (request_in call M.DeletePermission)
  method_signed mountpoint M.GetPermission = portal_signed M.GetPermission (request_in call M.GetPermission)
  method_signed mountpoint M.ListEntries = portal_signed M.ListEntries (request_in call M.ListEntries)

pub locals_signed : (settings : Settings) (call : Message) (m : Method) (to : ℕ) (body : List Value) → ask_of settings call ≡ Local (Return to body) → found call ≡ Ok m → HasItsSignature m body
locals_signed settings call m to body asks is =
    by_method (IsSigned m) settings.mountpoint call m is (ignored_signed m) (error_signed call m InvalidArgs) (method_signed call settings.mountpoint m) to body asks
