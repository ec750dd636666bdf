-- What calls return: its signature (XDG Desktop Portal documentation,
-- "org.freedesktop.portal.Documents" and "org.freedesktop.impl.portal.PermissionStore"; D-Bus
-- Specification, "Standard Interfaces"; "local.docportal.Files1" is our own).
use Rattle.std.specs.Prelude.{◌≡◌, ℕ, List, [], map, codes, None, Ok}
use Rattle.portal_base.specs.declared.limits.Settings.{Settings}
use Rattle.dbus_types.specs.Types.{types_text}
use Rattle.dbus_values.specs.Values.{type_of}
use Rattle.dbus_types.specs.declared.message.Message.{Message}
use Rattle.dbus_types.specs.declared.message.OutMessage.TheVariants.{Return}
use Rattle.dbus_types.specs.declared.types.Value.{Value}
use Rattle.portal_model.specs.declared.entry.Entry.{Entry}
use Rattle.portal_model.specs.State.{State}
use Rattle.portal_model.specs.Step.{reply_at}
use Rattle.portal_model.specs.Valid.{Valid}
use Rattle.dbus_dispatch.specs.declared.ask.Ask.TheVariants.{Local, Portal}
use Rattle.dbus_calls.specs.declared.method.Method.{Method}
use Rattle.dbus_calls.specs.declared.method.Method.TheVariants as M
use Rattle.dbus_dispatch.specs.Asks.{ask_of}
use Rattle.dbus_calls.specs.Calls.{found}
use Rattle.dbus_dispatch.specs.Replies.{body_of, error_in}

-- the signature of what each method returns
abbrev pub gives : Method → List ℕ
-- org.freedesktop.portal.Documents
gives M.GetMountPoint = codes "ay"
gives M.Add = codes "s"
gives M.AddNamed = codes "s"
gives M.AddFull = codes "asa{sv}"
gives M.AddNamedFull = codes "sa{sv}"
gives M.GrantPermissions = []
gives M.RevokePermissions = []
gives M.DeleteDocument = []
gives M.LookupDocument = codes "s"
gives M.Info = codes "aya{sas}"
gives M.ListDocuments = codes "a{say}"
-- org.freedesktop.impl.portal.PermissionStore
gives M.LookupEntry = codes "a{sas}v"
gives M.SetEntry = []
gives M.DeleteEntry = []
gives M.SetValue = []
gives M.SetPermission = []
gives M.DeletePermission = []
gives M.GetPermission = codes "as"
gives M.ListEntries = codes "as"
-- local.docportal.Files1
gives M.Present = codes "u"
-- org.freedesktop.DBus.Properties and org.freedesktop.DBus.Peer
gives M.Get = codes "v"
gives M.GetAll = codes "a{sv}"
gives M.Ping = []

-- the values have the signature of what the method returns
abbrev pub HasItsSignature : Method → List Value → Type 0
HasItsSignature method body = types_text (map type_of body) ≡ gives method

-- Whatever the outside gave: what is returned to a call whose request is that of the entry, where
-- the answer is no error.
abbrev pub ReturnsHaveTheirSignatures : Type 0
ReturnsHaveTheirSignatures =
    (settings : Settings) (call : Message) (method : Method) (s : State) (e : Entry) → Valid s →
    ask_of settings call ≡ Portal e.request → found call ≡ Ok method →
    error_in (reply_at s e).answer ≡ None →
    HasItsSignature method (body_of method settings.mountpoint (reply_at s e).answer)

-- what is returned to a call that needs no portal
abbrev pub LocalReturnsHaveTheirSignatures : Type 0
LocalReturnsHaveTheirSignatures =
    (settings : Settings) (call : Message) (method : Method) (to : ℕ) (body : List Value) →
    ask_of settings call ≡ Local (Return to body) → found call ≡ Ok method →
    HasItsSignature method body
