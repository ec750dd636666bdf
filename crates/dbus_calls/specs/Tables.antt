-- The objects of a bus connection, their interfaces, and the calls of these (D-Bus Specification,
-- "Standard Interfaces"; XDG Desktop Portal, "org.freedesktop.portal.Documents" version 4 and
-- "org.freedesktop.impl.portal.PermissionStore" version 2; "local.docportal.Files1" is our own).
use Rattle.std.specs.Prelude.{ℕ, List, [], ◌∷◌, Bool, true, not, ◌&&◌, codes}
use Rattle.std.specs.List.{list_any}
use Rattle.std.specs.Str.{bytes_eq}
use Rattle.dbus_calls.specs.declared.object.Object.{Object}
use Rattle.dbus_calls.specs.declared.object.Object.TheVariants as O
use Rattle.dbus_calls.specs.declared.interface.Interface.{Interface}
use Rattle.dbus_calls.specs.declared.interface.Interface.TheVariants as I
use Rattle.dbus_calls.specs.declared.method.Method.{Method}
use Rattle.dbus_calls.specs.declared.method.Method.TheVariants as M

-- ## Objects

abbrev pub objects : List Object
objects = O.Documents ∷ O.PermissionStore ∷ O.Files ∷ []

-- where an object stands
abbrev pub path_of : Object → List ℕ
path_of O.Documents = codes "/org/freedesktop/portal/documents"
path_of O.PermissionStore = codes "/org/freedesktop/impl/portal/PermissionStore"
path_of O.Files = codes "/local/docportal/files"
path_of O.Nothing = []

-- its interfaces; "on any object path" there is Peer at least
abbrev pub interfaces_of : Object → List Interface
interfaces_of O.Documents = I.Documents ∷ I.Properties ∷ I.Peer ∷ []
interfaces_of O.PermissionStore = I.PermissionStore ∷ I.Properties ∷ I.Peer ∷ []
interfaces_of O.Files = I.Files ∷ I.Properties ∷ I.Peer ∷ []
interfaces_of O.Nothing = I.Peer ∷ []

-- ## Interfaces

abbrev pub interface_name : Interface → List ℕ
interface_name I.Documents = codes "org.freedesktop.portal.Documents"
interface_name I.PermissionStore = codes "org.freedesktop.impl.portal.PermissionStore"
interface_name I.Files = codes "local.docportal.Files1"
interface_name I.Properties = codes "org.freedesktop.DBus.Properties"
interface_name I.Peer = codes "org.freedesktop.DBus.Peer"

abbrev pub methods_of : Interface → List Method
methods_of I.Documents = M.GetMountPoint ∷ M.Add ∷ M.AddNamed ∷ M.AddFull ∷ M.AddNamedFull
    ∷ M.GrantPermissions ∷ M.RevokePermissions ∷ M.DeleteDocument ∷ M.LookupDocument ∷ M.Info
    ∷ M.ListDocuments ∷ []
methods_of I.PermissionStore = M.LookupEntry ∷ M.SetEntry ∷ M.DeleteEntry ∷ M.SetValue
    ∷ M.SetPermission ∷ M.DeletePermission ∷ M.GetPermission ∷ M.ListEntries ∷ []
methods_of I.Files = M.Present ∷ []
methods_of I.Properties = M.Get ∷ M.GetAll ∷ []
methods_of I.Peer = M.Ping ∷ []

-- a property of an interface, and its value as a u32
pub record Property : Type 0 where
  pub name : List ℕ
  pub value : ℕ

abbrev pub version : ℕ → Property
version number = record { name = codes "version"; value = number }

abbrev pub properties_of : Interface → List Property
properties_of I.Documents = version 4 ∷ []
properties_of I.PermissionStore = version 2 ∷ []
properties_of _ = []

-- ## Methods

-- the name of a call, and the signature of what it takes
pub record Row : Type 0 where
  pub member : List ℕ
  pub takes : List ℕ

abbrev pub call : List ℕ → List ℕ → Row
call name signature = record { member = name; takes = signature }

abbrev pub row : Method → Row
row M.GetMountPoint = call (codes "GetMountPoint") []
row M.Add = call (codes "Add") (codes "hbb")
row M.AddNamed = call (codes "AddNamed") (codes "haybb")
row M.AddFull = call (codes "AddFull") (codes "ahusas")
row M.AddNamedFull = call (codes "AddNamedFull") (codes "hayusas")
row M.GrantPermissions = call (codes "GrantPermissions") (codes "ssas")
row M.RevokePermissions = call (codes "RevokePermissions") (codes "ssas")
row M.DeleteDocument = call (codes "Delete") (codes "s")
row M.LookupDocument = call (codes "Lookup") (codes "ay")
row M.Info = call (codes "Info") (codes "s")
row M.ListDocuments = call (codes "List") (codes "s")
row M.LookupEntry = call (codes "Lookup") (codes "ss")
row M.SetEntry = call (codes "Set") (codes "sbsa{sas}v")
row M.DeleteEntry = call (codes "Delete") (codes "ss")
row M.SetValue = call (codes "SetValue") (codes "sbsv")
row M.SetPermission = call (codes "SetPermission") (codes "sbssas")
row M.DeletePermission = call (codes "DeletePermission") (codes "sss")
row M.GetPermission = call (codes "GetPermission") (codes "sss")
row M.ListEntries = call (codes "List") (codes "s")
row M.Present = call (codes "Present") (codes "ay")
row M.Get = call (codes "Get") (codes "ss")
row M.GetAll = call (codes "GetAll") (codes "s")
row M.Ping = call (codes "Ping") []

-- ## Signals

-- the name of a signal, and the signature of what it carries
pub record SignalRow : Type 0 where
  pub member : List ℕ
  pub carries : List ℕ

-- the one signal of PermissionStore
abbrev pub changed : SignalRow
changed = record { member = codes "Changed"; carries = codes "ssbva{sas}" }

-- no text stands twice in a list
abbrev pub are_apart : List (List ℕ) → Bool
are_apart [] = true
are_apart (text ∷ texts) = not (list_any (bytes_eq text) texts) && are_apart texts
