-- The arguments of the calls that ask the portal, and the requests that these are (XDG Desktop
-- Portal documentation, "org.freedesktop.portal.Documents" and
-- "org.freedesktop.impl.portal.PermissionStore"; "local.docportal.Files1" is our own).
-- Arguments of other types or forms, which no call that was read with its method's signature has,
-- are none of a request.
use Rattle.std.specs.Prelude.{ℕ, List, [], ◌∷◌, flat_map, Bool, true, false, Option, Some, None}
use Rattle.std.specs.Option.{option_map, option_to_list}
use Rattle.dbus_types.specs.declared.message.Message.{Message}
use Rattle.dbus_types.specs.declared.types.Value.{Value, out-Value}
use Rattle.dbus_types.specs.declared.types.Value.TheOpen.{Value-F}
use Rattle.portal_model.specs.declared.records.Row.{Row}
use Rattle.portal_model.specs.declared.request.AddRequest.{AddRequest}
use Rattle.portal_model.specs.declared.request.Request.{Request}
use Rattle.portal_model.specs.declared.request.RightsCall.{RightsCall}
use Rattle.portal_model.specs.declared.store.StoreCall.{StoreCall}
use Rattle.portal_model.specs.declared.store.StoreCall.TheVariants as Call
use Rattle.dbus_calls.specs.declared.method.Method.{Method}
use Rattle.dbus_calls.specs.declared.method.Method.TheVariants as M

-- ---- what an argument is, by its type (D-Bus Specification, "Type System")

abbrev pub text_of : Value-F Value → Option (List ℕ)
text_of (Value-F.Str text) = Some text
text_of _ = None

abbrev pub flag_of : Value-F Value → Option Bool
flag_of (Value-F.Bool flag) = Some flag
flag_of _ = None

abbrev pub number_of : Value-F Value → Option ℕ
number_of (Value-F.U32 number) = Some number
number_of _ = None

-- the index of a handle among those that come with the message
abbrev pub handle_of : Value-F Value → Option ℕ
handle_of (Value-F.Handle index) = Some index
handle_of _ = None

-- the bytes of an array of bytes
abbrev pub bytes_of : Value-F Value → Option (List ℕ)
bytes_of (Value-F.Bytes bytes) = Some bytes
bytes_of _ = None

-- the items of an array of another type
abbrev pub items_of : Value-F Value → Option (List Value)
items_of (Value-F.Array element items) = Some items
items_of _ = None

-- the value that stands in a variant
abbrev pub inside_of : Value-F Value → Option Value
inside_of (Value-F.Variant inside) = Some inside
inside_of _ = None

-- Of the items of an array those of one type; an array of that type has no others.

abbrev pub handles_in : List Value → List ℕ
handles_in items = flat_map (λ item. option_to_list (handle_of (out-Value item))) items

abbrev pub texts_in : List Value → List (List ℕ)
texts_in items = flat_map (λ item. option_to_list (text_of (out-Value item))) items

abbrev pub row_named : Option (List ℕ) → Option (List Value) → Option Row
row_named (Some app) (Some names) = Some (record { app = app; names = texts_in names })
row_named _ _ = None

-- an entry of `a{sas}`: the key of an application, and its permissions
abbrev pub row_of : Value-F Value → Option Row
row_of (Value-F.DictEntry key value) =
    row_named (text_of (out-Value key)) (items_of (out-Value value))
row_of _ = None

abbrev pub rows_in : List Value → List Row
rows_in items = flat_map (λ item. option_to_list (row_of (out-Value item))) items

-- ---- calls with one argument

abbrev pub text_alone : List Value → Option (List ℕ)
text_alone (argument ∷ []) = text_of (out-Value argument)
text_alone _ = None

abbrev pub bytes_alone : List Value → Option (List ℕ)
bytes_alone (argument ∷ []) = bytes_of (out-Value argument)
bytes_alone _ = None

-- ---- GrantPermissions and RevokePermissions

abbrev pub rights_of :
    Option (List ℕ) → Option (List ℕ) → Option (List Value) → Option RightsCall
rights_of (Some doc) (Some app) (Some names) =
    Some (record { doc = doc; app = app; names = texts_in names })
rights_of _ _ _ = None

-- doc_id (s), app_id (s), permissions (as)
abbrev pub rights_call : List Value → Option RightsCall
rights_call (doc ∷ app ∷ names ∷ []) =
    rights_of (text_of (out-Value doc)) (text_of (out-Value app)) (items_of (out-Value names))
rights_call _ = None

-- ---- Add and AddNamed

-- AddFull's flags: 1 for reuse_existing, 2 for persistent
abbrev pub flags_of : Bool → Bool → ℕ
flags_of false false = 0
flags_of true false = 1
flags_of false true = 2
flags_of true true = 3

-- one file, for no application
abbrev pub adds_one : ℕ → Bool → ℕ → List ℕ → ℕ → AddRequest
adds_one fds named file name flags = record {
  named = named;
  full = false;
  handles = file ∷ [];
  fds = fds;
  name = name;
  flags = flags;
  app = [];
  names = [];
}

abbrev pub add_of : ℕ → Option ℕ → Option Bool → Option Bool → Option AddRequest
add_of fds (Some file) (Some reuse) (Some persistent) =
    Some (adds_one fds false file [] (flags_of reuse persistent))
add_of fds _ _ _ = None

-- o_path_fd (h), reuse_existing (b), persistent (b)
abbrev pub add_call : ℕ → List Value → Option AddRequest
add_call fds (file ∷ reuse ∷ persistent ∷ []) =
    add_of fds (handle_of (out-Value file)) (flag_of (out-Value reuse))
    (flag_of (out-Value persistent))
add_call fds _ = None

abbrev pub add_named_of :
    ℕ → Option ℕ → Option (List ℕ) → Option Bool → Option Bool → Option AddRequest
add_named_of fds (Some file) (Some name) (Some reuse) (Some persistent) =
    Some (adds_one fds true file name (flags_of reuse persistent))
add_named_of fds _ _ _ _ = None

-- o_path_parent_fd (h), filename (ay), reuse_existing (b), persistent (b)
abbrev pub add_named_call : ℕ → List Value → Option AddRequest
add_named_call fds (file ∷ name ∷ reuse ∷ persistent ∷ []) =
    add_named_of fds (handle_of (out-Value file)) (bytes_of (out-Value name))
    (flag_of (out-Value reuse)) (flag_of (out-Value persistent))
add_named_call fds _ = None

-- ---- AddFull and AddNamedFull

abbrev pub adds_full : ℕ → List Value → ℕ → List ℕ → List Value → AddRequest
adds_full fds files flags app names = record {
  named = false;
  full = true;
  handles = handles_in files;
  fds = fds;
  name = [];
  flags = flags;
  app = app;
  names = texts_in names;
}

abbrev pub add_full_of : ℕ → Option (List Value) → Option ℕ → Option (List ℕ)
    → Option (List Value) → Option AddRequest
add_full_of fds (Some files) (Some flags) (Some app) (Some names) =
    Some (adds_full fds files flags app names)
add_full_of fds _ _ _ _ = None

-- o_path_fds (ah), flags (u), app_id (s), permissions (as)
abbrev pub add_full_call : ℕ → List Value → Option AddRequest
add_full_call fds (files ∷ flags ∷ app ∷ names ∷ []) =
    add_full_of fds (items_of (out-Value files)) (number_of (out-Value flags))
    (text_of (out-Value app)) (items_of (out-Value names))
add_full_call fds _ = None

abbrev pub adds_named : ℕ → ℕ → List ℕ → ℕ → List ℕ → List Value → AddRequest
adds_named fds file name flags app names = record {
  named = true;
  full = true;
  handles = file ∷ [];
  fds = fds;
  name = name;
  flags = flags;
  app = app;
  names = texts_in names;
}

abbrev pub add_named_full_of : ℕ → Option ℕ → Option (List ℕ) → Option ℕ → Option (List ℕ)
    → Option (List Value) → Option AddRequest
add_named_full_of fds (Some file) (Some name) (Some flags) (Some app) (Some names) =
    Some (adds_named fds file name flags app names)
add_named_full_of fds _ _ _ _ _ = None

-- o_path_fd (h), filename (ay), flags (u), app_id (s), permissions (as)
abbrev pub add_named_full_call : ℕ → List Value → Option AddRequest
add_named_full_call fds (file ∷ name ∷ flags ∷ app ∷ names ∷ []) =
    add_named_full_of fds (handle_of (out-Value file)) (bytes_of (out-Value name))
    (number_of (out-Value flags)) (text_of (out-Value app)) (items_of (out-Value names))
add_named_full_call fds _ = None

-- ---- Lookup, Set, Delete and List of the permission store

abbrev pub lookup_of : Option (List ℕ) → Option (List ℕ) → Option StoreCall
lookup_of (Some table) (Some id) = Some (Call.Lookup table id)
lookup_of _ _ = None

-- table (s), id (s)
abbrev pub lookup_call : List Value → Option StoreCall
lookup_call (table ∷ id ∷ []) = lookup_of (text_of (out-Value table)) (text_of (out-Value id))
lookup_call _ = None

abbrev pub set_of : Option (List ℕ) → Option Bool → Option (List ℕ) → Option (List Value)
    → Option Value → Option StoreCall
set_of (Some table) (Some create) (Some id) (Some rows) (Some datum) =
    Some (Call.Set table create id (rows_in rows) datum)
set_of _ _ _ _ _ = None

-- table (s), create (b), id (s), app_permissions (a{sas}), data (v)
abbrev pub set_call : List Value → Option StoreCall
set_call (table ∷ create ∷ id ∷ rows ∷ datum ∷ []) =
    set_of (text_of (out-Value table)) (flag_of (out-Value create)) (text_of (out-Value id))
    (items_of (out-Value rows)) (inside_of (out-Value datum))
set_call _ = None

abbrev pub delete_of : Option (List ℕ) → Option (List ℕ) → Option StoreCall
delete_of (Some table) (Some id) = Some (Call.Delete table id)
delete_of _ _ = None

-- table (s), id (s)
abbrev pub delete_call : List Value → Option StoreCall
delete_call (table ∷ id ∷ []) = delete_of (text_of (out-Value table)) (text_of (out-Value id))
delete_call _ = None

-- table (s)
abbrev pub list_call : List Value → Option StoreCall
list_call arguments = option_map Call.List (text_alone arguments)

-- ---- SetValue

abbrev pub set_value_of :
    Option (List ℕ) → Option Bool → Option (List ℕ) → Option Value → Option StoreCall
set_value_of (Some table) (Some create) (Some id) (Some datum) =
    Some (Call.SetValue table create id datum)
set_value_of _ _ _ _ = None

-- table (s), create (b), id (s), data (v)
abbrev pub set_value_call : List Value → Option StoreCall
set_value_call (table ∷ create ∷ id ∷ datum ∷ []) =
    set_value_of (text_of (out-Value table)) (flag_of (out-Value create)) (text_of (out-Value id))
    (inside_of (out-Value datum))
set_value_call _ = None

-- ---- SetPermission, DeletePermission and GetPermission

abbrev pub set_permission_of : Option (List ℕ) → Option Bool → Option (List ℕ) → Option (List ℕ)
    → Option (List Value) → Option StoreCall
set_permission_of (Some table) (Some create) (Some id) (Some app) (Some names) =
    Some (Call.SetPermission table create id app (texts_in names))
set_permission_of _ _ _ _ _ = None

-- table (s), create (b), id (s), app (s), permissions (as)
abbrev pub set_permission_call : List Value → Option StoreCall
set_permission_call (table ∷ create ∷ id ∷ app ∷ names ∷ []) =
    set_permission_of (text_of (out-Value table)) (flag_of (out-Value create))
    (text_of (out-Value id)) (text_of (out-Value app)) (items_of (out-Value names))
set_permission_call _ = None

abbrev pub delete_permission_of :
    Option (List ℕ) → Option (List ℕ) → Option (List ℕ) → Option StoreCall
delete_permission_of (Some table) (Some id) (Some app) = Some (Call.DeletePermission table id app)
delete_permission_of _ _ _ = None

-- table (s), id (s), app (s)
abbrev pub delete_permission_call : List Value → Option StoreCall
delete_permission_call (table ∷ id ∷ app ∷ []) =
    delete_permission_of (text_of (out-Value table)) (text_of (out-Value id))
    (text_of (out-Value app))
delete_permission_call _ = None

abbrev pub get_permission_of :
    Option (List ℕ) → Option (List ℕ) → Option (List ℕ) → Option StoreCall
get_permission_of (Some table) (Some id) (Some app) = Some (Call.GetPermission table id app)
get_permission_of _ _ _ = None

-- table (s), id (s), app (s)
abbrev pub get_permission_call : List Value → Option StoreCall
get_permission_call (table ∷ id ∷ app ∷ []) =
    get_permission_of (text_of (out-Value table)) (text_of (out-Value id))
    (text_of (out-Value app))
get_permission_call _ = None

-- ---- requests

-- what a call of a method asks the portal, by its arguments and, of an addition, by how many files
-- come with it
abbrev pub request_in : Message → Method → Option Request
request_in call M.Present = option_map Request.Present (bytes_alone call.body)
request_in call M.Add = option_map Request.Add (add_call call.fds call.body)
request_in call M.AddNamed = option_map Request.Add (add_named_call call.fds call.body)
request_in call M.AddFull = option_map Request.Add (add_full_call call.fds call.body)
request_in call M.AddNamedFull = option_map Request.Add (add_named_full_call call.fds call.body)
request_in call M.GrantPermissions = option_map Request.Grant (rights_call call.body)
request_in call M.RevokePermissions = option_map Request.Revoke (rights_call call.body)
request_in call M.DeleteDocument = option_map Request.DeleteDocument (text_alone call.body)
request_in call M.LookupDocument =
    option_map Request.LookupDocument (bytes_alone call.body)
request_in call M.Info = option_map Request.Info (text_alone call.body)
request_in call M.ListDocuments = option_map Request.ListDocuments (text_alone call.body)
request_in call M.LookupEntry = option_map Request.Store (lookup_call call.body)
request_in call M.SetEntry = option_map Request.Store (set_call call.body)
request_in call M.DeleteEntry = option_map Request.Store (delete_call call.body)
request_in call M.SetValue = option_map Request.Store (set_value_call call.body)
request_in call M.SetPermission = option_map Request.Store (set_permission_call call.body)
request_in call M.DeletePermission = option_map Request.Store (delete_permission_call call.body)
request_in call M.GetPermission = option_map Request.Store (get_permission_call call.body)
request_in call M.ListEntries = option_map Request.Store (list_call call.body)
request_in call _ = None
