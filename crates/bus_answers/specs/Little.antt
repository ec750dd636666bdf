-- Answers to calls that tell little: that a call is done, a place, or a few identifiers (XDG Desktop
-- Portal documentation, "org.freedesktop.portal.Documents" and
-- "org.freedesktop.impl.portal.PermissionStore": what each call returns). All calls that may change
-- something have no other, but for errors.
use Rattle.std.specs.Prelude.{◌≡◌, ◌≢◌, ℕ, List, length, nat_le, Bool, true, false, ◌&&◌, Ok}
use Rattle.std.specs.List.{list_all}
use Rattle.dbus_calls.specs.Calls.{found}
use Rattle.dbus_calls.specs.declared.method.Method.{Method}
use Rattle.dbus_calls.specs.declared.method.Method.TheVariants as M
use Rattle.dbus_types.specs.declared.message.Message.{Message}
use Rattle.portal_model.specs.declared.reply.Answer.{Answer}
use Rattle.portal_model.specs.declared.reply.Answer.TheVariants as A
use Rattle.portal_model.specs.AddArguments.{files_limit}
use Rattle.bus_answers.specs.declared.kind.ReturnKind.{ReturnKind}
use Rattle.bus_answers.specs.declared.kind.ReturnKind.TheVariants.{Nothing, Place, Ids, Data}

-- what a call that may change something returns; data of any length is what the others return
abbrev pub kind_of : Method → ReturnKind
kind_of M.Present = Place
kind_of M.Add = Ids
kind_of M.AddNamed = Ids
kind_of M.AddFull = Ids
kind_of M.AddNamedFull = Ids
kind_of M.GrantPermissions = Nothing
kind_of M.RevokePermissions = Nothing
kind_of M.DeleteDocument = Nothing
kind_of M.SetEntry = Nothing
kind_of M.DeleteEntry = Nothing
kind_of M.SetValue = Nothing
kind_of M.SetPermission = Nothing
kind_of M.DeletePermission = Nothing
kind_of method = Data

-- the digits of an identifier, or none of a file that has no document
abbrev pub is_short : List ℕ → Bool
is_short id = nat_le (length id) 8

abbrev pub are_few : List (List ℕ) → Bool
are_few ids = nat_le (length ids) files_limit && list_all is_short ids

abbrev pub is_done : Answer → Bool
is_done A.Done = true
is_done answer = false

abbrev pub is_place : Answer → Bool
is_place (A.Place place) = true
is_place answer = false

abbrev pub are_few_ids : Answer → Bool
are_few_ids (A.Ids ids) = are_few ids
are_few_ids answer = false

abbrev pub is_little_of : ReturnKind → Answer → Bool
is_little_of Nothing answer = is_done answer
is_little_of Place answer = is_place answer
is_little_of Ids answer = are_few_ids answer
is_little_of Data answer = false

-- the answer to a call of the method tells little
abbrev pub is_little : Method → Answer → Bool
is_little method answer = is_little_of (kind_of method) answer

-- the call is one that may change something
abbrev pub MayChange : Message → Type 0
MayChange call =
    (method : Method) × (found call ≡ Ok method) × (kind_of method ≢ Data)

-- the answer tells this call little
abbrev pub IsLittleTo : Message → Answer → Type 0
IsLittleTo call answer =
    (method : Method) × (found call ≡ Ok method) × (is_little method answer ≡ true)
