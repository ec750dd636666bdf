-- What a call means, and which refusal comes first (D-Bus Specification, "Message Protocol",
-- "Header Fields" and "Method Calls"; "Standard Interfaces").
use Rattle.std.specs.Prelude.{ℕ, List, [], find, Bool, true, false, not, ◌&&◌, if◌then◌else◌, Option, is_none, unwrap_or, Result, Ok, Err, ok_or}
use Rattle.std.specs.List.{flat_map}
use Rattle.std.specs.Option.{option_map_or, option_to_list}
use Rattle.std.specs.Str.{bytes_eq}
use Rattle.dbus_types.specs.Types.{types_text}
use Rattle.dbus_types.specs.declared.message.Message.{Message}
use Rattle.dbus_calls.specs.declared.object.Object.{Object}
use Rattle.dbus_calls.specs.declared.object.Object.TheVariants.{Nothing}
use Rattle.dbus_calls.specs.declared.interface.Interface.{Interface}
use Rattle.dbus_calls.specs.declared.interface.Interface.TheVariants as I
use Rattle.dbus_calls.specs.declared.method.Method.{Method}
use Rattle.dbus_calls.specs.declared.method.Method.TheVariants as M
use Rattle.dbus_calls.specs.declared.error_name.ErrorName.{ErrorName}
use Rattle.dbus_calls.specs.declared.error_name.ErrorName.TheVariants.{UnknownObject, UnknownInterface, UnknownMethod, InvalidArgs}
use Rattle.dbus_calls.specs.Tables.{objects, path_of, interfaces_of, interface_name, methods_of, row}

-- ## Look-ups in the tables

abbrev pub object_at : List ℕ → Object
object_at path = unwrap_or (find (λ object. bytes_eq path (path_of object)) objects) Nothing

-- the interface of this name among some
abbrev pub interface_among : List Interface → List ℕ → Option Interface
interface_among interfaces name =
    find (λ interface. bytes_eq name (interface_name interface)) interfaces

-- the interface of this name that an object has
abbrev pub interface_named : Object → List ℕ → Option Interface
interface_named object name = interface_among (interfaces_of object) name

-- the method of this name among some
abbrev pub method_among : List Method → List ℕ → Option Method
method_among methods member = find (λ method. bytes_eq member (row method).member) methods

-- ## What a call names

-- A call that was read has a path and a member; without one it names nothing.
abbrev pub object_of : Message → Object
object_of call = object_at (unwrap_or call.path [])

abbrev pub member_of : Message → List ℕ
member_of call = unwrap_or call.member []

-- The interfaces that a call can mean: the one that it names, and where it names none those of its
-- object.
abbrev pub interfaces_meant : Message → List Interface
interfaces_meant call = option_map_or (λ name.
    option_to_list (interface_named (object_of call) name)) call.interface
    (interfaces_of (object_of call))

-- the method that a call means
abbrev pub method_meant : Message → Option Method
method_meant call = method_among (flat_map methods_of (interfaces_meant call)) (member_of call)

-- Ping with its interface named, which is answered on every path
abbrev pub names_ping : Message → Bool
names_ping call = bytes_eq (unwrap_or call.interface []) (interface_name I.Peer)
    && bytes_eq (member_of call) (row M.Ping).member

-- ## The refusals, in their order

abbrev pub is_nothing : Object → Bool
is_nothing Nothing = true
is_nothing _ = false

abbrev pub lacks_object : Message → Bool
lacks_object call = is_nothing (object_of call) && not (names_ping call)

abbrev pub lacks_interface : Message → Bool
lacks_interface call = option_map_or (λ name.
    is_none (interface_named (object_of call) name)) call.interface false

-- the method that a call means, or the first refusal of its object, interface and member
abbrev pub found : Message → Result Method ErrorName
found call =
    if lacks_object call then Err UnknownObject
    else if lacks_interface call then Err UnknownInterface
    else ok_or (method_meant call) UnknownMethod

-- the same, and last the refusal of a call that hasn't its method's signature
abbrev pub with_signature : Message → Result Method ErrorName → Result Method ErrorName
with_signature call (Ok method) = if bytes_eq (types_text call.signature) (row method).takes
    then Ok method else Err InvalidArgs
with_signature call (Err error) = Err error

-- the method that a call asks for, or the first refusal that applies
abbrev pub called : Message → Result Method ErrorName
called call = with_signature call (found call)
