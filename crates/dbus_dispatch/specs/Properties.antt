-- `org.freedesktop.DBus.Properties` (D-Bus Specification, "org.freedesktop.DBus.Properties").
use Rattle.std.specs.Prelude.{ℕ, List, [], ◌∷◌, map, find, Option, Some, Result, Ok, Err, ok_or}
use Rattle.std.specs.Option.{option_map}
use Rattle.std.specs.Str.{bytes_eq}
use Rattle.dbus_types.specs.declared.types.WireType.TheVariants as W
use Rattle.dbus_types.specs.declared.types.Value.{Value, out-Value}
use Rattle.dbus_types.specs.declared.types.Value.TheVariants as V
use Rattle.dbus_calls.specs.declared.object.Object.{Object}
use Rattle.dbus_calls.specs.declared.interface.Interface.{Interface}
use Rattle.dbus_calls.specs.declared.error_name.ErrorName.{ErrorName}
use Rattle.dbus_calls.specs.declared.error_name.ErrorName.TheVariants.{UnknownInterface, UnknownProperty, InvalidArgs}
use Rattle.dbus_calls.specs.Tables.{Property, properties_of}
use Rattle.dbus_requests.specs.Arguments.{text_of}
use Rattle.dbus_calls.specs.Calls.{interface_named}

-- the texts that the arguments of a call are
abbrev pub texts : List Value → List (Option (List ℕ))
texts arguments = map (λ argument. text_of (out-Value argument)) arguments

-- the interface of this name that the object has
abbrev pub interface_or : Object → List ℕ → Result Interface ErrorName
interface_or object name = ok_or (interface_named object name) UnknownInterface

-- the value of the property of this name
abbrev pub value_named : List ℕ → Interface → Option ℕ
value_named name interface = option_map (λ property. property.value)
    (find (λ property. bytes_eq name property.name) (properties_of interface))

abbrev pub value_or : List ℕ → Result Interface ErrorName → Result ℕ ErrorName
value_or name (Ok interface) = ok_or (value_named name interface) UnknownProperty
value_or name (Err error) = Err error

-- Get: the value of a property, by the names of the interface and of the property. Arguments that
-- aren't two texts, which no call with the signature `ss` has, are refused.
abbrev pub value_in : Object → List (Option (List ℕ)) → Result ℕ ErrorName
value_in object (Some interface ∷ Some name ∷ []) = value_or name (interface_or object interface)
value_in object _ = Err InvalidArgs

-- GetAll: the interface of a name; one argument that is no text is refused in the same way
abbrev pub interface_in : Object → List (Option (List ℕ)) → Result Interface ErrorName
interface_in object (Some interface ∷ []) = interface_or object interface
interface_in object _ = Err InvalidArgs

-- a property's value as a variant
abbrev pub variant_of : ℕ → Value
variant_of value = V.Variant (V.U32 value)

-- properties as `a{sv}`
abbrev pub dictionary : List Property → Value
dictionary properties = V.Array (W.DictEntry W.Str W.Variant)
    (map (λ property. V.DictEntry (V.Str property.name) (variant_of property.value)) properties)
