-- The signal Changed (XDG Desktop Portal documentation,
-- "org.freedesktop.impl.portal.PermissionStore": Changed; D-Bus Specification, "Message Protocol").
use Rattle.std.specs.Prelude.{List, [], ◌∷◌}
use Rattle.dbus_types.specs.declared.types.Value.{Value}
use Rattle.dbus_types.specs.declared.types.Value.TheVariants as V
use Rattle.dbus_types.specs.declared.message.OutMessage.{OutMessage}
use Rattle.dbus_types.specs.declared.message.OutMessage.TheVariants.{Signal}
use Rattle.portal_model.specs.declared.reply.Change.{Change}
use Rattle.portal_model.specs.Changed.{rows_value}
use Rattle.dbus_calls.specs.declared.interface.Interface.TheVariants as I
use Rattle.dbus_calls.specs.declared.object.Object.TheVariants as O
use Rattle.dbus_calls.specs.Tables.{changed, interface_name, path_of}

-- table (s), id (s), deleted (b), data (v), permissions (a{sas})
abbrev pub changed_body : Change → List Value
changed_body change = V.Str change.table ∷ V.Str change.id ∷ V.Bool change.deleted
    ∷ V.Variant change.datum ∷ rows_value change.rows ∷ []

-- what a host is told of a change
abbrev pub signal_of : Change → OutMessage
signal_of change = Signal (path_of O.PermissionStore) (interface_name I.PermissionStore)
    changed.member (changed_body change)
