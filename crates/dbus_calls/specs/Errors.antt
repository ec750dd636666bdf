-- The names of errors (D-Bus Specification, "Message Bus Messages", names under
-- `org.freedesktop.DBus.Error`; XDG Desktop Portal, names under `org.freedesktop.portal.Error`).
use Rattle.std.specs.Prelude.{ℕ, List, ◌++◌, codes}
use Rattle.dbus_calls.specs.declared.error_name.ErrorName.{ErrorName}
use Rattle.dbus_calls.specs.declared.error_name.ErrorName.TheVariants as E
use Rattle.dbus_types.specs.declared.message.Message.{Message}
use Rattle.dbus_types.specs.declared.message.OutMessage.{OutMessage}
use Rattle.dbus_types.specs.declared.message.OutMessage.TheVariants.{Error}

abbrev pub bus : List ℕ → List ℕ
bus name = codes "org.freedesktop.DBus.Error." ++ name

abbrev pub portal : List ℕ → List ℕ
portal name = codes "org.freedesktop.portal.Error." ++ name

abbrev pub error_name : ErrorName → List ℕ
error_name E.UnknownObject = bus (codes "UnknownObject")
error_name E.UnknownInterface = bus (codes "UnknownInterface")
error_name E.UnknownMethod = bus (codes "UnknownMethod")
error_name E.UnknownProperty = bus (codes "UnknownProperty")
error_name E.InvalidArgs = bus (codes "InvalidArgs")
error_name E.AccessDenied = bus (codes "AccessDenied")
error_name E.LimitsExceeded = bus (codes "LimitsExceeded")
error_name E.NoMemory = bus (codes "NoMemory")
error_name E.NotFound = portal (codes "NotFound")
error_name E.NotAllowed = portal (codes "NotAllowed")
error_name E.InvalidArgument = portal (codes "InvalidArgument")
error_name E.Failed = portal (codes "Failed")

-- the error message that answers a call
abbrev pub error_to : Message → ErrorName → OutMessage
error_to message error = Error message.serial (error_name error)
