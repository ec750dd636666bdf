-- What each message asks (D-Bus Specification, "Message Protocol": the message types; "Standard
-- Interfaces").
use Rattle.std.specs.Prelude.{ℕ, List, [], ◌∷◌, ◌++◌, Bool, ◌&&◌, ◌==◌, bit_and, if◌then◌else◌, Option, Some, None, Result, Ok, Err}
use Rattle.portal_base.specs.declared.limits.Settings.{Settings}
use Rattle.dbus_types.specs.declared.types.Value.{Value}
use Rattle.dbus_types.specs.declared.types.Value.TheVariants as V
use Rattle.dbus_types.specs.declared.message.Message.{Message}
use Rattle.dbus_types.specs.declared.message.OutMessage.{OutMessage}
use Rattle.dbus_types.specs.declared.message.OutMessage.TheVariants.{Return}
use Rattle.portal_model.specs.declared.request.Request.{Request}
use Rattle.dbus_calls.specs.declared.method.Method.{Method}
use Rattle.dbus_calls.specs.declared.method.Method.TheVariants as M
use Rattle.dbus_dispatch.specs.declared.ask.Ask.{Ask}
use Rattle.dbus_dispatch.specs.declared.ask.Ask.TheVariants.{Local, Ignore, Portal}
use Rattle.dbus_calls.specs.declared.error_name.ErrorName.{ErrorName}
use Rattle.dbus_calls.specs.declared.error_name.ErrorName.TheVariants.{InvalidArgs}
use Rattle.dbus_calls.specs.Tables.{properties_of}
use Rattle.dbus_calls.specs.Errors.{error_to}
use Rattle.dbus_calls.specs.Calls.{object_of, called}
use Rattle.dbus_requests.specs.Arguments.{request_in}
use Rattle.dbus_dispatch.specs.Properties.{texts, value_in, interface_in, variant_of, dictionary}

-- METHOD_CALL
abbrev pub is_call : Message → Bool
is_call message = message.kind == 1

-- a call without the flag NO_REPLY_EXPECTED
abbrev pub expects_reply : Message → Bool
expects_reply message = is_call message && (bit_and message.flags 1 == 0)

-- the return of a call
abbrev pub returned : Message → List Value → OutMessage
returned call body = Return call.serial body

-- a return of one value, or an error
abbrev pub answered : {A : Type 0} → Message → (A → Value) → Result A ErrorName → OutMessage
answered call value (Ok found) = returned call (value found ∷ [])
answered call value (Err error) = error_to call error

-- bytes as `ay`, with a zero byte behind them
abbrev pub closed_bytes : List ℕ → Value
closed_bytes bytes = V.Bytes (bytes ++ 0 ∷ [])

-- the request of a call, or the refusal of arguments that are none of its method
abbrev pub asked_of_portal : Message → Option Request → Ask
asked_of_portal call (Some request) = Portal request
asked_of_portal call None = Local (error_to call InvalidArgs)

-- what a call of a method asks that no rule refuses, by the mount point
abbrev pub asked : List ℕ → Message → Method → Ask
asked mountpoint call M.Ping = Local (returned call [])
asked mountpoint call M.Get = Local (answered call variant_of
    (value_in (object_of call) (texts call.body)))
asked mountpoint call M.GetAll =
    Local (answered call (λ interface. dictionary (properties_of interface))
    (interface_in (object_of call) (texts call.body)))
asked mountpoint call M.GetMountPoint = Local (returned call (closed_bytes mountpoint ∷ []))
asked mountpoint call method = asked_of_portal call (request_in call method)

-- what a call asks: its method's answer, or the first refusal
abbrev pub asked_or_refused : List ℕ → Message → Result Method ErrorName → Ask
asked_or_refused mountpoint call (Ok method) = asked mountpoint call method
asked_or_refused mountpoint call (Err error) = Local (error_to call error)

-- what a message asks; one that isn't a call asks nothing
abbrev pub ask_of : Settings → Message → Ask
ask_of settings message = if is_call message
    then asked_or_refused settings.mountpoint message (called message) else Ignore
