-- Errors of values as errors of messages.
use Rattle.std.specs.Prelude.{ℕ}
use Rattle.dbus_basic.specs.declared.error.ReadError.{ReadError}
use Rattle.dbus_basic.specs.declared.error.ReadError.TheVariants as R
use Rattle.dbus_message.specs.declared.error.MessageError.{MessageError}
use Rattle.dbus_message.specs.declared.error.MessageError.TheVariants.{Bad, Memory}

-- where a value isn't there, the rule is broken that says that it is
abbrev pub error_of : ℕ → ReadError → MessageError
error_of rule R.Memory = Memory
error_of rule _ = Bad rule
