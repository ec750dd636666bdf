-- The types of messages and the flag of a call, as numbers (D-Bus Specification, "Message Format").
use Rattle.std.specs.Prelude.{ℕ}

-- METHOD_CALL, METHOD_RETURN, ERROR and SIGNAL
abbrev pub method_call : ℕ
method_call = 1

abbrev pub method_return : ℕ
method_return = 2

abbrev pub error_reply : ℕ
error_reply = 3

abbrev pub signal_emission : ℕ
signal_emission = 4

-- NO_REPLY_EXPECTED
abbrev pub no_reply_expected : ℕ
no_reply_expected = 1
