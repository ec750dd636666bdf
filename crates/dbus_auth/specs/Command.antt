-- The lines of the client (D-Bus Specification, "Authentication Protocol"), as tests of their bytes
-- without the CR LF. Each line "begins with an all-caps ASCII command name [..], a space, then any
-- arguments for the command".
use Rattle.std.specs.Prelude.{ℕ, ◌%◌, ◌==◌, nat_le, nat_eq, Bool, ◌&&◌, ◌||◌, if◌then◌else◌, List, length, drop, codes}
use Rattle.std.specs.List.{starts_with, list_all}
use Rattle.std.specs.Char.{is_ascii_hexdigit}
use Rattle.std.specs.Str.{bytes_eq}
use Rattle.dbus_auth.specs.declared.command.Command.{Command}
use Rattle.dbus_auth.specs.declared.command.Command.TheVariants.{AuthExternalWithIdentity, AuthExternal, AuthOther, CancelOrError, NegotiateUnixFd, Begin, Data, Unknown}

-- the longest line that is taken, in bytes, its CR LF included
abbrev pub longest_line : ℕ
longest_line = 1024

-- an even number of hexadecimal digits of either case, at least two: one or more whole bytes
abbrev pub is_hex_data : List ℕ → Bool
is_hex_data text = nat_le 2 (length text) && length text % 2 == 0 && list_all is_ascii_hexdigit text

-- this text, and then hexadecimal digits up to the end of the line
abbrev pub starts_hex_data : List ℕ → List ℕ → Bool
starts_hex_data text line = starts_with nat_eq line text && is_hex_data (drop (length text) line)

-- this text, and then anything or nothing
abbrev pub starts : List ℕ → List ℕ → Bool
starts text line = starts_with nat_eq line text

-- `AUTH EXTERNAL HEX`
abbrev pub is_auth_external_with_identity : List ℕ → Bool
is_auth_external_with_identity line = starts_hex_data (codes "AUTH EXTERNAL ") line

-- `AUTH EXTERNAL`
abbrev pub is_auth_external : List ℕ → Bool
is_auth_external line = bytes_eq line (codes "AUTH EXTERNAL")

-- `AUTH`, or `AUTH` and anything else
abbrev pub is_auth : List ℕ → Bool
is_auth line = bytes_eq line (codes "AUTH") || starts (codes "AUTH ") line

-- `CANCEL`
abbrev pub is_cancel : List ℕ → Bool
is_cancel line = bytes_eq line (codes "CANCEL")

-- `ERROR`, or `ERROR` and a text
abbrev pub is_error : List ℕ → Bool
is_error line = bytes_eq line (codes "ERROR") || starts (codes "ERROR ") line

-- `NEGOTIATE_UNIX_FD`
abbrev pub is_negotiate_unix_fd : List ℕ → Bool
is_negotiate_unix_fd line = bytes_eq line (codes "NEGOTIATE_UNIX_FD")

-- `BEGIN`
abbrev pub is_begin : List ℕ → Bool
is_begin line = bytes_eq line (codes "BEGIN")

-- `DATA`, or `DATA HEX`
abbrev pub is_data : List ℕ → Bool
is_data line = bytes_eq line (codes "DATA") || starts_hex_data (codes "DATA ") line

-- the command of a line: the first form that it has
unfoldable pub command_of : List ℕ → Command
command_of line =
    if is_auth_external_with_identity line then AuthExternalWithIdentity
    else if is_auth_external line then AuthExternal
    else if is_auth line then AuthOther
    else if is_cancel line || is_error line then CancelOrError
    else if is_negotiate_unix_fd line then NegotiateUnixFd
    else if is_begin line then Begin
    else if is_data line then Data
    else Unknown
