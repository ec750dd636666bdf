-- What a call asks whose method is found: what its method asks, unless it is refused or no call.
use Rattle.std.proofs.Common.{◌≡◌, ℕ, Bool, true, false, cond, List, Result, Ok, Err, sym, subst}
use Rattle.std.specs.Str.{bytes_eq}
use Rattle.dbus_types.specs.Types.{types_text}
use Rattle.dbus_types.specs.declared.message.Message.{Message}
use Rattle.dbus_dispatch.specs.declared.ask.Ask.{Ask}
use Rattle.dbus_dispatch.specs.declared.ask.Ask.TheVariants.{Ignore, Local}
use Rattle.dbus_calls.specs.declared.error_name.ErrorName.{ErrorName}
use Rattle.dbus_calls.specs.declared.error_name.ErrorName.TheVariants.{InvalidArgs}
use Rattle.dbus_calls.specs.declared.method.Method.{Method}
use Rattle.dbus_dispatch.specs.Asks.{asked, asked_or_refused, is_call}
use Rattle.dbus_calls.specs.Calls.{called, found, with_signature}
use Rattle.dbus_calls.specs.Errors.{error_to}
use Rattle.dbus_calls.specs.Tables.{row}

module _ (P : Ask → Type 0) (mountpoint : List ℕ) (call : Message) where
  by_signature : (method : Method) (b : Bool) → P (Local (error_to call InvalidArgs)) → P (asked mountpoint call method) → P (asked_or_refused mountpoint call (cond b (Ok method) (Err InvalidArgs)))
  by_signature method true refused h = h
  by_signature method false refused h = refused

  by_kind : (b : Bool) → P Ignore → P (asked_or_refused mountpoint call (called call)) → P (cond b (asked_or_refused mountpoint call (called call)) Ignore)
  by_kind true ignored h = h
  by_kind false ignored h = ignored

  pub by_method : (method : Method) → found call ≡ Ok method → P Ignore → P (Local (error_to call InvalidArgs)) → P (asked mountpoint call method)
      → P (cond (is_call call) (asked_or_refused mountpoint call (called call)) Ignore)
  by_method method is ignored refused h =
      by_kind (is_call call) ignored
      (subst (λ (x : Result Method ErrorName). P (asked_or_refused mountpoint call (with_signature call x))) (sym is)
      (by_signature method (bytes_eq (types_text call.signature) (row method).takes) refused h))
