-- Methods among those of several interfaces.
use Rattle.std.proofs.Common.{ℕ, List, [], ◌∷◌, ◌++◌, ◌≡◌, Option, sym}
use Rattle.std.specs.List.{flat_map}
use Rattle.std.specs.Option.{option_or}
use Rattle.std.specs.Str.{bytes_eq}
use Rattle.std.proofs.lemmas.List.Folds.{find-append}
use Rattle.dbus_calls.specs.declared.interface.Interface.{Interface}
use Rattle.dbus_calls.specs.declared.interface.Interface.TheVariants.{Properties, Peer}
use Rattle.dbus_calls.specs.declared.method.Method.{Method}
use Rattle.dbus_calls.specs.Tables.{methods_of, row}
use Rattle.dbus_calls.specs.Calls.{method_among}

-- a method of an object's own interface, or else of those that each object has
pub own_or_shared : (interface : Interface) (member : List ℕ) {own shared either : Option Method}
    → own ≡ method_among (methods_of interface) member
    → shared ≡ method_among (methods_of Properties ++ methods_of Peer) member
    → either ≡ option_or own shared
    → either ≡ method_among (flat_map methods_of (interface ∷ Properties ∷ Peer ∷ [])) member
own_or_shared interface member of_own of_shared of_either =
    rw (of_either, of_own, of_shared)
    (sym (find-append (λ method. bytes_eq member (row method).member) (methods_of interface) (methods_of Properties ++ methods_of Peer)))
