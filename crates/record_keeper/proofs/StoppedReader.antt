-- A reader that stopped.
use Rattle.std.proofs.Common.{◌≡◌, List, [], ◌∷◌, ◌++◌, Err, refl, ap}
use Rattle.dbus_basic.specs.Reading.{IsRead}
use Rattle.dbus_basic.specs.declared.error.ReadError.{ReadError}
use Rattle.dbus_basic.specs.declared.error.ReadError.TheVariants.{Memory}

-- with another error than want of memory, nothing that was there would have been read
pub stopped : {X : Type 0} (error : ReadError) (P : X → Type 0) → (error ≡ Memory → ⊥) → IsRead {X = X} (Err error) P → ⊥
stopped Memory P other h = other refl
stopped error P other h = h

pub append_nil : {X : Type 0} (xs : List X) → xs ++ [] ≡ xs
append_nil [] = refl
append_nil (x ∷ xs) = ap (λ (ys : List _). x ∷ ys) (append_nil xs)
