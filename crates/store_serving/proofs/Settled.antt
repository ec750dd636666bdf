-- Facts on results, for the calls of the store.
use Rattle.std.specs.Prelude.{IfOk, OnErr}
use Rattle.std.proofs.Common.{◌≡◌, Result, Ok, Err, ap}
use Rattle.change_signals.specs.Unsent.{Boxes, IsSame, unsent_on}

-- each of them, where there is a result
pub ok-each : {A B X E : Type 0} (M : A → B → Type 0) (P : A → B → X → Type 0) (r : Result X E) → ((a : A) (b : B) → M a b → IfOk r (P a b)) → IfOk r (λ x. (a : A) (b : B) → M a b → P a b x)
ok-each M P (Ok x) f = f
ok-each M P (Err e) f = tt

-- by two facts on it
pub ok-by : {X E : Type 0} (P Q R : X → Type 0) (r : Result X E) → ((x : X) → P x → Q x → R x) → IfOk r P → IfOk r Q → IfOk r R
ok-by P Q R (Ok x) f p q = f x p q
ok-by P Q R (Err e) f p q = tt

pub always-err : {X E : Type 0} (P : Type 0) (r : Result X E) → P → OnErr r P
always-err P (Ok x) p = tt
always-err P (Err e) p = p

-- boxes that are as before hold the same
pub same-boxes : (old new : Boxes) → new ≡ old → IsSame old new
same-boxes old new e = λ s. ap (λ (b : Boxes). unsent_on b s) e
