-- What an addition that room was taken for comes to.
use Rattle.std.proofs.Common.{◌≡◌, ℕ, ◌<◌, ◌≤◌, List, length, Bool, true, ◌&&◌, nat_le, Option, Some, None, IfSome, IsSome, Result, Ok, Err, IfOk, IfErr, IsOk, OnErr, OnOk, subst, arith}
use Rattle.std.proofs.lemmas.Bool.Decides.{nat_tests}
use Rattle.std.specs.Option.{IsSomeAnd}
use Rattle.portal_base.specs.Names.{has_path_form, is_host_path, path_limit}
use Rattle.portal_model.specs.declared.temporary.Temp.{Temp}
use Rattle.save_files.specs.Own.{Own, AtSeat, Adds, Both, CanAdd, Keeps, most_temps, own_on}
use Rattle.save_files.specs.TempErrors.{Refuses}
use Rattle.save_files.specs.declared.own.TempError.{TempError}
use Rattle.save_files.specs.declared.own.TempError.TheVariants.{Memory}
use Rattle.save_files.proofs.OwnLemmas.{kept-then-added}

fits : (b : Bool) (n limit : ℕ) → (b && nat_le n limit) ≡ true → n ≤ limit
fits b n limit h = grind (arith, nat_tests)

-- a path on the host isn't longer than it may be
pub path-fits : (t : List ℕ) → is_host_path t ≡ true → length t ≤ 4095
unfolding is_host_path
path-fits t h = fits (has_path_form t) (length t) path_limit h

-- what is done isn't refused
pub done-not-err : {A E : Type 0} (r : Result A E) (P : E → Type 0) → IsOk r → IfErr r P
done-not-err (Ok x) P d = tt
done-not-err (Err e) P d = absurd (cc)

pub done-not-failed : {A E : Type 0} (r : Result A E) (P : Type 0) → IsOk r → OnErr r P
done-not-failed (Ok x) P d = tt
done-not-failed (Err e) P d = absurd (cc)

pub on-done : {A E : Type 0} (r : Result A E) (P : Type 0) → P → OnOk r P
on-done (Ok x) P p = p
on-done (Err e) P p = tt

pub added-after : {E : Type 0} (r : Result ℕ E) (temp : Temp) (old mid new : List (ℕ × Own)) (seat : ℕ) → AtSeat (Both Keeps) old mid seat
    → IfOk r (λ k. AtSeat (Both (Adds k temp)) mid new seat) → IfOk r (λ k. AtSeat (Both (Adds k temp)) old new seat)
added-after (Ok k) temp old mid new seat a b = kept-then-added k temp old mid new seat a b
added-after (Err e) temp old mid new seat a b = tt

-- where the connection could have one more, and no memory was left for a path, there is no memory
refused-room : (o m : Option Own) → Both Keeps o m → IsSomeAnd m CanAdd → IfSome o (λ x. Refuses x Memory)
refused-room None None b c = tt
refused-room None (Some m) b c = absurd b
refused-room (Some o) None b c = absurd b
refused-room (Some o) (Some m) b c = subst (λ (ts : List (ℕ × Temp)). length ts < most_temps) b.temps c.limit

pub room-refused : (old mid : List (ℕ × Own)) (seat : ℕ) → AtSeat (Both Keeps) old mid seat → IsSomeAnd (own_on mid seat) CanAdd → IfSome (own_on old seat) (λ x. Refuses x Memory)
room-refused old mid seat a c = refused-room (own_on old seat) (own_on mid seat) a.there c
