-- What one changed number leaves of a connection's handles, and one changed seat of the others.
use Rattle.std.proofs.Common.{◌≡◌, ℕ, ◌==◌, nat_eq, ◌+◌, List, Bool, true, false, cond, Option, Some, None, refl, sym, ap, subst, ◌∙◌, arith}
use Rattle.std.specs.Map.{lookup, keys_of}
use Rattle.std.specs.List.{IsDistinct}
use Rattle.std.proofs.lemmas.Bool.Decides.{nat_tests}
use Rattle.portal_model.specs.declared.handle.Handle.{Handle}
use Rattle.open_handles.specs.Opened.{Opened, AreNumbered, AtSeat, Enters, IsFresh, opened_on}

-- the number has this handle, and each other its own
abbrev pub IsUpdated : List (ℕ × Handle) → List (ℕ × Handle) → ℕ → Option Handle → Type 0
IsUpdated old new fh w = (q : ℕ) → lookup (nat_eq q) new ≡ cond (nat_eq fh q) w (lookup (nat_eq q) old)

pub still-numbered : (last : ℕ) (old new : List (ℕ × Handle)) (fh : ℕ) → AreNumbered last old → IsUpdated old new fh None → IsDistinct nat_eq (keys_of new) → AreNumbered last new
still-numbered last old new fh a u d = record {
  differ = d;
  given = λ n l. u n ∙ none (nat_eq fh n) (lookup (nat_eq n) old) (a.given n l);
  positive = u 0 ∙ none (nat_eq fh 0) (lookup (nat_eq 0) old) a.positive;
}
  where
    none : (b : Bool) (o : Option Handle) → o ≡ None → cond b None o ≡ None
    none true o e = refl
    none false o e = e

pub numbered-next : (last : ℕ) (old new : List (ℕ × Handle)) (fh : ℕ) (handle : Handle) → AreNumbered last old → fh ≡ last + 1 → IsUpdated old new fh (Some handle) → IsDistinct nat_eq (keys_of new) → AreNumbered fh new
numbered-next last old new fh handle a e u d = record {
  differ = d;
  given = λ n l.
      let apart : nat_eq fh n ≡ false = grind (arith, nat_tests) in
      u n ∙ (ap (λ (b : Bool). cond b (Some handle) (lookup (nat_eq n) old)) apart ∙ a.given n (omega arith));
  positive =
      let apart : nat_eq fh 0 ≡ false = grind (arith, nat_tests) in
      u 0 ∙ (ap (λ (b : Bool). cond b (Some handle) (lookup (nat_eq 0) old)) apart ∙ a.positive);
}

pub enters-as : (old new : List (ℕ × Opened)) (seat : ℕ) (o : Opened) → opened_on new seat ≡ Some o → IsFresh o → ((s : ℕ) → (seat == s) ≡ false → opened_on new s ≡ opened_on old s) → AtSeat Enters old new seat
enters-as old new seat o e f rest = record { there = subst (Enters (opened_on old seat)) (sym e) f; elsewhere = rest }
