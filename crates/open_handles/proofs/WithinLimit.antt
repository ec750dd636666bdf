-- No call leaves a connection with more handles than the limit allows.
use Rattle.std.proofs.Common.{◌≡◌, ℕ, ◌==◌, nat_eq, ◌≤◌, List, [], ◌∷◌, length, Bool, true, false, cond, Option, Some, None, IfSome, refl, sym, subst, arith}
use Rattle.std.specs.Map.{remove_entry}
use Rattle.std.proofs.lemmas.Bool.Decides.{nat_tests}
use Rattle.portal_model.specs.declared.handle.Handle.{Handle}
use Rattle.open_handles.specs.Opened.{Opened, opened_on, AreWithin, AtSeat, Both, Releases, Enters, Leaves}

abbrev pub Fits : ℕ → Opened → Type 0
Fits most o = length o.handles ≤ most

-- what fits on the seat, and fitted before elsewhere, fits everywhere
pub within-after : (R : Option Opened → Option Opened → Type 0) (most : ℕ) (old new : List (ℕ × Opened)) (seat : ℕ) → AtSeat R old new seat → AreWithin most old → IfSome (opened_on new seat) (Fits most) → AreWithin most new
within-after R most old new seat a w f s = step (seat == s) refl
  where
    step : (b : Bool) → (seat == s) ≡ b → IfSome (opened_on new s) (Fits most)
    step true k = subst (λ (n : ℕ). IfSome (opened_on new n) (Fits most)) (same seat s k) f
      where
        same : (x y : ℕ) → (x == y) ≡ true → x ≡ y
        same x y h = grind (arith, nat_tests)
    step false k = subst (λ (o : Option Opened). IfSome o (Fits most)) (sym (a.elsewhere s k)) (w s)

pub both-fit : (R : Opened → Opened → Type 0) (most : ℕ) → ((o n : Opened) → R o n → Fits most o → Fits most n) → (o n : Option Opened) → Both R o n → IfSome o (Fits most) → IfSome n (Fits most)
both-fit R most keep None None b f = f
both-fit R most keep None (Some n) b f = absurd b
both-fit R most keep (Some o) None b f = absurd b
both-fit R most keep (Some o) (Some n) b f = keep o n b f

pub within-both : (R : Opened → Opened → Type 0) (most : ℕ) (old new : List (ℕ × Opened)) (seat : ℕ) → ((o n : Opened) → R o n → Fits most o → Fits most n) → AtSeat (Both R) old new seat → AreWithin most old → AreWithin most new
within-both R most old new seat keep a w = within-after (Both R) most old new seat a w (both-fit R most keep (opened_on old seat) (opened_on new seat) a.there (w seat))

fewer : (fh : ℕ) (hs : List (ℕ × Handle)) → length (remove_entry (nat_eq fh) hs) ≤ length hs
fewer fh [] = omega arith
fewer fh (h ∷ hs) = step (nat_eq fh h.0) (fewer fh hs)
  where
    step : (b : Bool) → length (remove_entry (nat_eq fh) hs) ≤ length hs → length (cond b hs (h ∷ remove_entry (nat_eq fh) hs)) ≤ length (h ∷ hs)
    step true l = grind arith
    step false l = grind arith

pub within-released : (most fh : ℕ) (old new : List (ℕ × Opened)) (seat : ℕ) → AtSeat (Both (Releases fh)) old new seat → AreWithin most old → AreWithin most new
within-released most fh old new seat = within-both (Releases fh) most old new seat
    (λ o n r f. subst (λ (hs : List (ℕ × Handle)). length hs ≤ most) (sym r.handles) (let l : length (remove_entry (nat_eq fh) o.handles) ≤ length o.handles = fewer fh o.handles in omega arith))

pub within-entered : (most : ℕ) (old new : List (ℕ × Opened)) (seat : ℕ) → AtSeat Enters old new seat → AreWithin most old → AreWithin most new
within-entered most old new seat a w = within-after Enters most old new seat a w (fresh (opened_on old seat) (opened_on new seat) a.there)
  where
    fresh : (o n : Option Opened) → Enters o n → IfSome n (Fits most)
    fresh o None e = absurd e
    fresh o (Some n) e = subst (λ (hs : List (ℕ × Handle)). length hs ≤ most) (sym e.handles) (omega arith)

pub within-left : (most : ℕ) (old new : List (ℕ × Opened)) (seat : ℕ) → AtSeat Leaves old new seat → AreWithin most old → AreWithin most new
within-left most old new seat a w = within-after Leaves most old new seat a w (subst (λ (o : Option Opened). IfSome o (Fits most)) (sym a.there) tt)
