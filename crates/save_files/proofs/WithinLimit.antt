-- No call leaves a connection with more temporaries than it may have.
use Rattle.std.proofs.Common.{◌≡◌, ℕ, ◌==◌, nat_eq, ◌+◌, ◌<◌, ◌≤◌, List, [], ◌∷◌, ◌++◌, length, length-append, Bool, true, false, not, cond, Option, Some, None, IfSome, Result, Ok, Err, IfOk, OnErr, refl, sym, ap, subst, ◌∙◌, arith}
use Rattle.std.specs.List.{filter}
use Rattle.std.specs.Map.{keys_of, remove_entry}
use Rattle.std.proofs.lemmas.Bool.Decides.{nat_tests}
use Rattle.portal_model.specs.declared.temporary.Temp.{Temp}
use Rattle.save_files.specs.Own.{Own, most_temps, is_other, own_on, AtSeat, Adds, Both, Keeps, Renames, Removes, RemovesOthers, Enters, Leaves}
use Rattle.save_files.specs.Tables.{AreWithin}

abbrev pub Fits : Own → Type 0
Fits o = length o.temps ≤ most_temps

-- what fits on the seat, and fitted before elsewhere, fits everywhere
pub within-after : (R : Option Own → Option Own → Type 0) (old new : List (ℕ × Own)) (seat : ℕ) → AtSeat R old new seat → AreWithin old → IfSome (own_on new seat) Fits → AreWithin new
within-after R old new seat a w f s = step (seat == s) refl
  where
    step : (b : Bool) → (seat == s) ≡ b → IfSome (own_on new s) Fits
    step true k = subst (λ (n : ℕ). IfSome (own_on new n) Fits) (same seat s k) f
      where
        same : (x y : ℕ) → (x == y) ≡ true → x ≡ y
        same x y h = grind (arith, nat_tests)
    step false k = subst (λ (o : Option Own). IfSome o Fits) (sym (a.elsewhere s k)) (w s)

pub both-fit : (R : Own → Own → Type 0) → ((o n : Own) → R o n → Fits o → Fits n) → (o n : Option Own) → Both R o n → IfSome o Fits → IfSome n Fits
both-fit R keep None None b f = f
both-fit R keep None (Some n) b f = absurd b
both-fit R keep (Some o) None b f = absurd b
both-fit R keep (Some o) (Some n) b f = keep o n b f

pub within-both : (R : Own → Own → Type 0) (old new : List (ℕ × Own)) (seat : ℕ) → ((o n : Own) → R o n → Fits o → Fits n) → AtSeat (Both R) old new seat → AreWithin old → AreWithin new
within-both R old new seat keep a w = within-after (Both R) old new seat a w (both-fit R keep (own_on old seat) (own_on new seat) a.there (w seat))

fewer : (k : ℕ) (ts : List (ℕ × Temp)) → length (remove_entry (nat_eq k) ts) ≤ length ts
fewer k [] = omega arith
fewer k (t ∷ ts) = step (nat_eq k t.0) (fewer k ts)
  where
    step : (b : Bool) → length (remove_entry (nat_eq k) ts) ≤ length ts → length (cond b ts (t ∷ remove_entry (nat_eq k) ts)) ≤ length (t ∷ ts)
    step true l = grind arith
    step false l = grind arith

pub within-removed : (k : ℕ) (old new : List (ℕ × Own)) (seat : ℕ) → AtSeat (Both (Removes k)) old new seat → AreWithin old → AreWithin new
within-removed k old new seat = within-both (Removes k) old new seat
    (λ o n r f. subst (λ (ts : List (ℕ × Temp)). length ts ≤ most_temps) (sym r.temps) (let l : length (remove_entry (nat_eq k) o.temps) ≤ length o.temps = fewer k o.temps in omega arith))

fewer-filtered : (p : ℕ × Temp → Bool) (ts : List (ℕ × Temp)) → length (filter p ts) ≤ length ts
fewer-filtered p [] = omega arith
fewer-filtered p (t ∷ ts) = step (p t) (fewer-filtered p ts)
  where
    step : (b : Bool) → length (filter p ts) ≤ length ts → length (cond b (t ∷ filter p ts) (filter p ts)) ≤ length (t ∷ ts)
    step true l = grind arith
    step false l = grind arith

pub within-others : (k view document : ℕ) (name : List ℕ) (old new : List (ℕ × Own)) (seat : ℕ) → AtSeat (Both (RemovesOthers k view document name)) old new seat → AreWithin old → AreWithin new
within-others k view document name old new seat = within-both (RemovesOthers k view document name) old new seat
    (λ o n r f. subst (λ (ts : List (ℕ × Temp)). length ts ≤ most_temps) (sym r.temps)
    (let l : length (filter (λ e. not (is_other k view document name e)) o.temps) ≤ length o.temps = fewer-filtered (λ e. not (is_other k view document name e)) o.temps in omega arith))

as-many : (ts us : List (ℕ × Temp)) → keys_of ts ≡ keys_of us → length ts ≡ length us
as-many ts us e = sym (counted ts) ∙ (ap length e ∙ counted us)
  where
    counted : (xs : List (ℕ × Temp)) → length (keys_of xs) ≡ length xs
    counted [] = refl
    counted (x ∷ xs) = let more : length (keys_of xs) ≡ length xs = counted xs in grind arith

pub within-renamed : (k : ℕ) (name : List ℕ) (old new : List (ℕ × Own)) (seat : ℕ) → AtSeat (Both (Renames k name)) old new seat → AreWithin old → AreWithin new
within-renamed k name old new seat = within-both (Renames k name) old new seat
    (λ o n r f. let l : length n.temps ≡ length o.temps = as-many n.temps o.temps r.numbers in omega arith)

pub within-entered : (old new : List (ℕ × Own)) (seat : ℕ) → AtSeat Enters old new seat → AreWithin old → AreWithin new
within-entered old new seat a w = within-after Enters old new seat a w (fresh (own_on old seat) (own_on new seat) a.there)
  where
    fresh : (o n : Option Own) → Enters o n → IfSome n Fits
    fresh o None e = absurd e
    fresh o (Some n) e = subst (λ (ts : List (ℕ × Temp)). length ts ≤ most_temps) (sym e.temps) (omega arith)

pub within-left : (old new : List (ℕ × Own)) (seat : ℕ) → AtSeat Leaves old new seat → AreWithin old → AreWithin new
within-left old new seat a w = within-after Leaves old new seat a w (subst (λ (o : Option Own). IfSome o Fits) (sym a.there) tt)

pub within-kept : (old new : List (ℕ × Own)) (seat : ℕ) → AtSeat (Both Keeps) old new seat → AreWithin old → AreWithin new
within-kept old new seat = within-both Keeps old new seat
    (λ o n r f. subst (λ (ts : List (ℕ × Temp)). length ts ≤ most_temps) (sym r.temps) f)

within-added : (k : ℕ) (temp : Temp) (old new : List (ℕ × Own)) (seat : ℕ) → AtSeat (Both (Adds k temp)) old new seat → AreWithin old → AreWithin new
within-added k temp old new seat = within-both (Adds k temp) old new seat
    (λ o n r f. subst (λ (ts : List (ℕ × Temp)). length ts ≤ most_temps) (sym r.temps)
    (let l : length (o.temps ++ (k, temp) ∷ []) ≡ length o.temps + 1 = length-append o.temps ((k, temp) ∷ []) in
    let room : length o.temps < most_temps = r.limit in omega arith))

pub within-after-add : {E : Type 0} (r : Result ℕ E) (Q : Type 0) (temp : Temp) (old new : List (ℕ × Own)) (seat : ℕ)
    → IfOk r (λ k. AtSeat (Both (Adds k temp)) old new seat) → OnErr r (AtSeat (Both Keeps) old new seat × Q) → AreWithin old → AreWithin new
within-after-add (Ok k) Q temp old new seat a e w = within-added k temp old new seat a w
within-after-add (Err x) Q temp old new seat a e w = within-kept old new seat e.0 w
