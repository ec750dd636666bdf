-- What one changed number leaves of a connection's temporaries, and one changed seat of the others.
use Rattle.std.proofs.Common.{◌≡◌, ℕ, ◌==◌, nat_eq, ◌+◌, ◌<◌, ◌++◌, List, [], ◌∷◌, length, Bool, true, false, cond, Option, Some, None, refl, sym, ap, subst, ◌∙◌, arith}
use Rattle.std.specs.Map.{lookup, keys_of}
use Rattle.std.specs.List.{AllByRecursion, IsDistinct, filter}
use Rattle.std.specs.Option.{option_map}
use Rattle.std.proofs.lemmas.Bool.Decides.{nat_tests}
use Rattle.portal_model.specs.declared.temporary.Temp.{Temp}
use Rattle.save_files.specs.Own.{Own, most_temps, AreNumbered, AtSeat, Both, Keeps, Adds, Enters, IsFresh, own_on}

-- the number has this temporary, and each other its own
abbrev pub IsUpdated : List (ℕ × Temp) → List (ℕ × Temp) → ℕ → Option Temp → Type 0
IsUpdated old new k w = (q : ℕ) → lookup (nat_eq q) new ≡ cond (nat_eq k q) w (lookup (nat_eq q) old)

pub still-numbered : (added : ℕ) (old new : List (ℕ × Temp)) (k : ℕ) → AreNumbered added old → IsUpdated old new k None → IsDistinct nat_eq (keys_of new) → AreNumbered added new
still-numbered added old new k a u d = record {
  differ = d;
  given = λ n l. u n ∙ none (nat_eq k n) (lookup (nat_eq n) old) (a.given n l);
  positive = u 0 ∙ none (nat_eq k 0) (lookup (nat_eq 0) old) a.positive;
}
  where
    none : (b : Bool) (o : Option Temp) → o ≡ None → cond b None o ≡ None
    none true o e = refl
    none false o e = e

pub numbered-next : (added : ℕ) (old new : List (ℕ × Temp)) (k : ℕ) (temp : Temp) → AreNumbered added old → k ≡ added + 1 → IsUpdated old new k (Some temp) → IsDistinct nat_eq (keys_of new) → AreNumbered k new
numbered-next added old new k temp a e u d = record {
  differ = d;
  given = λ n l.
      let apart : nat_eq k n ≡ false = grind (arith, nat_tests) in
      u n ∙ (ap (λ (b : Bool). cond b (Some temp) (lookup (nat_eq n) old)) apart ∙ a.given n (omega arith));
  positive =
      let apart : nat_eq k 0 ≡ false = grind (arith, nat_tests) in
      u 0 ∙ (ap (λ (b : Bool). cond b (Some temp) (lookup (nat_eq 0) old)) apart ∙ a.positive);
}

-- where the keys stay and one value changes, the numbers stay
pub numbered-still : (added : ℕ) (old new : List (ℕ × Temp)) → AreNumbered added old → keys_of new ≡ keys_of old → ((n : ℕ) → lookup (nat_eq n) old ≡ None → lookup (nat_eq n) new ≡ None) → AreNumbered added new
numbered-still added old new a e none = record {
  differ = subst (λ (ks : List ℕ). IsDistinct nat_eq ks) (sym e) a.differ;
  given = λ n l. none n (a.given n l);
  positive = none 0 a.positive;
}

-- a changed value is none where there was none
pub none-still : (old new : List (ℕ × Temp)) (k : ℕ) (f : Temp → Temp) → IsUpdated old new k (option_map f (lookup (nat_eq k) old)) → (n : ℕ) → lookup (nat_eq n) old ≡ None → lookup (nat_eq n) new ≡ None
none-still old new k f u n e = u n ∙ step (nat_eq k n) refl
  where
    same : nat_eq k n ≡ true → k ≡ n
    same h = grind (arith, nat_tests)

    step : (b : Bool) → nat_eq k n ≡ b → cond b (option_map f (lookup (nat_eq k) old)) (lookup (nat_eq n) old) ≡ None
    step true h = ap (option_map f) (ap (λ (m : ℕ). lookup (nat_eq m) old) (same h) ∙ e)
    step false h = e

-- ---- where some are gone

module _ (p : ℕ × Temp → Bool) where
  all-filtered : (m : ℕ) (es : List (ℕ × Temp)) → AllByRecursion (λ n. nat_eq m n ≡ false) (keys_of es) → AllByRecursion (λ n. nat_eq m n ≡ false) (keys_of (filter p es))
  all-filtered m [] h = h
  all-filtered m (e ∷ es) h = by (p e) (all-filtered m es h.1)
    where
      by : (b : Bool) → AllByRecursion (λ n. nat_eq m n ≡ false) (keys_of (filter p es)) → AllByRecursion (λ n. nat_eq m n ≡ false) (keys_of (cond b (e ∷ filter p es) (filter p es)))
      by true r = (h.0, r)
      by false r = r

  distinct-filtered : (es : List (ℕ × Temp)) → IsDistinct nat_eq (keys_of es) → IsDistinct nat_eq (keys_of (filter p es))
  unfolding IsDistinct
  distinct-filtered [] d = d
  distinct-filtered (e ∷ es) d = by (p e) (distinct-filtered es d.1)
    where
      by : (b : Bool) → IsDistinct nat_eq (keys_of (filter p es)) → IsDistinct nat_eq (keys_of (cond b (e ∷ filter p es) (filter p es)))
      by true r = (all-filtered e.0 es d.0, r)
      by false r = r

  none-filtered : (n : ℕ) (es : List (ℕ × Temp)) → lookup (nat_eq n) es ≡ None → lookup (nat_eq n) (filter p es) ≡ None
  none-filtered n [] h = refl
  none-filtered n (e ∷ es) h = by (p e) (nat_eq n e.0) refl h (none-filtered n es)
    where
      by : (b t : Bool) → nat_eq n e.0 ≡ t → cond t (Some e.1) (lookup (nat_eq n) es) ≡ None → (lookup (nat_eq n) es ≡ None → lookup (nat_eq n) (filter p es) ≡ None) → lookup (nat_eq n) (cond b (e ∷ filter p es) (filter p es)) ≡ None
      by b true t g more = cc
      by true false t g more = ap (λ (x : Bool). cond x (Some e.1) (lookup (nat_eq n) (filter p es))) t ∙ more g
      by false false t g more = more g

  pub numbered-filtered : (added : ℕ) (es : List (ℕ × Temp)) → AreNumbered added es → AreNumbered added (filter p es)
  numbered-filtered added es a = record {
    differ = distinct-filtered es a.differ;
    given = λ n l. none-filtered n es (a.given n l);
    positive = none-filtered 0 es a.positive;
  }

pub enters-as : (old new : List (ℕ × Own)) (seat : ℕ) (o : Own) → own_on new seat ≡ Some o → IsFresh o → ((s : ℕ) → (seat == s) ≡ false → own_on new s ≡ own_on old s) → AtSeat Enters old new seat
enters-as old new seat o e f rest = record { there = subst (Enters (own_on old seat)) (sym e) f; elsewhere = rest }

-- what is kept and then added to, is added to
both-adds : (k : ℕ) (temp : Temp) (o m n : Option Own) → Both Keeps o m → Both (Adds k temp) m n → Both (Adds k temp) o n
both-adds k temp None None None a b = tt
both-adds k temp None None (Some n) a b = absurd b
both-adds k temp None (Some m) n a b = absurd a
both-adds k temp (Some o) None n a b = absurd a
both-adds k temp (Some o) (Some m) None a b = absurd b
both-adds k temp (Some o) (Some m) (Some n) a b = record {
  number = b.number ∙ ap (λ (x : ℕ). x + 1) a.added;
  limit = subst (λ (ts : List (ℕ × Temp)). length ts < most_temps) a.temps b.limit;
  added = b.added;
  temps = b.temps ∙ ap (λ (ts : List (ℕ × Temp)). ts ++ (k, temp) ∷ []) a.temps;
}

pub kept-then-added : (k : ℕ) (temp : Temp) (old mid new : List (ℕ × Own)) (seat : ℕ) → AtSeat (Both Keeps) old mid seat → AtSeat (Both (Adds k temp)) mid new seat → AtSeat (Both (Adds k temp)) old new seat
kept-then-added k temp old mid new seat a b = record {
  there = both-adds k temp (own_on old seat) (own_on mid seat) (own_on new seat) a.there b.there;
  elsewhere = λ s e. b.elsewhere s e ∙ a.elsewhere s e;
}
