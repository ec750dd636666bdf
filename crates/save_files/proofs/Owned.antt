-- The temporaries of a connection by number, as the definitions of requests have them.
use Rattle.std.proofs.Common.{◌≡◌, ℕ, ◌==◌, nat_eq, List, [], ◌∷◌, ◌++◌, map, Bool, true, false, not, cond, find, Option, Some, None, option_map, refl, sym, ap, subst, ◌∙◌, arith}
use Rattle.std.proofs.lemmas.Bool.Decides.{nat_tests}
use Rattle.std.specs.List.{AllByRecursion, IsDistinct}
use Rattle.std.specs.Map.{lookup, remove_entry, keys_of}
use Rattle.portal_base.specs.declared.names.doc_id.DocId.{DocId}
use Rattle.portal_model.specs.SeatNames.{found_temp, own_temp, renamed, temp_of, without_temp}
use Rattle.portal_model.specs.declared.temporary.OwnTemp.{OwnTemp}
use Rattle.portal_model.specs.declared.temporary.Temp.{Temp}
use Rattle.save_files.specs.Own.{is_called, number_in, owned, with_name}

turned : (a b : ℕ) → (a == b) ≡ (b == a)
turned a b = grind (arith, nat_tests)

-- the one of a number
pub temp-owned : (k : ℕ) (es : List (ℕ × Temp)) → temp_of (owned es) k ≡ lookup (λ n. k == n) es
temp-owned k [] = refl
temp-owned k (e ∷ es) = step (e.0 == k) (k == e.0) (turned e.0 k) (temp-owned k es)
  where
    step : (b c : Bool) → b ≡ c → temp_of (owned es) k ≡ lookup (λ n. k == n) es
        → option_map (λ (t : OwnTemp). t.temp) (cond b (Some (own_temp e.0 e.1)) (find (λ (t : OwnTemp). t.k == k) (owned es))) ≡ cond c (Some e.1) (lookup (λ n. k == n) es)
    step true true h more = refl
    step false false h more = more
    step true false h more = absurd (cc)
    step false true h more = absurd (cc)

-- the number of the first of a name
pub found-owned : (view : ℕ) (id : DocId) (name : List ℕ) (es : List (ℕ × Temp)) → option_map (λ (t : OwnTemp). t.k) (found_temp (owned es) view id name) ≡ number_in (find (is_called view id.number name) es)
found-owned view id name [] = refl
found-owned view id name (e ∷ es) = step (is_called view id.number name e) (found-owned view id name es)
  where
    step : (b : Bool) → option_map (λ (t : OwnTemp). t.k) (found_temp (owned es) view id name) ≡ number_in (find (is_called view id.number name) es)
        → option_map (λ (t : OwnTemp). t.k) (cond b (Some (own_temp e.0 e.1)) (found_temp (owned es) view id name)) ≡ number_in (cond b (Some e) (find (is_called view id.number name) es))
    step true more = refl
    step false more = more

-- one more
pub added-owned : (k : ℕ) (temp : Temp) (es : List (ℕ × Temp)) → owned (es ++ (k, temp) ∷ []) ≡ owned es ++ own_temp k temp ∷ []
added-owned k temp [] = refl
added-owned k temp (e ∷ es) = ap (λ (ts : List OwnTemp). own_temp e.0 e.1 ∷ ts) (added-owned k temp es)

-- one less, of numbers that differ
others-stay : (k : ℕ) (es : List (ℕ × Temp)) → AllByRecursion (λ n. nat_eq k n ≡ false) (keys_of es) → owned es ≡ without_temp (owned es) k
others-stay k [] h = refl
others-stay k (e ∷ es) h =
    ap (λ (ts : List OwnTemp). own_temp e.0 e.1 ∷ ts) (others-stay k es h.1)
    ∙ ap (λ (b : Bool). cond (not b) (own_temp e.0 e.1 ∷ without_temp (owned es) k) (without_temp (owned es) k)) (sym (turned e.0 k ∙ h.0))

pub removed-owned : (k : ℕ) (es : List (ℕ × Temp)) → IsDistinct nat_eq (keys_of es) → owned (remove_entry (λ n. k == n) es) ≡ without_temp (owned es) k
unfolding IsDistinct
removed-owned k [] d = refl
removed-owned k (e ∷ es) d = step (k == e.0) refl (removed-owned k es d.1)
  where
    same : (k == e.0) ≡ true → e.0 ≡ k
    same h = grind (arith, nat_tests)

    step : (b : Bool) → (k == e.0) ≡ b → owned (remove_entry (λ n. k == n) es) ≡ without_temp (owned es) k
        → owned (cond b es (e ∷ remove_entry (λ n. k == n) es)) ≡ cond (not (e.0 == k)) (own_temp e.0 e.1 ∷ without_temp (owned es) k) (without_temp (owned es) k)
    step true h more =
        others-stay k es (subst (λ (n : ℕ). AllByRecursion (λ m. nat_eq n m ≡ false) (keys_of es)) (same h) d.0)
        ∙ ap (λ (b : Bool). cond (not b) (own_temp e.0 e.1 ∷ without_temp (owned es) k) (without_temp (owned es) k)) (sym (turned e.0 k ∙ h))
    step false h more =
        ap (λ (ts : List OwnTemp). own_temp e.0 e.1 ∷ ts) more
        ∙ ap (λ (b : Bool). cond (not b) (own_temp e.0 e.1 ∷ without_temp (owned es) k) (without_temp (owned es) k)) (sym (turned e.0 k ∙ h))

-- ---- another name for the one of a number

itself : (n : ℕ) → (n == n) ≡ true
itself n = grind (arith, nat_tests)

same-number : (a b : ℕ) → (a == b) ≡ true → a ≡ b
same-number a b h = grind (arith, nat_tests)

some-is : (x y : Temp) → Some x ≡ Some y → x ≡ y
some-is x y e = cc

-- a number that isn't among them has none
none-of : (n : ℕ) (es : List (ℕ × Temp)) → AllByRecursion (λ m. nat_eq n m ≡ false) (keys_of es) → lookup (nat_eq n) es ≡ None
none-of n [] h = refl
none-of n (e ∷ es) h = ap (λ (b : Bool). cond b (Some e.1) (lookup (nat_eq n) es)) h.0 ∙ none-of n es h.1

-- each number has what it had, but for this one, which has that with the name
abbrev pub IsRenamed : ℕ → List ℕ → List (ℕ × Temp) → List (ℕ × Temp) → Type 0
IsRenamed k name es fs = (n : ℕ) → lookup (nat_eq n) fs ≡ cond (nat_eq k n) (option_map (with_name name) (lookup (nat_eq k) es)) (lookup (nat_eq n) es)

module _ (k : ℕ) (name : List ℕ) (e f : ℕ × Temp) (es fs : List (ℕ × Temp)) (same : f.0 ≡ e.0) (u : IsRenamed k name (e ∷ es) (f ∷ fs)) where
  -- what the first has
  found : lookup (nat_eq e.0) (f ∷ fs) ≡ Some f.1
  found = ap (λ (b : Bool). cond b (Some f.1) (lookup (nat_eq e.0) fs)) (ap (nat_eq e.0) same ∙ itself e.0)

  wanted : (b : Bool) → nat_eq k e.0 ≡ b → cond b (option_map (with_name name) (lookup (nat_eq k) (e ∷ es))) (lookup (nat_eq e.0) (e ∷ es)) ≡ Some (cond b (with_name name e.1) e.1)
  wanted true h = ap (λ (b : Bool). option_map (with_name name) (cond b (Some e.1) (lookup (nat_eq k) es))) h
  wanted false h = ap (λ (b : Bool). cond b (Some e.1) (lookup (nat_eq e.0) es)) (itself e.0)

  first-has : f.1 ≡ cond (nat_eq k e.0) (with_name name e.1) e.1
  first-has = some-is f.1 (cond (nat_eq k e.0) (with_name name e.1) e.1) (sym found ∙ (u e.0 ∙ wanted (nat_eq k e.0) refl))

  first-is : own_temp f.0 f.1 ≡ renamed k name (own_temp e.0 e.1)
  first-is = (λ i. own_temp (same i) (first-has i)) ∙ (by (nat_eq k e.0) ∙ ap (λ (b : Bool). cond b (own_temp e.0 (with_name name e.1)) (own_temp e.0 e.1)) (turned k e.0))
    where
      by : (b : Bool) → own_temp e.0 (cond b (with_name name e.1) e.1) ≡ cond b (own_temp e.0 (with_name name e.1)) (own_temp e.0 e.1)
      by true = refl
      by false = refl

  -- what the others have
  module _ (none-before : lookup (nat_eq e.0) es ≡ None) (none-after : lookup (nat_eq e.0) fs ≡ None) where
    here : (b : Bool) → nat_eq k e.0 ≡ b → lookup (nat_eq e.0) fs ≡ cond b (option_map (with_name name) (lookup (nat_eq k) es)) (lookup (nat_eq e.0) es)
    here true h = none-after ∙ sym (ap (option_map (with_name name)) (ap (λ (n : ℕ). lookup (nat_eq n) es) (same-number k e.0 h) ∙ none-before))
    here false h = none-after ∙ sym none-before

    there : (n : ℕ) → nat_eq n e.0 ≡ false → (b : Bool) → nat_eq k n ≡ b → lookup (nat_eq n) fs ≡ cond b (option_map (with_name name) (lookup (nat_eq k) es)) (lookup (nat_eq n) es)
    there n apart b h =
        sym (ap (λ (c : Bool). cond c (Some f.1) (lookup (nat_eq n) fs)) (ap (nat_eq n) same ∙ apart))
        ∙ (u n ∙ (ap (λ (c : Bool). cond c (option_map (with_name name) (lookup (nat_eq k) (e ∷ es))) (lookup (nat_eq n) (e ∷ es))) h ∙ rest b h))
      where
        rest : (c : Bool) → nat_eq k n ≡ c → cond c (option_map (with_name name) (lookup (nat_eq k) (e ∷ es))) (lookup (nat_eq n) (e ∷ es)) ≡ cond c (option_map (with_name name) (lookup (nat_eq k) es)) (lookup (nat_eq n) es)
        rest true g =
            ap (λ (c : Bool). option_map (with_name name) (cond c (Some e.1) (lookup (nat_eq k) es))) (ap (λ (m : ℕ). nat_eq m e.0) (same-number k n g) ∙ apart)
        rest false g = ap (λ (c : Bool). cond c (Some e.1) (lookup (nat_eq n) es)) apart

    others-renamed : IsRenamed k name es fs
    others-renamed n = step (nat_eq n e.0) refl
      where
        step : (b : Bool) → nat_eq n e.0 ≡ b → lookup (nat_eq n) fs ≡ cond (nat_eq k n) (option_map (with_name name) (lookup (nat_eq k) es)) (lookup (nat_eq n) es)
        step true h = subst (λ (m : ℕ). lookup (nat_eq m) fs ≡ cond (nat_eq k m) (option_map (with_name name) (lookup (nat_eq k) es)) (lookup (nat_eq m) es)) (sym (same-number n e.0 h)) (here (nat_eq k e.0) refl)
        step false h = there n h (nat_eq k n) refl

first-key : (m n : ℕ) (ms ns : List ℕ) → m ∷ ms ≡ n ∷ ns → m ≡ n
first-key m n ms ns e = cc

other-keys : (m n : ℕ) (ms ns : List ℕ) → m ∷ ms ≡ n ∷ ns → ms ≡ ns
other-keys m n ms ns e = cc

pub renamed-owned : (k : ℕ) (name : List ℕ) (es fs : List (ℕ × Temp)) → keys_of fs ≡ keys_of es → IsDistinct nat_eq (keys_of es) → IsRenamed k name es fs → owned fs ≡ map (renamed k name) (owned es)
unfolding IsDistinct
renamed-owned k name [] [] e d u = refl
renamed-owned k name [] (f ∷ fs) e d u = absurd (cc)
renamed-owned k name (e ∷ es) [] q d u = absurd (cc)
renamed-owned k name (e ∷ es) (f ∷ fs) q d u =
    let same : f.0 ≡ e.0 = first-key f.0 e.0 (keys_of fs) (keys_of es) q in
    let keys : keys_of fs ≡ keys_of es = other-keys f.0 e.0 (keys_of fs) (keys_of es) q in
    let before : lookup (nat_eq e.0) es ≡ None = none-of e.0 es d.0 in
    let after : lookup (nat_eq e.0) fs ≡ None = none-of e.0 fs (subst (λ (ks : List ℕ). AllByRecursion (λ m. nat_eq e.0 m ≡ false) ks) (sym keys) d.0) in
    let one : own_temp f.0 f.1 ≡ renamed k name (own_temp e.0 e.1) = first-is k name e f es fs same u in
    let rest : owned fs ≡ map (renamed k name) (owned es) = renamed-owned k name es fs keys d.1 (others-renamed k name e f es fs same u before after) in
    λ i. one i ∷ rest i
