-- The temporary of a name, over the table of temporaries.
use Rattle.std.proofs.Common.{◌≡◌, ℕ, ◌==◌, List, [], ◌∷◌, Bool, true, false, cond, find, Option, Some, None, option_map, nat_eq, IfSome, refl, sym, ap, ◌∙◌, arith}
use Rattle.std.proofs.lemmas.Bool.Decides.{nat_tests}
use Rattle.std.specs.List.{AllByRecursion, IsDistinct}
use Rattle.std.specs.Map.{lookup, keys_of}
use Rattle.portal_base.specs.declared.names.doc_id.DocId.{DocId}
use Rattle.portal_model.specs.SeatNames.{found_temp, own_temp}
use Rattle.portal_model.specs.declared.temporary.OwnTemp.{OwnTemp}
use Rattle.portal_model.specs.declared.temporary.Temp.{Temp}
use Rattle.save_files.specs.Own.{IsKept, Own, found_in, is_called, number_in, owned, temp_of}

turned : (m n : ℕ) → nat_eq m n ≡ false → (n == m) ≡ false
turned m n h = grind (arith, nat_tests)

itself : (n : ℕ) → (n == n) ≡ true
itself n = grind (arith, nat_tests)

some-is : (x y : ℕ × Temp) → Some x ≡ Some y → x ≡ y
some-is x y e = cc

module _ (p : ℕ × Temp → Bool) where
  key-found : (m : ℕ) (es : List (ℕ × Temp)) (e : ℕ × Temp) → AllByRecursion (λ n. nat_eq m n ≡ false) (keys_of es) → find p es ≡ Some e → nat_eq m e.0 ≡ false
  key-found m [] e a f = absurd (cc)
  key-found m (h ∷ hs) e a f = step (p h) f (key-found m hs e a.1)
    where
      step : (b : Bool) → cond b (Some h) (find p hs) ≡ Some e → (find p hs ≡ Some e → nat_eq m e.0 ≡ false) → nat_eq m e.0 ≡ false
      step true g more = ap (λ (x : ℕ × Temp). nat_eq m x.0) (sym (some-is h e g)) ∙ a.0
      step false g more = more g

  -- one that is found has its number
  lookup-found : (es : List (ℕ × Temp)) (e : ℕ × Temp) → IsDistinct nat_eq (keys_of es) → find p es ≡ Some e → lookup (λ n. e.0 == n) es ≡ Some e.1
  unfolding IsDistinct
  lookup-found [] e d f = absurd (cc)
  lookup-found (h ∷ hs) e d f = step (p h) f (lookup-found hs e d.1)
    where
      step : (b : Bool) → cond b (Some h) (find p hs) ≡ Some e → (find p hs ≡ Some e → lookup (λ n. e.0 == n) hs ≡ Some e.1) → lookup (λ n. e.0 == n) (h ∷ hs) ≡ Some e.1
      step true g more =
          ap (λ (x : ℕ × Temp). cond (e.0 == x.0) (Some x.1) (lookup (λ n. e.0 == n) hs)) (some-is h e g)
          ∙ ap (λ (b : Bool). cond b (Some e.1) (lookup (λ n. e.0 == n) hs)) (itself e.0)
      step false g more =
          ap (λ (b : Bool). cond b (Some h.1) (lookup (λ n. e.0 == n) hs)) (turned h.0 e.0 (key-found h.0 hs e d.0 g))
          ∙ more g

-- as the definitions of requests find it
found-among : (view : ℕ) (id : DocId) (name : List ℕ) (es : List (ℕ × Temp)) → option_map (λ (t : OwnTemp). t.temp) (found_temp (owned es) view id name) ≡ option_map (λ e. e.1) (find (is_called view id.number name) es)
found-among view id name [] = refl
found-among view id name (e ∷ es) = step (is_called view id.number name e) (found-among view id name es)
  where
    step : (b : Bool) → option_map (λ (t : OwnTemp). t.temp) (found_temp (owned es) view id name) ≡ option_map (λ x. x.1) (find (is_called view id.number name) es)
        → option_map (λ (t : OwnTemp). t.temp) (cond b (Some (own_temp e.0 e.1)) (found_temp (owned es) view id name)) ≡ option_map (λ x. x.1) (cond b (Some e) (find (is_called view id.number name) es))
    step true more = refl
    step false more = more

lists-are : (xs ys : List OwnTemp) → Some xs ≡ Some ys → xs ≡ ys
lists-are xs ys e = cc

module _ (view : ℕ) (id : DocId) (name : List ℕ) (own : List OwnTemp) where
  pub called : (o : Option Own) (k : ℕ) → option_map (λ x. owned x.temps) o ≡ Some own → IfSome o IsKept → Some k ≡ found_in o view id.number name → temp_of o k ≡ option_map (λ t. t.temp) (found_temp own view id name)
  called None k e h f = absurd (cc)
  called (Some o) k e h f = step (find (is_called view id.number name) o.temps) refl f
    where
      step : (x : Option (ℕ × Temp)) → find (is_called view id.number name) o.temps ≡ x → Some k ≡ number_in x → lookup (λ n. k == n) o.temps ≡ option_map (λ t. t.temp) (found_temp own view id name)
      step None g q = absurd (cc)
      step (Some y) g q =
          let same : k ≡ y.0 = cc in
          ap (λ (m : ℕ). lookup (λ n. m == n) o.temps) same
          ∙ (lookup-found (is_called view id.number name) o.temps y h.numbered.differ g
          ∙ (sym (ap (option_map (λ (x : ℕ × Temp). x.1)) g)
          ∙ (sym (found-among view id name o.temps)
          ∙ ap (λ (ts : List OwnTemp). option_map (λ (t : OwnTemp). t.temp) (found_temp ts view id name)) (lists-are (owned o.temps) own e))))

  pub uncalled : (o : Option Own) → option_map (λ x. owned x.temps) o ≡ Some own → None ≡ found_in o view id.number name → None ≡ option_map (λ (t : OwnTemp). t.temp) (found_temp own view id name)
  uncalled None e f = absurd (cc)
  uncalled (Some o) e f = step (find (is_called view id.number name) o.temps) refl f
    where
      step : (x : Option (ℕ × Temp)) → find (is_called view id.number name) o.temps ≡ x → None ≡ number_in x → None ≡ option_map (λ (t : OwnTemp). t.temp) (found_temp own view id name)
      step (Some y) g q = absurd (cc)
      step None g q =
          sym (ap (option_map (λ (x : ℕ × Temp). x.1)) g)
          ∙ (sym (found-among view id name o.temps)
          ∙ ap (λ (ts : List OwnTemp). option_map (λ (t : OwnTemp). t.temp) (found_temp ts view id name)) (lists-are (owned o.temps) own e))
