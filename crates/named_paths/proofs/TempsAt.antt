-- The temporaries of a connection, by their places and by their numbers.
use Rattle.std.proofs.Common.{◌≡◌, ℕ, ◌<◌, ◌≤◌, ◌==◌, suc, zero, List, [], ◌∷◌, length, Bool, true, false, ◌||◌, cond, Option, Some, None, option_map, nat_eq, IfSome, refl, sym, ap, ◌∙◌, arith}
use Rattle.std.proofs.lemmas.Bool.Decides.{nat_tests}
use Rattle.std.specs.List.{list_any, slice_get, IsDistinct, AllByRecursion}
use Rattle.std.specs.Map.{lookup, keys_of}
use Rattle.portal_base.specs.declared.files.FileName.{FileName}
use Rattle.portal_model.specs.SeatNames.{own_temp}
use Rattle.portal_model.specs.declared.temporary.OwnTemp.{OwnTemp}
use Rattle.portal_model.specs.declared.temporary.Temp.{Temp}
use Rattle.app_world.specs.View.{same_name}
use Rattle.save_files.specs.Own.{IsKept, Own, number_at, number_in, owned, temp_of}
use Rattle.named_paths.specs.Named.{is_temp_at, is_temp_of, temps_of}

or-second : (a b : Bool) → b ≡ true → (a || b) ≡ true
or-second true b h = refl
or-second false b h = h

-- one at a place is one of them
pub temp-at : (name : FileName) (ts : List OwnTemp) (k : ℕ) → is_temp_at name (slice_get ts k) ≡ true → list_any (λ t. same_name t.temp.file name) ts ≡ true
temp-at name [] k h = cc
temp-at name (t ∷ ts) zero h = ap (λ (b : Bool). b || list_any (λ (x : OwnTemp). same_name x.temp.file name) ts) h
temp-at name (t ∷ ts) (suc k) h = or-second (same_name t.temp.file name) (list_any (λ (x : OwnTemp). same_name x.temp.file name) ts) (temp-at name ts k h)

-- where none is at any place none is one
pub none-at : (name : FileName) (ts : List OwnTemp) (n : ℕ) → length ts ≤ n → ((k : ℕ) → k < n → is_temp_at name (slice_get ts k) ≡ false) → list_any (λ t. same_name t.temp.file name) ts ≡ false
none-at name [] n l h = refl
none-at name (t ∷ ts) zero l h = absurd (omega arith)
none-at name (t ∷ ts) (suc n) l h =
    let here : same_name t.temp.file name ≡ false = h 0 (omega arith) in
    let rest : list_any (λ (x : OwnTemp). same_name x.temp.file name) ts ≡ false = none-at name ts n (omega arith) (λ k m. h (suc k) (omega arith)) in
    λ i. here i || rest i

pub owned-length : (es : List (ℕ × Temp)) → length (owned es) ≡ length es
owned-length [] = refl
owned-length (e ∷ es) = ap (λ (n : ℕ). suc n) (owned-length es)

pub owned-at : (es : List (ℕ × Temp)) (place : ℕ) → slice_get (owned es) place ≡ option_map (λ e. own_temp e.0 e.1) (slice_get es place)
owned-at [] place = refl
owned-at (e ∷ es) zero = refl
owned-at (e ∷ es) (suc place) = owned-at es place

key-at : (m : ℕ) (es : List (ℕ × Temp)) (place : ℕ) (e : ℕ × Temp) → AllByRecursion (λ n. nat_eq m n ≡ false) (keys_of es) → slice_get es place ≡ Some e → nat_eq m e.0 ≡ false
key-at m [] place e a g = absurd (cc)
key-at m (d ∷ ds) zero e a g = let same : d ≡ e = cc in ap (λ (x : ℕ × Temp). nat_eq m x.0) (sym same) ∙ a.0
key-at m (d ∷ ds) (suc place) e a g = key-at m ds place e a.1 g

turned : (m n : ℕ) → nat_eq m n ≡ false → (n == m) ≡ false
turned m n h = grind (arith, nat_tests)

itself : (n : ℕ) → (n == n) ≡ true
itself n = grind (arith, nat_tests)

-- the number of a place is that of the temporary there
pub lookup-at : (es : List (ℕ × Temp)) (place : ℕ) (e : ℕ × Temp) → IsDistinct nat_eq (keys_of es) → slice_get es place ≡ Some e → lookup (λ n. e.0 == n) es ≡ Some e.1
unfolding IsDistinct
lookup-at [] place e d g = absurd (cc)
lookup-at (h ∷ hs) zero e d g =
    let same : h ≡ e = cc in
    ap (λ (x : ℕ × Temp). cond (e.0 == x.0) (Some x.1) (lookup (λ n. e.0 == n) hs)) same
    ∙ ap (λ (b : Bool). cond b (Some e.1) (lookup (λ n. e.0 == n) hs)) (itself e.0)
lookup-at (h ∷ hs) (suc place) e d g =
    ap (λ (b : Bool). cond b (Some h.1) (lookup (λ n. e.0 == n) hs)) (turned h.0 e.0 (key-at h.0 hs place e d.0 g))
    ∙ lookup-at hs place e d.1 g

-- ---- of a seat

-- a connection has no more of them than it may
pub few-temps : (o : Option Own) → IfSome o IsKept → length (temps_of o) ≤ 64
few-temps None h = omega arith
few-temps (Some o) h = let l = owned-length o.temps in let m = h.limit in omega arith

-- none at a place that has no number
pub none-there : (name : FileName) (o : Option Own) (place : ℕ) → number_at o place ≡ None → is_temp_at name (slice_get (temps_of o) place) ≡ false
none-there name None place e = refl
none-there name (Some o) place e = step (slice_get o.temps place) refl e
  where
    step : (x : Option (ℕ × Temp)) → slice_get o.temps place ≡ x → number_in x ≡ None → is_temp_at name (slice_get (owned o.temps) place) ≡ false
    step None g k = ap (is_temp_at name) (owned-at o.temps place ∙ ap (option_map (λ (y : ℕ × Temp). own_temp y.0 y.1)) g)
    step (Some y) g k = absurd (cc)

-- what has the number of a place stands there
pub number-temp : (o : Option Own) (place k : ℕ) → IfSome o IsKept → number_at o place ≡ Some k → (y : ℕ × Temp) × ((slice_get (temps_of o) place ≡ Some (own_temp y.0 y.1)) × (temp_of o k ≡ Some y.1))
number-temp None place k h e = absurd (cc)
number-temp (Some o) place k h e = step (slice_get o.temps place) refl e
  where
    step : (x : Option (ℕ × Temp)) → slice_get o.temps place ≡ x → number_in x ≡ Some k → (y : ℕ × Temp) × ((slice_get (owned o.temps) place ≡ Some (own_temp y.0 y.1)) × (lookup (λ n. k == n) o.temps ≡ Some y.1))
    step None g q = absurd (cc)
    step (Some y) g q =
        let same : y.0 ≡ k = cc in
        let there : slice_get (owned o.temps) place ≡ Some (own_temp y.0 y.1) = owned-at o.temps place ∙ ap (option_map (λ (z : ℕ × Temp). own_temp z.0 z.1)) g in
        let numbered : lookup (λ n. k == n) o.temps ≡ Some y.1 = ap (λ (m : ℕ). lookup (λ n. m == n) o.temps) (sym same) ∙ lookup-at o.temps place y h.numbered.differ g in
        (y, (there, numbered))

pub is-that : (name : FileName) (o : Option Own) (place k : ℕ) → IfSome o IsKept → number_at o place ≡ Some k → is_temp_of name (temp_of o k) ≡ is_temp_at name (slice_get (temps_of o) place)
is-that name o place k h e =
    let w = number-temp o place k h e in
    ap (is_temp_of name) w.1.1 ∙ sym (ap (is_temp_at name) w.1.0)
