-- The places of entries by table and identifier, where one was set or taken away.
use Rattle.std.proofs.Common.{◌≡◌, ℕ, List, [], ◌∷◌, length, arith, Bool, true, false, ◌&&◌, cond, Option, Some, None, Result, Ok, Err, OnErr, String, refl, sym, ap, ◌∙◌}
use Rattle.std.specs.BTreeMap.{BTreeMap, get_by_text, is_at}
use Rattle.std.specs.Cmp.Lexicographic.{slice_cmp}
use Rattle.std.specs.Map.{lookup, update}
use Rattle.std.specs.Ordering.{nat_cmp}
use Rattle.std.specs.Str.{bytes_eq}
use Rattle.std.specs.Prelude.{string_bytes}
use Rattle.portal_base.specs.Names.{is_same}
use Rattle.portal_model.proofs.TripleOrder.{is_same-eq}
use Rattle.permission_table.specs.EntryIndex.{KeepPlaces, Places, place_in, place_of_id}

pub none-text : {X V : Type 0} (m : BTreeMap (String X) V) → m.entries ≡ [] → (t : List ℕ) → get_by_text m t ≡ None
none-text m e t = ap (λ es. lookup (is_at (λ k. slice_cmp nat_cmp t (string_bytes k))) es) e

pub none-placed : {X Y : Type 0} (tables : BTreeMap (String Y) (BTreeMap (String X) ℕ)) → tables.entries ≡ [] → (t i : List ℕ) → place_in tables t i ≡ None
none-placed tables e t i = ap (λ o. place_of_id o i) (none-text tables e t)

module _ {X Y : Type 0} (table id : List ℕ) (old new : BTreeMap (String Y) (BTreeMap (String X) ℕ)) (was ids : Option (BTreeMap (String X) ℕ))
    (before : get_by_text old table ≡ was)
    (sets : (t : List ℕ) → get_by_text new t ≡ update bytes_eq (get_by_text old) table ids t) where
  of-other : (t i : List ℕ) → is_same table t ≡ false → place_in new t i ≡ place_in old t i
  of-other t i e = ap (λ o. place_of_id o i) (sets t ∙ ap (λ (b : Bool). cond b ids (get_by_text old t)) e)

  of-this : (t i : List ℕ) → is_same table t ≡ true → place_in new t i ≡ place_of_id ids i
  of-this t i e = ap (λ o. place_of_id o i) (sets t ∙ ap (λ (b : Bool). cond b ids (get_by_text old t)) e)

  was-there : (t : List ℕ) → is_same table t ≡ true → was ≡ get_by_text old t
  was-there t e = sym before ∙ ap (λ (x : List ℕ). get_by_text old x) (is_same-eq table t e)

  -- one identifier of the table has another place
  pub placed : (place : Option ℕ) → ((i : List ℕ) → place_of_id ids i ≡ cond (is_same id i) place (place_of_id was i)) → Places table id place old new
  placed place v t i = step (is_same table t) refl
    where
      step : (b : Bool) → is_same table t ≡ b → place_in new t i ≡ cond (is_same table t && is_same id i) place (place_in old t i)
      step true e = of-this t i e ∙ (v i ∙ (λ j. cond (sym e j && is_same id i) place (place_of_id (was-there t e j) i)))
      step false e = of-other t i e ∙ ap (λ (b : Bool). cond (b && is_same id i) place (place_in old t i)) (sym e)

  -- each identifier of the table has the place that it had
  pub kept : ((i : List ℕ) → place_of_id ids i ≡ place_of_id was i) → KeepPlaces old new
  kept v t i = step (is_same table t) refl
    where
      step : (b : Bool) → is_same table t ≡ b → place_in new t i ≡ place_in old t i
      step true e = of-this t i e ∙ (v i ∙ ap (λ o. place_of_id o i) (was-there t e))
      step false e = of-other t i e

-- the table was set, and then taken away
pub set-and-lost : {X Y : Type 0} (table : List ℕ) (old set lost : BTreeMap (String Y) (BTreeMap (String X) ℕ)) (ids : BTreeMap (String X) ℕ)
    → ((t : List ℕ) → get_by_text set t ≡ update bytes_eq (get_by_text old) table (Some ids) t)
    → ((t : List ℕ) → get_by_text lost t ≡ update bytes_eq (get_by_text set) table None t)
    → (t : List ℕ) → get_by_text lost t ≡ update bytes_eq (get_by_text old) table None t
set-and-lost {X} table old set lost ids a b t = b t ∙ (ap (λ (o : Option (BTreeMap (String X) ℕ)). cond (is_same table t) None o) (a t) ∙ twice (is_same table t) (get_by_text old t))
  where
    twice : (c : Bool) (o : Option (BTreeMap (String X) ℕ)) → cond c None (cond c (Some ids) o) ≡ cond c None o
    twice true o = refl
    twice false o = refl

-- an identifier lost its place, and none is left
pub none-left : {X : Type 0} (id : List ℕ) (was ids : BTreeMap (String X) ℕ) → ids.entries ≡ []
    → ((i : List ℕ) → get_by_text ids i ≡ update bytes_eq (get_by_text was) id None i)
    → (i : List ℕ) → None ≡ cond (is_same id i) None (get_by_text was i)
none-left id was ids e v i = sym (none-text ids e i) ∙ v i

pub err-so : {X E : Type 0} {P : Type 0} (r : Result X E) → P → OnErr r P
err-so (Ok x) p = tt
err-so (Err e) p = p
