-- Facts on sets of names.
use Rattle.std.proofs.Common.{◌≡◌, ℕ, List, [], ◌∷◌, Bool, true, false, ◌||◌, refl, sym, ap, ◌∙◌}
use Rattle.std.specs.BTreeMap.{is_at}
use Rattle.std.specs.BTreeSet.{insert_key}
use Rattle.std.specs.Cmp.Lexicographic.{slice_cmp}
use Rattle.std.specs.List.{list_any}
use Rattle.std.specs.Ordering.{is_eq, match_ordering, nat_cmp}
use Rattle.std.specs.declared.cmp.Ordering.{Ordering}
use Rattle.std.specs.declared.cmp.Ordering.TheVariants.{Less, Equal, Greater}
use Rattle.portal_base.specs.Names.{is_same}
use Rattle.record_keeper.specs.NameOrder.{byte_order_ties}

-- a name is in the set where one has the same bytes
pub same_as_tied : (name : List ℕ) (names : List (List ℕ)) → list_any (is_at (slice_cmp nat_cmp name)) names ≡ list_any (is_same name) names
same_as_tied name [] = refl
same_as_tied name (n ∷ ns) = let one = byte_order_ties name n in let rest = same_as_tied name ns in λ i. (sym one i) || rest i

or_swap : (a b c : Bool) → (a || (b || c)) ≡ (b || (a || c))
or_swap true true c = refl
or_swap true false c = refl
or_swap false b c = refl

-- one key more, where no equal one is there
module _ {K : Type 0} (cmp : K → K → Ordering) (k : K) where
  pub any_inserted : (test : K → Bool) (ks : List K) → list_any (is_at (cmp k)) ks ≡ false → list_any test (insert_key cmp ks k) ≡ (test k || list_any test ks)
  any_inserted test [] none = refl
  any_inserted test (x ∷ xs) none = step (cmp k x) none (any_inserted test xs)
    where
      step : (o : Ordering) → (is_eq o || list_any (is_at (cmp k)) xs) ≡ false
          → (list_any (is_at (cmp k)) xs ≡ false → list_any test (insert_key cmp xs k) ≡ (test k || list_any test xs))
          → list_any test (match_ordering o (k ∷ x ∷ xs) (x ∷ xs) (x ∷ insert_key cmp xs k)) ≡ (test k || (test x || list_any test xs))
      step Less none more = refl
      step Equal none more = absurd (cc none)
      step Greater none more = ap (λ (b : Bool). test x || b) (more none) ∙ or_swap (test x) (test k) (list_any test xs)
