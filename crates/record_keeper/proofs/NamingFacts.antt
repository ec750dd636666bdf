-- Collecting names one by one gives each where it first stands.
use Rattle.std.proofs.Common.{◌≡◌, ℕ, Bool, true, false, ◌||◌, List, [], ◌∷◌, ◌++◌, cond, refl, sym, ap, ◌∙◌, append_assoc, not}
use Rattle.std.specs.Prelude.{fold}
use Rattle.std.specs.List.{list_any, filter}
use Rattle.std.proofs.lemmas.Grind.{flat_map-append}
use Rattle.std.proofs.lemmas.List.Folds.{list_any-append}
use Rattle.std.specs.Cmp.Lexicographic.{nat_list_eq_equiv}
use Rattle.portal_base.specs.Names.{is_same}
use Rattle.portal_model.specs.Opening.{each, first_named}
use Rattle.portal_model.specs.declared.records.DocRecord.{DocRecord}
use Rattle.record_keeper.specs.BadRecords.{names_granted, applications_of}
use Rattle.record_keeper.specs.Naming.{also_named}
use Rattle.record_keeper.proofs.SameTexts.{same_from_test}
use Rattle.record_keeper.proofs.StoppedReader.{append_nil}

abbrev fresh : List (List ℕ) → List ℕ → Bool
fresh acc x = not (list_any (λ known. is_same known x) acc)

abbrev without : List ℕ → List (List ℕ) → List (List ℕ)
without n xs = filter (λ other. not (is_same n other)) xs

skip_one : (acc : List (List ℕ)) (x : List ℕ) (rest more : List (List ℕ)) (b : Bool) → (b ≡ true → fresh acc x ≡ false)
    → filter (fresh acc) rest ≡ filter (fresh acc) more → filter (fresh acc) (cond (not b) (x ∷ rest) rest) ≡ filter (fresh acc) (x ∷ more)
skip_one acc x rest more true known e = rw (known refl) e
skip_one acc x rest more false known e = ap (λ (ys : List (List ℕ)). cond (fresh acc x) (x ∷ ys) ys) e

skip : (acc : List (List ℕ)) (n : List ℕ) (xs : List (List ℕ)) → fresh acc n ≡ false → filter (fresh acc) (without n xs) ≡ filter (fresh acc) xs
skip acc n [] h = refl
skip acc n (x ∷ xs) h =
    skip_one acc x (without n xs) xs (is_same n x) (λ same. ap (fresh acc) (sym (same_from_test n x same)) ∙ h) (skip acc n xs h)

fresh_step : (acc : List (List ℕ)) (x : List ℕ) (kept more : List (List ℕ)) (a b : Bool) → list_any (λ known. is_same known x) acc ≡ a
    → kept ≡ filter (fresh acc) more → cond (not (a || (b || false))) (x ∷ kept) kept ≡ filter (fresh acc) (cond (not b) (x ∷ more) more)
fresh_step acc x kept more true true h e = e
fresh_step acc x kept more true false h e = rw h e
fresh_step acc x kept more false true h e = e
fresh_step acc x kept more false false h e = rw h (ap (λ (ys : List (List ℕ)). x ∷ ys) e)

fresh_both : (acc : List (List ℕ)) (n : List ℕ) (xs : List (List ℕ)) → filter (fresh (acc ++ (n ∷ []))) xs ≡ filter (fresh acc) (without n xs)
fresh_both acc n [] = refl
fresh_both acc n (x ∷ xs) =
    let kept = filter (fresh (acc ++ (n ∷ []))) xs in
    ap (λ (b : Bool). cond (not b) (x ∷ kept) kept) (list_any-append (λ known. is_same known x) acc (n ∷ []))
    ∙ fresh_step acc x kept (without n xs) (list_any (λ known. is_same known x) acc) (is_same n x) refl (fresh_both acc n xs)

later_step : (acc : List (List ℕ)) (n : List ℕ) (ns : List (List ℕ)) → ((a : List (List ℕ)) → fold also_named a ns ≡ a ++ filter (fresh a) (first_named ns))
    → (b : Bool) → list_any (λ known. is_same known n) acc ≡ b
    → fold also_named (cond b acc (acc ++ (n ∷ []))) ns
    ≡ acc ++ cond (not b) (n ∷ filter (fresh acc) (without n (first_named ns))) (filter (fresh acc) (without n (first_named ns)))
later_step acc n ns more true h = more acc ∙ ap (λ (t : List (List ℕ)). acc ++ t) (sym (skip acc n (first_named ns) (ap not h)))
later_step acc n ns more false h =
    more (acc ++ (n ∷ [])) ∙ ap (λ (t : List (List ℕ)). (acc ++ (n ∷ [])) ++ t) (fresh_both acc n (first_named ns))
    ∙ append_assoc acc (n ∷ []) (filter (fresh acc) (without n (first_named ns)))

later : (names acc : List (List ℕ)) → fold also_named acc names ≡ acc ++ filter (fresh acc) (first_named names)
later [] acc = sym (append_nil acc)
later (n ∷ ns) acc = later_step acc n ns (λ a. later ns a) (list_any (λ known. is_same known n) acc) refl

all_fresh : (xs : List (List ℕ)) → filter (fresh []) xs ≡ xs
all_fresh [] = refl
all_fresh (x ∷ xs) = ap (λ (ys : List (List ℕ)). x ∷ ys) (all_fresh xs)

pub first_by_fold : (names : List (List ℕ)) → fold also_named [] names ≡ first_named names
first_by_fold names = later names [] ∙ all_fresh (first_named names)

pub fold_append : (xs ys acc : List (List ℕ)) → fold also_named acc (xs ++ ys) ≡ fold also_named (fold also_named acc xs) ys
fold_append [] ys acc = refl
fold_append (x ∷ xs) ys acc = fold_append xs ys (also_named acc x)

-- one name more, in the list and in the set beside it
pub named_with : (names known : List (List ℕ)) (key app name : List ℕ) → key ≡ app → list_any (is_same name) known ≡ list_any (λ k. is_same k name) names
    → (is_same name key || list_any (is_same name) known) ≡ list_any (λ k. is_same k name) (names ++ (app ∷ []))
named_with names known key app name same all =
    ap (λ (k : List ℕ). is_same name k || list_any (is_same name) known) same ∙ ap (λ (b : Bool). is_same name app || b) all
    ∙ turned (is_same name app) (list_any (λ k. is_same k name) names)
    ∙ ap (λ (b : Bool). list_any (λ k. is_same k name) names || (b || false)) (nat_list_eq_equiv.symm name app)
    ∙ sym (list_any-append (λ k. is_same k name) names (app ∷ []))
  where
    turned : (a b : Bool) → (a || b) ≡ (b || (a || false))
    turned true true = refl
    turned true false = refl
    turned false true = refl
    turned false false = refl

-- names behind those that were collected, and all of them
pub named_behind : (names more : List (List ℕ)) → fold also_named (first_named names) more ≡ first_named (names ++ more)
named_behind names more =
    ap (λ (a : List (List ℕ)). fold also_named a more) (sym (first_by_fold names)) ∙ sym (fold_append names more []) ∙ first_by_fold (names ++ more)

-- the applications of one document more
pub named_with_document : (earlier : List DocRecord) (document : DocRecord)
    → fold also_named (applications_of earlier) (names_granted document) ≡ applications_of (earlier ++ (document ∷ []))
named_with_document earlier document =
    named_behind (each names_granted earlier) (names_granted document)
    ∙ ap first_named (sym (flat_map-append names_granted earlier (document ∷ []) ∙ ap (λ (t : List (List ℕ)). each names_granted earlier ++ t) (append_nil (names_granted document))))
