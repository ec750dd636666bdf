-- Documents and rights that change: what is true of a valid state's stays true.
use Rattle.std.proofs.Common.{◌≡◌, ℕ, ◌==◌, nat_eq, List, [], ◌∷◌, ◌++◌, Bool, true, false, not, ◌&&◌, ◌||◌, cond, Option, Some, None, is_some, ◌⊎◌, inl, inr, refl, sym, ap, subst, ◌∙◌, arith}
use Rattle.std.specs.List.{filter, list_all, list_any, IsDistinct}
use Rattle.std.specs.Cmp.Lexicographic.{nat_list_eq_equiv}
use Rattle.std.proofs.lemmas.Bool.Decides.{nat_tests}
use Rattle.std.proofs.lemmas.Cmp.{nat_eq_equiv}
use Rattle.std.proofs.lemmas.List.Folds.{list_all-append, list_any-append}
use Rattle.std.proofs.lemmas.Map.Keys.{IsDistinct-push}
use Rattle.portal_base.specs.Names.{is_same, is_app_name, is_host_path}
use Rattle.portal_base.specs.declared.names.doc_id.DocId.{DocId}
use Rattle.rights_rule.specs.Rights.{RightSet, holds_any, is_no_right}
use Rattle.portal_model.specs.declared.rights.Right.{Right}
use Rattle.portal_model.specs.declared.state.Document.{Document}
use Rattle.portal_model.specs.declared.state.Triple.{Triple}
use Rattle.portal_model.specs.Applications.{numbered}
use Rattle.portal_model.specs.Grant.{numbered_with}
use Rattle.portal_model.specs.Rights.{add_rights, forget_document, take_rights, triple}
use Rattle.portal_model.specs.State.{document_of}
use Rattle.portal_model.specs.Valid.{has_identifier, is_made, is_numbered}
use Rattle.portal_model.proofs.DistinctItems.{IsDistinct-filter, list_all-filter, list_all-weaken}
use Rattle.portal_model.proofs.ListLookups.{find-filter, is_same-refl, nat_is}
use Rattle.portal_model.proofs.RightsLaws.{all-add_rights, none-added, ordered-add_rights, ordered-forget_document, ordered-take_rights}
use Rattle.portal_model.proofs.SoundParts.{Documented, is_live, is_placed_in, numbers}

pub both : (a b : Bool) → a ≡ true → b ≡ true → (a && b) ≡ true
both true true h k = refl
both true false h k = cc
both false b h k = cc

pub first_of_both : (a b : Bool) → (a && b) ≡ true → a ≡ true
first_of_both true b h = refl
first_of_both false b h = h

pub second_of_both : (a b : Bool) → (a && b) ≡ true → b ≡ true
second_of_both true b h = h
second_of_both false b h = cc

-- ---- rights that are given

-- an application that is numbered stays so, and the one that gets a right is
still_numbered : (apps : List (List ℕ)) (app other : List ℕ) (b : Bool) → is_numbered apps other ≡ true → is_numbered (cond b apps (apps ++ app ∷ [])) other ≡ true
still_numbered apps app other true h = h
still_numbered apps app other false h = list_any-append (is_same other) apps (app ∷ []) ∙ ap (λ (x : Bool). x || (is_same other app || false)) h

now_numbered : (apps : List (List ℕ)) (app : List ℕ) (b : Bool) → is_numbered apps app ≡ b → is_numbered (cond b apps (apps ++ app ∷ [])) app ≡ true
now_numbered apps app true e = e
now_numbered apps app false e = list_any-append (is_same app) apps (app ∷ []) ∙ (ap (λ (x : Bool). x || (is_same app app || false)) e ∙ ap (λ (x : Bool). x || false) (is_same-refl app))

numbered_differ : (apps : List (List ℕ)) (app : List ℕ) (b : Bool) → is_numbered apps app ≡ b → IsDistinct is_same apps → IsDistinct is_same (cond b apps (apps ++ app ∷ []))
numbered_differ apps app true e h = h
numbered_differ apps app false e h = IsDistinct-push nat_list_eq_equiv apps app h e

numbered_named : (apps : List (List ℕ)) (app : List ℕ) (b : Bool) → is_app_name app ≡ true → list_all is_app_name apps ≡ true → list_all is_app_name (cond b apps (apps ++ app ∷ [])) ≡ true
numbered_named apps app true n h = h
numbered_named apps app false n h = list_all-append is_app_name apps (app ∷ []) ∙ both (list_all is_app_name apps) (is_app_name app && true) h (both (is_app_name app) true n refl)

module _ (ds : List Document) (made : List DocId) (rights : List Triple) (apps : List (List ℕ)) (app : List ℕ) (id : DocId) (set : RightSet) (k : Documented ds made rights apps) where
  placed : is_live ds id.number ≡ true → list_all (is_placed_in ds (numbered apps app)) (add_rights app id set rights) ≡ true
  placed live =
      let new : (right : Right) → is_placed_in ds (numbered apps app) (triple app id right) ≡ true = λ right. both (is_live ds id.number) (is_numbered (numbered apps app) app) live (now_numbered apps app (is_numbered apps app) refl) in
      let old : list_all (is_placed_in ds (numbered apps app)) rights ≡ true =
      list_all-weaken (is_placed_in ds apps) (is_placed_in ds (numbered apps app))
      (λ t h. both (is_live ds t.id.number) (is_numbered (numbered apps app) t.app) (first_of_both (is_live ds t.id.number) (is_numbered apps t.app) h)
      (still_numbered apps app t.app (is_numbered apps app) (second_of_both (is_live ds t.id.number) (is_numbered apps t.app) h)))
      rights k.rights_placed in
      all-add_rights (is_placed_in ds (numbered apps app)) app id set rights new old

  -- by whether some right is given
  given_by : (b : Bool) → holds_any set ≡ b → is_app_name app ≡ true → is_live ds id.number ≡ true → Documented ds made (add_rights app id set rights) (cond b (numbered apps app) apps)
  given_by true e named live = record {
    numbers_differ = k.numbers_differ;
    numbers_made = k.numbers_made;
    identifiers = k.identifiers;
    paths = k.paths;
    applications_differ = numbered_differ apps app (is_numbered apps app) refl k.applications_differ;
    names = numbered_named apps app (is_numbered apps app) named k.names;
    rights_in_order = ordered-add_rights app id set rights;
    rights_placed = placed live;
  }
  given_by false e named live =
      let none : is_no_right set ≡ true = ap not e in
      subst (λ (rs : List Triple). Documented ds made rs apps) (sym (none-added app id set rights none k.rights_in_order)) k

  pub documented-given : is_app_name app ≡ true → is_live ds id.number ≡ true → Documented ds made (add_rights app id set rights) (numbered_with app set apps)
  documented-given named live = given_by (holds_any set) refl named live

  -- ---- rights that are taken away

  pub documented-taken : (number : ℕ) → Documented ds made (take_rights app number set rights) apps
  documented-taken number = record {
    numbers_differ = k.numbers_differ;
    numbers_made = k.numbers_made;
    identifiers = k.identifiers;
    paths = k.paths;
    applications_differ = k.applications_differ;
    names = k.names;
    rights_in_order = ordered-take_rights app number set rights k.rights_in_order;
    rights_placed = list_all-filter (is_placed_in ds apps) _ rights k.rights_placed;
  }

-- ---- a new document

new_numbers : (d : Document) (ds : List Document) → numbers (ds ++ d ∷ []) ≡ numbers ds ++ d.id.number ∷ []
new_numbers d [] = refl
new_numbers d (x ∷ xs) = ap (λ (ns : List ℕ). x.id.number ∷ ns) (new_numbers d xs)

-- a number that was never made is none of a live document
not_this : (made : List DocId) (n m : ℕ) (b : Bool) → (n == m) ≡ b → is_made made n ≡ false → is_made made m ≡ true → b ≡ false
not_this made n m true e f t = let x : true ≡ false = sym t ∙ (sym (ap (is_made made) (nat_is n m e)) ∙ f) in cc
not_this made n m false e f t = refl

none_live : (made : List DocId) (n : ℕ) (ds : List Document) → is_made made n ≡ false → list_all (λ (d : Document). is_made made d.id.number) ds ≡ true → list_any (nat_eq n) (numbers ds) ≡ false
none_live made n [] f h = refl
none_live made n (d ∷ ds) f h =
    let here : is_made made d.id.number ≡ true = first_of_both (is_made made d.id.number) (list_all (λ (x : Document). is_made made x.id.number) ds) h in
    let rest : list_all (λ (x : Document). is_made made x.id.number) ds ≡ true = second_of_both (is_made made d.id.number) (list_all (λ (x : Document). is_made made x.id.number) ds) h in
    let other : (n == d.id.number) ≡ false = not_this made n d.id.number (n == d.id.number) refl f here in
    ap (λ (b : Bool). b || list_any (nat_eq n) (numbers ds)) other ∙ none_live made n ds f rest

pub still_made : (made : List DocId) (id : DocId) (n : ℕ) → is_made made n ≡ true → is_made (made ++ id ∷ []) n ≡ true
still_made made id n h = list_any-append (λ (i : DocId). i.number == n) made (id ∷ []) ∙ ap (λ (x : Bool). x || (id.number == n || false)) h

now_made : (made : List DocId) (id : DocId) → is_made (made ++ id ∷ []) id.number ≡ true
now_made [] id = grind (arith, nat_tests)
now_made (i ∷ is) id = elim (i.number == id.number) as (λ b. (b || is_made (is ++ id ∷ []) id.number) ≡ true) [ true ↦ refl | false ↦ now_made is id ]

live_first : (d x : Document) (n : ℕ) (xs : List Document) (b : Bool) → (is_live xs n ≡ true → is_live (xs ++ d ∷ []) n ≡ true) →
    is_some (cond b (Some x) (document_of xs n)) ≡ true → is_some (cond b (Some x) (document_of (xs ++ d ∷ []) n)) ≡ true
live_first d x n xs true f h = refl
live_first d x n xs false f h = f h

still_live : (d : Document) (n : ℕ) (ds : List Document) → is_live ds n ≡ true → is_live (ds ++ d ∷ []) n ≡ true
still_live d n [] h = cc
still_live d n (x ∷ xs) h = live_first d x n xs (x.id.number == n) (still_live d n xs) h

pub documented-new : (ds : List Document) (made : List DocId) (rights : List Triple) (apps : List (List ℕ)) (d : Document) → is_made made d.id.number ≡ false → has_identifier d ≡ true → is_host_path d.path ≡ true →
    Documented ds made rights apps → Documented (ds ++ d ∷ []) (made ++ d.id ∷ []) rights apps
documented-new ds made rights apps d f short p k = record {
  numbers_differ = subst (IsDistinct nat_eq) (sym (new_numbers d ds)) (IsDistinct-push nat_eq_equiv (numbers ds) d.id.number k.numbers_differ (none_live made d.id.number ds f k.numbers_made));
  numbers_made = list_all-append (λ (x : Document). is_made (made ++ d.id ∷ []) x.id.number) ds (d ∷ [])
      ∙ both (list_all (λ (x : Document). is_made (made ++ d.id ∷ []) x.id.number) ds) (is_made (made ++ d.id ∷ []) d.id.number && true)
      (list_all-weaken (λ (x : Document). is_made made x.id.number) (λ (x : Document). is_made (made ++ d.id ∷ []) x.id.number) (λ x h. still_made made d.id x.id.number h) ds k.numbers_made)
      (both (is_made (made ++ d.id ∷ []) d.id.number) true (now_made made d.id) refl);
  identifiers = list_all-append has_identifier ds (d ∷ []) ∙ both (list_all has_identifier ds) (has_identifier d && true) k.identifiers (both (has_identifier d) true short refl);
  paths = list_all-append (λ (x : Document). is_host_path x.path) ds (d ∷ []) ∙ both (list_all (λ (x : Document). is_host_path x.path) ds) (is_host_path d.path && true) k.paths (both (is_host_path d.path) true p refl);
  applications_differ = k.applications_differ;
  names = k.names;
  rights_in_order = k.rights_in_order;
  rights_placed = list_all-weaken (is_placed_in ds apps) (is_placed_in (ds ++ d ∷ []) apps)
      (λ t h. both (is_live (ds ++ d ∷ []) t.id.number) (is_numbered apps t.app) (still_live d t.id.number ds (first_of_both (is_live ds t.id.number) (is_numbered apps t.app) h)) (second_of_both (is_live ds t.id.number) (is_numbered apps t.app) h))
      rights k.rights_placed;
}

-- ---- a document that goes

abbrev pub others : ℕ → List Document → List Document
others number ds = filter (λ (d : Document). not (d.id.number == number)) ds

other_numbers : (number : ℕ) (ds : List Document) → numbers (others number ds) ≡ filter (λ (n : ℕ). not (n == number)) (numbers ds)
other_numbers number [] = refl
other_numbers number (d ∷ ds) = elim (d.id.number == number) as (λ b. numbers (cond (not b) (d ∷ others number ds) (others number ds)) ≡ cond (not b) (d.id.number ∷ filter (λ (n : ℕ). not (n == number)) (numbers ds)) (filter (λ (n : ℕ). not (n == number)) (numbers ds))) [
  | true ↦ other_numbers number ds
  | false ↦ ap (λ (ns : List ℕ). d.id.number ∷ ns) (other_numbers number ds)
]

is_other : (number n : ℕ) (d : Document) → not (n == number) ≡ true → (d.id.number == n) ≡ true → not (d.id.number == number) ≡ true
is_other number n d h e = grind (arith, nat_tests)

found_still : (number n : ℕ) (ds : List Document) → not (n == number) ≡ true → document_of (others number ds) n ≡ document_of ds n
found_still number n ds h = find-filter (λ (d : Document). d.id.number == n) (λ (d : Document). not (d.id.number == number)) true (λ d e. is_other number n d h e) ds

is_this : (number n : ℕ) (d : Document) → (n == number) ≡ true → (d.id.number == n) ≡ true → not (d.id.number == number) ≡ false
is_this number n d h e = grind (arith, nat_tests)

-- a document stays or goes
pub still-or-gone : (number n : ℕ) (ds : List Document) → (document_of (others number ds) n ≡ document_of ds n) ⊎ (document_of (others number ds) n ≡ None)
still-or-gone number n ds = step (n == number) refl
  where
    step : (b : Bool) → (n == number) ≡ b → (document_of (others number ds) n ≡ document_of ds n) ⊎ (document_of (others number ds) n ≡ None)
    step true e = inr (find-filter (λ (d : Document). d.id.number == n) (λ (d : Document). not (d.id.number == number)) false (λ d h. is_this number n d e h) ds)
    step false e = inl (found_still number n ds (ap not e))

-- a new document is found by its own number alone
found_before : (number : ℕ) (d : Document) (ds : List Document) → (d.id.number == number) ≡ false → document_of (ds ++ d ∷ []) number ≡ document_of ds number
found_before number d [] e = ap (λ (b : Bool). cond b (Some d) None) e
found_before number d (x ∷ xs) e = ap (λ (o : Option Document). cond (x.id.number == number) (Some x) o) (found_before number d xs e)

pub found-of-made : (made : List DocId) (d : Document) (ds : List Document) (number : ℕ) → is_made made d.id.number ≡ false → is_made made number ≡ true → document_of (ds ++ d ∷ []) number ≡ document_of ds number
found-of-made made d ds number f h = found_before number d ds (not_this made d.id.number number (d.id.number == number) refl f h)

-- what a filter leaves passes a test that follows from an old one and the filter's
left_first : {X : Type 0} (p q r : X → Bool) (x : X) (xs : List X) (b : Bool) → q x ≡ b → ((x : X) → p x ≡ true → q x ≡ true → r x ≡ true) → p x ≡ true → list_all r (filter q xs) ≡ true →
    list_all r (cond b (x ∷ filter q xs) (filter q xs)) ≡ true
left_first p q r x xs true e f h k = both (r x) (list_all r (filter q xs)) (f x h e) k
left_first p q r x xs false e f h k = k

all_left : {X : Type 0} (p q r : X → Bool) → ((x : X) → p x ≡ true → q x ≡ true → r x ≡ true) → (xs : List X) → list_all p xs ≡ true → list_all r (filter q xs) ≡ true
all_left p q r f [] h = refl
all_left p q r f (x ∷ xs) h =
    left_first p q r x xs (q x) refl f (first_of_both (p x) (list_all p xs) h) (all_left p q r f xs (second_of_both (p x) (list_all p xs) h))

pub documented-deleted : (ds : List Document) (made : List DocId) (rights : List Triple) (apps : List (List ℕ)) (number : ℕ) → Documented ds made rights apps → Documented (others number ds) made (forget_document number rights) apps
documented-deleted ds made rights apps number k = record {
  numbers_differ = subst (IsDistinct nat_eq) (sym (other_numbers number ds)) (IsDistinct-filter nat_eq (λ (n : ℕ). not (n == number)) (numbers ds) k.numbers_differ);
  numbers_made = list_all-filter (λ (d : Document). is_made made d.id.number) _ ds k.numbers_made;
  identifiers = list_all-filter has_identifier _ ds k.identifiers;
  paths = list_all-filter (λ (d : Document). is_host_path d.path) _ ds k.paths;
  applications_differ = k.applications_differ;
  names = k.names;
  rights_in_order = ordered-forget_document number rights k.rights_in_order;
  rights_placed = all_left (is_placed_in ds apps) (λ (t : Triple). not (t.id.number == number)) (is_placed_in (others number ds) apps)
      (λ t h e. ap (λ (o : Option Document). is_some o && is_numbered apps t.app) (found_still number t.id.number ds e) ∙ h) rights k.rights_placed;
}
