-- A file that comes twice is told by an item that stands ahead of it and makes the document.
use Rattle.std.proofs.Common.{◌≡◌, ℕ, ◌<◌, List, [], ◌∷◌, ◌++◌, fold, get_or, inl, inr, ◌⊎◌, length, map, nat_lt, Bool, true, false, ◌&&◌, cond, Option, Some, None, refl, sym, ap, subst, ◌∙◌, arith, zero, suc}
use Rattle.std.specs.List.{position, position_or_len, slice_get}
use Rattle.std.specs.Option.{option_map}
use Rattle.std.proofs.lemmas.Bool.Decides.{nat_tests}
use Rattle.std.proofs.lemmas.List.{map-append}
use Rattle.std.proofs.lemmas.List.Sums.{passes_at_first}
use Rattle.std.proofs.lemmas.Option.{slice_get-get_or, slice_get-map, slice_get_within}
use Rattle.portal_base.specs.Names.{is_same}
use Rattle.portal_base.specs.declared.names.doc_id.DocId.{DocId}
use Rattle.portal_base.specs.declared.who.Who.{Who}
use Rattle.rights_rule.specs.Rights.{no_rights}
use Rattle.portal_model.specs.declared.request.AddRequest.{AddRequest}
use Rattle.portal_model.specs.declared.state.Document.{Document}
use Rattle.portal_model.specs.Add.{used_again}
use Rattle.portal_model.specs.AddArguments.{reuses}
use Rattle.add_files.specs.Items.{item_behind, left_out, made_ahead, makes, place_behind, place_used, put_behind}
use Rattle.add_files.specs.Plans.{NameNewOnes, is_new}
use Rattle.add_files.specs.declared.plan.PlanItem.{PlanItem}
use Rattle.add_files.specs.declared.plan.PlanUse.{PlanUse}
use Rattle.add_files.specs.declared.plan.PlanUse.TheVariants.{LeftOut, Live, Earlier, New}
use Rattle.add_files.proofs.Following.{position-inside}

-- ---- the first item that makes a document

position-passes : {X : Type 0} (p : X → Bool) (xs : List X) (d : X) (k : ℕ) → position p xs ≡ Some k → p (get_or xs k d) ≡ true
position-passes p xs d k e = by-test (nat_lt (position_or_len p xs) (length xs)) refl e
  where
    by-test : (b : Bool) → nat_lt (position_or_len p xs) (length xs) ≡ b → cond b (Some (position_or_len p xs)) None ≡ Some k → p (get_or xs k d) ≡ true
    by-test true t h =
        let inside : position_or_len p xs < length xs = grind (arith, nat_tests) in
        let same : position_or_len p xs ≡ k = cc in
        subst (λ (n : ℕ). p (get_or xs n d) ≡ true) same (passes_at_first p xs d inside)
    by-test false t h = cc

new-place : (place : PlanUse) (b : Bool) → (is_new place && b) ≡ true → place ≡ New
new-place LeftOut b e = cc
new-place (Live id) b e = cc
new-place (Earlier k) b e = cc
new-place New b e = refl

first-new : (path : List ℕ) (ahead : List PlanItem) (n : ℕ) → position (makes path) ahead ≡ Some n → slice_get (map (λ item. item.place) ahead) n ≡ Some New
first-new path ahead n e =
    let d : PlanItem = record { path = path; place = New; own = no_rights } in
    slice_get-map (λ (item : PlanItem). item.place) ahead n
    ∙ (ap (option_map (λ (item : PlanItem). item.place)) (slice_get-get_or ahead n d (position-inside (makes path) ahead n e))
    ∙ ap (λ (place : PlanUse). Some place) (new-place (get_or ahead n d).place (is_same (get_or ahead n d).path path) (position-passes (makes path) ahead d n e)))

module _ (documents : List Document) (a : AddRequest) (app : Option (List ℕ)) (ahead : List PlanItem) (path : List ℕ) (k : ℕ) where
  by-place : (o : Option ℕ) → position (makes path) ahead ≡ o → made_ahead o ≡ Earlier k → slice_get (map (λ item. item.place) ahead) k ≡ Some New
  by-place None p e = cc
  by-place (Some n) p e =
      let same : n ≡ k = cc in subst (λ (m : ℕ). slice_get (map (λ (item : PlanItem). item.place) ahead) m ≡ Some New) same (first-new path ahead n p)

  by-flag : (b : Bool) → cond b (made_ahead (position (makes path) ahead)) New ≡ Earlier k → slice_get (map (λ item. item.place) ahead) k ≡ Some New
  by-flag true e = by-place (position (makes path) ahead) refl e
  by-flag false e = cc

  by-live : (live : Option DocId) → place_used a ahead path live ≡ Earlier k → slice_get (map (λ item. item.place) ahead) k ≡ Some New
  by-live None e = by-flag (reuses a) e
  by-live (Some id) e = cc

  by-left : (b : Bool) → cond b LeftOut (place_used a ahead path (used_again documents a path)) ≡ Earlier k → slice_get (map (λ item. item.place) ahead) k ≡ Some New
  by-left true e = cc
  by-left false e = by-live (used_again documents a path) e

  behind-new : place_behind documents a app ahead path ≡ Earlier k → slice_get (map (λ item. item.place) ahead) k ≡ Some New
  behind-new e = by-left (left_out a app path) e

-- ---- one item more

last-or-ahead : (places : List PlanUse) (place told : PlanUse) (at : ℕ) → slice_get (places ++ place ∷ []) at ≡ Some told → (slice_get places at ≡ Some told) ⊎ ((at ≡ length places) × (place ≡ told))
last-or-ahead [] place told zero e = let same : place ≡ told = cc in inr (refl, same)
last-or-ahead [] place told (suc at) e = cc
last-or-ahead (p ∷ ps) place told zero e = inl e
last-or-ahead (p ∷ ps) place told (suc at) e = elim (last-or-ahead ps place told at e) [
  | inl there ↦ inl there
  | inr last ↦ inr (ap suc last.0, last.1)
]

still-there : (places : List PlanUse) (place told : PlanUse) (k : ℕ) → slice_get places k ≡ Some told → slice_get (places ++ place ∷ []) k ≡ Some told
still-there [] place told k e = cc
still-there (p ∷ ps) place told zero e = e
still-there (p ∷ ps) place told (suc k) e = still-there ps place told k e

names-more : (places : List PlanUse) (place : PlanUse) → NameNewOnes places → ((k : ℕ) → place ≡ Earlier k → slice_get places k ≡ Some New) → NameNewOnes (places ++ place ∷ [])
names-more places place h new at k e = elim (last-or-ahead places place (Earlier k) at e) [
  | inl there ↦ let told = h at k there in (told.0, still-there places place New k told.1)
  | inr last ↦
      let there : slice_get places k ≡ Some New = new k last.1 in
      (subst (λ (n : ℕ). k < n) (sym last.0) (slice_get_within places k New there), still-there places place New k there)
]

names-all : (documents : List Document) (who : Who) (a : AddRequest) (app : Option (List ℕ)) (paths : List (List ℕ)) (ahead : List PlanItem) →
    NameNewOnes (map (λ item. item.place) ahead) → NameNewOnes (map (λ item. item.place) (fold (put_behind documents who a app) ahead paths))
names-all documents who a app [] ahead h = h
names-all documents who a app (p ∷ ps) ahead h =
    let item : PlanItem = item_behind documents who a app ahead p in
    names-all documents who a app ps (ahead ++ item ∷ [])
    (subst NameNewOnes (sym (map-append (λ (i : PlanItem). i.place) ahead (item ∷ [])))
    (names-more (map (λ (i : PlanItem). i.place) ahead) item.place h (behind-new documents a app ahead p)))

pub names-new-ones : (documents : List Document) (who : Who) (a : AddRequest) (app : Option (List ℕ)) (paths : List (List ℕ)) →
    NameNewOnes (map (λ item. item.place) (fold (put_behind documents who a app) [] paths))
names-new-ones documents who a app paths = names-all documents who a app paths [] none-ahead
  where
    none-ahead : NameNewOnes []
    none-ahead at k e = cc
