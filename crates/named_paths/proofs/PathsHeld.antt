-- The paths of which the documents of a view tell, without the view.
use Rattle.std.proofs.Common.{◌≡◌, ◌==◌, ◌&&◌, ◌||◌, ℕ, List, [], ◌∷◌, map, filter, Bool, true, false, cond, nat_eq, nat_lt, None, refl, ap, ◌∙◌, arith}
use Rattle.std.specs.List.{list_any, IsDistinct, AllByRecursion}
use Rattle.std.proofs.lemmas.Bool.Decides.{nat_tests}
use Rattle.portal_model.specs.declared.state.Document.{Document}
use Rattle.portal_model.specs.Ordered.{put, put_all}
use Rattle.rights_rule.specs.Rights.{RightSet, holds_any}
use Rattle.app_world.specs.View.{HeldDocument, found_document, held_document, held_documents, is_held, is_of_document, lower, number_of}
use Rattle.app_world.proofs.Found.{find-put_all}
use Rattle.app_world.proofs.Orders.{numbers}
use Rattle.named_paths.specs.Named.{are_of}

-- a document whose number isn't there joins the others
same_number : (a b : ℕ) → nat_lt a b ≡ false → nat_lt b a ≡ false → (b == a) ≡ true
same_number a b h l = grind (arith, nat_tests)

any-put : (p : HeldDocument → Bool) (x : HeldDocument) (ys : List HeldDocument) → found_document ys (number_of x) ≡ None → list_any p (put lower x ys) ≡ (p x || list_any p ys)
any-put p x [] e = refl
any-put p x (y ∷ ys) e = grind (arith, any-put p x ys, same_number (number_of x) (number_of y))

module _ (held : ℕ → RightSet) where
  abbrev collected : List Document → List HeldDocument
  collected ds = filter is_held (map (held_document held) ds)

  none-there : (n : ℕ) (ds : List Document) → AllByRecursion (λ m. nat_eq n m ≡ false) (map (λ (d : Document). d.id.number) ds) → found_document (collected ds) n ≡ None
  none-there n [] h = refl
  none-there n (d ∷ ds) h =
      let apart : nat_eq n d.id.number ≡ false = h.0 in
      let other : (d.id.number == n) ≡ false = grind (arith, nat_tests) in
      let rest : found_document (collected ds) n ≡ None = none-there n ds h.1 in
      grind arith

  any-collected : (p : HeldDocument → Bool) (ds : List Document) → IsDistinct nat_eq (map (λ (d : Document). d.id.number) ds) → list_any p (put_all lower (collected ds)) ≡ list_any p (collected ds)
  unfolding IsDistinct
  any-collected p [] h = refl
  any-collected p (d ∷ ds) h =
      let x : HeldDocument = held_document held d in
      let none : found_document (put_all lower (collected ds)) d.id.number ≡ None =
      find-put_all _ _ number_of numbers d.id.number (collected ds) ∙ none-there d.id.number ds h.0 in
      let rest : list_any p (put_all lower (collected ds)) ≡ list_any p (collected ds) = any-collected p ds h.1 in
      by_rights (holds_any (held d.id.number)) (any-put p x (put_all lower (collected ds)) none ∙ ap (λ (b : Bool). p x || b) rest) rest
    where
      by_rights : (b : Bool) → list_any p (put lower (held_document held d) (put_all lower (collected ds))) ≡ (p (held_document held d) || list_any p (collected ds)) →
          list_any p (put_all lower (collected ds)) ≡ list_any p (collected ds) →
          list_any p (put_all lower (cond b (held_document held d ∷ collected ds) (collected ds))) ≡ list_any p (cond b (held_document held d ∷ collected ds) (collected ds))
      by_rights true one rest = one
      by_rights false one rest = rest

  tells-here : (path : List ℕ) (ds : List Document) → are_of (collected ds) path ≡ list_any (λ (d : Document). holds_any (held d.id.number) && is_of_document d path) ds
  tells-here path [] = refl
  tells-here path (d ∷ ds) = by_rights (holds_any (held d.id.number)) (tells-here path ds)
    where
      by_rights : (b : Bool) → are_of (collected ds) path ≡ list_any (λ (x : Document). holds_any (held x.id.number) && is_of_document x path) ds →
          are_of (cond b (held_document held d ∷ collected ds) (collected ds)) path ≡ ((b && is_of_document d path) || list_any (λ (x : Document). holds_any (held x.id.number) && is_of_document x path) ds)
      by_rights true e = ap (λ (b : Bool). is_of_document d path || b) e
      by_rights false e = e

  -- a document with a right has the path, or is a folder above it
  pub paths-held : (path : List ℕ) (ds : List Document) → IsDistinct nat_eq (map (λ (d : Document). d.id.number) ds) →
      are_of (held_documents held ds) path ≡ list_any (λ (d : Document). holds_any (held d.id.number) && is_of_document d path) ds
  paths-held path ds h = any-collected (λ (d : HeldDocument). is_of_document d.document path) ds h ∙ tells-here path ds
