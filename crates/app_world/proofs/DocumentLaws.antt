-- The documents of a view: what is found of each number.
use Rattle.std.proofs.Common.{◌≡◌, ℕ, ◌==◌, List, [], ◌∷◌, map, Bool, true, false, cond, Option, Some, None, refl, sym, ap, ◌∙◌, arith}
use Rattle.std.specs.List.{filter}
use Rattle.rights_rule.specs.Rights.{RightSet, holds_any}
use Rattle.portal_model.specs.declared.state.Document.{Document}
use Rattle.portal_model.specs.State.{document_of}
use Rattle.portal_model.proofs.ListLookups.{nat_is}
use Rattle.portal_model.specs.Ordered.{is_rising}
use Rattle.app_world.specs.View.{HeldDocument, number_of, lower, found_document, is_held, held_document, held_documents, seen}
use Rattle.app_world.proofs.Found.{kept, find-put_all, told-apart}
use Rattle.app_world.proofs.Orders.{numbers}
use Rattle.portal_model.proofs.RisingLists.{rising-put_all}

pub seen-nothing : (k : RightSet) (o : Option Document) → holds_any k ≡ false → seen k o ≡ None
seen-nothing k None h = refl
seen-nothing k (Some d) h = rw h refl

pub kept-seen : (k : RightSet) (o : Option Document) → kept is_held (seen k o) ≡ seen k o
kept-seen k None = refl
kept-seen k (Some d) = grind arith

seen-first : (n : ℕ) (d : Document) (k h : RightSet) (more : List HeldDocument) (o : Option Document) (b a : Bool) → (d.id.number == n) ≡ b → holds_any h ≡ a →
    (b ≡ true → h ≡ k) → found_document more n ≡ seen k o →
    found_document (cond a (record { document = d; rights = h } ∷ more) more) n ≡ seen k (cond b (Some d) o)
seen-first n d k h more o true true e i x m = grind (arith, x refl)
seen-first n d k h more o true false e i x m = m ∙ (seen-nothing k o (ap holds_any (sym (x refl)) ∙ i) ∙ sym (seen-nothing k (Some d) (ap holds_any (sym (x refl)) ∙ i)))
seen-first n d k h more o false true e i x m = ap (λ (t : Bool). cond t (Some (record { document = d; rights = h })) (found_document more n)) e ∙ m
seen-first n d k h more o false false e i x m = m

seen-found : (held : ℕ → RightSet) (n : ℕ) (documents : List Document) → found_document (filter is_held (map (held_document held) documents)) n ≡ seen (held n) (document_of documents n)
seen-found held n [] = refl
seen-found held n (d ∷ ds) =
    seen-first n d (held n) (held d.id.number) (filter is_held (map (held_document held) ds)) (document_of ds n) (d.id.number == n) (holds_any (held d.id.number)) refl refl
    (λ h. ap held (nat_is d.id.number n h)) (seen-found held n ds)

-- of each number the document that is live, where a right is held in it
pub documents-found : (held : ℕ → RightSet) (n : ℕ) (documents : List Document) → found_document (held_documents held documents) n ≡ seen (held n) (document_of documents n)
documents-found held n documents = find-put_all _ _ number_of numbers n (filter is_held (map (held_document held) documents)) ∙ seen-found held n documents

pub documents-rising : (held : ℕ → RightSet) (documents : List Document) → is_rising lower (held_documents held documents) ≡ true
documents-rising held documents = rising-put_all _ _ number_of numbers (filter is_held (map (held_document held) documents))

-- documents in order of which this is found are those of the view
pub documents-are : (held : ℕ → RightSet) (documents : List Document) (xs : List HeldDocument) → is_rising lower xs ≡ true →
    ((n : ℕ) → found_document xs n ≡ seen (held n) (document_of documents n)) → xs ≡ held_documents held documents
documents-are held documents xs s e =
    told-apart _ _ number_of numbers xs (held_documents held documents) s (documents-rising held documents) (λ n. e n ∙ sym (documents-found held n documents))
