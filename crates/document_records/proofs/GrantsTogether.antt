-- Grants that are added one after another: their order doesn't matter.
use Rattle.std.proofs.Common.{◌≡◌, List, [], ◌∷◌, ◌++◌, Bool, true, false, ◌||◌, fold, refl, sym, ap, ◌∙◌}
use Rattle.std.specs.List.{list_any}
use Rattle.std.specs.List.Sorted.{IsPermutation}
use Rattle.std.proofs.lemmas.List.Folds.{list_any-append}
use Rattle.std.proofs.lemmas.List.Sorted.{list_any-IsPermutation}
use Rattle.portal_model.specs.Ordered.{is_rising}
use Rattle.portal_model.specs.Rights.{triple_less, same_triple, triples_of}
use Rattle.portal_model.specs.declared.state.Triple.{Triple}
use Rattle.portal_model.proofs.RisingLists.{any-put_all, rising-put_all, same_items}
use Rattle.portal_model.proofs.TripleOrder.{triples}
use Rattle.document_records.specs.declared.grants.Grant.{Grant}
use Rattle.document_records.specs.Grants.{triples_of_grant, with_given}

turn : (a b t : Bool) → (a || (b || t)) ≡ ((b || a) || t)
turn true true t = refl
turn true false t = refl
turn false true t = refl
turn false false t = refl

abbrev gives : (Triple → Bool) → Grant → Bool
gives p g = list_any p (triples_of_grant g)

-- what passes a test is given by one of the grants, or was there before
passes-all : (p : Triple → Bool) (gs : List Grant) (ts : List Triple) → list_any p (fold with_given ts gs) ≡ (list_any (gives p) gs || list_any p ts)
passes-all p [] ts = refl
passes-all p (g ∷ gs) ts =
    passes-all p gs (with_given ts g)
    ∙ (ap (λ (b : Bool). list_any (gives p) gs || b)
    (any-put_all triple_less same_triple triples p (triples_of g.app g.id g.rights ++ ts) ∙ list_any-append p (triples_of g.app g.id g.rights) ts)
    ∙ turn (list_any (gives p) gs) (gives p g) (list_any p ts))

rising-all : (gs : List Grant) (ts : List Triple) → is_rising triple_less ts ≡ true → is_rising triple_less (fold with_given ts gs) ≡ true
rising-all [] ts h = h
rising-all (g ∷ gs) ts h = rising-all gs (with_given ts g) (rising-put_all triple_less same_triple (λ (t : Triple). t) triples (triples_of g.app g.id g.rights ++ ts))

pub in-any-order : (xs ys : List Grant) → IsPermutation xs ys → fold with_given [] ys ≡ fold with_given [] xs
in-any-order xs ys h =
    same_items triple_less same_triple triples (fold with_given [] ys) (fold with_given [] xs) (rising-all ys [] refl) (rising-all xs [] refl)
    (λ k. passes-all (λ (t : Triple). same_triple t k) ys []
    ∙ (ap (λ (b : Bool). b || false) (sym (list_any-IsPermutation (gives (λ (t : Triple). same_triple t k)) xs ys h))
    ∙ sym (passes-all (λ (t : Triple). same_triple t k) xs [])))
