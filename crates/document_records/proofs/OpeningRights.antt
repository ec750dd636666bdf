-- The rights of records, added one after another: they stand in order, and whoever gets one has a name.
use Rattle.std.proofs.Common.{◌≡◌, ◌<◌, ◌&&◌, ℕ, zero, suc, List, [], ◌∷◌, length, take, get_or, fold, Bool, true, sym, subst, ◌∙◌, arith}
use Rattle.std.specs.List.{list_all}
use Rattle.portal_base.specs.Names.{is_app_name}
use Rattle.portal_model.specs.declared.opening.OpeningDocument.{OpeningDocument}
use Rattle.portal_model.specs.declared.records.GrantRecord.{GrantRecord}
use Rattle.portal_model.specs.declared.state.Triple.{Triple}
use Rattle.portal_model.specs.Opening.{id_of, set_of_bits, with_grant, with_grants}
use Rattle.portal_model.specs.Rights.{triples_of}
use Rattle.portal_model.proofs.RightsLaws.{all-added}

-- what is true of a fold, and of all that it came from
module _ {X Y : Type 0} (f : Y → X → Y) (p : Y → Bool) (back : (y : Y) (x : X) → p (f y x) ≡ true → p y ≡ true) where
  pub fold-back : (xs : List X) (y : Y) → p (fold f y xs) ≡ true → p y ≡ true
  fold-back [] y h = h
  fold-back (x ∷ xs) y h = back y x (fold-back xs (f y x) h)

  pub fold-at : (xs : List X) (y : Y) (i : ℕ) (x : X) → i < length xs → x ≡ get_or xs i x → p (fold f y xs) ≡ true → p (f (fold f y (take i xs)) x) ≡ true
  fold-at [] y i x h e k = absurd (omega arith)
  fold-at (z ∷ zs) y zero x h e k = subst (λ w. p (f y w) ≡ true) (sym e) (fold-back zs (f y z) k)
  fold-at (z ∷ zs) y (suc i) x h e k = fold-at zs (f y z) i x (omega arith) e k

abbrev pub are_named : List Triple → Bool
are_named rights = list_all (λ t. is_app_name t.app) rights

pub named_grant : (number : ℕ) (rights : List Triple) (g : GrantRecord) → are_named (with_grant number rights g) ≡ true → are_named rights ≡ true
named_grant number rights g h =
    let both : (are_named (triples_of g.app (id_of number) (set_of_bits g.rights)) && are_named rights) ≡ true = sym (all-added (λ (t : Triple). is_app_name t.app) g.app (id_of number) (set_of_bits g.rights) rights) ∙ h in
    grind arith

pub named_grants : (rights : List Triple) (d : OpeningDocument) → are_named (with_grants rights d) ≡ true → are_named rights ≡ true
named_grants rights d h = fold-back (with_grant d.kept.number) are_named (named_grant d.kept.number) d.kept.grants rights h
