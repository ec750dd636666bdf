use Rattle.std.proofs.Common.{◌≡◌, ◌∙◌, List, [], ◌∷◌, ◌++◌, Bool, ◌||◌, ap, true}
use Rattle.std.specs.List.{list_all, list_any}
use Rattle.std.proofs.lemmas.List.Folds.{list_any-append}
use Rattle.document_records.specs.declared.grants.Grant.{Grant}
use Rattle.document_records.specs.Grants.{all_grants, is_kept, triples_of_grant}
use Rattle.document_records.proofs.GrantLemmas.{added-is, or-false, passes}
use Rattle.document_records.proofs.GrantsByNumber.{Entry, all-in-order, entry-single, insert-kept, passes-insert}
use Rattle.document_records.proofs.grants.insert_first.Goals as goal

pub returns-clause-kept : goal.returns-clause-kept
returns-clause-kept c =
    let g = c.args.grant in
    let w = c.push.new.self in
    let one : w.items ≡ g ∷ [] = c.in_ok-push.ensures.items ∙ ap (λ (xs : List Grant). xs ++ g ∷ []) c.new-grants.ensures.items in
    record {
      order = c.insert.ensures.ordered;
      each = ap (list_all is_kept) c.in_ok-insert.ensures.entries
          ∙ insert-kept g.id.number c.args.documents.now.entries w c.requires.kept.each (entry-single g w c.requires.held one);
    }

pub returns-clause-ok : goal.returns-clause-ok
returns-clause-ok c =
    let g = c.args.grant in
    let es = c.args.documents.now.entries in
    let new = c.insert.new.self in
    let w = c.push.new.self in
    let one : w.items ≡ g ∷ [] = c.in_ok-push.ensures.items ∙ ap (λ (xs : List Grant). xs ++ g ∷ []) c.new-grants.ensures.items in
    let each : list_all is_kept new.entries ≡ true =
    ap (list_all is_kept) c.in_ok-insert.ensures.entries ∙ insert-kept g.id.number es w c.requires.kept.each (entry-single g w c.requires.held one) in
    added-is g.app g.id g.rights (all_grants es) (all_grants new.entries) (all-in-order new.entries c.insert.ensures.ordered each)
    (λ p. ap (λ (xs : List Entry). passes p (all_grants xs)) c.in_ok-insert.ensures.entries
    ∙ (passes-insert g.id.number p es w c.requires.none
    ∙ ap (λ (b : Bool). b || passes p (all_grants es)) (ap (passes p) one ∙ (list_any-append p (triples_of_grant g) [] ∙ or-false (list_any p (triples_of_grant g))))))
