use Rattle.std.proofs.Common.{◌≡◌, ◌∙◌, List, ap, sym, true, None}
use Rattle.std.specs.List.{find, list_all, list_any}
use Rattle.document_records.specs.Grants.{all_grants, is_kept, is_of, triples_of_all, triples_of_grant, triples_of_grants}
use Rattle.document_records.proofs.GrantLemmas.{added-is, any-put-grant, none-is, passes}
use Rattle.document_records.proofs.GrantsByNumber.{Entry, all-in-order, entry-put, find-within, found-kept, here-some, kept-order, on-err, on-ok, passes-set, same-all, set-kept}
use Rattle.document_records.proofs.grants.insert_in.Goals as goal

pub insert-requires-clause-order : goal.insert-requires-clause-order
insert-requires-clause-order c =
    let n = c.args.grant.id.number in
    kept-order (n, c.in-Some.grants.now) (found-kept n c.args.documents.now.entries c.in-Some.grants.now c.requires.kept.each (sym c.in-Some.ensures.value))

pub insert-requires-clause-new : goal.insert-requires-clause-new
insert-requires-clause-new c =
    let n = c.args.grant.id.number in
    let es = c.args.documents.now.entries in
    ap (find (is_of c.args.grant.app n)) (here-some n es c.in-Some.grants.now c.requires.kept.order c.requires.kept.each (sym c.in-Some.ensures.value))
    ∙ (find-within c.args.grant.app n (all_grants es) ∙ c.requires.new)

pub returns-in-Some-clause-kept : goal.returns-in-Some-clause-kept
returns-in-Some-clause-kept c =
    let n = c.args.grant.id.number in
    let es = c.args.documents.now.entries in
    let w = c.insert.new.grants in
    let was : is_kept (n, c.in-Some.grants.now) ≡ true = found-kept n es c.in-Some.grants.now c.requires.kept.each (sym c.in-Some.ensures.value) in
    record {
      order = (c.get_mut.follows.holds w).4;
      each = ap (list_all is_kept) (c.get_mut.follows.holds w).0
          ∙ set-kept n es w c.requires.kept.each (entry-put c.insert.result c.args.grant c.in-Some.grants.now w c.requires.held was c.insert.ensures.ok c.insert.ensures.err);
    }

pub returns-in-Some-clause-ok : goal.returns-in-Some-clause-ok
returns-in-Some-clause-ok c =
    let g = c.args.grant in
    let n = g.id.number in
    let es = c.args.documents.now.entries in
    let v = c.in-Some.grants.now in
    let w = c.insert.new.grants in
    let new = c.get_mut.follows.lender w in
    let kept = returns-in-Some-clause-kept c in
    let absent : find (is_of g.app n) v.items ≡ None =
    ap (find (is_of g.app n)) (here-some n es v c.requires.kept.order c.requires.kept.each (sym c.in-Some.ensures.value))
    ∙ (find-within g.app n (all_grants es) ∙ c.requires.new) in
    on-ok c.insert.result
    (λ e. added-is g.app g.id g.rights (all_grants es) (all_grants new.entries) (all-in-order new.entries kept.order kept.each)
    (λ p. ap (λ (xs : List Entry). passes p (all_grants xs)) (c.get_mut.follows.holds w).0
    ∙ passes-set n p (list_any p (triples_of_grant g)) es v w (sym c.in-Some.ensures.value)
    (ap (passes p) e ∙ any-put-grant p g v.items (none-is (is_of g.app n) v.items absent))))
    c.insert.ensures.ok

pub returns-in-Some-clause-err : goal.returns-in-Some-clause-err
returns-in-Some-clause-err c =
    let n = c.args.grant.id.number in
    let es = c.args.documents.now.entries in
    let w = c.insert.new.grants in
    on-err c.insert.result
    (λ e. ap triples_of_all (c.get_mut.follows.holds w).0
    ∙ ap triples_of_grants (same-all n es c.in-Some.grants.now w c.requires.kept.order c.requires.kept.each (sym c.in-Some.ensures.value) e))
    c.insert.ensures.err
