use Rattle.std.proofs.Common.{rules, List, ◌++◌, ◌∷◌, [], ap, sym, ◌∙◌}
use Rattle.portal_base.specs.declared.names.doc_id.DocId.{DocId}
use Rattle.document_records.specs.DocumentIndex.{ids_or_none}
use Rattle.document_records.proofs.DocumentsByPath.{changed, kept, begun, ok-then, err-then}
use Rattle.document_records.proofs.by_path.add_id.Goals as goal

pub returns-in-Some-clause-ok : goal.returns-in-Some-clause-ok
returns-in-Some-clause-ok c =
    ok-then c.push.result
    (λ e. changed c.args.path c.args.by_path.now (c.get_mut.follows.lender c.push.new.self)
    (λ ids. ids ++ c.args.id ∷ []) c.in-Some.ids.now c.push.new.self
    (sym (ap ids_or_none c.in-Some.ensures.value)) e
    ((c.get_mut.follows.holds c.push.new.self).3 (search rules)))
    c.push.ensures.ok

pub returns-in-Some-clause-err : goal.returns-in-Some-clause-err
returns-in-Some-clause-err c =
    err-then c.push.result
    (λ e. kept c.args.path c.args.by_path.now (c.get_mut.follows.lender c.push.new.self)
    c.in-Some.ids.now c.push.new.self (sym (ap ids_or_none c.in-Some.ensures.value)) e
    ((c.get_mut.follows.holds c.push.new.self).3 (search rules)))
    c.push.ensures.err

pub returns-clause-ok : goal.returns-clause-ok
returns-clause-ok c =
    begun c.args.path c.args.by_path.now c.insert.new.self c.args.id
    c.get_mut.follows.lender-at-none c.push-2.new.self c.get_mut.follows.holds-at-none
    (sym (ap ids_or_none c.in_default.ensures.value))
    (c.in_ok-push.ensures.ok ∙ ap (λ (ids : List DocId). ids ++ c.args.id ∷ []) c.new-ids.ensures)
    c.in_ok-insert.ensures.updates
