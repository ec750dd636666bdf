use Rattle.std.proofs.Common.{◌∙◌, ◌≡◌, ◌++◌, ◌∷◌, [], ap, sym, length, Some, None, List, ℕ}
use Rattle.portal_model.specs.Applications.{number_of}
use Rattle.document_records.proofs.ApplicationLemmas.{has-number, gets-next, next-number, added-seen, found-more}
use Rattle.document_records.proofs.DocumentLemmas.{on-ok}
use Rattle.document_records.proofs.applications.Applications.number.Goals as goal

pub returns-in-Some-clause-ok : goal.returns-in-Some-clause-ok
returns-in-Some-clause-ok c =
    has-number c.args.self.now c.args.app.now c.in-Some.number (sym c.of.ensures ∙ c.in-Some.is)

pub invariant_of-self-else-is_err : goal.invariant_of-self-else-is_err
invariant_of-self-else-is_err c =
    let none : number_of c.args.self.now c.args.app.now ≡ None = sym c.of.ensures
    ∙ c.in_default.is in
    let names : c.push.new.self ≡ c.self.inside.names ++ c.args.app.now ∷ [] =
    c.in_ok-push.ensures.ok ∙ ap (λ (name : List ℕ). c.self.inside.names ++ name ∷ [])
    c.in_ok-replica.ensures in
    rw names
    (found-more c.self.inside.names c.args.app.now c.in_ok-key.key c.self.inside.numbers
    c.insert.new.self c.self.invariant
    (ap (λ (l : List (List ℕ)). number_of l c.args.app.now) c.self.view_is ∙ none)
    (rw (← c.self.view_is) at c.requires)
    (c.in_ok-key.ensures.items ∙ c.as_bytes.ensures.bytes)
    (rw (c.len-number.ensures, names) at
    (on-ok c.insert.result _ c.insert.ensures.updates c.if-is_err.ensures.value)))

pub returns-clause-ok : goal.returns-clause-ok
returns-clause-ok c =
    added-seen c.push.new.self c.self.inside.names c.args.self.now c.in_ok-replica.field-0 c.args.app.now c.in_ok-push.ensures.ok c.self.view_is c.in_ok-replica.ensures
    ∙ gets-next c.args.self.now c.args.app.now (sym c.of.ensures ∙ c.in_default.is)

pub returns-clause-number : goal.returns-clause-number
returns-clause-number c =
    let added = added-seen c.push.new.self c.self.inside.names c.args.self.now c.in_ok-replica.field-0 c.args.app.now c.in_ok-push.ensures.ok c.self.view_is c.in_ok-replica.ensures in
    ap (λ (names : List (List ℕ)). number_of names c.args.app.now) added
    ∙ (next-number c.args.self.now c.args.app.now (sym c.of.ensures ∙ c.in_default.is)
    ∙ sym (ap Some (c.len-number.ensures ∙ ap (λ (names : List (List ℕ)). length names) added)))
