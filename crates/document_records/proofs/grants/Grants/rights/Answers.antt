use Rattle.std.proofs.Common.{◌≡◌, ◌∙◌, ap, sym, Some, None, List}
use Rattle.std.specs.List.{find}
use Rattle.std.specs.Option.{option_copied}
use Rattle.portal_model.specs.declared.state.Triple.{Triple}
use Rattle.portal_model.specs.State.{held_of}
use Rattle.document_records.specs.Grants.{all_grants, are_grants_in_order, is_in_document, is_of}
use Rattle.portal_model.specs.Rights.{are_in_order}
use Rattle.document_records.proofs.GrantLemmas.{held-some, held-none, rising-some, rising-triples}
use Rattle.document_records.proofs.GrantsByNumber.{find-within, kept-all}
use Rattle.document_records.proofs.grants.Grants.rights.Goals as goal

pub returns-in-Some-clause-held : goal.returns-in-Some-clause-held
returns-in-Some-clause-held c =
    let found : find (is_of c.args.app.now c.args.id.number) (all_grants c.self.inside.documents.entries) ≡ Some c.in-Some.grant.now =
    sym (find-within c.args.app.now c.args.id.number (all_grants c.self.inside.documents.entries)) ∙ (ap (find (is_of c.args.app.now c.args.id.number)) (sym c.in_document.ensures) ∙ (sym c.find.ensures ∙ ap option_copied c.in-Some.is)) in
    held-some c.args.app.now c.args.id.number (all_grants c.self.inside.documents.entries) c.in-Some.grant.now (kept-all c.self.inside.documents.entries c.self.invariant.kept.order c.self.invariant.kept.each).order found
    ∙ ap (λ (ts : List Triple). held_of ts c.args.app.now c.args.id.number) c.self.view_is

pub returns-in-None-clause-held : goal.returns-in-None-clause-held
returns-in-None-clause-held c =
    let none : find (is_of c.args.app.now c.args.id.number) (all_grants c.self.inside.documents.entries) ≡ None =
    sym (find-within c.args.app.now c.args.id.number (all_grants c.self.inside.documents.entries)) ∙ (ap (find (is_of c.args.app.now c.args.id.number)) (sym c.in_document.ensures) ∙ (sym c.find.ensures ∙ ap option_copied c.in-None.is)) in
    held-none c.args.app.now c.args.id.number (all_grants c.self.inside.documents.entries) none
    ∙ ap (λ (ts : List Triple). held_of ts c.args.app.now c.args.id.number) c.self.view_is

pub returns-in-Some-clause-order : goal.returns-in-Some-clause-order
returns-in-Some-clause-order c = sym (ap are_in_order c.self.view_is) ∙ rising-triples (all_grants c.self.inside.documents.entries) (kept-all c.self.inside.documents.entries c.self.invariant.kept.order c.self.invariant.kept.each).order

pub returns-in-None-clause-order : goal.returns-in-None-clause-order
returns-in-None-clause-order c = sym (ap are_in_order c.self.view_is) ∙ rising-triples (all_grants c.self.inside.documents.entries) (kept-all c.self.inside.documents.entries c.self.invariant.kept.order c.self.invariant.kept.each).order

pub find-requires : goal.find-requires
find-requires c =
    ap are_grants_in_order c.in_document.ensures
    ∙ rising-some (is_in_document c.args.id.number) (all_grants c.self.inside.documents.entries) (kept-all c.self.inside.documents.entries c.self.invariant.kept.order c.self.invariant.kept.each).order
