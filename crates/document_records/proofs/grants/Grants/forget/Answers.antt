use Rattle.std.proofs.Common.{◌≡◌, ◌∙◌, [], List, ap, sym, subst, refl}
use Rattle.std.specs.List.{filter, list_all}
use Rattle.portal_model.specs.declared.state.Triple.{Triple}
use Rattle.portal_model.specs.Rights.{forget_document}
use Rattle.document_records.specs.declared.grants.Grant.{Grant}
use Rattle.document_records.specs.GrantIndex.{AreByApp}
use Rattle.document_records.specs.Grants.{all_grants, is_in_document, is_kept, triples_of_all}
use Rattle.document_records.proofs.GrantsByApp.{forgotten-by-app}
use Rattle.document_records.proofs.GrantsByNumber.{all-have, all-without, gone-kept, here-none, here-some}
use Rattle.document_records.proofs.NumbersByApp.{AreTaken}
use Rattle.document_records.proofs.grants.Grants.forget.Goals as goal

pub invariant_of-self : goal.invariant_of-self
invariant_of-self c =
    let n = c.args.id.number in
    let es = c.self.inside.documents.entries in
    let here : c.as_slice.result.now ≡ filter (is_in_document n) (all_grants es) =
    c.as_slice.ensures.value
    ∙ here-some n es c.in-Some.grants c.self.invariant.kept.order c.self.invariant.kept.each
    (sym c.in-Some.ensures.value) in
    record {
      kept = record {
        order = c.remove.ensures.ordered;
        each = ap (list_all is_kept) c.remove.ensures.entries
            ∙ gone-kept n es c.self.invariant.kept.each;
      };
      found = subst (λ (ts : List Triple). AreByApp ts c.remove_numbers.new.by_app)
          (sym (ap triples_of_all c.remove.ensures.entries
          ∙ all-without n es c.self.invariant.kept.order c.self.invariant.kept.each))
          (forgotten-by-app n (all_grants es) c.self.inside.by_app c.remove_numbers.new.by_app
          (all-have es c.self.invariant.kept.each) c.self.invariant.found
          (subst (λ (gs : List Grant). AreTaken n gs c.self.inside.by_app
          c.remove_numbers.new.by_app) here c.remove_numbers.ensures));
    }

pub invariant_of-self-in_default : goal.invariant_of-self-in_default
invariant_of-self-in_default c =
    let n = c.args.id.number in
    let es = c.self.inside.documents.entries in
    let here : [] ≡ filter (is_in_document n) (all_grants es) =
    here-none n es c.self.invariant.kept.each (sym c.in_default.ensures.value) in
    record {
      kept = record {
        order = c.remove.ensures.ordered;
        each = ap (list_all is_kept) c.remove.ensures.entries
            ∙ gone-kept n es c.self.invariant.kept.each;
      };
      found = subst (λ (ts : List Triple). AreByApp ts c.self.inside.by_app)
          (sym (ap triples_of_all c.remove.ensures.entries
          ∙ all-without n es c.self.invariant.kept.order c.self.invariant.kept.each))
          (forgotten-by-app n (all_grants es) c.self.inside.by_app c.self.inside.by_app
          (all-have es c.self.invariant.kept.each) c.self.invariant.found
          (subst (λ (gs : List Grant). AreTaken n gs c.self.inside.by_app
          c.self.inside.by_app) here (λ other m. refl)));
    }

pub returns-in-Some : goal.returns-in-Some
returns-in-Some c =
    ap triples_of_all c.remove.ensures.entries
    ∙ (all-without c.args.id.number c.self.inside.documents.entries c.self.invariant.kept.order
    c.self.invariant.kept.each ∙ ap (forget_document c.args.id.number) c.self.view_is)

pub returns-in_default : goal.returns-in_default
returns-in_default c =
    ap triples_of_all c.remove.ensures.entries
    ∙ (all-without c.args.id.number c.self.inside.documents.entries c.self.invariant.kept.order
    c.self.invariant.kept.each ∙ ap (forget_document c.args.id.number) c.self.view_is)
