use Rattle.std.proofs.Common.{◌≡◌, ◌∙◌, [], List, fold, ap, subst}
use Rattle.std.specs.Prelude.{IfOk}
use Rattle.portal_model.specs.declared.state.Triple.{Triple}
use Rattle.document_records.specs.Grants.{with_given}
use Rattle.document_records.proofs.GrantsTogether.{in-any-order}
use Rattle.document_records.proofs.grants.Grants.of.Goals as goal

pub returns : goal.returns
returns c =
    let same : fold with_given [] c.deref.result.now ≡ fold with_given [] c.args.grants =
    ap (fold with_given []) c.deref.ensures.value
    ∙ (in-any-order c.into_vec-grants.result.items c.sort_unstable_by.new.self.items c.sort_unstable_by.ensures.permutation
    ∙ ap (fold with_given []) c.into_vec-grants.ensures) in
    subst (λ (ts : List Triple). IfOk c.gathered.result (λ rights. rights ≡ ts)) same c.gathered.ensures
