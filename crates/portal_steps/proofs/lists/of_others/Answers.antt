use Rattle.std.proofs.Common.{◌==◌, ◌∙◌, ap, not, rules}
use Rattle.std.proofs.lemmas.Fn.{filter_same}
use Rattle.portal_model.specs.declared.state.Connection.{Connection}
use Rattle.portal_model.specs.Leave.{of_others}
use Rattle.portal_steps.proofs.lists.of_others.Goals as goal

pub returns : goal.returns
returns c =
    c.from_vec.ensures ∙ filter_same _ (λ (x : Connection). not (x.seat == c.args.seat)) _ (λ x b f' k. search rules) _ _ c.retain.ensures.filtered ∙ ap (of_others c.args.seat) c.into_vec-kept.ensures
