use Rattle.std.proofs.Common.{ap, ◌∙◌}
use Rattle.std.proofs.lemmas.Result.{IfOk-weaker}
use Rattle.portal_model.specs.OpenDir.{name_less}
use Rattle.portal_model.specs.Ordered.{put_all}
use Rattle.file_ops.proofs.temps_listed.names_of_temps.Goals as goal

pub returns : goal.returns
returns c = λ has e. IfOk-weaker c.in_order.result _ _ (λ names is. is ∙ ap (put_all name_less) (c.in_ok-entries.ensures has e)) c.in_order.ensures
