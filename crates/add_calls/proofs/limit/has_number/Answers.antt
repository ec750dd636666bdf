use Rattle.std.proofs.Common.{◌∙◌, ap, is_some}
use Rattle.add_calls.proofs.Counts.{number-known}
use Rattle.add_calls.proofs.limit.has_number.Goals as goal

pub returns : goal.returns
returns c = c.is_some.ensures ∙ (ap is_some c.of.ensures ∙ number-known c.args.applications.now c.args.app.now)
