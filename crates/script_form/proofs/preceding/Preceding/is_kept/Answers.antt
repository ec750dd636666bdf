use Rattle.std.proofs.Common.{◌∙◌}
use Rattle.script_form.proofs.preceding.Preceding.is_kept.Goals as goal

pub returns : goal.returns
returns c = c.contains.ensures ∙ c.requires.kept c.args.number
