use Rattle.std.proofs.Common.{◌∙◌, ap}
use Rattle.std.specs.Prelude.{not}
use Rattle.script_form.proofs.preceding.Preceding.is_clear.Goals as goal

pub returns : goal.returns
returns c = ap not (c.has_clash.ensures ∙ c.requires.clear c.args.path.now)
