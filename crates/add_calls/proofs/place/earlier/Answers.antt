use Rattle.std.proofs.Common.{◌∙◌, ap, sym}
use Rattle.std.specs.Option.{option_copied}
use Rattle.add_calls.proofs.PlacingLemmas.{none-there}
use Rattle.add_calls.proofs.place.earlier.Goals as goal

pub returns-in_default-2 : goal.returns-in_default-2
returns-in_default-2 c = sym (none-there c.args.documents.now c.args.at (sym c.get.ensures ∙ ap option_copied c.in_default.is))
