use Rattle.std.proofs.Common.{ap, ◌∙◌}
use Rattle.std.specs.List.{list_any}
use Rattle.portal_base.specs.Names.{is_same}
use Rattle.record_keeper.proofs.NameSets.{same_as_tied}
use Rattle.record_keeper.proofs.name_set.NameSet.has.Goals as goal

pub returns : goal.returns
returns c = c.contains.ensures ∙ same_as_tied c.args.name.now c.self.inside.names.keys ∙ ap (list_any (is_same c.args.name.now)) c.self.view_is
