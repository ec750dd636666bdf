use Rattle.std.proofs.Common.{ap, sym, ◌∙◌, List, ℕ, true}
use Rattle.portal_base.specs.declared.files.ChildName.{ChildName}
use Rattle.host_tree.proofs.NamesFound.{first-slash, no-slash}
use Rattle.host_tree.proofs.names.first_part_of.Goals as goal

abbrev named : List ℕ → ChildName
named text = record { name = text; folder = true }

pub returns-in-Some : goal.returns-in-Some
returns-in-Some c = sym (first-slash c.args.rest.now c.in-Some.end c.in-Some.ensures) ∙ ap named (sym c.split_at.ensures.front)

pub returns-in-None : goal.returns-in-None
returns-in-None c = sym (no-slash c.args.rest.now c.in-None.ensures)
