use Rattle.std.proofs.Common.{ap, sym, ◌∙◌}
use Rattle.std.specs.Option.{option_map}
use Rattle.node_looks.specs.OwnFiles.{file_told}
use Rattle.node_looks.proofs.Follow.{found-none, found-one}
use Rattle.node_looks.proofs.entry.temp_entry.Goals as goal

pub returns-in-Some : goal.returns-in-Some
returns-in-Some g c = λ temp f. found-one c.args.request.now c.args.view c.args.may_write c.in-Some.found.k c.in-Some.found.file.now temp c.node_of-node.result _ _ _
    (sym (ap (option_map file_told) c.in-Some.is) ∙ f) c.node_of-node.ensures.node c.named_entry.ensures

pub returns-in-None : goal.returns-in-None
returns-in-None g c = λ temp f. found-none c.args.request.now c.args.view c.args.may_write temp _ _ _
    (sym (ap (option_map file_told) c.in-None.is) ∙ f) (c.refused.ensures _)
