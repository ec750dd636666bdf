use Rattle.std.proofs.Common.{ap, sym, ◌∙◌}
use Rattle.std.specs.Option.{option_map}
use Rattle.node_looks.specs.OwnFiles.{file_held}
use Rattle.file_ops.specs.Temporaries.{entry_told}
use Rattle.file_ops.proofs.temporaries.own_file_in.Goals as goal

pub returns-in-Some : goal.returns-in-Some
returns-in-Some c = λ has e. ap (option_map file_held) (ap (option_map entry_told) (sym c.in-Some.is) ∙ c.own_called.ensures.found has e)

pub returns-in-None : goal.returns-in-None
returns-in-None c = λ has e. ap (option_map file_held) (ap (option_map entry_told) (sym c.in-None.is) ∙ c.own_called.ensures.found has e)
