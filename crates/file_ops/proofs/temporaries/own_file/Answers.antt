use Rattle.std.proofs.Common.{Option, Some, ap, subst, sym, ◌∙◌}
use Rattle.node_looks.specs.OwnFiles.{IsFoundAt}
use Rattle.node_looks.specs.declared.sight.SeenPlace.{SeenPlace}
use Rattle.file_ops.proofs.temporaries.own_file.Goals as goal

pub returns-in-Some-Folder : goal.returns-in-Some-Folder
returns-in-Some-Folder c = λ has e.
    subst (λ (p : Option SeenPlace). IsFoundAt p c.own_file_in.result c.args.name.now has.temps) (sym (c.in-Some-Folder.is ∙ ap Some (rw c.in-Some-Folder.is at c.in-Some-Folder.field-0-is))) (c.own_file_in.ensures has e)
