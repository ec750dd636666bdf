use Rattle.std.proofs.Common.{List, ap, sym, ◌∙◌}
use Rattle.portal_model.specs.declared.reply.DirName.{DirName}
use Rattle.file_ops.specs.Temporaries.{puts}
use Rattle.file_ops.proofs.EntryOrder.{puts-last}
use Rattle.file_ops.proofs.temps_listed.put_each.Goals as goal

pub loop-entry-preserved : goal.loop-entry-preserved
loop-entry-preserved c =
    ap (puts c.pop.new.self.items) c.in_ok-put.ensures
    ∙ (sym (puts-last c.in-Some.entry c.pop.new.self.items c.loop-entry.names.items)
    ∙ (ap (λ (es : List DirName). puts es c.loop-entry.names.items) (sym c.in-Some.ensures.items)
    ∙ c.loop-entry.invariant))
