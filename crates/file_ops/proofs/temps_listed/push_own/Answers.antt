use Rattle.std.proofs.Common.{◌∙◌}
use Rattle.std.proofs.lemmas.Result.{on_ok_weaker}
use Rattle.file_ops.specs.Temporaries.{entry_told}
use Rattle.file_ops.proofs.EntryOrder.{adds-none, adds-one}
use Rattle.file_ops.proofs.temps_listed.push_own.Goals as goal

pub returns-then-not-is_in : goal.returns-then-not-is_in
returns-then-not-is_in c = adds-none c.args.view c.args.document (entry_told c.args.own) c.is_in.result c.args.entries.now c.is_in.ensures c.if-not-is_in.true

pub returns : goal.returns
returns c =
    on_ok_weaker c.push.result (λ is. is ∙ adds-one c.args.view c.args.document (entry_told c.args.own) c.is_in.result c.in_ok-entry_of_temp.field-0 c.args.entries.now c.is_in.ensures c.if-not-is_in.false c.in_ok-entry_of_temp.ensures) c.push.ensures.ok
