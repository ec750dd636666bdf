use Rattle.std.proofs.Common.{◌∙◌}
use Rattle.document_records.proofs.DocumentsByPath.{dropped}
use Rattle.document_records.proofs.by_path.remove_id.Goals as goal

pub returns-then-leaves_none : goal.returns-then-leaves_none
returns-then-leaves_none c =
    λ other. dropped c.args.path.now c.leaves_none.new.by_path c.remove.new.self
    (c.leaves_none.ensures.none c.if-leaves_none.true) c.remove.ensures.updates other
    ∙ c.leaves_none.ensures.others other
