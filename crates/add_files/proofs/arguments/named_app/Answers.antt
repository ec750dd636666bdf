use Rattle.add_files.proofs.ArgumentLemmas.{no-app}
use Rattle.add_files.proofs.arguments.named_app.Goals as goal

pub returns-in-Err-BadName-clause-err : goal.returns-in-Err-BadName-clause-err
returns-in-Err-BadName-clause-err c =
    no-app c.is_empty.result c.args.add.now c.if-is_empty.false c.is_empty.ensures c.as_slice.result.now c.in-Err-BadName.field-0-0 c.as_slice.ensures
    (rw c.in-Err-BadName.field-0-is at c.in-Err-BadName.ensures.bad)
