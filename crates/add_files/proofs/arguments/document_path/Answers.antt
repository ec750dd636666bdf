use Rattle.std.proofs.Common.{ap, ◌∙◌}
use Rattle.portal_base.specs.Names.{child_of}
use Rattle.portal_model.specs.Arguments.{ahead_of_end}
use Rattle.add_files.proofs.ArgumentLemmas.{not-joined}
use Rattle.add_files.proofs.arguments.document_path.Goals as goal

pub returns-in-Err-BadName-clause-err : goal.returns-in-Err-BadName-clause-err
returns-in-Err-BadName-clause-err c =
    not-joined c.args.add.now c.args.presented.now (child_of c.args.presented.now c.ahead_of_end.result.now) c.in-Err-BadName.field-0-0 c.if-not-add.false
    (ap (child_of c.args.presented.now) (c.ahead_of_end.ensures ∙ ap ahead_of_end c.as_slice.ensures))
    (rw c.in-Err-BadName.field-0-is at c.in-Err-BadName.ensures.bad)
