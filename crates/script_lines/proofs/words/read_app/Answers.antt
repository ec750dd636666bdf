use Rattle.portal_base.proofs.RefusedNames.{broken_app}
use Rattle.script_lines.proofs.words.read_app.Goals as goal

pub returns-in-Err-BadName : goal.returns-in-Err-BadName
returns-in-Err-BadName c =
    let refused = rw c.in-Err-BadName.field-0-is at c.in-Err-BadName.ensures.bad in
    broken_app c.args.word.now c.in-Err-BadName.field-0-0 refused
