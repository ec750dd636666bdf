use Rattle.std.proofs.Common.{refl}
use Rattle.portal_base.proofs.RefusedNames.{broken_path}
use Rattle.script_lines.proofs.words.read_path.Goals as goal

pub returns-in-Err-BadName : goal.returns-in-Err-BadName
returns-in-Err-BadName c =
    let refused = rw c.in-Err-BadName.field-0-is at c.in-Err-BadName.ensures.bad in
    rw (broken_path c.args.word.now c.in-Err-BadName.field-0-0 refused) refl
