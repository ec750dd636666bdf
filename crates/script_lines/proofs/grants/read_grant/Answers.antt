use Rattle.script_lines.proofs.GrantFacts.{no_grant, grant_halves}
use Rattle.portal_base.proofs.RefusedNames.{broken_app}
use Rattle.script_lines.proofs.grants.read_grant.Goals as goal

pub returns-in_default : goal.returns-in_default
returns-in_default c = λ grant is same. no_grant c.args.word.now c.in_default.ensures grant same

pub returns-in_default-read_rights : goal.returns-in_default-read_rights
returns-in_default-read_rights c = λ grant is same.
    let halves = grant_halves c.args.word.now c.in-Some.name.now c.in-Some.letters.now grant c.in-Some.ensures is same in
    c.in_default-read_rights.ensures grant.rights (record { low = is.some_right; high = is.no_other; same = halves.1 })

pub returns-in-Err-BadName : goal.returns-in-Err-BadName
returns-in-Err-BadName c = λ grant is same.
    let halves = grant_halves c.args.word.now c.in-Some.name.now c.in-Some.letters.now grant c.in-Some.ensures is same in
    let refused = rw c.in-Err-BadName.field-0-is at c.in-Err-BadName.ensures.bad in
    let bad = broken_app c.in-Some.name.now c.in-Err-BadName.field-0-0 refused in
    absurd (cc (rw halves.0 at bad, is.name))
