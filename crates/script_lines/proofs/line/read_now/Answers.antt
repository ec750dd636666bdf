use Rattle.script_lines.proofs.LineFacts.{now_line, now_made}
use Rattle.script_lines.proofs.line.read_now.Goals as goal

pub returns-in_default : goal.returns-in_default
returns-in_default c = λ line rules same.
    let t = now_line c.args.rest.now line rules same in
    c.in_default.ensures t.0 t.1 t.2

pub returns : goal.returns
returns c = (c.in-Some.ensures.0, now_made c.args.rest.now _ c.in-Some.ensures.1)
