use Rattle.script_lines.proofs.LineFacts.{word_line, word_made}
use Rattle.script_lines.proofs.line.read_word.Goals as goal

pub returns-in_default : goal.returns-in_default
returns-in_default c = λ line rules same.
    let t = word_line c.args.rest.now line rules same in
    c.in_default.ensures (record { number = t.0 }) t.1 t.2

pub returns : goal.returns
returns c = (c.in-Some.ensures.0, word_made c.args.rest.now _ c.in-Some.ensures.1)
