use Rattle.std.proofs.Common.{sym, ◌∙◌, arith}
use Rattle.script_lines.proofs.WordFacts.{no_call}
use Rattle.script_lines.proofs.LineFacts.{fail_line, fail_cut, no_device, fail_made}
use Rattle.script_lines.proofs.line.read_fail.Goals as goal

pub returns-in_default : goal.returns-in_default
returns-in_default c = λ line rules same. no_device c.args.rest.now c.in_default.ensures (fail_line c.args.rest.now line rules same)

pub returns-in_default-read_device : goal.returns-in_default-read_device
returns-in_default-read_device c = λ line rules same.
    let t = fail_line c.args.rest.now line rules same in
    c.in_default-read_device.ensures t.device (fail_cut c.args.rest.now _ _ t c.in-Some.ensures).0

pub returns-in_default-read_number : goal.returns-in_default-read_number
returns-in_default-read_number c = λ line rules same.
    let t = fail_line c.args.rest.now line rules same in
    c.in_default-read_number.ensures t.call t.rules.1 (fail_cut c.args.rest.now _ _ t c.in-Some.ensures).1

pub returns-then-call-eq0 : goal.returns-then-call-eq0
returns-then-call-eq0 c = λ line rules same.
    let t = fail_line c.args.rest.now line rules same in
    let halves = fail_cut c.args.rest.now _ _ t c.in-Some.ensures in
    no_call c.in-Some-read_number.call t.call c.in-Some-read_number.ensures.0 t.rules.1 (sym c.in-Some-read_number.ensures.1 ∙ halves.1) c.if-call-eq0.true t.rules.0

pub returns : goal.returns
returns c =
    let some = c.if-call-eq0.false in
    ((omega arith, c.in-Some-read_number.ensures.0), fail_made c.args.rest.now _ _ _ _ c.in-Some.ensures c.in-Some-read_device.ensures c.in-Some-read_number.ensures.1)
