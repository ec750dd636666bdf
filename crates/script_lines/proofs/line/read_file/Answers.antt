use Rattle.std.proofs.Common.{sym, ◌∙◌}
use Rattle.script_lines.proofs.LineFacts.{file_text, file_cut, no_file, file_made}
use Rattle.record_keeper.proofs.SameTexts.{same_from_test}
use Rattle.script_lines.proofs.WordFacts.{differ}
use Rattle.script_lines.proofs.line.read_file.Goals as goal

pub returns-in_default : goal.returns-in_default
returns-in_default c = λ line rules same. no_file c.args.rest.now c.in_default.ensures (file_text c.args.rest.now line rules same)

pub returns-then-eq : goal.returns-then-eq
returns-then-eq c = λ line rules same.
    let t = file_text c.args.rest.now line rules same in
    let halves = file_cut c.args.rest.now _ _ t c.in-Some.ensures in
    t.rules.1 (sym halves.0 ∙ same_from_test _ _ (sym c.if-eq.ensures) ∙ c.as_slice.ensures)

pub returns-in_default-2 : goal.returns-in_default-2
returns-in_default-2 c = λ line rules same.
    let t = file_text c.args.rest.now line rules same in
    let halves = file_cut c.args.rest.now _ _ t c.in-Some.ensures in
    let no_path = rw c.in_default-2.is at c.in_ok-path.ensures in
    absurd (cc (rw halves.0 at no_path, t.rules.0))

pub returns-in_default-3 : goal.returns-in_default-3
returns-in_default-3 c = λ line rules same.
    let t = file_text c.args.rest.now line rules same in
    let halves = file_cut c.args.rest.now _ _ t c.in-Some.ensures in
    (rw c.in_default-3.is at c.in_ok-content.ensures) t.content t.rules.2 halves.1

pub returns : goal.returns
returns c =
    let path = rw c.in-Some-2.is at c.in_ok-path.ensures in
    let content = rw c.in-Some-3.is at c.in_ok-content.ensures in
    ((rw (← path.0) at path.1, (λ e. differ c.in-Some.path.now c.as_slice.result.now (sym c.if-eq.ensures) (sym path.0 ∙ e ∙ sym c.as_slice.ensures)), content.0), file_made c.args.rest.now _ _ _ _ c.in-Some.ensures path.0 content.1)
