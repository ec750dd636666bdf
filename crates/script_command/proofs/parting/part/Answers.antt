use Rattle.std.proofs.Common.{◌≡◌, true, sym, ◌∙◌}
use Rattle.std.specs.Cmp.Lexicographic.{bytes_decides}
use Rattle.script_command.specs.Parting.{parting}
use Rattle.script_command.proofs.Parted.{one_more, parts}
use Rattle.script_command.proofs.parting.part.Goals as goal

pub returns-then-eq : goal.returns-then-eq
returns-then-eq c =
    let line = c.in-Some.line.now in
    parts c.args.text.now c.loop-line.rest.now line c.in-Some.behind.now c.loop-line.invariant c.in-Some.ensures ((bytes_decides line parting).0 (sym c.eq.ensures ∙ c.if-eq.true))

pub loop-line-preserved : goal.loop-line-preserved
loop-line-preserved c =
    let line = c.in-Some.line.now in
    one_more c.args.text.now c.loop-line.rest.now line c.in-Some.behind.now c.loop-line.invariant c.in-Some.ensures
    (λ e. let same : c.eq.result ≡ true = c.eq.ensures ∙ (bytes_decides line parting).1 e in let differ = c.if-eq.false in absurd (cc))
