use Rattle.std.proofs.Common.{sym, ◌∙◌}
use Rattle.script_form.proofs.ScriptFacts.{none_by_free, none_by_line, none_by_names, none_by_order, takes}
use Rattle.script_form.proofs.reader.read_next.Goals as goal

pub returns-in_default : goal.returns-in_default
returns-in_default c = none_by_free c.args.preceding.now.lines c.args.text.now c.in_default.ensures

pub returns-in_default-2 : goal.returns-in_default-2
returns-in_default-2 c =
    none_by_line c.args.preceding.now.lines c.args.text.now _ _ c.in-Some.ensures (rw c.in_default-2.is at c.in_ok-line.ensures)

pub returns-then-not-allowed : goal.returns-then-not-allowed
returns-then-not-allowed c =
    let read = rw c.in-Some-2.is at c.in_ok-line.ensures in
    none_by_order c.args.preceding.now.lines c.args.text.now _ _ c.in-Some-2.line c.in-Some.ensures read.0 read.1 (sym c.in_ok-allowed.ensures ∙ c.if-not-allowed.true)

pub returns-then-names_too_many : goal.returns-then-names_too_many
returns-then-names_too_many c =
    let read = rw c.in-Some-2.is at c.in_ok-line.ensures in
    none_by_names c.args.preceding.now.lines c.args.text.now _ _ c.in-Some-2.line _ c.in-Some.ensures read.0 read.1 c.in_ok-push.ensures.0
    (sym c.names_too_many.ensures ∙ c.if-names_too_many.true)

pub returns : goal.returns
returns c =
    let read = rw c.in-Some-2.is at c.in_ok-line.ensures in (
      takes c.args.preceding.now.lines c.args.text.now _ _ c.in-Some-2.line _ c.in-Some.ensures read.0 read.1 (sym c.in_ok-allowed.ensures ∙ c.if-not-allowed.false)
          c.in_ok-push.ensures.0 (sym c.names_too_many.ensures ∙ c.if-names_too_many.false),
      c.in_ok-push.ensures.1,
    )
