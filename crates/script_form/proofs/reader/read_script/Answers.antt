use Rattle.script_form.proofs.ScriptFacts.{next_cut, good_next, text_none, good_none}
use Rattle.script_form.proofs.reader.read_script.Goals as goal

pub loop-rest-init : goal.loop-rest-init
loop-rest-init c =
    let none = c.in_ok-preceding.ensures in
    record { cut = text_none _ c.args.text.now none.0; good = good_none _ none.0; tracks = none.1 }

pub loop-rest-preserved : goal.loop-rest-preserved
loop-rest-preserved c =
    let next = rw c.in-Some.is at c.in_ok-after.ensures in
    record {
      cut = next_cut c.args.text.now c.loop-rest.preceding.lines _ next.0.line _ _ c.loop-rest.invariant.cut next.0.ahead next.0.more;
      good = good_next c.loop-rest.preceding.lines _ _ _ c.loop-rest.invariant.good next.0;
      tracks = next.1;
    }
