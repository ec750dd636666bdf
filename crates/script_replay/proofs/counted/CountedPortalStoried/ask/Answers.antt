use Rattle.script_replay.proofs.CountedAnswers.{counted_on, counted_still, goes_on}
use Rattle.script_replay.proofs.counted.CountedPortalStoried.ask.Goals as goal

pub invariant_of-self : goal.invariant_of-self
invariant_of-self c =
    let e = c.in-Ok.ensures in
    counted_on _ _ _ _ _ c.self.inside.done c.self.inside.refused c.more-done.result c.more-refused.result _ c.args.request c.in-Ok.reply c.is_enter-enters.result c.is_code-refuses.result
    c.self.invariant e.opening e.answered e.short c.is_enter-enters.ensures c.is_code-refuses.ensures (goes_on _ _ _ c.more-done.ensures) (goes_on _ _ _ c.more-refused.ensures)

pub invariant_of-self-in-Err : goal.invariant_of-self-in-Err
invariant_of-self-in-Err c =
    let e = c.in-Err.ensures in
    counted_still _ _ _ _ c.self.inside.done c.self.inside.refused c.self.invariant e.opening e.refused
