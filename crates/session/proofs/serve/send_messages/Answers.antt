use Rattle.session.proofs.serve.send_messages.Goals as goal

pub returns-in-Ok-clause-sends : goal.returns-in-Ok-clause-sends
returns-in-Ok-clause-sends g c = rw (c.as_slice.ensures, c.in-Ok.ensures.pieces) at c.send_each.ensures.sends

pub returns-in-Ok-clause-last : goal.returns-in-Ok-clause-last
returns-in-Ok-clause-last g c = rw c.in-Ok.ensures.serial at c.send_each.ensures.last
